use Rattle.std.proofs.Common.{◌≢◌, sym, ◌∙◌, arith}
use Rattle.vos_image.specs.Steps.{rule}
use Rattle.vos_check_places.proofs.Shown.{zeros_fail, zeros_hold}
use Rattle.vos_check_places.proofs.fields.zeros_at.Goals as goal

pub returns-then-fixed-i-ne0-clause-zeros : goal.returns-then-fixed-i-ne0-clause-zeros
unfolding rule
returns-then-fixed-i-ne0-clause-zeros c f s =
    let i = c.loop-i.i in
    let here = s i (omega arith) (omega arith) in
    let some : f i ≢ 0 = λ e. c.if-fixed-i-ne0.true (sym here ∙ e) in
    zeros_fail f c.args.at c.args.n i (omega arith) (omega arith) (λ k low high. s k low (omega arith) ∙ c.loop-i.invariant k low high) some

pub returns-clause-zeros : goal.returns-clause-zeros
unfolding rule
returns-clause-zeros c f s = zeros_hold f c.args.at c.args.n (λ k low high. s k low high ∙ c.loop-i.invariant k low (omega arith))
