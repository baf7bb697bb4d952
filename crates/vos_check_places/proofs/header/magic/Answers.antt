use Rattle.std.proofs.Common.{◌≡◌, ◌≢◌, ◌+◌, ℕ, get_or, sym, ap, ◌∙◌, arith}
use Rattle.vos_image.specs.Places.{magic}
use Rattle.vos_image.specs.Steps.{fail, rule}
use Rattle.vos_check_places.proofs.HeaderRules.{bytes_fail, bytes_hold}
use Rattle.vos_check_places.proofs.header.magic.Goals as goal

pub returns-then-fixed-i-clause-first : goal.returns-then-fixed-i-clause-first
unfolding rule
returns-then-fixed-i-clause-first c f s =
    let i = c.loop-i.i in
    let here : 0 + i ≡ i = omega arith in
    let other : get_or c.args.fixed.now i 0 ≢ get_or magic i 0 = c.if-fixed-i.true in
    bytes_fail f 0 magic i (omega arith)
    (λ k below. let e : 0 + k ≡ k = omega arith in ap f e ∙ (s k (omega arith) (omega arith) ∙ c.loop-i.invariant k below))
    (λ same. other (sym (s i (omega arith) (omega arith)) ∙ (ap f (sym here) ∙ same)))
    ∙ ap (λ (z : ℕ). fail z) here

pub returns-clause-first : goal.returns-clause-first
unfolding rule
returns-clause-first c f s = bytes_hold f 0 magic (λ k below. let e : 0 + k ≡ k = omega arith in ap f e ∙ (s k (omega arith) (omega arith) ∙ c.loop-i.invariant k (omega (arith, below))))
