use Rattle.std.proofs.Common.{◌∙◌}
use Rattle.std.proofs.lemmas.Result.{err_from_is_err_and}
use Rattle.vos_check_base.specs.Answers.{content}
use Rattle.vos_check_base.proofs.Steps.{off, on}
use Rattle.vos_check.proofs.FieldSteps.{first_ends, first_is}
use Rattle.vos_check.proofs.codec.first_in.Goals as goal

pub returns-in_err-rule_in : goal.returns-in_err-rule_in
returns-in_err-rule_in c =
    let p = err_from_is_err_and c.from_residual.result c.from_residual.ensures.1 in
    rw (p.1, p.2) (λ g f led marks. first_is (content g f) c.args.block c.args.fits c.args.first led ∙ off _ _ led _ (c.in_err-rule_in.ensures led))

pub returns-in_err-lead_in : goal.returns-in_err-lead_in
returns-in_err-lead_in c =
    let p = err_from_is_err_and c.from_residual-in_err-lead_in.result c.from_residual-in_err-lead_in.ensures.1 in
    rw (p.1, p.2) (λ g f led marks. first_is (content g f) c.args.block c.args.fits c.args.first led ∙ on _ _ led tt led _ (c.in_ok-rule_in.ensures led) (off _ _ led _ (c.in_err-lead_in.ensures (content g f) led marks)))

pub returns : goal.returns
returns c g f led marks =
    let x = c.in_ok-lead_in.ensures (content g f) led marks in
    first_ends (content g f) c.args.block c.args.fits c.args.first led x.led _ c.rule_in-2.result x.marks (c.in_ok-rule_in.ensures led) x.is (c.rule_in-2.ensures x.led)
