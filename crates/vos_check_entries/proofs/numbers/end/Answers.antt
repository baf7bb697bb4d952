use Rattle.std.proofs.lemmas.Result.{err_from_is_err_and}
use Rattle.vos_check_base.proofs.Steps.{off}
use Rattle.vos_check_entries.specs.Steps.{read_end}
use Rattle.vos_check_entries.proofs.NumberSteps.{ends_as}
use Rattle.vos_check_entries.proofs.numbers.end.Goals as goal

pub returns-in_err-rule : goal.returns-in_err-rule
unfolding read_end
returns-in_err-rule c =
    let p = err_from_is_err_and c.from_residual.result c.from_residual.ensures.1 in
    rw (p.1, p.2) (λ led. off _ _ led _ (c.in_err-rule.ensures led))

pub returns : goal.returns
returns c led = ends_as c.args.last c.args.at c.args.bytes.now led c.zeros.result (c.in_ok-rule.ensures led) (c.zeros.ensures led)
