use Rattle.std.proofs.Common.{sym, ◌∙◌}
use Rattle.vos_check_base.proofs.Steps.{all_zero, not_all_zero}
use Rattle.vos_check_base.proofs.rules.zeros.Goals as goal

pub returns-in-None : goal.returns-in-None
returns-in-None c l = all_zero c.args.at c.args.bytes.now l (sym c.first_byte.ensures ∙ c.in-None.is)

pub returns-in-Some : goal.returns-in-Some
returns-in-Some c l = not_all_zero c.args.at c.in-Some.i c.args.bytes.now l (sym c.first_byte.ensures ∙ c.in-Some.is)
