use Rattle.std.proofs.Common.{◌+◌, ◌*◌, Err, sym, ap, ◌∙◌}
use Rattle.std.specs.Option.{option_copied}
use Rattle.vos_check.proofs.FieldSteps.{name_said, name_unsaid}
use Rattle.vos_check.proofs.codec.name_in.Goals as goal

pub returns-in-Some : goal.returns-in-Some
returns-in-Some c g f led = name_said (256 * c.args.block + 12) c.args.key.now _ led (sym c.read_name.ensures ∙ ap option_copied c.in-Some.is)

pub returns-in-None : goal.returns-in-None
returns-in-None c g f led = name_unsaid (256 * c.args.block + 12) c.args.key.now led (sym c.read_name.ensures ∙ ap option_copied c.in-None.is) ∙ ap (λ n. Err (256 * n + 12)) (sym c.from.ensures)
