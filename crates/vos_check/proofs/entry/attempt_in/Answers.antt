use Rattle.std.proofs.Common.{◌+◌, ◌*◌, Option, subst}
use Rattle.vos_image.specs.Steps.{says}
use Rattle.base_types.specs.declared.id.AttemptId.{AttemptId}
use Rattle.vos_check_base.specs.Answers.{Plain, same}
use Rattle.vos_check.proofs.entry.attempt_in.Goals as goal

pub returns : goal.returns
returns c g f led = subst (λ (x : Option AttemptId). Plain (says (256 * c.args.block + 12) x led) led same c.said_in.result) c.read_attempt.ensures (c.said_in.ensures led)
