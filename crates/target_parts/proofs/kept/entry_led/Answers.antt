use Rattle.std.proofs.Common.{◌∙◌}
use Rattle.dtx_base.specs.Leading.{is_led}
use Rattle.target_parts.proofs.kept.entry_led.Goals as goal

pub returns : goal.returns
returns c = c.find_led.ensures ∙ c.of_attempt.ensures (is_led c.args.me)
