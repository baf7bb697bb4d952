use Rattle.std.proofs.Common.{◌∙◌, ap}
use Rattle.target_core.specs.Targets.{is_collecting}
use Rattle.target_core.proofs.Heard.{reset-makes}
use Rattle.target_core.proofs.hearing.is_making.Goals as goal

pub returns-in-Reset : goal.returns-in-Reset
returns-in-Reset c = c.is_collecting.ensures ∙ ap is_collecting c.get.ensures ∙ reset-makes _ _ _ _ c.in-Reset.is
