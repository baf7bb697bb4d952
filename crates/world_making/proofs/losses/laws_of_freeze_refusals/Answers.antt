use Rattle.world_making.specs.losses.RefusalEvents.{freeze-refusals-begin, freeze-refusals-keep}
use Rattle.world_making.proofs.losses.laws_of_freeze_refusals.Goals as goal

pub returns : goal.returns
returns c = record { begin = freeze-refusals-begin; kept = freeze-refusals-keep }
