use Rattle.world_making.specs.fates.Events.{all-events_keep, making-cuts_keep, making-keeps}
use Rattle.world_making.proofs.fates.laws_of_fates_making.Goals as goal

pub returns : goal.returns
returns c = record { heard = making-keeps; cut = making-cuts_keep; events = all-events_keep }
