use Rattle.world_readers.specs.stamps.Events.{all-events-keep_own, all-events-keep_unnamed, own-begins}
use Rattle.world_readers.proofs.stamps.laws_of_stamps.Goals as goal

pub returns : goal.returns
returns c = record { begin = own-begins; own = all-events-keep_own; unnamed = all-events-keep_unnamed }
