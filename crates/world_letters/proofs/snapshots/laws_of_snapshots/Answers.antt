use Rattle.world_letters.specs.snapshots.Ends.{lines-come}
use Rattle.world_letters.specs.snapshots.Events.{event-keeps, makings-begin}
use Rattle.world_letters.proofs.snapshots.laws_of_snapshots.Goals as goal

pub returns : goal.returns
returns c = record { begin = makings-begin; kept = event-keeps; legal = lines-come }
