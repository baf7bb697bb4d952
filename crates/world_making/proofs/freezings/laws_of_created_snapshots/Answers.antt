use Rattle.world_making.specs.freezings.InTheEnd.{committed-created, new-made}
use Rattle.world_making.proofs.freezings.laws_of_created_snapshots.Goals as goal

pub returns : goal.returns
returns c = record { committed = committed-created; new = new-made }
