use Rattle.world_making.specs.freezings.Fetching.{fetches-right, waiters-right}
use Rattle.world_making.specs.freezings.Seeing.{fetches-ask, readers-see, waiting-see}
use Rattle.world_making.proofs.freezings.laws_of_snapshot_reads.Goals as goal

pub returns : goal.returns
returns c = record { seen = readers-see; asked = fetches-ask; waiting = waiting-see; fetches = fetches-right; waiters = waiters-right }
