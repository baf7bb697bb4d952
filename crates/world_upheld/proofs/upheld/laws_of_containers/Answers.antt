use Rattle.world_upheld.proofs.upheld.laws_of_containers.Goals as goal
use Rattle.world_upheld.specs.upheld.Containers.{all-events-keep_containers, runs-know_declared}

pub returns : goal.returns
returns c = record { events = all-events-keep_containers; runs = runs-know_declared }
