use Rattle.world_upheld.proofs.upheld.laws_of_upheld.Goals as goal
use Rattle.world_upheld.specs.upheld.Events.{all-events-uphold}
use Rattle.world_upheld.specs.upheld.Runs.{runs-are_upheld, runs-hear_all_rightly, upheld-begins}

pub returns : goal.returns
returns c = record {
  events = all-events-uphold;
  begin = upheld-begins;
  runs = runs-are_upheld;
  hear = runs-hear_all_rightly;
}
