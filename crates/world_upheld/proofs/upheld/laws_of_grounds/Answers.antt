use Rattle.world_upheld.proofs.upheld.laws_of_grounds.Goals as goal
use Rattle.world_upheld.specs.upheld.BeginVersions.{begins-well}
use Rattle.world_upheld.specs.upheld.Events.{all-events-keep_grounds, grounds-go_on}
use Rattle.world_upheld.specs.upheld.Runs.{grounds-begin, runs-have_grounds, runs-read_frozen}

pub returns : goal.returns
returns c = record {
  events = all-events-keep_grounds;
  later = grounds-go_on;
  well = begins-well;
  begin = grounds-begin;
  runs = runs-have_grounds;
  seen = runs-read_frozen;
}
