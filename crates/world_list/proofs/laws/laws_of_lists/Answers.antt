use Rattle.world_list.proofs.Runs.{lists_are_runs}
use Rattle.world_list.proofs.laws.laws_of_lists.Goals as goal

pub returns : goal.returns
returns c = lists_are_runs
