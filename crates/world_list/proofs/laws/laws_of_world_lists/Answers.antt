use Rattle.world_list.specs.WorldLists.{world-lists-are_runs}
use Rattle.world_list.proofs.laws.laws_of_world_lists.Goals as goal

pub returns : goal.returns
returns c = world-lists-are_runs
