use Rattle.pmem_pages.proofs.Walks.{above_next, above_none, under_last, under_none}
use Rattle.pmem_pages.proofs.laws.walks_meet_all.Goals as goal

pub returns-clause-up : goal.returns-clause-up
returns-clause-up c = above_next

pub returns-clause-up_end : goal.returns-clause-up_end
returns-clause-up_end c = above_none

pub returns-clause-down : goal.returns-clause-down
returns-clause-down c = under_last

pub returns-clause-down_end : goal.returns-clause-down_end
returns-clause-down_end c = under_none
