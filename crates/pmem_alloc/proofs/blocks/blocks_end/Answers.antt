use Rattle.pmem_alloc.specs.Map.{blocks_end}
use Rattle.pmem_alloc.proofs.blocks.blocks_end.Goals as goal

pub returns-clause-is : goal.returns-clause-is
unfolding blocks_end
returns-clause-is c = c.min.ensures
