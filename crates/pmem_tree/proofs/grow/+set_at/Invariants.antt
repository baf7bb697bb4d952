use Rattle.pmem_tree.proofs.grow.+set_at.Given as goal

abbrev pub decreases-set_at : goal.decreases-set_at
decreases-set_at g l = l.depth
