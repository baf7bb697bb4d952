use Rattle.pmem_tree_base.proofs.find.+last_before.Given as goal

abbrev pub decreases-last_before : goal.decreases-last_before
decreases-last_before g l = l.depth
