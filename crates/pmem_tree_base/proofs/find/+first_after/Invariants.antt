use Rattle.pmem_tree_base.proofs.find.+first_after.Given as goal

abbrev pub decreases-first_after : goal.decreases-first_after
decreases-first_after g l = l.depth
