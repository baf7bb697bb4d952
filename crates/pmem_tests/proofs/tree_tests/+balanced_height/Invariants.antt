use Rattle.pmem_tests.proofs.tree_tests.+balanced_height.Given as goal

abbrev pub decreases-balanced_height : goal.decreases-balanced_height
decreases-balanced_height g l = l.depth
