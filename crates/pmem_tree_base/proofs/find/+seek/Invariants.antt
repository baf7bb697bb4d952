use Rattle.pmem_tree_base.proofs.find.+seek.Given as goal

abbrev pub decreases-seek : goal.decreases-seek
decreases-seek g l = l.depth
