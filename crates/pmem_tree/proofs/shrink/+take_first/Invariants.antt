use Rattle.pmem_tree.proofs.shrink.+take_first.Given as goal

abbrev pub decreases-take_first : goal.decreases-take_first
decreases-take_first g l = l.depth
