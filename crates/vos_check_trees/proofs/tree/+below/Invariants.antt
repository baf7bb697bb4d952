use Rattle.vos_check_trees.proofs.tree.+below.Given as goal

abbrev pub decreases-below : goal.decreases-below
decreases-below g l = l.most
