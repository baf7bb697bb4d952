use Rattle.vos_check.proofs.chain.+links.Given as goal

abbrev pub decreases-links : goal.decreases-links
decreases-links g l = l.count
