use Rattle.vos_check_entries.proofs.numbers.+numbers.Given as goal

abbrev pub decreases-numbers : goal.decreases-numbers
decreases-numbers l = l.left
