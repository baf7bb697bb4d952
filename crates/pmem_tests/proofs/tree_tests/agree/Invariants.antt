use Rattle.pmem_tests.proofs.tree_tests.agree.Given as goal

abbrev pub ghosts-row : goal.ghosts-row
ghosts-row a = record { name = a.blank.name; parts = a.blank.parts }
