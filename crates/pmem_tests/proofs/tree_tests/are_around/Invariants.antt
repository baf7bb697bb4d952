use Rattle.pmem_tests.proofs.tree_tests.are_around.Given as goal

abbrev pub ghosts-letters : goal.ghosts-letters
ghosts-letters a = record { name = a.blank.name; parts = a.blank.parts }
