use Rattle.version_tests.proofs.extent_tests.are_left.Given as goal

abbrev pub ghosts-left : goal.ghosts-left
ghosts-left a = record { name = a.blank.name; parts = a.blank.parts }
