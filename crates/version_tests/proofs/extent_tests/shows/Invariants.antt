use Rattle.version_tests.proofs.extent_tests.shows.Given as goal

abbrev pub ghosts-shown : goal.ghosts-shown
ghosts-shown a = record { name = a.blank.name; parts = a.blank.parts }
