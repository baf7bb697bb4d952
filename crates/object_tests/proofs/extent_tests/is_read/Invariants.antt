use Rattle.object_tests.proofs.extent_tests.is_read.Given as goal

abbrev pub ghosts-filled_below : goal.ghosts-filled_below
ghosts-filled_below a = record { name = a.blank.name; parts = a.blank.parts }
