use Rattle.moment_tests.proofs.draw_tests.agrees.Given as goal

abbrev pub ghosts-runs : goal.ghosts-runs
ghosts-runs a = record { name = a.blank.name; parts = a.blank.parts }
