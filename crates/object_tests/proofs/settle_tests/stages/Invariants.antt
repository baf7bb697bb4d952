use Rattle.object_tests.proofs.settle_tests.stages.Given as goal

abbrev pub ghosts-staged : goal.ghosts-staged
ghosts-staged a = record { name = a.blank.name; parts = a.blank.parts }
