use Rattle.run_tests.proofs.pair.report_of_two.Goals as goal

pub run_on-requires-clause-stores : goal.run_on-requires-clause-stores
run_on-requires-clause-stores g c κs within = c.requires.have

pub run_on-requires-clause-sound : goal.run_on-requires-clause-sound
run_on-requires-clause-sound g c κs within = c.requires.open_any
