use Rattle.target_tests.proofs.own.told_of_own.Goals as goal

pub turns-requires-clause-new : goal.turns-requires-clause-new
turns-requires-clause-new g c d at = record { here = c.in_ok-target.ensures.here d at; blank = c.in_ok-target.ensures.blank d at }
