use Rattle.daos_run.proofs.Slots.{AreBackSoFar}
use Rattle.daos_run.proofs.starting.hand_back.Given as goal

-- the stores of so many targets are back, from the last on
abbrev pub invariant-loop : goal.invariant-loop
invariant-loop g l = AreBackSoFar l.initial.targets.items l.targets.items l.initial.parts l.parts l.counter
