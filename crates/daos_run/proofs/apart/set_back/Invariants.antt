use Rattle.daos_run.proofs.Taking.{AreSetSoFar}
use Rattle.daos_run.proofs.apart.set_back.Given as goal

-- so many stores and clocks are back, from the last on
abbrev pub invariant-loop : goal.invariant-loop
invariant-loop g l = AreSetSoFar l.initial.stores.items l.initial.clocks.items l.stores.items l.clocks.items l.initial.parts l.parts l.counter
