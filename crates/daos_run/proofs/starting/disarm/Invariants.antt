use Rattle.daos_run.proofs.Disarmed.{AreDisarmedSoFar}
use Rattle.daos_run.proofs.starting.disarm.Given as goal

-- so many of the fuses are taken away
abbrev pub invariant-loop-t : goal.invariant-loop-t
invariant-loop-t g l = AreDisarmedSoFar g.S.Store.durable g.S.Store.state g.S.Store.may l.targets l.t l.initial.parts l.parts
