use Rattle.daos_run.proofs.Started.{AreStartedSoFar}
use Rattle.daos_run.proofs.starting.start_all.Given as goal

-- so many targets started
abbrev pub invariant-loop-t : goal.invariant-loop-t
invariant-loop-t g l = AreStartedSoFar g.S.Store.durable l.job l.t l.initial.parts l.parts l.targets.items l.targets.cap
