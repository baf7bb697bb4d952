use Rattle.daos_run.proofs.Taking.{AreTakenSoFar}
use Rattle.daos_run.proofs.apart.take_all.Given as goal

-- the stores and the clocks of so many targets were taken
abbrev pub invariant-loop-t : goal.invariant-loop-t
invariant-loop-t g l = AreTakenSoFar l.targets l.t l.initial.parts l.parts l.stores.items l.clocks.items l.stores.cap l.clocks.cap
