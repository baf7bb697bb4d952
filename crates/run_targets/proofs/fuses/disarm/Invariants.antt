use Rattle.run_targets.proofs.Setting.{AreUnfusedTo}
use Rattle.run_targets.proofs.fuses.disarm.Given as goal

-- the fuses of the targets so far were taken away
abbrev pub invariant-loop-t : goal.invariant-loop-t
invariant-loop-t g l = AreUnfusedTo g.S.Store.durable g.S.Store.state g.S.Store.may l.t l.fn.targets l.targets
