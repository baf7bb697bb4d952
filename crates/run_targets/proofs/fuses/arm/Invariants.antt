use Rattle.run_targets.proofs.Setting.{AreArmedTo}
use Rattle.run_targets.proofs.fuses.arm.Given as goal

-- the fuses of the targets so far were set
abbrev pub invariant-loop-t : goal.invariant-loop-t
invariant-loop-t g l = AreArmedTo g.S.Store.durable g.S.Store.state g.S.Store.may l.t l.fn.targets l.targets l.fn.watch l.watch
