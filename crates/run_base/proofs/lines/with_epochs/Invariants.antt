use Rattle.std.proofs.Common.{◌≡◌, map}
use Rattle.world_base.specs.Events.{with_epoch}
use Rattle.run_base.proofs.lines.with_epochs.Given as goal

-- the lines so far, each as it is added
abbrev pub invariant-loop-line : goal.invariant-loop-line
invariant-loop-line l = l.told.items ≡ map (with_epoch l.issued) l.yielded
