use Rattle.std.specs.Prelude.{◌≡◌, map, take}
use Rattle.world_base.specs.Snapshots.{freeze_to}
use Rattle.snap_core.proofs.asking.freezes.Given as goal

-- those before are asked
abbrev pub invariant-loop-target : goal.invariant-loop-target
invariant-loop-target l = l.posts ≡ map (freeze_to l.attempt l.cont l.epoch) (take l.target-index l.targets)
