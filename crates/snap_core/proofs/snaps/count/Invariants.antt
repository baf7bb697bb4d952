use Rattle.std.specs.Prelude.{◌≡◌, ◌++◌, map, take, drop}
use Rattle.world_base.specs.Snapshots.{held_at}
use Rattle.snap_core.proofs.snaps.count.Given as goal

abbrev pub invariant-loop-collection : goal.invariant-loop-collection
invariant-loop-collection l = take l.collection-index l.collecting ++ map (held_at l.attempt l.from) (drop l.collection-index l.collecting) ≡ map (held_at l.attempt l.from) l.initial.collecting
