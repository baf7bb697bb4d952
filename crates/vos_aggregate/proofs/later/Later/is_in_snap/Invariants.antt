use Rattle.std.proofs.Common.{◌≡◌, drop}
use Rattle.std.specs.List.{list_any}
use Rattle.daos_model.specs.Prunes.{shows_in}
use Rattle.vos_aggregate.proofs.later.Later.is_in_snap.Given as goal

-- the snapshots from this one on show it as all do
abbrev pub invariant-loop-snap : goal.invariant-loop-snap
invariant-loop-snap l =
    list_any (shows_in l.self.versions.now l.version l.plan.cont l.plan.upto) (drop l.snap-index l.plan.snaps.now)
    ≡ list_any (shows_in l.self.versions.now l.version l.plan.cont l.plan.upto) l.plan.snaps.now
