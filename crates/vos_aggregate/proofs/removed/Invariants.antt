use Rattle.std.proofs.Common.{◌≡◌, ◌++◌, filter, drop}
use Rattle.daos_model.specs.Prunes.{is_going}
use Rattle.vos_aggregate.proofs.removed.Given as goal

abbrev pub invariant-loop-i : goal.invariant-loop-i
invariant-loop-i l =
    l.gone.items ++ filter (is_going l.plan.cont l.plan.upto l.plan.versions.now l.plan.snaps.now) (drop l.i l.plan.versions.now)
    ≡ filter (is_going l.plan.cont l.plan.upto l.plan.versions.now l.plan.snaps.now) l.plan.versions.now
