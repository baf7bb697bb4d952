use Rattle.std.proofs.Common.{◌≡◌, ◌≤◌, take, map, vec_len, vec_capacity}
use Rattle.daos_model.specs.Prunes.{is_going}
use Rattle.vos_aggregate.proofs.planner.mark_slowly.Given as goal

abbrev pub invariant-loop-version : goal.invariant-loop-version
invariant-loop-version l = record {
  items : l.marks.items ≡ map (is_going l.plan.cont l.plan.upto l.plan.versions.now l.plan.snaps.now) (take l.version-index l.plan.versions.now);
  len : vec_len l.marks ≡ l.version-index;
  capacity : vec_capacity l.initial.marks ≤ vec_capacity l.marks;
}
