use Rattle.std.proofs.Common.{◌≡◌, ◌≤◌, length}
use Rattle.daos_model.specs.Prunes.{is_unseen}
use Rattle.vos_aggregate.specs.Saying.{AreLater}
use Rattle.vos_aggregate.specs.Sparing.{marks_from}
use Rattle.vos_aggregate.proofs.marking.mark_all.Given as goal

-- the versions from this place on are marked, and in chains
abbrev pub invariant-loop-at : goal.invariant-loop-at
invariant-loop-at l = record {
  within : l.at ≤ length l.plan.versions.now;
  later : AreLater l.plan.versions.now l.heads l.nexts l.at;
  marks : l.marks ≡ marks_from (is_unseen l.plan.cont l.plan.upto l.plan.versions.now l.plan.snaps.now) l.plan.cont l.plan.upto l.at l.plan.versions.now;
}

abbrev pub decreases-loop-at : goal.decreases-loop-at
decreases-loop-at l = l.at
