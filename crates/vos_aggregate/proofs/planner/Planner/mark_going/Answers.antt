use Rattle.std.proofs.Common.{◌∙◌, arith}
use Rattle.vos_aggregate.proofs.Plans.{start-planned}
use Rattle.vos_aggregate.proofs.planner.Planner.mark_going.Goals as goal

pub mark_all-requires-clause-marks : goal.mark_all-requires-clause-marks
mark_all-requires-clause-marks c =
    c.deref_mut.ensures.value ∙ start-planned c.args.plan.now.cont c.args.plan.now.upto c.args.plan.now.versions.now c.args.plan.now.snaps.now c.unmark_all.new.marks.items (omega (arith, c.unmark_all.ensures.len)) c.unmark_all.ensures.items
