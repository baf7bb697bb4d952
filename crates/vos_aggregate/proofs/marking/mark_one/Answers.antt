use Rattle.std.proofs.Common.{Bool, sym, ◌∙◌, ap, set}
use Rattle.vos_aggregate.proofs.Plans.{mark-punch, mark-within}
use Rattle.vos_aggregate.proofs.marking.mark_one.Goals as goal

pub returns-then-is_punch : goal.returns-then-is_punch
returns-then-is_punch c =
    ap (λ (b : Bool). set c.args.marks.now c.args.at b) c.is_old.ensures
    ∙ mark-punch c.args.plan.now.cont c.args.plan.now.upto c.args.later.now.versions.now c.args.plan.now.snaps.now c.args.later.now.later.rising c.args.later.now.later.plain
    c.args.version.now c.args.at c.args.later.now.from c.requires.place c.requires.last c.args.marks.now c.requires.marks (sym c.is_punch.ensures ∙ c.if-is_punch.true)

pub bounds-marks-at : goal.bounds-marks-at
bounds-marks-at c =
    mark-within c.args.plan.now.cont c.args.plan.now.upto c.args.later.now.versions.now c.args.plan.now.snaps.now c.args.later.now.later.rising c.args.later.now.later.plain
    c.args.version.now c.args.at c.args.later.now.from c.requires.place c.requires.last c.args.marks.now c.requires.marks
