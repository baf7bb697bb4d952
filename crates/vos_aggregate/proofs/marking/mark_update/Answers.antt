use Rattle.std.proofs.Common.{◌<◌, length, sym, ◌∙◌, ap, arith}
use Rattle.daos_model.specs.Prunes.{is_unseen}
use Rattle.vos_aggregate.specs.Sparing.{marks_from}
use Rattle.vos_aggregate.proofs.Plans.{mark-goes, mark-stays, mark-within, unseen-planned}
use Rattle.vos_aggregate.proofs.marking.mark_update.Goals as goal

pub returns-then-is_unseen : goal.returns-then-is_unseen
returns-then-is_unseen c =
    mark-goes c.args.plan.now.cont c.args.plan.now.upto c.args.later.now.versions.now c.args.plan.now.snaps.now c.args.later.now.later.rising c.args.later.now.later.plain
    c.args.version.now c.args.at c.args.later.now.from c.requires.place c.requires.last c.args.marks.now c.requires.marks c.requires.update (sym c.is_unseen.ensures ∙ c.if-is_unseen.true)

pub spare-requires-clause-planned : goal.spare-requires-clause-planned
spare-requires-clause-planned c =
    unseen-planned c.args.plan.now.cont c.args.plan.now.upto c.args.later.now.versions.now c.args.plan.now.snaps.now c.args.later.now.later.rising c.args.later.now.later.plain
    c.args.later.now.from c.args.marks.now
    (c.requires.marks ∙ ap (λ n. marks_from (is_unseen c.args.plan.now.cont c.args.plan.now.upto c.args.later.now.versions.now c.args.plan.now.snaps.now) c.args.plan.now.cont c.args.plan.now.upto n c.args.later.now.versions.now) (sym c.requires.place))

pub returns : goal.returns
returns c =
    mark-stays c.args.plan.now.cont c.args.plan.now.upto c.args.later.now.versions.now c.args.plan.now.snaps.now c.args.later.now.later.rising c.args.later.now.later.plain
    c.args.version.now c.args.at c.args.later.now.from c.requires.place c.requires.last c.args.marks.now c.requires.marks
    c.path.result.now c.spare.new.marks c.path.ensures c.spare.ensures c.requires.update (sym c.is_unseen.ensures ∙ c.if-is_unseen.false)

pub bounds-marks-at : goal.bounds-marks-at
bounds-marks-at c =
    mark-within c.args.plan.now.cont c.args.plan.now.upto c.args.later.now.versions.now c.args.plan.now.snaps.now c.args.later.now.later.rising c.args.later.now.later.plain
    c.args.version.now c.args.at c.args.later.now.from c.requires.place c.requires.last c.args.marks.now c.requires.marks

pub bounds-marks-at-2 : goal.bounds-marks-at-2
bounds-marks-at-2 c =
    let within : c.args.at < length c.args.marks.now =
    mark-within c.args.plan.now.cont c.args.plan.now.upto c.args.later.now.versions.now c.args.plan.now.snaps.now c.args.later.now.later.rising c.args.later.now.later.plain
    c.args.version.now c.args.at c.args.later.now.from c.requires.place c.requires.last c.args.marks.now c.requires.marks in
    omega (arith, within, c.spare.auto.marks)
