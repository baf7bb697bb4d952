use Rattle.std.proofs.Common.{◌≡◌, ℕ, ◌∙◌, ap, arith}
use Rattle.daos_model.specs.Prunes.{is_unseen}
use Rattle.vos_aggregate.specs.Sparing.{marks_from}
use Rattle.vos_aggregate.proofs.Plans.{all-going}
use Rattle.vos_aggregate.proofs.marking.mark_all.Goals as goal

pub returns : goal.returns
returns c =
    let vs = c.args.plan.now.versions.now in
    let none : c.loop-at.at ≡ 0 = omega (arith, c.loop-at-test.false) in
    c.loop-at.invariant.marks
    ∙ ap (λ (n : ℕ). marks_from (is_unseen c.args.plan.now.cont c.args.plan.now.upto vs c.args.plan.now.snaps.now) c.args.plan.now.cont c.args.plan.now.upto n vs) none
    ∙ all-going c.args.plan.now.cont c.args.plan.now.upto vs c.args.plan.now.snaps.now
