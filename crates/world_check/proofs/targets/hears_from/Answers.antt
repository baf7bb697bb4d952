use Rattle.std.proofs.Common.{◌-◌, ◌∙◌, ap, length, subst}
use Rattle.std.specs.Bool.{Decides}
use Rattle.replay_base.proofs.Starts.{none_so}
use Rattle.world_base.specs.Events.{target_plan}
use Rattle.world_list.proofs.Decided.{Falls, Stands, taken_of}
use Rattle.world_list.specs.RunLists.{rules_of}
use Rattle.world_list.specs.Following.{FollowIs}
use Rattle.world_check.specs.Told.{did_told}
use Rattle.world_check.specs.Turned.{HearsSo, IsAfterTarget, StaysOpen}
use Rattle.world_check.proofs.Turning.{hears_decides, hears_none, planned, target_is, told_at}
use Rattle.world_check.proofs.targets.hears_from.Goals as goal
use Rattle.world_check.proofs.targets.hears_from.Goals.{then-is_next, else-is_next}

pub returns-then-not-hears : goal.returns-then-not-hears
returns-then-not-hears c =
    none_so (hears_none (rules_of c.args.events.now) c.args.before.now c.args.after.now c.args.letter.now.to.number c.args.letter.now c.args.state.now c.args.next.now c.in_ok-hears.hears (target_is c.args.letter.now.to c.requires.target) c.requires.here c.requires.there
    (planned c.in_ok-hears.hears c.plan_of-plan.result (target_plan (rules_of c.args.events.now) c.args.letter.now.to.number) c.args.letter.now.from c.args.letter.now.message c.args.state.now c.args.next.now c.in_ok-did.did
    (did_told (length c.args.before.now.messages - 1) c.args.before.now c.args.after.now) c.plan_of-plan.ensures
    (told_at c.args.before.now c.args.after.now c.in_ok-did.did c.without_one.result (length c.args.before.now.messages - 1) c.in_ok-did.ensures (c.without_one.ensures ∙ ap (λ ls. length ls - 1) c.as_slice.ensures)) c.in_ok-hears.ensures) c.if-not-hears.true)

pub returns : goal.returns
returns c =
    hears_decides (rules_of c.args.events.now) c.args.before.now c.args.after.now c.args.letter.now.to.number c.args.letter.now c.args.state.now c.args.next.now c.in_ok-did.did c.in_ok-follow.follow c.in_ok-hears.hears c.is_next.result c.if-is_next.result
    c.requires.placed (target_is c.args.letter.now.to c.requires.target) c.requires.runs c.requires.here c.requires.there
    (told_at c.args.before.now c.args.after.now c.in_ok-did.did c.without_one.result (length c.args.before.now.messages - 1) c.in_ok-did.ensures (c.without_one.ensures ∙ ap (λ ls. length ls - 1) c.as_slice.ensures))
    (subst (λ p. Decides c.in_ok-hears.hears (HearsSo p c.args.letter.now.from c.args.letter.now.message c.args.state.now c.args.next.now c.in_ok-did.did)) c.plan_of-plan.ensures c.in_ok-hears.ensures)
    c.if-not-hears.false (subst (λ b. FollowIs c.in_ok-follow.follow c.args.before.now b c.in_ok-did.did) (target_is c.args.letter.now.to c.requires.target) c.in_ok-follow.ensures)
    (subst (λ k. Decides c.is_next.result (StaysOpen c.args.state.now c.args.next.now × IsAfterTarget c.args.before.now k c.args.next.now c.in_ok-follow.follow c.args.after.now)) c.from-number.ensures c.is_next.ensures)
    (elim c.if-is_next.branch [
      | then-is_next w ↦ Stands w.is_taken.result w.if-is_next.true (taken_of w.as_slice-then-is_next.result.now c.args.after.now.messages w.as_slice-then-is_next-2.result.now c.args.before.now.messages c.as_slice-sent.result.now c.in_ok-follow.follow.letters c.args.letter.now w.as_slice-then-is_next.ensures w.as_slice-then-is_next-2.ensures c.as_slice-sent.ensures w.is_taken.result w.is_taken.ensures) w.result-is
      | else-is_next w ↦ Falls w.if-is_next.false (w.result-is ∙ w.if-is_next.false)
    ])
