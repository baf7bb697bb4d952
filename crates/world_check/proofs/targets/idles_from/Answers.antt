use Rattle.std.proofs.Common.{◌∙◌, length, subst}
use Rattle.std.specs.Bool.{Decides}
use Rattle.replay_base.proofs.Starts.{none_so}
use Rattle.world_list.proofs.Decided.{Falls, Stands, joined_of}
use Rattle.world_base.specs.Events.{target_plan}
use Rattle.world_list.specs.RunLists.{rules_of}
use Rattle.world_check.specs.Turned.{IdlesSo, IsAfterTarget, StaysOpen}
use Rattle.world_check.proofs.Turning.{idles_decides, idles_none, told_at}
use Rattle.world_check.proofs.targets.idles_from.Goals as goal
use Rattle.world_check.proofs.targets.idles_from.Goals.{then-is_next, else-is_next}

pub returns-then-not-idles : goal.returns-then-not-idles
returns-then-not-idles c =
    none_so (idles_none (rules_of c.args.events.now) c.args.before.now c.args.after.now c.args.actor c.args.state.now c.args.next.now c.in_ok-idles.idles c.requires.here c.requires.there
    (subst (λ d. Decides c.in_ok-idles.idles (IdlesSo (target_plan (rules_of c.args.events.now) c.args.actor.number) c.args.state.now c.args.next.now d)) (told_at c.args.before.now c.args.after.now c.in_ok-did.did c.len.result (length c.args.before.now.messages) c.in_ok-did.ensures c.len.ensures)
    (subst (λ p. Decides c.in_ok-idles.idles (IdlesSo p c.args.state.now c.args.next.now c.in_ok-did.did)) c.plan_of.ensures c.in_ok-idles.ensures)) c.if-not-idles.true)

pub returns : goal.returns
returns c =
    idles_decides (rules_of c.args.events.now) c.args.before.now c.args.after.now c.args.actor c.args.state.now c.args.next.now c.in_ok-did.did c.in_ok-follow.follow c.in_ok-idles.idles c.is_next.result c.if-is_next.result c.requires.placed c.requires.target c.requires.runs c.requires.here c.requires.there
    (told_at c.args.before.now c.args.after.now c.in_ok-did.did c.len.result (length c.args.before.now.messages) c.in_ok-did.ensures c.len.ensures)
    (subst (λ p. Decides c.in_ok-idles.idles (IdlesSo p c.args.state.now c.args.next.now c.in_ok-did.did)) c.plan_of.ensures c.in_ok-idles.ensures) c.if-not-idles.false c.in_ok-follow.ensures
    (subst (λ k. Decides c.is_next.result (StaysOpen c.args.state.now c.args.next.now × IsAfterTarget c.args.before.now k c.args.next.now c.in_ok-follow.follow c.args.after.now)) c.from-number.ensures c.is_next.ensures)
    (elim c.if-is_next.branch [
      | then-is_next w ↦ Stands w.is_joined.result w.if-is_next.true (joined_of w.as_slice.result.now c.args.after.now.messages w.as_slice-then-is_next.result.now c.args.before.now.messages c.as_slice-sent.result.now c.in_ok-follow.follow.letters w.as_slice.ensures w.as_slice-then-is_next.ensures c.as_slice-sent.ensures w.is_joined.result w.is_joined.ensures) w.result-is
      | else-is_next w ↦ Falls w.if-is_next.false (w.result-is ∙ w.if-is_next.false)
    ])
