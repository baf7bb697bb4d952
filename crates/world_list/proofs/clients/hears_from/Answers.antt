use Rattle.std.proofs.Common.{◌∙◌}
use Rattle.world_list.proofs.Decided.{Falls, Stands, made_hears, made_places, taken_of}
use Rattle.world_list.specs.RunLists.{rules_of}
use Rattle.world_list.specs.Taken.{IsTaken}
use Rattle.world_list.proofs.clients.hears_from.Goals as goal
use Rattle.world_list.proofs.clients.hears_from.Goals.{then-is_after_client, else-is_after_client}

pub returns-clause-turn : goal.returns-clause-turn
returns-clause-turn c =
    made_hears (rules_of c.args.events.now) c.args.before.now c.args.after.now c.args.letter.now c.args.state.now _ _ c.state.result.now
    c.in_ok-client_plan.field-0 _ c.in_ok-copy.field-0 c.in_ok-did.did c.in_ok-follow.follow c.from-number.result c.requires.client c.requires.awake c.requires.here c.in_ok-client_plan.ensures
    c.in_ok-client.ensures.plan c.in_ok-client.ensures.state c.in_ok-copy.ensures c.in_ok-did.ensures.turn c.state.ensures.state c.from-number.ensures
    c.in_ok-follow.ensures c.is_after_client.result c.if-is_after_client.result c.is_after_client.ensures
    (elim c.if-is_after_client.branch [
      | then-is_after_client w ↦ Stands w.is_taken.result w.if-is_after_client.true (taken_of w.as_slice.result.now c.args.after.now.messages w.as_slice-then-is_after_client.result.now c.args.before.now.messages c.as_slice-sent.result.now c.in_ok-follow.follow.letters c.args.letter.now w.as_slice.ensures w.as_slice-then-is_after_client.ensures c.as_slice-sent.ensures w.is_taken.result w.is_taken.ensures) w.result-is
      | else-is_after_client w ↦ Falls w.if-is_after_client.false (w.result-is ∙ w.if-is_after_client.false)
    ])

pub returns-clause-places : goal.returns-clause-places
returns-clause-places c =
    made_places (rules_of c.args.events.now) c.args.before.now c.args.after.now c.args.letter.now.to.number c.from-number.result c.args.state.now c.state.result.now
    c.in_ok-client_plan.field-0 _ c.in_ok-follow.follow (IsTaken c.args.after.now.messages c.args.before.now.messages c.args.letter.now c.in_ok-follow.follow.letters)
    c.requires.here c.in_ok-client_plan.ensures (c.in_ok-did.ensures.plan ∙ c.in_ok-client.ensures.plan) c.from-number.ensures c.state.ensures.place c.requires.places
    c.is_after_client.result c.if-is_after_client.result c.is_after_client.ensures
    (elim c.if-is_after_client.branch [
      | then-is_after_client w ↦ Stands w.is_taken.result w.if-is_after_client.true (taken_of w.as_slice.result.now c.args.after.now.messages w.as_slice-then-is_after_client.result.now c.args.before.now.messages c.as_slice-sent.result.now c.in_ok-follow.follow.letters c.args.letter.now w.as_slice.ensures w.as_slice-then-is_after_client.ensures c.as_slice-sent.ensures w.is_taken.result w.is_taken.ensures) w.result-is
      | else-is_after_client w ↦ Falls w.if-is_after_client.false (w.result-is ∙ w.if-is_after_client.false)
    ])
