use Rattle.world_base.specs.ClientTurns.{HearTurn}
use Rattle.client_core.specs.Clients.{move_of}
use Rattle.client_core.proofs.TurnSteps.{hear_went_on, if_ok_more, kept_heard}
use Rattle.client_core.proofs.turns.hears.Goals as goal

pub goes_on-requires-clause-place : goal.goes_on-requires-clause-place
goes_on-requires-clause-place c = kept_heard c.args.plan.now c.args.state c.args.message.now (move_of c.in_ok-post.field-0) c.requires.place c.in_ok-post.ensures

pub returns-then-over-clause-place : goal.returns-then-over-clause-place
returns-then-over-clause-place c = kept_heard c.args.plan.now c.args.state c.args.message.now (move_of c.in_ok-post.field-0) c.requires.place c.in_ok-post.ensures

pub returns-else-over-clause-turn : goal.returns-else-over-clause-turn
returns-else-over-clause-turn c =
    if_ok_more _ (λ t. HearTurn c.args.plan.now c.args.state c.args.message.now t.did t.state) c.goes_on.result
    (λ t goes.
    hear_went_on c.args.plan.now c.args.state c.args.message.now (move_of c.in_ok-post.field-0) c.nothing.result c.in_ok-did.did t c.in_ok-post.ensures c.if-over.false c.nothing.ensures
    (record { posts = c.in_ok-did.ensures.posts; lines = c.in_ok-did.ensures.lines; issued = c.in_ok-did.ensures.issued }) goes)
    c.goes_on.ensures.turn
