use Rattle.std.proofs.Common.{subst}
use Rattle.world_base.specs.ClientTurns.{HearTurn}
use Rattle.client_core.proofs.client.Client.heard.Goals as goal

pub returns-clause-turn : goal.returns-clause-turn
returns-clause-turn c =
    let turn = subst (λ s. HearTurn c.self.inside.plan s c.args.message.now c.in_ok-did.field-0.did c.in_ok-did.field-0.state) c.in_ok-state.ensures c.in_ok-did.ensures.turn in
    subst (λ v. HearTurn v.plan v.state c.args.message.now c.in_ok-did.field-0.did c.in_ok-did.field-0.state) c.self.view_is turn
