use Rattle.std.specs.Prelude.{◌<◌, length}
use Rattle.std.proofs.Common.{subst, sym}
use Rattle.run_stage.specs.Below.{client-heard-shown, client-hears-few, target-heard-shown, target-hears-few}
use Rattle.run_stage.specs.Now.{stage_now}
use Rattle.run_loop.proofs.order.heard_by.Goals as goal

pub returns-then-actor-clause-heard : goal.returns-then-actor-clause-heard
returns-then-actor-clause-heard g c r found w k =
    client-heard-shown g.S.Store.durable g.S.Store.state r found (stage_now c.args.stage.now) w k c.args.actor c.from-number.result c.heard_by_client.result c.if-actor.true c.from-number.ensures
    (subst (λ n. n < length c.args.stage.now.clients.items) (sym c.from-number.ensures) (c.requires.actor.client c.if-actor.true)) c.heard_by_client.ensures

pub returns-then-actor-clause-few : goal.returns-then-actor-clause-few
returns-then-actor-clause-few g c =
    client-hears-few (stage_now c.args.stage.now) c.args.actor c.from-number.result c.heard_by_client.result c.if-actor.true c.from-number.ensures
    (subst (λ n. n < length c.args.stage.now.clients.items) (sym c.from-number.ensures) (c.requires.actor.client c.if-actor.true)) c.heard_by_client.ensures

pub returns-else-actor-clause-heard : goal.returns-else-actor-clause-heard
returns-else-actor-clause-heard g c r found w k =
    target-heard-shown g.S.Store.durable g.S.Store.state r found (stage_now c.args.stage.now) w k c.args.actor c.from-number.result c.heard_by_target.result c.if-actor.false c.from-number.ensures
    (subst (λ n. n < length c.args.stage.now.targets.items) (sym c.from-number.ensures) (c.requires.actor.target c.if-actor.false)) c.heard_by_target.ensures

pub returns-else-actor-clause-few : goal.returns-else-actor-clause-few
returns-else-actor-clause-few g c =
    target-hears-few (stage_now c.args.stage.now) c.args.actor c.from-number.result c.heard_by_target.result c.if-actor.false c.from-number.ensures
    (subst (λ n. n < length c.args.stage.now.watch.lives) (sym c.from-number.ensures) (subst (λ m. c.args.actor.number < m) (sym c.requires.standing) (c.requires.actor.target c.if-actor.false))) c.heard_by_target.ensures
