use Rattle.run_stage.specs.Below.{AreServed, broke-between-err, can-turn, served-first, target-turn-breaks-err}
use Rattle.std.specs.Prelude.{◌≡◌, Some, slice_get}
use Rattle.std.proofs.Common.{ap, subst, sym}
use Rattle.run_loop.proofs.Turns.{client-goes-on, client-number, target-goes-on, target-number}
use Rattle.run_stage.specs.Now.{stage_now}
use Rattle.world_base.specs.declared.target.Life.TheVariants.{Down}
use Rattle.run_loop.proofs.order.turn.Goals as goal

pub client_turn-requires-clause-number : goal.client_turn-requires-clause-number
client_turn-requires-clause-number g c = client-number c.args.actor c.from-number.result c.args.message c.args.stage.now.between.messages c.if-actor.true c.from-number.ensures c.requires.message

pub target_turn-requires-clause-number : goal.target_turn-requires-clause-number
target_turn-requires-clause-number g c = target-number c.args.actor c.from-number.result c.args.message c.args.stage.now.between.messages c.if-actor.false c.from-number.ensures c.requires.message

pub target_turn-requires-clause-up : goal.target_turn-requires-clause-up
target_turn-requires-clause-up g c = subst (λ n. slice_get c.args.stage.now.watch.lives n ≡ Some Down → ⊥) (sym c.from-number.ensures) (c.requires.up c.if-actor.false)

pub target_turn-requires-clause-able : goal.target_turn-requires-clause-able
target_turn-requires-clause-able g c x at = can-turn g.S.Store.durable g.S.Store.state g.S.Store.may g.met.S.Store.findable g.met.S.Store.alike (stage_now c.args.stage.now) c.requires.going c.from-number.result x at c.args.message

pub returns-then-actor-clause-goes : goal.returns-then-actor-clause-goes
returns-then-actor-clause-goes g c =
    client-goes-on g.S.Store.durable g.S.Store.state g.S.Store.may g.C.Clock.is_read g.C.Clock.next g.met.S.Store.findable g.met.S.Store.alike (stage_now c.args.stage.now) (stage_now c.client_turn.new.self) c.requires.going c.args.settling c.args.actor c.from-number.result c.args.message
    c.client_turn.result c.if-actor.true c.from-number.ensures c.client_turn.ensures.turned

pub returns-then-actor-clause-served : goal.returns-then-actor-clause-served
returns-then-actor-clause-served g c =
    let xs = c.args.stage.now.targets.items in
    subst (AreServed g.S.Store.durable g.S.Store.state g.C.Clock.is_read xs) (sym (ap (λ v. v.items) c.client_turn.ensures.targets)) (served-first g.S.Store.durable g.S.Store.state g.C.Clock.is_read xs)

pub returns-else-actor-clause-goes : goal.returns-else-actor-clause-goes
returns-else-actor-clause-goes g c =
    target-goes-on g.S.Store.durable g.S.Store.state g.S.Store.may g.C.Clock.is_read g.C.Clock.next g.met.S.Store.findable g.met.S.Store.alike (stage_now c.args.stage.now) (stage_now c.target_turn.new.self) c.requires.going c.args.settling c.args.actor c.from-number.result c.args.message
    c.target_turn.result c.if-actor.false c.from-number.ensures c.target_turn.ensures.turned

pub returns-then-actor-clause-broke : goal.returns-then-actor-clause-broke
returns-then-actor-clause-broke g c = broke-between-err g.S.Store.durable g.S.Store.state g.S.Store.may g.C.Clock.is_read g.C.Clock.next g.met.S.Store.steady (stage_now c.args.stage.now) c.client_turn.new.self.targets.items c.client_turn.result (ap (λ v. v.items) c.client_turn.ensures.targets)

pub returns-else-actor-clause-broke : goal.returns-else-actor-clause-broke
returns-else-actor-clause-broke g c =
    target-turn-breaks-err g.S.Store.durable g.S.Store.state g.S.Store.may g.C.Clock.is_read g.C.Clock.next g.met.S.Store.steady g.met.S.Store.findable g.met.S.Store.alike (stage_now c.args.stage.now) c.requires.going c.args.settling c.from-number.result c.args.message c.target_turn.new.self.targets.items
    c.target_turn.result c.target_turn.ensures.broke
