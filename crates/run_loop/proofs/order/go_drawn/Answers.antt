use Rattle.std.proofs.Common.{refl}
use Rattle.run_stage.specs.Below.{IsActor, IsUp, no-draws-way, broke-after-err, broke-between, draws-are-run, from_draw, goes-none, served-then}
use Rattle.std.specs.Prelude.{length}
use Rattle.model_laws.specs.Lists.{at-index}
use Rattle.run_loop.specs.Loops.{draw-more, draws-over, holds-of-one, none-in, one-of, some-pick}
use Rattle.run_stage.specs.Now.{stage_now}
use Rattle.run_loop.proofs.order.go_drawn.Goals as goal

pub heard_by-requires-clause-actor : goal.heard_by-requires-clause-actor
heard_by-requires-clause-actor g c =
    let P = IsActor (length c.loop.stage.clients.items) (length c.loop.stage.targets.items) in
    let within = one-of c.pick.result c.len.result c.in_ok-due.due.len (length c.in_ok-due.due.items) c.pick.ensures.below c.len.ensures c.in_ok-due.due.ok.0 c.if-is_empty.ensures in
    holds-of-one P c.in_ok-due.due.items c.pick.result c.index-actor.result.now c.index-actor.result.now c.index-actor.ensures within c.in_ok-due.ensures.there

pub turn-requires-clause-actor : goal.turn-requires-clause-actor
turn-requires-clause-actor g c =
    let P = IsActor (length c.loop.stage.clients.items) (length c.loop.stage.targets.items) in
    let within = one-of c.pick.result c.len.result c.in_ok-due.due.len (length c.in_ok-due.due.items) c.pick.ensures.below c.len.ensures c.in_ok-due.due.ok.0 c.if-is_empty.ensures in
    holds-of-one P c.in_ok-due.due.items c.pick.result c.index-actor.result.now c.index-actor.result.now c.index-actor.ensures within c.in_ok-due.ensures.there

pub turn-requires-clause-up : goal.turn-requires-clause-up
turn-requires-clause-up g c =
    let P = IsUp c.loop.stage.watch.lives in
    let within = one-of c.pick.result c.len.result c.in_ok-due.due.len (length c.in_ok-due.due.items) c.pick.ensures.below c.len.ensures c.in_ok-due.due.ok.0 c.if-is_empty.ensures in
    holds-of-one P c.in_ok-due.due.items c.pick.result c.index-actor.result.now c.index-actor.result.now c.index-actor.ensures within c.in_ok-due.ensures.up

pub loop-init : goal.loop-init
loop-init g c = goes-none g.S.Store.durable g.S.Store.state g.S.Store.may g.C.Clock.is_read g.C.Clock.next (from_draw c.args.settling c.args.x.now c.args.x.now) (stage_now c.args.stage.now) (λ r w. no-draws-way c.args.settling r c.args.x.now w) c.requires.going

pub returns-then-is_empty-clause-goes : goal.returns-then-is_empty-clause-goes
returns-then-is_empty-clause-goes g c =
    draws-over g.S.Store.durable g.S.Store.state g.S.Store.may g.C.Clock.is_read g.C.Clock.next c.args.settling (stage_now c.args.stage.now) (stage_now c.loop.stage) c.in_ok-due.due.items c.in_ok-due.ensures c.args.x.now c.loop.x
    (none-in c.in_ok-due.due.items c.in_ok-due.due.len c.if-is_empty.ensures c.in_ok-due.due.ok.0) c.loop.invariant

pub returns-then-is_empty-clause-served : goal.returns-then-is_empty-clause-served
returns-then-is_empty-clause-served g c = c.loop.invariant.served

pub returns-in_err-due-clause-served : goal.returns-in_err-due-clause-served
returns-in_err-due-clause-served g c = c.loop.invariant.served

pub returns-in_err-turn-clause-served : goal.returns-in_err-turn-clause-served
returns-in_err-turn-clause-served g c = served-then g.S.Store.durable g.S.Store.state g.C.Clock.is_read c.args.stage.now.targets.items c.loop.stage.targets.items c.turn.new.stage.targets.items c.loop.invariant.served c.in_err-turn.ensures.served

pub loop-preserved : goal.loop-preserved
loop-preserved g c =
    let items = c.in_ok-due.due.items in
    let a = c.index-actor.result.now in
    let within = one-of c.pick.result c.len.result c.in_ok-due.due.len (length c.in_ok-due.due.items) c.pick.ensures.below c.len.ensures c.in_ok-due.due.ok.0 c.if-is_empty.ensures in
    let at = at-index items c.pick.result a within c.index-actor.ensures in
    let one = some-pick c.loop.x c.len.result c.in_ok-due.due.len (length items) c.pick.result c.pick.new.x c.if-is_empty.ensures c.len.ensures c.in_ok-due.due.ok.0 c.pick.ensures.number c.pick.ensures.last in
    draw-more g.S.Store.durable g.S.Store.state g.S.Store.may g.C.Clock.is_read g.C.Clock.next c.args.settling (stage_now c.args.stage.now) (stage_now c.loop.stage) items c.in_ok-due.ensures c.args.x.now c.loop.x c.pick.new.x c.pick-message.new.x c.pick.result a c.heard_by.result c.pick-message.result
    (stage_now c.turn.new.stage) at one.0 one.1 c.heard_by.ensures.heard c.pick-message.ensures.number c.pick-message.ensures.last c.loop.invariant c.in_ok-turn.ensures.goes

-- memory was wanting between turns, or in one
pub returns-in_err-due-clause-broke : goal.returns-in_err-due-clause-broke
returns-in_err-due-clause-broke g c =
    let now = stage_now c.loop.stage in
    broke-after-err g.S.Store.durable g.S.Store.state g.S.Store.may g.C.Clock.is_read g.C.Clock.next g.met.S.Store.steady (from_draw c.args.settling c.args.x.now c.loop.x) (stage_now c.args.stage.now) now now.targets c.from_residual.result (draws-are-run c.args.settling c.args.x.now c.loop.x) c.loop.invariant (broke-between g.S.Store.durable g.S.Store.state g.S.Store.may g.C.Clock.is_read g.C.Clock.next g.met.S.Store.steady now now.targets refl)

pub returns-in_err-turn-clause-broke : goal.returns-in_err-turn-clause-broke
returns-in_err-turn-clause-broke g c =
    broke-after-err g.S.Store.durable g.S.Store.state g.S.Store.may g.C.Clock.is_read g.C.Clock.next g.met.S.Store.steady (from_draw c.args.settling c.args.x.now c.loop.x) (stage_now c.args.stage.now) (stage_now c.loop.stage) c.turn.new.stage.targets.items c.from_residual-in_err-turn.result (draws-are-run c.args.settling c.args.x.now c.loop.x) c.loop.invariant
    c.in_err-turn.ensures.broke
