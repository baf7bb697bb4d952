use Rattle.run_stage.specs.Below.{draws-order-way, rounds-order-way, all-draws-are-run, all-rounds-are-run, all_from_draw, all_rounds, goes-then_breaks-err, in_order, served-then}
use Rattle.std.specs.Prelude.{refl, false, true}
use Rattle.run_loop.specs.Loops.{goes-then-ok}
use Rattle.run_stage.specs.Now.{stage_now}
use Rattle.run_loop.proofs.order.go.Goals as goal

pub returns-then-order-eq0-clause-goes : goal.returns-then-order-eq0-clause-goes
returns-then-order-eq0-clause-goes g c =
    goes-then-ok g.S.Store.durable g.S.Store.state g.S.Store.may g.C.Clock.is_read g.C.Clock.next (all_rounds false) (all_rounds true) (in_order c.args.order) (stage_now c.args.stage.now) (stage_now c.go_round.new.stage) (stage_now c.go_round-then-order-eq0.new.stage) c.go_round-then-order-eq0.result (all-rounds-are-run false)
    (λ r found w u v s k l. rounds-order-way r c.args.order w u v k l c.if-order-eq0.true) c.in_ok-go_round.ensures.goes c.go_round-then-order-eq0.ensures.goes

pub returns-then-order-eq0-clause-served : goal.returns-then-order-eq0-clause-served
returns-then-order-eq0-clause-served g c =
    served-then g.S.Store.durable g.S.Store.state g.C.Clock.is_read c.args.stage.now.targets.items c.go_round.new.stage.targets.items c.go_round-then-order-eq0.new.stage.targets.items c.in_ok-go_round.ensures.served c.go_round-then-order-eq0.ensures.served

pub returns-clause-goes : goal.returns-clause-goes
returns-clause-goes g c =
    let x0 = c.args.order in
    let x = c.go_drawn.new.x in
    let y = c.go_drawn-2.new.x in
    goes-then-ok g.S.Store.durable g.S.Store.state g.S.Store.may g.C.Clock.is_read g.C.Clock.next (all_from_draw false x0 x) (all_from_draw true x y) (in_order x0) (stage_now c.args.stage.now) (stage_now c.go_drawn.new.stage) (stage_now c.go_drawn-2.new.stage) c.go_drawn-2.result (all-draws-are-run false x0 x)
    (λ r found w u v s k l. draws-order-way r x0 x y w u v k l c.if-order-eq0.false) c.in_ok-go_drawn.ensures.goes c.go_drawn-2.ensures.goes

pub returns-clause-served : goal.returns-clause-served
returns-clause-served g c = served-then g.S.Store.durable g.S.Store.state g.C.Clock.is_read c.args.stage.now.targets.items c.go_drawn.new.stage.targets.items c.go_drawn-2.new.stage.targets.items c.in_ok-go_drawn.ensures.served c.go_drawn-2.ensures.served

-- memory was wanting while actors settled
pub returns-then-order-eq0-clause-broke : goal.returns-then-order-eq0-clause-broke
returns-then-order-eq0-clause-broke g c =
    goes-then_breaks-err g.S.Store.durable g.S.Store.state g.S.Store.may g.C.Clock.is_read g.C.Clock.next g.met.S.Store.steady (all_rounds false) (stage_now c.args.stage.now) (stage_now c.go_round.new.stage) c.go_round-then-order-eq0.new.stage.targets.items c.go_round-then-order-eq0.result (all-rounds-are-run false)
    c.in_ok-go_round.ensures.goes c.go_round-then-order-eq0.ensures.broke

pub returns-clause-broke : goal.returns-clause-broke
returns-clause-broke g c =
    let x0 = c.args.order in
    let x = c.go_drawn.new.x in
    goes-then_breaks-err g.S.Store.durable g.S.Store.state g.S.Store.may g.C.Clock.is_read g.C.Clock.next g.met.S.Store.steady (all_from_draw false x0 x) (stage_now c.args.stage.now) (stage_now c.go_drawn.new.stage) c.go_drawn-2.new.stage.targets.items c.go_drawn-2.result (all-draws-are-run false x0 x)
    c.in_ok-go_drawn.ensures.goes c.go_drawn-2.ensures.broke
