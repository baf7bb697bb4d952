use Rattle.std.proofs.Common.{arith, subst, sym}
use Rattle.run_loop.proofs.Turns.{few-targets}
use Rattle.run_stage.specs.Below.{AllBeginInTurn, AllTellInOrder, AreAccounted, HasRunWith, all-begin, can-reopen, has-run, left-accounted, left_of}
use Rattle.run_stage.specs.Now.{stage_now}
use Rattle.run_stage.specs.world_ended.Clients.{AllEndWell}
use Rattle.run_stage.specs.world_letters.kinds.Fitting.{AllAnswersFit}
use Rattle.run_loop.proofs.order.run_in_order.Goals as goal

pub go-went-requires-clause-few_targets : goal.go-went-requires-clause-few_targets
go-went-requires-clause-few_targets g c = let few = few-targets g.S.Store.durable g.S.Store.state g.S.Store.may (stage_now c.args.stage) c.requires.going in omega (arith, few)

pub returns-in-Ok-clause-run : goal.returns-in-Ok-clause-run
returns-in-Ok-clause-run g c r w o begins drawn shows =
    let last = c.go-went.new.stage in
    subst (λ lines. HasRunWith g.S.Store.durable g.S.Store.state g.C.Clock.is_read g.C.Clock.next g.S.Store.may r c.args.order w (stage_now c.args.stage) (left_of last.targets.items last.watch lines)) (sym c.into_lines-lines.ensures)
    (has-run g.S.Store.durable g.S.Store.state g.C.Clock.is_read g.C.Clock.next g.met.S.Store.alike g.S.Store.may r c.args.order w o (stage_now c.args.stage) (stage_now last) begins drawn shows (λ tell. c.in-Ok.ensures.goes.led tell r))

pub returns-in-Ok-clause-accounts : goal.returns-in-Ok-clause-accounts
returns-in-Ok-clause-accounts g c h stops k =
    let last = c.go-went.new.stage in
    subst (λ lines. AreAccounted g.S.Store.durable g.S.Store.state h stops (left_of last.targets.items last.watch lines)) (sym c.into_lines-lines.ensures)
    (left-accounted g.S.Store.durable g.S.Store.state h stops (stage_now last) (c.in-Ok.ensures.goes.accounts h stops k))

pub returns-in-Ok-clause-in_turn : goal.returns-in-Ok-clause-in_turn
returns-in-Ok-clause-in_turn g c r k =
    let last = stage_now c.go-went.new.stage in
    subst (AllBeginInTurn r.attempts r.script) (sym c.into_lines-lines.ensures) (all-begin r last ((c.in-Ok.ensures.goes.tells r).in_turn k))

pub returns-in-Ok-clause-kinds : goal.returns-in-Ok-clause-kinds
returns-in-Ok-clause-kinds g c r k = subst (AllAnswersFit r.script) (sym c.into_lines-lines.ensures) ((c.in-Ok.ensures.goes.tells r).answers k).lines

pub returns-in-Ok-clause-ends : goal.returns-in-Ok-clause-ends
returns-in-Ok-clause-ends g c r k = subst (AllEndWell r.script) (sym c.into_lines-lines.ensures) ((c.in-Ok.ensures.goes.tells r).ends k).lines

pub returns-in-Ok-clause-in_order : goal.returns-in-Ok-clause-in_order
returns-in-Ok-clause-in_order g c r k = subst (AllTellInOrder r.script) (sym c.into_lines-lines.ensures) ((c.in-Ok.ensures.goes.tells r).ends k).in_order

pub returns-in-Ok-clause-reopens : goal.returns-in-Ok-clause-reopens
returns-in-Ok-clause-reopens g c = can-reopen g.S.Store.durable g.S.Store.state g.S.Store.may g.met.S.Store.steady (stage_now c.go-went.new.stage) c.in-Ok.ensures.goes.going

pub returns-in-Ok-clause-served : goal.returns-in-Ok-clause-served
returns-in-Ok-clause-served g c = c.in-Ok.ensures.served

pub returns-clause-served : goal.returns-clause-served
returns-clause-served g c = c.in-Err.ensures.served
