use Rattle.std.proofs.Common.{refl}
use Rattle.run_stage.specs.Below.{no-rounds-way, broke-after-err, broke-between, goes-none, rounds-are-run, served-then, some_rounds}
use Rattle.run_loop.specs.Loops.{none-in, round-more, rounds-over, some-in}
use Rattle.run_stage.specs.Now.{stage_now}
use Rattle.run_loop.proofs.order.go_round.Goals as goal

pub loop-init : goal.loop-init
loop-init g c = goes-none g.S.Store.durable g.S.Store.state g.S.Store.may g.C.Clock.is_read g.C.Clock.next (some_rounds c.args.settling) (stage_now c.args.stage.now) (λ r w. no-rounds-way c.args.settling r w) c.requires.going

pub returns-then-is_empty-clause-goes : goal.returns-then-is_empty-clause-goes
returns-then-is_empty-clause-goes g c =
    rounds-over g.S.Store.durable g.S.Store.state g.S.Store.may g.C.Clock.is_read g.C.Clock.next c.args.settling (stage_now c.args.stage.now) (stage_now c.loop.stage) c.in_ok-due.field-0.items c.in_ok-due.ensures
    (none-in c.in_ok-due.field-0.items c.in_ok-due.field-0.len c.if-is_empty.ensures c.in_ok-due.field-0.ok.0) c.loop.invariant

pub returns-then-is_empty-clause-served : goal.returns-then-is_empty-clause-served
returns-then-is_empty-clause-served g c = c.loop.invariant.served

pub returns-in_err-due-clause-served : goal.returns-in_err-due-clause-served
returns-in_err-due-clause-served g c = c.loop.invariant.served

pub returns-in_err-round-clause-served : goal.returns-in_err-round-clause-served
returns-in_err-round-clause-served g c = served-then g.S.Store.durable g.S.Store.state g.C.Clock.is_read c.args.stage.now.targets.items c.loop.stage.targets.items c.round.new.stage.targets.items c.loop.invariant.served c.in_err-round.ensures.served

pub loop-preserved : goal.loop-preserved
loop-preserved g c =
    round-more g.S.Store.durable g.S.Store.state g.S.Store.may g.C.Clock.is_read g.C.Clock.next c.args.settling (stage_now c.args.stage.now) (stage_now c.loop.stage) c.in_ok-due.field-0.items c.in_ok-due.ensures (stage_now c.round.new.stage)
    (some-in c.in_ok-due.field-0.items c.in_ok-due.field-0.len c.if-is_empty.ensures c.in_ok-due.field-0.ok.0) c.loop.invariant c.in_ok-round.ensures.goes

-- memory was wanting between rounds, or in one
pub returns-in_err-due-clause-broke : goal.returns-in_err-due-clause-broke
returns-in_err-due-clause-broke g c =
    let now = stage_now c.loop.stage in
    broke-after-err g.S.Store.durable g.S.Store.state g.S.Store.may g.C.Clock.is_read g.C.Clock.next g.met.S.Store.steady (some_rounds c.args.settling) (stage_now c.args.stage.now) now now.targets c.from_residual.result (rounds-are-run c.args.settling) c.loop.invariant (broke-between g.S.Store.durable g.S.Store.state g.S.Store.may g.C.Clock.is_read g.C.Clock.next g.met.S.Store.steady now now.targets refl)

pub returns-in_err-round-clause-broke : goal.returns-in_err-round-clause-broke
returns-in_err-round-clause-broke g c =
    broke-after-err g.S.Store.durable g.S.Store.state g.S.Store.may g.C.Clock.is_read g.C.Clock.next g.met.S.Store.steady (some_rounds c.args.settling) (stage_now c.args.stage.now) (stage_now c.loop.stage) c.round.new.stage.targets.items c.from_residual-in_err-round.result (rounds-are-run c.args.settling) c.loop.invariant c.in_err-round.ensures.broke
