use Rattle.run_stage.specs.Now.{stage_now}
use Rattle.run_stage.specs.Below.{GoesOn, some_rounds}
use Rattle.run_loop.proofs.order.go_round.Given as goal

-- there were some rounds
abbrev pub invariant-loop : goal.invariant-loop
invariant-loop g l = GoesOn g.S.Store.durable g.S.Store.state g.S.Store.may g.C.Clock.is_read g.C.Clock.next (some_rounds l.settling) (stage_now l.fn.stage) (stage_now l.stage)
