use Rattle.run_stage.specs.Now.{stage_now}
use Rattle.run_stage.specs.Below.{GoesOn, from_draw}
use Rattle.run_loop.proofs.order.go_drawn.Given as goal

-- there were some turns of drawn actors
abbrev pub invariant-loop : goal.invariant-loop
invariant-loop g l = GoesOn g.S.Store.durable g.S.Store.state g.S.Store.may g.C.Clock.is_read g.C.Clock.next (from_draw l.settling l.fn.x l.x) (stage_now l.fn.stage) (stage_now l.stage)
