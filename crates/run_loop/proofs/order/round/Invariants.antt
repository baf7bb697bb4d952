use Rattle.std.specs.Prelude.{length}
use Rattle.run_base.specs.Picks.{numbered}
use Rattle.run_stage.specs.Below.{GoesOn, first_targets, turned}
use Rattle.run_stage.specs.Now.{stage_now}
use Rattle.world_base.specs.Letters.{client}
use Rattle.run_loop.proofs.order.round.Given as goal

-- the clients so far have had their turns
abbrev pub invariant-loop-n : goal.invariant-loop-n
invariant-loop-n g l = GoesOn g.S.Store.durable g.S.Store.state g.S.Store.may g.C.Clock.is_read g.C.Clock.next (turned l.settling (numbered client l.n)) (stage_now l.fn.stage) (stage_now l.stage)

-- all clients, and the targets so far
abbrev pub invariant-loop-t : goal.invariant-loop-t
invariant-loop-t g l = GoesOn g.S.Store.durable g.S.Store.state g.S.Store.may g.C.Clock.is_read g.C.Clock.next (turned l.settling (first_targets (length l.fn.stage.clients.items) l.t)) (stage_now l.fn.stage) (stage_now l.stage)
