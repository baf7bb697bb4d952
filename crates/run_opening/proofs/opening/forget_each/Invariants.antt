use Rattle.std.specs.Prelude.{Ok}
use Rattle.run_opening.specs.All.{GoesAll}
use Rattle.run_opening.specs.Steps.{forgotten}
use Rattle.run_opening.proofs.Walks.{upto}
use Rattle.run_opening.proofs.opening.forget_each.Given as goal

-- the targets so far have made the change
abbrev pub invariant-loop-t : goal.invariant-loop-t
invariant-loop-t g l = GoesAll g.S.Store.durable g.S.Store.state (upto l.t (forgotten)) (Ok (tt {0})) l.fn.stores l.stores
