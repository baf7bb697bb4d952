use Rattle.std.specs.Prelude.{Ok, take}
use Rattle.vos_store.specs.Refusals.{always_stop}
use Rattle.run_opening.specs.Steps.{Goes, all_forgotten}
use Rattle.run_opening.proofs.attempts.forget.Given as goal

-- those so far are forgotten
abbrev pub invariant-loop-entry : goal.invariant-loop-entry
invariant-loop-entry g l = Goes always_stop (all_forgotten (take l.entry-index l.entries)) (Ok (tt {0})) (g.S.Store.state l.fn.store) (g.S.Store.state l.store) (g.S.Store.durable l.fn.store) (g.S.Store.durable l.store)
