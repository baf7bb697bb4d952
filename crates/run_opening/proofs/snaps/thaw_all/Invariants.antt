use Rattle.std.specs.Prelude.{Ok, take}
use Rattle.vos_store.specs.Refusals.{always_stop}
use Rattle.run_opening.specs.Steps.{Goes, all_thawed}
use Rattle.run_opening.proofs.snaps.thaw_all.Given as goal

-- those so far are thawed
abbrev pub invariant-loop-snap : goal.invariant-loop-snap
invariant-loop-snap g l = Goes always_stop (all_thawed (take l.snap-index l.gone)) (Ok (tt {0})) (g.S.Store.state l.fn.store) (g.S.Store.state l.store) (g.S.Store.durable l.fn.store) (g.S.Store.durable l.store)
