use Rattle.std.proofs.Common.{◌≡◌, Some, take}
use Rattle.daos_model.specs.declared.durable.Durable.{Durable}
use Rattle.target_parts.specs.Parts.{Stays, StillRuns}
use Rattle.target_writes.specs.Checks.{Checks}
use Rattle.target_writes.proofs.checks.refusal.Given as goal

abbrev pub invariant-loop-write : goal.invariant-loop-write
invariant-loop-write g l = record {
  runs : StillRuns (g.S.Store.state l.fn.store) (g.S.Store.state l.store) (g.S.Store.durable l.fn.store) (g.S.Store.durable l.store);
  stays : (d : Durable) → g.S.Store.durable l.fn.store ≡ Some d → Stays d (g.S.Store.state l.fn.store) (g.S.Store.durable l.store) (g.S.Store.state l.store);
  checked : (d : Durable) → g.S.Store.durable l.fn.store ≡ Some d → Checks l.plan (g.S.Store.state l.fn.store).opening l.first l.epoch d l.stamps.reads (take l.write-index l.writes) l.refused;
}
