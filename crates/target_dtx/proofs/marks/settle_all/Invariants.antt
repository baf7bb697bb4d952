use Rattle.std.proofs.Common.{◌≡◌, Some, drop}
use Rattle.std.specs.Option.{ForSome}
use Rattle.daos_model.specs.declared.durable.Durable.{Durable}
use Rattle.dtx_base.specs.Leading.{attempts_of}
use Rattle.world_base.specs.Marks.{MarkNext}
use Rattle.world_base.specs.Roles.{is_prepared, told_of_all}
use Rattle.world_base.specs.Turns.{Reached}
use Rattle.target_parts.specs.Knowing.{IsBeside, LeadsWell, memory_of}
use Rattle.target_parts.specs.Parts.{Now, StillRuns, kept}
use Rattle.target_dtx.proofs.marks.settle_all.Given as goal

abbrev pub invariant-loop-mark : goal.invariant-loop-mark
invariant-loop-mark g l = record {
  runs : StillRuns (g.S.Store.state l.fn.store) (g.S.Store.state l.store) (g.S.Store.durable l.fn.store) (g.S.Store.durable l.store);
  leads : ForSome (g.S.Store.durable l.store) (LeadsWell l.plan (memory_of l.knows) l.knows.entries.items);
  beside : IsBeside l.fn.knows l.knows;
  told : told_of_all (attempts_of (drop l.mark-index l.marks)) (memory_of l.knows) ≡ told_of_all (attempts_of l.marks) (memory_of l.fn.knows);
  reached : (d : Durable) → g.S.Store.durable l.fn.store ≡ Some d
      → Now (g.S.Store.durable l.store) (g.S.Store.state l.store) (λ k. Reached (MarkNext is_prepared) l.marks (kept d (g.S.Store.state l.fn.store)) (drop l.mark-index l.marks) k);
}
