use Rattle.std.proofs.Common.{◌≡◌, Some, drop}
use Rattle.std.specs.Option.{ForSome}
use Rattle.daos_model.specs.declared.durable.Durable.{Durable}
use Rattle.world_base.specs.declared.target.TargetMemory.{TargetMemory}
use Rattle.world_base.specs.Acks.{MarkedNext}
use Rattle.world_base.specs.Turns.{Reached}
use Rattle.target_parts.specs.Knowing.{IsBeside, LeadsWell, memory_of}
use Rattle.target_parts.specs.Parts.{Now, StillRuns, kept}
use Rattle.target_dtx.proofs.acks.confirm_all.Given as goal

abbrev pub invariant-loop-attempt : goal.invariant-loop-attempt
invariant-loop-attempt g l = record {
  runs : StillRuns (g.S.Store.state l.fn.store) (g.S.Store.state l.store) (g.S.Store.durable l.fn.store) (g.S.Store.durable l.store);
  leads : ForSome (g.S.Store.durable l.store) (LeadsWell l.plan (memory_of l.knows) l.knows.entries.items);
  beside : IsBeside l.fn.knows l.knows;
  leader : l.knows.leader ≡ l.fn.knows.leader;
  reached : (m : TargetMemory) → (d : Durable) → g.S.Store.durable l.fn.store ≡ Some d
      → Now (g.S.Store.durable l.store) (g.S.Store.state l.store) (λ k. Reached (MarkedNext l.plan m l.member) l.attempts (kept d (g.S.Store.state l.fn.store)) (drop l.attempt-index l.attempts) k);
}
