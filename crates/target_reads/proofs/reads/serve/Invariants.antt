use Rattle.std.specs.Prelude.{ℕ, ◌≡◌, Some, length, true}
use Rattle.std.specs.Option.{ForSome}
use Rattle.base_types.specs.Operations.{read_path}
use Rattle.daos_model.specs.declared.durable.Durable.{Durable}
use Rattle.daos_model.specs.Durables.{is_enlisted}
use Rattle.world_base.specs.declared.target.TargetMemory.{TargetMemory}
use Rattle.world_base.specs.Reads.{FetchNext, Reading}
use Rattle.world_base.specs.Turns.{Reached}
use Rattle.target_parts.specs.Knowing.{IsBeside, LeadsWell, memory_of}
use Rattle.target_parts.specs.Parts.{Now, StillRuns, kept}
use Rattle.target_reads.proofs.reads.serve.Given as goal

abbrev pub invariant-loop-answer : goal.invariant-loop-answer
invariant-loop-answer g l = record {
  runs : StillRuns (g.S.Store.state l.fn.store) (g.S.Store.state l.store) (g.S.Store.durable l.fn.store) (g.S.Store.durable l.store);
  enlisted : ForSome (g.S.Store.durable l.store) (λ d. is_enlisted d (read_path l.request.read).cont ≡ true);
  leads : ForSome (g.S.Store.durable l.store) (LeadsWell l.plan (memory_of l.knows) l.knows.entries.items);
  beside : IsBeside l.fn.knows l.knows;
  leader : l.knows.leader ≡ record l.fn.knows.leader { decided = l.knows.leader.decided };
  reached : (d : Durable) → g.S.Store.durable l.fn.store ≡ Some d → (m : TargetMemory) (reading : ℕ)
      → Now (g.S.Store.durable l.store) (g.S.Store.state l.store) (λ k. Reached (FetchNext l.plan m reading l.request) (Reading l.epoch l.fn.knows.leader.decided) (kept d (g.S.Store.state l.fn.store)) (Reading l.epoch l.knows.leader.decided) k);
}

abbrev pub decreases-loop-answer : goal.decreases-loop-answer
decreases-loop-answer g l = length l.knows.leader.decided
