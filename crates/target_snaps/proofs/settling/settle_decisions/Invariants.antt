use Rattle.std.proofs.Common.{◌≡◌, Some, length}
use Rattle.std.specs.Option.{ForSome}
use Rattle.daos_model.specs.declared.durable.Durable.{Durable}
use Rattle.world_base.specs.Idle.{IdleNext}
use Rattle.world_base.specs.Turns.{Reached}
use Rattle.target_parts.specs.Knowing.{IsBeside, LeadsWell, memory_of}
use Rattle.target_parts.specs.Parts.{Now, StillRuns, kept}
use Rattle.target_snaps.proofs.settling.settle_decisions.Given as goal

abbrev pub invariant-loop-plan : goal.invariant-loop-plan
invariant-loop-plan g l = record {
  runs : StillRuns (g.S.Store.state l.fn.store) (g.S.Store.state l.store) (g.S.Store.durable l.fn.store) (g.S.Store.durable l.store);
  leads : ForSome (g.S.Store.durable l.store) (LeadsWell l.plan (memory_of l.knows) l.knows.entries.items);
  beside : IsBeside l.fn.knows l.knows;
  leader : l.knows.leader ≡ record l.fn.knows.leader { decided = l.knows.leader.decided };
  reached : (d : Durable) → g.S.Store.durable l.fn.store ≡ Some d
      → Now (g.S.Store.durable l.store) (g.S.Store.state l.store) (λ k. Reached IdleNext l.fn.knows.leader.decided (kept d (g.S.Store.state l.fn.store)) l.knows.leader.decided k);
}

abbrev pub decreases-loop-plan : goal.decreases-loop-plan
decreases-loop-plan g l = length l.knows.leader.decided
