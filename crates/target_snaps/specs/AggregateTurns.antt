-- Turns in which target 0 hears a client's Prune.
use Rattle.std.specs.Prelude.{ℕ, List, Option, None, Result}
use Rattle.base_types.specs.declared.epoch.Epoch.{Epoch}
use Rattle.base_types.specs.declared.report.Line.{Line}
use Rattle.daos_model.specs.declared.durable.Durable.{Durable}
use Rattle.vos_store.specs.Calls.{State}
use Rattle.world_base.specs.declared.did.Did.{Did}
use Rattle.world_base.specs.declared.target.TargetMemory.{TargetMemory}
use Rattle.world_base.specs.declared.target.TargetPlan.{TargetPlan}
use Rattle.world_base.specs.Changes.{Kept}
use Rattle.world_base.specs.CutTurns.{issued_by_prune}
use Rattle.world_base.specs.Snapshots as snap
use Rattle.world_base.specs.Turns.{Whole}
use Rattle.target_parts.specs.declared.stop.TargetStop.{TargetStop}
use Rattle.target_snaps.specs.declared.request.ContRequest.{ContRequest}
use Rattle.target_snaps.specs.Lined.{HasCome, LinedTurn}

-- such a turn came so far
abbrev pub AggregateComes : TargetPlan → TargetMemory → ℕ → ContRequest → Epoch → ℕ → Kept → snap.PruneStage → Kept → List Line → Type 0
AggregateComes t m reading q tracker number old last mid lines = HasCome (snap.PruneNext t m reading tracker None q.cont number) t.me snap.Asked old last mid lines

-- a turn in which a client's Prune is heard
abbrev pub AggregateTurn : TargetPlan → TargetMemory → ℕ → ContRequest → Epoch → ℕ → Kept → Option Durable → State → (Durable → Type 0) → TargetMemory → Result Did TargetStop → Type 0
AggregateTurn t m reading q tracker number old new k finds left result =
    LinedTurn (snap.PruneNext t m reading tracker None q.cont number) (issued_by_prune q.attempt None) t.me snap.Asked old
    (λ did l. Whole (snap.PruneNext t m reading tracker None q.cont number) (snap.AggregateEnds t m reading tracker q.attempt q.cont q.from) snap.Asked old l (left, did)) new k finds result
