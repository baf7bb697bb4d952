-- A turn in which a Fetch is heard, from a stage on.
use Rattle.std.specs.Prelude.{ℕ, Option, Result}
use Rattle.base_messages.specs.declared.actor.ActorId.{ActorId}
use Rattle.daos_model.specs.declared.durable.Durable.{Durable}
use Rattle.vos_store.specs.Calls.{State}
use Rattle.world_base.specs.declared.did.Did.{Did}
use Rattle.world_base.specs.declared.request.FetchRequest.{FetchRequest}
use Rattle.world_base.specs.declared.target.TargetMemory.{TargetMemory}
use Rattle.world_base.specs.declared.target.TargetPlan.{TargetPlan}
use Rattle.world_base.specs.Reads as read
use Rattle.world_base.specs.Turns.{Whole}
use Rattle.target_parts.specs.declared.stop.TargetStop.{TargetStop}
use Rattle.target_parts.specs.Parts.{kept}
use Rattle.target_parts.specs.Stops.{Turn, fetch_issued}

abbrev pub FetchTurn : TargetPlan → TargetMemory → ℕ → FetchRequest → ActorId → read.FetchStage → Durable → State → Option Durable → State → (Durable → Type 0) → TargetMemory → Result Did TargetStop → Type 0
FetchTurn t m reading q from start d h new k finds left result =
    Turn (read.FetchNext t m reading q) (fetch_issued q) start (kept d h)
    (λ did l. Whole (read.FetchNext t m reading q) (read.FetchEnds t m reading q from) start (kept d h) l (left, did)) new k finds result
