-- Turns in which target 0 hears that a Freeze or a Prune got no answer.
use Rattle.std.specs.Prelude.{ℕ, Bool, Option, Result}
use Rattle.base_messages.specs.declared.message.Message.{Message}
use Rattle.daos_model.specs.declared.durable.Durable.{Durable}
use Rattle.vos_store.specs.Calls.{State}
use Rattle.world_base.specs.declared.did.Did.{Did}
use Rattle.world_base.specs.declared.target.TargetMemory.{TargetMemory}
use Rattle.world_base.specs.declared.target.TargetPlan.{TargetPlan}
use Rattle.world_base.specs.CutTurns.{none_issued}
use Rattle.world_base.specs.Further.{reset_by}
use Rattle.world_base.specs.Statuses.{EndsAs, Looking, NoChange}
use Rattle.world_base.specs.Turns.{Whole}
use Rattle.target_parts.specs.declared.stop.TargetStop.{TargetStop}
use Rattle.target_parts.specs.Parts.{kept}
use Rattle.target_snaps.specs.Lined.{LinedTurn}

-- a turn in which a Reset is heard of what was asked for a snapshot or an aggregation
abbrev pub LossTurn : TargetPlan → TargetMemory → ℕ → Bool → Message → Durable → State → Option Durable → State → (Durable → Type 0) → TargetMemory → Result Did TargetStop → Type 0
LossTurn t m by down asked d h new k finds left result =
    LinedTurn NoChange none_issued t.me Looking (kept d h) (λ did l. Whole NoChange (EndsAs (reset_by t m by down asked)) Looking (kept d h) l (left, did)) new k finds result
