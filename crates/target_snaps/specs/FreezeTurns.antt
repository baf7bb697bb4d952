-- Turns in which a target freezes a snapshot.
use Rattle.std.specs.Prelude.{ℕ, false, Option, None, Some, List, [], ◌∷◌, Result}
use Rattle.base_types.specs.declared.epoch.Epoch.{Epoch}
use Rattle.base_types.specs.declared.id.ContId.{ContId}
use Rattle.base_types.specs.declared.outcome.Outcome.{Outcome}
use Rattle.base_types.specs.declared.report.Line.{Line}
use Rattle.base_types.specs.declared.report.Line.TheVariants as line
use Rattle.daos_model.specs.declared.durable.Durable.{Durable}
use Rattle.vos_store.specs.Calls.{State}
use Rattle.world_base.specs.declared.did.Did.{Did}
use Rattle.world_base.specs.declared.target.TargetMemory.{TargetMemory}
use Rattle.world_base.specs.declared.target.TargetPlan.{TargetPlan}
use Rattle.world_base.specs.CutTurns.{issued_by_freeze}
use Rattle.world_base.specs.Snapshots as snap
use Rattle.world_base.specs.Snapshots.{freeze_refusal}
use Rattle.world_base.specs.Turns.{Whole}
use Rattle.target_parts.specs.declared.stop.TargetStop.{TargetStop}
use Rattle.target_parts.specs.Parts.{kept}
use Rattle.target_snaps.specs.declared.freezing.Froze.{Froze}
use Rattle.target_snaps.specs.declared.freezing.Froze.TheVariants as froze
use Rattle.target_snaps.specs.declared.request.ContRequest.{ContRequest}
use Rattle.target_snaps.specs.Lined.{LinedTurn}

-- why a freeze is refused, if it is
abbrev pub refusal_by : TargetPlan → Froze → Option Outcome
refusal_by p (froze.Refused e) = Some (freeze_refusal p e)
refusal_by p f = None

-- the line of a freeze that was a change
abbrev pub freeze_lines : TargetPlan → ContId → Epoch → Froze → List Line
freeze_lines p c s froze.Anew = line.Freeze p.me c s ∷ []
freeze_lines p c s f = []

-- a turn in which target 0's Freeze is heard
abbrev pub FreezeTurn : TargetPlan → TargetMemory → ℕ → ContRequest → Epoch → Durable → State → Option Durable → State → (Durable → Type 0) → TargetMemory → Result Did TargetStop → Type 0
FreezeTurn t m reading q s d h new k finds left result =
    LinedTurn (snap.FreezeNext t m reading s (Some s) q.cont false) (issued_by_freeze q.attempt (Some s)) t.me snap.Asked (kept d h)
    (λ did l. Whole (snap.FreezeNext t m reading s (Some s) q.cont false) (snap.FreezeEnds t m q.attempt q.cont q.from) snap.Asked (kept d h) l (left, did)) new k finds result
