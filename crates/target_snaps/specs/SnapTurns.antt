-- Turns in which target 0 hears a Snap.
use Rattle.std.specs.Prelude.{ℕ, List, Option, None, Result}
use Rattle.base_types.specs.declared.epoch.Epoch.{Epoch}
use Rattle.base_types.specs.declared.key.Key.{Key}
use Rattle.base_types.specs.declared.report.Line.{Line}
use Rattle.daos_model.specs.declared.durable.Durable.{Durable}
use Rattle.vos_store.specs.Calls.{State}
use Rattle.world_base.specs.declared.did.Did.{Did}
use Rattle.world_base.specs.declared.target.TargetMemory.{TargetMemory}
use Rattle.world_base.specs.declared.target.TargetPlan.{TargetPlan}
use Rattle.world_base.specs.Changes.{Kept}
use Rattle.world_base.specs.CutTurns.{issued_by_freeze}
use Rattle.world_base.specs.Snapshots as snap
use Rattle.world_base.specs.Turns.{Whole}
use Rattle.target_parts.specs.declared.stop.TargetStop.{TargetStop}
use Rattle.target_snaps.specs.declared.request.ContRequest.{ContRequest}
use Rattle.target_snaps.specs.Lined.{HasCome, LinedTurn}

-- such a turn came so far
abbrev pub SnapComes : TargetPlan → TargetMemory → ℕ → ContRequest → Epoch → Kept → snap.FreezeStage → Kept → List Line → Type 0
SnapComes t m reading q tracker old last mid lines = HasCome (snap.FreezeNext t m reading tracker None q.cont (snap.is_held_by_all t 0)) t.me snap.Asked old last mid lines

-- a turn in which a client's Snap is heard
abbrev pub SnapTurn : TargetPlan → TargetMemory → ℕ → ContRequest → Epoch → Key → Kept → Option Durable → State → (Durable → Type 0) → TargetMemory → Result Did TargetStop → Type 0
SnapTurn t m reading q tracker name old new k finds left result =
    LinedTurn (snap.FreezeNext t m reading tracker None q.cont (snap.is_held_by_all t 0)) (issued_by_freeze q.attempt None) t.me snap.Asked old
    (λ did l. Whole (snap.FreezeNext t m reading tracker None q.cont (snap.is_held_by_all t 0)) (snap.SnapEnds t m reading tracker q.attempt q.cont name q.from) snap.Asked old l (left, did)) new k finds result
