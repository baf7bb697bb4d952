-- Turns in which a container is aggregated.
use Rattle.std.specs.Prelude.{ℕ, ◌≡◌, true, false, List, [], ◌∷◌, Option, Some, Result, Ok, Err}
use Rattle.base_types.specs.declared.epoch.Epoch.{Epoch}
use Rattle.base_types.specs.declared.id.AttemptId.{AttemptId}
use Rattle.base_types.specs.declared.id.ContId.{ContId}
use Rattle.base_types.specs.declared.report.Line.{Line}
use Rattle.base_types.specs.declared.report.Line.TheVariants as line
use Rattle.daos_model.specs.declared.durable.Durable.{Durable}
use Rattle.daos_model.specs.Attempts.{tries}
use Rattle.vos_store.specs.Calls.{State}
use Rattle.world_base.specs.declared.did.Did.{Did as DidOf}
use Rattle.world_base.specs.declared.target.TargetMemory.{TargetMemory}
use Rattle.world_base.specs.declared.target.TargetPlan.{TargetPlan}
use Rattle.world_base.specs.Changes.{Prunes}
use Rattle.world_base.specs.CutTurns.{issued_by_prune}
use Rattle.world_base.specs.Snapshots as snap
use Rattle.world_base.specs.Snapshots.{is_prune_due, prune_limit}
use Rattle.world_base.specs.Turns.{Whole}
use Rattle.target_parts.specs.declared.stop.TargetStop.{TargetStop}
use Rattle.target_parts.specs.declared.stop.TargetStop.TheVariants as stop
use Rattle.target_parts.specs.Parts.{Did, Stays, WasCut, kept, left_by}
use Rattle.target_snaps.specs.declared.request.ContRequest.{ContRequest}
use Rattle.target_snaps.specs.Lined.{LinedTurn}

-- the line of a prune up to the limit
abbrev pub prune_lines : TargetPlan → ContId → Epoch → ℕ → Durable → List Line
prune_lines p c g n d = line.Aggregate n p.me c (prune_limit c g d) ∷ []

-- a container was pruned up to its limit, where that is due
pub data PrunesSo (p : TargetPlan) (c : ContId) (g : Epoch) (n : ℕ) (d : Durable) (h : State) (new : Option Durable) (k : State) (lines : List Line) : Type 0 where
  IsDue : is_prune_due c g d ≡ true → lines ≡ prune_lines p c g n d → Did (Prunes c (prune_limit c g d) n) d h new k → PrunesSo p c g n d h new k lines
  IsNotDue : is_prune_due c g d ≡ false → lines ≡ [] → Stays d h new k → PrunesSo p c g n d h new k lines

-- a prune that was due was cut, and its line is shown
pub record PruneCut (p : TargetPlan) (c : ContId) (g : Epoch) (n : ℕ) (d : Durable) (h k : State) (finds : Durable → Type 0) (lines : List Line) : Type 0 where
  pub due : is_prune_due c g d ≡ true
  pub shown : lines ≡ prune_lines p c g n d
  pub cut : WasCut (Prunes c (prune_limit c g d) n) (kept d h) (left_by k finds)

-- it was pruned, or not since that wasn't due; or that was cut; or memory was wanting before
abbrev pub PrunesOrCut : TargetPlan → ContId → Epoch → ℕ → Option (AttemptId × Epoch) → Durable → State → Option Durable → State → (Durable → Type 0) → Result (List Line) TargetStop → Type 0
PrunesOrCut p c g n issued d h new k finds (Ok lines) = PrunesSo p c g n d h new k lines
PrunesOrCut p c g n issued d h new k finds (Err (stop.Store shown lines)) = (shown ≡ issued) × PruneCut p c g n d h k finds lines
PrunesOrCut p c g n issued d h new k finds (Err (stop.Foreign at byte)) = ⊥
PrunesOrCut p c g n issued d h new k finds (Err stop.Memory) = Stays d h new k

-- no line of it tells of an attempt
abbrev pub LinesNoAttempt : Result (List Line) TargetStop → Type 0
LinesNoAttempt (Ok lines) = tries lines ≡ []
LinesNoAttempt (Err (stop.Store issued lines)) = tries lines ≡ []
LinesNoAttempt (Err (stop.Foreign at byte)) = Unit {0}
LinesNoAttempt (Err stop.Memory) = Unit {0}

-- a turn in which target 0's Prune is heard
abbrev pub PruneTurn : TargetPlan → TargetMemory → ℕ → ContRequest → Epoch → ℕ → Durable → State → Option Durable → State → (Durable → Type 0) → TargetMemory → Result DidOf TargetStop → Type 0
PruneTurn t m reading q g number d h new k finds left result =
    LinedTurn (snap.PruneNext t m reading g (Some g) q.cont number) (issued_by_prune q.attempt (Some g)) t.me snap.Asked (kept d h)
    (λ did l. Whole (snap.PruneNext t m reading g (Some g) q.cont number) (snap.PruneEnds m q.attempt q.from) snap.Asked (kept d h) l (left, did)) new k finds result
