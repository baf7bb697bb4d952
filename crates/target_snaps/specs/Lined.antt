-- Turns whose changes may have lines: whole, or cut, with the lines that are then shown.
use Rattle.std.specs.Prelude.{ℕ, ◌≡◌, List, Option, Result, Ok, Err}
use Rattle.base_types.specs.declared.epoch.Epoch.{Epoch}
use Rattle.base_types.specs.declared.id.AttemptId.{AttemptId}
use Rattle.base_types.specs.declared.report.Line.{Line}
use Rattle.daos_model.specs.declared.durable.Durable.{Durable}
use Rattle.vos_store.specs.Calls.{State}
use Rattle.world_base.specs.declared.did.Did.{Did}
use Rattle.world_base.specs.Changes.{Change, Kept}
use Rattle.world_base.specs.CutTurns.{CutTurn, Cutting, lines_of, listed_issue}
use Rattle.world_base.specs.Turns.{Path}
use Rattle.target_parts.specs.declared.stop.TargetStop.{TargetStop}
use Rattle.target_parts.specs.declared.stop.TargetStop.TheVariants as stop
use Rattle.target_parts.specs.Parts.{Now, Partway, left_by}

-- a turn came so far, by changes that have these lines
pub record HasCome {S : Type 0} (Next : S → Kept → Option Change → S → Type 0) (t : ℕ) (start : S) (old : Kept) (last : S) (mid : Kept) (lines : List Line) : Type 0 where
  pub did : List Change
  pub path : Path Next start old did last mid
  pub lines_are : lines_of t did ≡ lines

-- what a turn leaves that was cut, where the next opening finds this
abbrev pub cut_with : Kept → Option (AttemptId × Epoch) → List Line → Cutting
cut_with x issued lines = record { left = x; issued = listed_issue issued; lines = lines }

-- a turn was cut, whatever the next opening finds, and these are the epoch that it issued and the lines that are shown
abbrev pub IsCutWith : {S : Type 0} → (S → Kept → Option Change → S → Type 0) → (S → List (AttemptId × Epoch)) → ℕ → S → Kept → (Kept → Type 0) → Option (AttemptId × Epoch) → List Line → Type 0
IsCutWith Next issues t start old finds issued lines = (x : Kept) → finds x → CutTurn Next issues t start old (cut_with x issued lines)

-- A turn of a target: it came whole to its end; or it was cut, and the lines of its changes are shown; or memory was wanting on the way,
-- and some changes were made, each whole.
abbrev pub LinedTurn : {S : Type 0} → (S → Kept → Option Change → S → Type 0) → (S → List (AttemptId × Epoch)) → ℕ → S → Kept → (Did → Kept → Type 0) → Option Durable → State → (Durable → Type 0) → Result Did TargetStop → Type 0
LinedTurn Next issues t start old Done new k finds (Ok did) = Now new k (Done did)
LinedTurn Next issues t start old Done new k finds (Err (stop.Store issued lines)) = IsCutWith Next issues t start old (left_by k finds) issued lines
LinedTurn Next issues t start old Done new k finds (Err (stop.Foreign at byte)) = ⊥
LinedTurn Next issues t start old Done new k finds (Err stop.Memory) = Now new k (Partway Next start old)
