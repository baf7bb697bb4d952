-- What one commit of versions and a step of an entry makes of an open pool.
use Rattle.std.specs.Prelude.{◌≡◌, ◌≤◌, ◌+◌, ℕ, Bool, false, IsTrue, List, OnOk, Result, length}
use Rattle.base_outside.specs.Images.{Image}
use Rattle.base_types.specs.declared.id.AttemptId.{AttemptId}
use Rattle.daos_model.specs.declared.durable.Durable.{Durable}
use Rattle.daos_model.specs.declared.durable.Version.{Version}
use Rattle.pmem_alloc.specs.Blocks.{free_count}
use Rattle.pmem_pages.specs.Blocks.{Stops}
use Rattle.vos_turns.specs.vos_fitting.Fitting.{ListNothing}
use Rattle.vos_turns.specs.vos_image.Kept.{Stored}
use Rattle.vos_turns.specs.vos_image.Places.{Places}
use Rattle.vos_keeping.specs.Keeping.{SameRows, kept_so, versions_in}
use Rattle.vos_levels.specs.declared.change.Change.{Change}
use Rattle.vos_keeping.specs.vos_places.Tables.{places_of}
use Rattle.vos_pool_stage.specs.vos_pool_base.Pool.{OpenedState, kept_of, may_of}
use Rattle.vos_pool_stage.specs.vos_pool_base.Tidy.{LeavesBut}
use Rattle.vos_pool_stage.specs.Staged.{IsQuietCall, StandsInPool}
use Rattle.vos_pool_stage.specs.vos_standing.Standing.{content}
use Rattle.vos_store.specs.Calls.{Makes}
use Rattle.vos_store.specs.declared.refusal.Stopped.{Stopped}
use Rattle.vos_store.specs.Refusals.{always_stop}
use Rattle.vos_turns.specs.declared.entries.EntryStep.{EntryStep}
use Rattle.vos_turns.specs.Turns.{IsTurned, StepMayStand, after_each}

-- Something stands in a pool whose entries list nothing, and a step may be taken there.
pub record CanTurn {R : Type 0} (extent : R → ℕ) (image : R → Image) (s : EntryStep) (p : OpenedState R) (x : Stored) : Type 0 where
  pub stands : StandsInPool extent image p x
  pub nothing : ListNothing x.1
  pub step : StepMayStand s (content (extent p.blocks.undo.region) (image p.blocks.undo.region))

-- After it something else stands there, what the turn makes of that, and its entries list nothing.
pub record HasTurned {R : Type 0} (extent : R → ℕ) (image : R → Image) (c : Change) (us : List Version) (a : AttemptId) (s : EntryStep) (x : Stored) (p : OpenedState R) : Type 0 where
  pub now : Stored
  pub stands : StandsInPool extent image p now
  pub turned : IsTurned c us a s x now
  pub nothing : ListNothing now.1

-- whatever stands in a pool, with the same rows what is kept becomes this of it
abbrev pub TurnsKept : {R : Type 0} → Bool → (R → ℕ) → (R → Image) → Change → List Version → AttemptId → EntryStep → OpenedState R → (Durable → Durable) → Type 0
TurnsKept tells extent image c us a s p change =
    IsTrue tells → p.blocks.undo.stopped ≡ false → (x y : Stored) → CanTurn extent image s p x → IsTurned c us a s x y → (q : Places) → SameRows (places_of p.table) q
    → kept_so q y ≡ change (kept_so (places_of p.table) x)

-- One commit of it: the turn is made, or nothing is. What is kept changes so, where that is what the turn makes of it, and the call is
-- quiet where it makes nothing of it. No block is taken, and each version that went gave back a block at least.
pub record IsOneTurn {R : Type 0} (tells : Bool) (extent : R → ℕ) (image : R → Image) (may_leave : R → Image → Type 0) (count burns : R → ℕ) (c : Change) (us : List Version) (a : AttemptId) (s : EntryStep) (old new : OpenedState R) (result : Result (Unit {0}) Stopped) : Type 0 where
  pub turned : OnOk result (IsTrue tells → (x : Stored) → CanTurn extent image s old x → HasTurned extent image c us a s x new)
  pub rows : SameRows (places_of old.table) (places_of new.table)
  pub kept : (change : Durable → Durable) → TurnsKept tells extent image c us a s old change
      → Makes old.blocks.undo.stopped always_stop change result (kept_of tells extent image old) (kept_of tells extent image new) (may_of tells extent may_leave old) (may_of tells extent may_leave new)
  pub quiet : TurnsKept tells extent image c us a s old (λ d. d) → IsQuietCall result (kept_of tells extent image old) (kept_of tells extent image new) (may_of tells extent may_leave old) (may_of tells extent may_leave new)
  pub left : LeavesBut tells extent may_leave 0 old new
  pub free : free_count old.blocks ≤ free_count new.blocks
  pub gives : OnOk result (IsTrue tells → (x : Stored) → CanTurn extent image s old x → free_count old.blocks + length (versions_in x) ≤ free_count new.blocks + length (after_each c us (versions_in x)))
  pub size : extent new.blocks.undo.region ≡ extent old.blocks.undo.region
  pub stops : Stops old.blocks.undo.stopped new.blocks.undo.stopped (count old.blocks.undo.region) (count new.blocks.undo.region) (burns old.blocks.undo.region) (burns new.blocks.undo.region) result
