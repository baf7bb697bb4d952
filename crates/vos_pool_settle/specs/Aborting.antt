-- What is left of an attempt whose entry went, and that it is taken out.
use Rattle.std.specs.Prelude.{◌≡◌, ◌≤◌, ℕ, Bool, IsTrue, List, OnOk, Result, All}
use Rattle.base_outside.specs.Images.{Image}
use Rattle.base_types.specs.declared.id.AttemptId.{AttemptId}
use Rattle.daos_model.specs.declared.durable.Version.{Version}
use Rattle.daos_model.specs.Versions.{is_not_pending}
use Rattle.pmem_alloc.specs.Blocks.{free_count}
use Rattle.pmem_pages.specs.Blocks.{Stops}
use Rattle.vos_entries.specs.Entries.{entries_in}
use Rattle.vos_pool_turns.specs.vos_fitting.Fitting.{ListNothing}
use Rattle.vos_image.specs.Kept.{Stored, counts}
use Rattle.vos_keeping.specs.Keeping.{versions_in}
use Rattle.vos_levels.specs.declared.change.Change.TheVariants.{Abort}
use Rattle.vos_pool_base.specs.Pool.{OpenedState, kept_of, may_of}
use Rattle.vos_pool_base.specs.Tidy.{LeavesBut}
use Rattle.vos_pool_turns.specs.vos_pool_stage.Staged.{IsQuietCall, StandsInPool}
use Rattle.vos_store.specs.declared.refusal.Stopped.{Stopped}
use Rattle.vos_pool_turns.specs.vos_turns.Turns.{after_each}

-- This stands in a pool, no entry lists nodes, and the versions that don't count are the unsettled ones of the attempt.
pub record IsLeftOver {R : Type 0} (extent : R → ℕ) (image : R → Image) (a : AttemptId) (p : OpenedState R) (x : Stored) : Type 0 where
  pub stands : StandsInPool extent image p x
  pub nothing : ListNothing x.1
  pub count : All (λ v. counts (entries_in x.1) v ≡ is_not_pending a v) (versions_in x)

-- then so with another, of which some versions were aborted, and which has the same entries
pub record IsLeftAfter {R : Type 0} (extent : R → ℕ) (image : R → Image) (a : AttemptId) (us : List Version) (x : Stored) (q : OpenedState R) : Type 0 where
  pub now : Stored
  pub over : IsLeftOver extent image a q now
  pub versions : versions_in now ≡ after_each (Abort a) us (versions_in x)
  pub entries : now.1 ≡ x.1

-- They were taken out, or some of them: what is kept stays.
pub record IsTakenOut {R : Type 0} (tells : Bool) (extent : R → ℕ) (image : R → Image) (may_leave : R → Image → Type 0) (count burns : R → ℕ) (a : AttemptId) (us : List Version) (old new : OpenedState R) (result : Result (Unit {0}) Stopped) : Type 0 where
  pub quiet : IsQuietCall result (kept_of tells extent image old) (kept_of tells extent image new) (may_of tells extent may_leave old) (may_of tells extent may_leave new)
  pub over : OnOk result (IsTrue tells → (x : Stored) → IsLeftOver extent image a old x → IsLeftAfter extent image a us x new)
  pub left : LeavesBut tells extent may_leave 0 old new
  pub free : free_count old.blocks ≤ free_count new.blocks
  pub size : extent new.blocks.undo.region ≡ extent old.blocks.undo.region
  pub stops : Stops old.blocks.undo.stopped new.blocks.undo.stopped (count old.blocks.undo.region) (count new.blocks.undo.region) (burns old.blocks.undo.region) (burns new.blocks.undo.region) result
