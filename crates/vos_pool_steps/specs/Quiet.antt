-- Steps of an open pool that leave what it keeps.
use Rattle.std.specs.Prelude.{◌≡◌, ◌⊎◌, ◌≤◌, ℕ, Bool, true, false}
use Rattle.base_outside.specs.Causes.{Rose}
use Rattle.base_outside.specs.Images.{Image}
use Rattle.daos_model.specs.declared.durable.Durable.{Durable}
use Rattle.pmem_alloc.specs.Blocks.{free_count}
use Rattle.vos_keeping.specs.Keeping.{SameRows}
use Rattle.vos_keeping.specs.vos_places.Tables.{places_of}
use Rattle.vos_pool_turns.specs.vos_pool_stage.vos_pool_base.Pool.{OpenedState, kept_of, may_of}
use Rattle.vos_pool_turns.specs.vos_pool_stage.vos_pool_base.Tidy.{LeavesBut}

-- After it the pool keeps what it kept, unless it stopped: openings find what they would have found, its rows, its target and its layout are as they were,
-- and no fewer blocks are free. It stops only where a count of its region rose.
pub record IsQuietStep {R : Type 0} (tells : Bool) (extent count burns : R → ℕ) (image : R → Image) (may_leave : R → Image → Type 0) (old new : OpenedState R) : Type 0 where
  pub kept : new.blocks.undo.stopped ≡ false → kept_of tells extent image new ≡ kept_of tells extent image old
  pub found : (x : Durable) → may_of tells extent may_leave new x → may_of tells extent may_leave old x
  pub rows : SameRows (places_of old.table) (places_of new.table)
  pub left : LeavesBut tells extent may_leave 0 old new
  pub free : free_count old.blocks ≤ free_count new.blocks
  pub size : extent new.blocks.undo.region ≡ extent old.blocks.undo.region
  pub later_faults : count old.blocks.undo.region ≤ count new.blocks.undo.region
  pub later_burns : burns old.blocks.undo.region ≤ burns new.blocks.undo.region
  pub stays : old.blocks.undo.stopped ≡ true → new.blocks.undo.stopped ≡ true
  pub cause : new.blocks.undo.stopped ≡ true → (old.blocks.undo.stopped ≡ true) ⊎ (Rose (count old.blocks.undo.region) (count new.blocks.undo.region) ⊎ Rose (burns old.blocks.undo.region) (burns new.blocks.undo.region))
