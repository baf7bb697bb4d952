-- What holds of an open pool, with what it keeps in memory.
use Rattle.std.specs.Prelude.{◌≡◌, ◌≤◌, ◌<◌, ◌^◌, ℕ, All, Bool, false, IsTrue, Some}
use Rattle.base_outside.specs.Images.{Image}
use Rattle.base_types.specs.Epochs.{restart_floor}
use Rattle.daos_model.specs.declared.durable.Durable.{Durable}
use Rattle.pmem_alloc.specs.Blocks.{free_count}
use Rattle.vos_pool_base.specs.Pool.{OpenedState, kept_of}
use Rattle.vos_pool_base.specs.Tidy.{IfTidy, Leaves}
use Rattle.vos_pool_held.specs.Resting.{IfAtRest}
use Rattle.vos_turns.specs.Turns.{CanBeNamed}

-- What holds of an open pool that has this in memory, with so many blocks told as free, opened with this floor for a target of so many. Unless it stopped
-- its region keeps what its memory says, is tidy and at rest, and so many blocks are free. Whatever may be left of it stands, with no fewer free. Its lease
-- covers the floor.
pub record IsHeld {R : Type 0} (tells : Bool) (extent : R → ℕ) (image : R → Image) (may_leave : R → Image → Type 0) (p : OpenedState R) (memory : Durable) (free floor target targets : ℕ) : Type 0 where
  pub kept : IsTrue tells → p.blocks.undo.stopped ≡ false → kept_of tells extent image p ≡ Some memory
  pub tidy : IfTidy tells extent image p
  pub rests : IfAtRest tells image may_leave p
  pub free_is : p.blocks.undo.stopped ≡ false → free ≡ free_count p.blocks
  pub left : Leaves tells extent may_leave free p
  pub covered : floor ≤ restart_floor memory.lease
  pub target_is : p.table.header.target ≡ target
  pub targets_are : p.table.header.targets ≡ targets
  pub big : 323584 ≤ extent p.blocks.undo.region
  pub small : extent p.blocks.undo.region < 2 ^ 32
  pub named : All CanBeNamed memory.versions
