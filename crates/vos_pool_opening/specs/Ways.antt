-- What an opening has made so far of an open pool.
use Rattle.std.specs.Prelude.{◌≡◌, ◌⊎◌, ◌≤◌, ℕ, Bool, true, Some}
use Rattle.std.specs.Option.{option_map}
use Rattle.base_outside.specs.Causes.{Rose}
use Rattle.base_outside.specs.Images.{Image}
use Rattle.daos_model.specs.declared.durable.Durable.{Durable}
use Rattle.pmem_alloc.specs.Blocks.{free_count}
use Rattle.vos_pool_held.specs.vos_pool_base.Pool.{OpenedState, kept_of, may_of}
use Rattle.vos_pool_opening.specs.Beginning.{begun}
use Rattle.vos_pool_site.specs.Left.{LeavesSome}
use Rattle.vos_pool_opening.specs.declared.beginning.Beginning.{Beginning}

-- From the one pool the opening came to the other: openings find what was kept, counted as begun or not; and whatever may be left stands, with no fewer blocks
-- free. It stops only where a count of the region rose.
pub record IsWay {R : Type 0} (b : Beginning) (tells : Bool) (extent count burns : R → ℕ) (image : R → Image) (may_leave : R → Image → Type 0) (old new : OpenedState R) : Type 0 where
  pub found : (x : Durable) → may_of tells extent may_leave new x → may_of tells extent may_leave old x ⊎ (Some x ≡ option_map (begun b) (kept_of tells extent image old))
  pub left : LeavesSome tells extent may_leave (free_count old.blocks) new
  pub target : new.table.header.target ≡ old.table.header.target
  pub targets : new.table.header.targets ≡ old.table.header.targets
  pub free : free_count old.blocks ≤ free_count new.blocks
  pub size : extent new.blocks.undo.region ≡ extent old.blocks.undo.region
  pub later_faults : count old.blocks.undo.region ≤ count new.blocks.undo.region
  pub later_burns : burns old.blocks.undo.region ≤ burns new.blocks.undo.region
  pub cause : new.blocks.undo.stopped ≡ true → Rose (count old.blocks.undo.region) (count new.blocks.undo.region) ⊎ Rose (burns old.blocks.undo.region) (burns new.blocks.undo.region)
