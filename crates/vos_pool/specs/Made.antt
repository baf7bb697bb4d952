-- What making a pool of a region comes to.
use Rattle.std.specs.Prelude.{◌≡◌, ◌≤◌, ◌*◌, ℕ, Bool, true, false, IsTrue, Option, Some, is_some}
use Rattle.base_outside.specs.Images.{Image}
use Rattle.base_types.specs.Epochs.{restart_floor}
use Rattle.base_types.specs.declared.outcome.FloorWhy.TheVariants.{Opening}
use Rattle.daos_model.specs.declared.durable.Durable.{Durable}
use Rattle.daos_model.specs.Durables.{empty_durable}
use Rattle.pmem_alloc.specs.Map.{blocks_end, free_blocks}
use Rattle.pmem_alloc.specs.Sets.{count_below}
use Rattle.pmem_undo.specs.Settled.{settled}
use Rattle.vos_check_region.specs.Blank.{IsBlank}
use Rattle.vos_commits.specs.Kept.{kept_in}
use Rattle.vos_pool_held.specs.vos_pool_base.vos_image.Kept.{kept}
use Rattle.vos_pool_opening.specs.Beginning.{begun}
use Rattle.vos_pool_opening.specs.declared.beginning.Asked.{Asked}
use Rattle.vos_pool_opening.specs.declared.beginning.Beginning.TheVariants.{Made}
use Rattle.vos_store.specs.Calls.{State}

-- a region can be a pool if its size is a whole number of MiB, from 2 to 32
pub record IsPoolSize (size : ℕ) : Type 0 where
  pub mib : ℕ
  pub least : 2 ≤ mib
  pub most : mib ≤ 32
  pub size_is : size ≡ mib * 1048576

-- a pool is asked for, of this target of so many
abbrev pub asked_of : ℕ → ℕ → Asked
asked_of target targets = record { target = target; targets = targets; beginning = Made }

-- A region became a pool that says this of itself, keeps this, and has its region so. Of a blank region it keeps nothing, in the first incarnation;
-- of any other what it stood for, in the next one, and no fewer blocks are free than in it. The floor is the one that the lease gives.
pub record IsMadeOf {R : Type 0} (tells : Bool) (extent count burns : R → ℕ) (image : R → Image) (target targets : ℕ) (region : R) (s : State) (d : Option Durable) (now : R) : Type 0 where
  pub told : IsTrue tells → is_some d ≡ true
  pub blank : IsTrue tells → IsBlank (extent region) (image region) → d ≡ Some (empty_durable 1)
  pub written : IsTrue tells → (IsBlank (extent region) (image region) → ⊥) → d ≡ Some (begun Made (kept_in (kept target (extent region)) (extent region) (image region)))
  pub free : IsTrue tells → (IsBlank (extent region) (image region) → ⊥) → count_below (free_blocks (extent region) (settled (extent region) (image region))) (blocks_end (extent region)) ≤ s.free
  pub floor : (x : Durable) → d ≡ Some x → s.opening.0.0 ≡ restart_floor x.lease
  pub why : s.opening.1 ≡ Opening
  pub running : s.stopped ≡ false
  pub targets_are : s.targets ≡ targets
  pub size : extent now ≡ extent region
  pub later_faults : count region ≤ s.faults
  pub later_burns : burns region ≤ s.burns
