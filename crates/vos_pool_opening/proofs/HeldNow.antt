-- An open pool that runs is held.
use Rattle.std.specs.Prelude.{◌≡◌, ◌≤◌, ◌<◌, ◌^◌, ℕ, All, Bool, false, IsTrue, Some}
use Rattle.std.proofs.Common.{sym, subst, arith}
use Rattle.base_outside.specs.Images.{Image}
use Rattle.base_types.specs.Epochs.{restart_floor}
use Rattle.daos_model.specs.declared.durable.Durable.{Durable}
use Rattle.pmem_alloc.specs.Blocks.{free_count}
use Rattle.pmem_undo.specs.Settled.{IsAtRest}
use Rattle.vos_pool_held.specs.Held.{IsHeld}
use Rattle.vos_pool_held.specs.vos_pool_base.Pool.{OpenedState, kept_of}
use Rattle.vos_pool_held.specs.vos_pool_base.Tidy.{IfTidy, Leaves}
use Rattle.vos_pool_held.specs.vos_turns.Turns.{CanBeNamed}

pub held-now : {R : Type 0} (tells : Bool) (extent : R → ℕ) (image : R → Image) (may_leave : R → Image → Type 0) (p : OpenedState R) (memory : Durable) (free floor target targets : ℕ)
    → p.blocks.undo.stopped ≡ false → (IsTrue tells → kept_of tells extent image p ≡ Some memory) → IfTidy tells extent image p
    → (IsTrue tells → p.blocks.undo.stopped ≡ false → IsAtRest (image p.blocks.undo.region) (may_leave p.blocks.undo.region)) → (p.blocks.undo.stopped ≡ false → Leaves tells extent may_leave (free_count p.blocks) p)
    → free ≡ free_count p.blocks → floor ≡ restart_floor memory.lease → p.table.header.target ≡ target → p.table.header.targets ≡ targets
    → (323584 ≤ extent p.blocks.undo.region) × (extent p.blocks.undo.region < 2 ^ 32) → All CanBeNamed memory.versions
    → IsHeld tells extent image may_leave p memory free floor target targets
held-now tells extent image may_leave p memory free floor target targets going kept tidy rest left is_free is_floor is_target are_targets sized named = record {
  kept = λ tell run. kept tell;
  tidy = tidy;
  rests = rest;
  free_is = λ run. is_free;
  left = subst (λ (few : ℕ). Leaves tells extent may_leave few p) (sym is_free) (left going);
  covered = omega (arith, is_floor);
  target_is = is_target;
  targets_are = are_targets;
  big = sized.0;
  small = sized.1;
  named = named;
}
