-- What is known of a pool that is held, from what is known to hold in some way.
use Rattle.std.proofs.Common.{◌≡◌, ℕ, Bool, false, Some, subst}
use Rattle.std.specs.Prelude.{All, IsTrue}
use Rattle.std.specs.Coded.{Coded-set, coded_bool, coded_list, coded_ℕ, le_prop, Π_prop}
use Rattle.std.proofs.Math.Logic.{∥∥₁_elim}
use Rattle.base_outside.specs.Images.{Image}
use Rattle.daos_model.specs.declared.durable.Durable.{Durable}
use Rattle.pmem_alloc.specs.Blocks.{free_count}
use Rattle.vos_pool_base.specs.vos_image.Kept.{Stored}
use Rattle.vos_pool_base.specs.Pool.{HasStood, OpenedState, kept_of}
use Rattle.vos_pool_base.specs.Tidy.{AllCount, FewPending, IfTidy, IsTidy, NoneListed}
use Rattle.vos_pool_changes.proofs.Named.{all_named-prop}
use Rattle.vos_pool_held.specs.Held.{IsHeld}
use Rattle.vos_pool_held.specs.Laws.{told_set}
use Rattle.vos_pool_held.specs.vos_turns.Turns.{CanBeNamed}
use Rattle.vos_pool_settle.proofs.Made.{same_stored}

counted-prop : (x : Stored) → IsProp (AllCount x)
counted-prop x = Π_prop (λ k. Π_prop (λ d. Π_prop (λ low. Coded-set coded_bool _ _)))

unlisted-prop : (x : Stored) → IsProp (NoneListed x)
unlisted-prop x = Π_prop (λ k. Π_prop (λ d. Π_prop (λ low. Coded-set (coded_list coded_ℕ) _ _)))

few-prop : (x : Stored) → IsProp (FewPending x)
few-prop x = Π_prop (λ a. le_prop)

module _ {R : Type 0} (tells : Bool) (extent : R → ℕ) (image : R → Image) (may_leave : R → Image → Type 0) (p : OpenedState R) (memory : Durable) (free floor target targets : ℕ)
    (held : ∥ IsHeld tells extent image may_leave p memory free floor target targets ∥₁) where
  -- it is tidy, since no other thing stands in its image than what does
  pub tidy_known : (IsTrue tells → p.blocks.undo.stopped ≡ false → HasStood (extent p.blocks.undo.region) (image p.blocks.undo.region) p.table) → IfTidy tells extent image p
  tidy_known stood tell run =
      let s = stood tell run in
      let same : (t : IsTidy (extent p.blocks.undo.region) (image p.blocks.undo.region) p.table) → t.stored ≡ s.stored = λ t. same_stored p.table.header.target (extent p.blocks.undo.region) (image p.blocks.undo.region) p.table t.stored s.stored t.stands s.stands in
      record {
        stored = s.stored;
        stands = s.stands;
        layout = ∥∥₁_elim held (Coded-set coded_ℕ _ _) (λ h. (h.tidy tell run).layout);
        counted = ∥∥₁_elim held (counted-prop s.stored) (λ h. let t = h.tidy tell run in subst AllCount (same t) t.counted);
        unlisted = ∥∥₁_elim held (unlisted-prop s.stored) (λ h. let t = h.tidy tell run in subst NoneListed (same t) t.unlisted);
        few = ∥∥₁_elim held (few-prop s.stored) (λ h. let t = h.tidy tell run in subst FewPending (same t) t.few);
      }

  pub kept_known : IsTrue tells → p.blocks.undo.stopped ≡ false → kept_of tells extent image p ≡ Some memory
  kept_known tell run = ∥∥₁_elim held (told_set _ _) (λ h. h.kept tell run)

  pub free_known : p.blocks.undo.stopped ≡ false → free ≡ free_count p.blocks
  free_known run = ∥∥₁_elim held (Coded-set coded_ℕ _ _) (λ h. h.free_is run)

  pub targets_known : p.table.header.targets ≡ targets
  targets_known = ∥∥₁_elim held (Coded-set coded_ℕ _ _) (λ h. h.targets_are)

  pub named_known : All CanBeNamed memory.versions
  named_known = ∥∥₁_elim held (all_named-prop memory.versions) (λ h. h.named)
