-- What holds of a pool that is closed.
use Rattle.std.proofs.Common.{◌≡◌, ℕ, Bool, sym, subst}
use Rattle.std.specs.Prelude.{IsTrue}
use Rattle.std.proofs.Math.Logic.{∥∥₁_elim, ∥∥₁_map}
use Rattle.std.proofs.Math.Nat.{ℕ_set}
use Rattle.base_outside.specs.Images.{Image}
use Rattle.daos_model.specs.declared.durable.Durable.{Durable}
use Rattle.pmem_undo.specs.Settled.{IsAttachable}
use Rattle.vos_pool_held.specs.vos_pool_base.Pool.{OpenedState}
use Rattle.vos_pool_held.specs.Held.{IsHeld}
use Rattle.vos_pool_site.specs.Closed.{IsClosed}
use Rattle.vos_pool_site.specs.Left.{StandsInSome}

module _ {R : Type 0} (tells : Bool) (extent : R → ℕ) (image : R → Image) (may_leave : R → Image → Type 0) (p : OpenedState R) (memory : Durable) (free floor target targets : ℕ) where
  -- the region of an open pool
  closed_there : (IsTrue tells → (c : Image) → may_leave p.blocks.undo.region c → IsAttachable (extent p.blocks.undo.region) c)
      → IsHeld tells extent image may_leave p memory free floor target targets → IsClosed tells extent may_leave p.blocks.undo.region free target targets
  closed_there attachable h = record {
    attachable = attachable;
    left = λ t c may.
        subst (λ (n : ℕ). StandsInSome (extent p.blocks.undo.region) n targets free c) h.target_is
        (subst (λ (n : ℕ). StandsInSome (extent p.blocks.undo.region) p.table.header.target n free c) h.targets_are
        (record { layout = p.table.header.layout; stands = h.left t c may }));
    big = h.big;
    small = h.small;
  }

  -- the region that was taken out of one
  pub closes : (back : R) → back ≡ p.blocks.undo.region → (IsTrue tells → (c : Image) → may_leave back c → IsAttachable (extent back) c)
      → ∥ IsHeld tells extent image may_leave p memory free floor target targets ∥₁ → ∥ IsClosed tells extent may_leave back free target targets ∥₁
  closes back is attachable held =
      subst (λ (r : R). ∥ IsClosed tells extent may_leave r free target targets ∥₁) (sym is)
      (∥∥₁_map held (closed_there (subst (λ (r : R). IsTrue tells → (c : Image) → may_leave r c → IsAttachable (extent r) c) is attachable)))

  -- it is of the target that it says
  pub of_target : ∥ IsHeld tells extent image may_leave p memory free floor target targets ∥₁ → p.table.header.target ≡ target
  of_target held = ∥∥₁_elim held (ℕ_set p.table.header.target target) (λ h. h.target_is)
