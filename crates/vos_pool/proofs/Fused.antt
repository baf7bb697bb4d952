-- What holds of a closed pool after its region's fuse was set.
use Rattle.std.proofs.Common.{◌≡◌, ℕ, ◌<◌, ◌≤◌, ◌^◌, Bool, sym, subst}
use Rattle.std.proofs.Math.Logic.{∥∥₁_map}
use Rattle.base_outside.specs.Images.{Call, Image, SameButFuse}
use Rattle.pmem_undo.specs.Settled.{IsAttachable}
use Rattle.vos_pool_site.specs.Closed.{IsClosed}
use Rattle.vos_pool_site.specs.Left.{StandsInSome}

module _ {R : Type 0} (extent count burns : R → ℕ) (tells : Bool) (image : R → Image) (may_leave : R → Image → Type 0) (moment : R → ℕ) (left_since : R → ℕ → Image → Type 0) (broken : R → Bool) (did : R → Call → R → Type 0) (old new : R) (free target targets : ℕ) where
  fused_closed : SameButFuse extent count burns tells image may_leave moment left_since broken did old new → IsClosed tells extent may_leave old free target targets → IsClosed tells extent may_leave new free target targets
  fused_closed s h =
      let size : extent old ≡ extent new = sym s.extent_as in record {
        attachable = λ t c may. subst (λ (n : ℕ). IsAttachable n c) size (h.attachable t c ((s.stays t).no_more c may));
        left = λ t c may. subst (λ (n : ℕ). StandsInSome n target targets free c) size (h.left t c ((s.stays t).no_more c may));
        big = subst (λ (n : ℕ). 323584 ≤ n) size h.big;
        small = subst (λ (n : ℕ). n < 2 ^ 32) size h.small;
      }

  pub stays_closed : SameButFuse extent count burns tells image may_leave moment left_since broken did old new → ∥ IsClosed tells extent may_leave old free target targets ∥₁ → ∥ IsClosed tells extent may_leave new free target targets ∥₁
  stays_closed s closed = ∥∥₁_map closed (fused_closed s)
