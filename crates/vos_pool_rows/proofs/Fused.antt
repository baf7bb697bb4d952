-- What holds of a pool after its region's fuse was set.
use Rattle.std.proofs.Common.{◌≡◌, ℕ, ◌<◌, ◌≤◌, ◌^◌, Bool, sym, ◌∙◌, ap, subst}
use Rattle.std.specs.Prelude.{Some}
use Rattle.std.proofs.Math.Logic.{∥∥₁_map}
use Rattle.base_outside.specs.Images.{Call, Image, SameButFuse}
use Rattle.daos_model.specs.declared.durable.Durable.{Durable}
use Rattle.pmem_undo.specs.Layout.{gate}
use Rattle.vos_pool_base.specs.Pool.{OpenedState, kept_by}
use Rattle.vos_pool_base.specs.Tidy.{IsLeftStanding, IsTidy}
use Rattle.vos_pool_held.specs.Held.{IsHeld}

abbrev pub with_region : {R : Type 0} → OpenedState R → R → OpenedState R
with_region p r = record p { blocks = record p.blocks { undo = record p.blocks.undo { region = r } } }

module _ {R : Type 0} (extent count burns : R → ℕ) (tells : Bool) (image : R → Image) (may_leave : R → Image → Type 0) (moment : R → ℕ) (left_since : R → ℕ → Image → Type 0) (broken : R → Bool) (did : R → Call → R → Type 0) (p : OpenedState R) (r : R) (memory : Durable) (free floor target targets : ℕ) where
  fused_held : SameButFuse extent count burns tells image may_leave moment left_since broken did p.blocks.undo.region r → IsHeld tells extent image may_leave p memory free floor target targets → IsHeld tells extent image may_leave (with_region p r) memory free floor target targets
  fused_held s h =
      let size : extent p.blocks.undo.region ≡ extent r = sym s.extent_as in record {
        kept = λ t run.
            subst (λ (f : Image). kept_by tells p.table.header.target (extent r) f ≡ Some memory) (sym (s.stays t).same_image)
            (subst (λ (n : ℕ). kept_by tells p.table.header.target n (image p.blocks.undo.region) ≡ Some memory) size (h.kept t run));
        tidy = λ t run.
            subst (λ (f : Image). IsTidy (extent r) f p.table) (sym (s.stays t).same_image)
            (subst (λ (n : ℕ). IsTidy n (image p.blocks.undo.region) p.table) size (h.tidy t run));
        rests = λ t run. record {
          only = λ c may i. (h.rests t run).only c ((s.stays t).no_more c may) i ∙ ap (λ (f : Image). f i) (sym (s.stays t).same_image);
          closed = ap (λ (f : Image). f gate) (s.stays t).same_image ∙ (h.rests t run).closed;
        };
        free_is = h.free_is;
        left = λ t c may. subst (λ (n : ℕ). IsLeftStanding n p.table.header.target p.table.header.targets p.table.header.layout free c) size (h.left t c ((s.stays t).no_more c may));
        covered = h.covered;
        target_is = h.target_is;
        targets_are = h.targets_are;
        big = subst (λ (n : ℕ). 323584 ≤ n) size h.big;
        small = subst (λ (n : ℕ). n < 2 ^ 32) size h.small;
        named = h.named;
      }

  pub fused_holds : (q : OpenedState R) → q ≡ with_region p r → SameButFuse extent count burns tells image may_leave moment left_since broken did p.blocks.undo.region r → ∥ IsHeld tells extent image may_leave p memory free floor target targets ∥₁ → ∥ IsHeld tells extent image may_leave q memory free floor target targets ∥₁
  fused_holds q is s held = subst (λ (w : OpenedState R). ∥ IsHeld tells extent image may_leave w memory free floor target targets ∥₁) (sym is) (∥∥₁_map held (fused_held s))
