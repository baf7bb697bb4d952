-- What was found stands in the pool, which keeps what its region kept.
use Rattle.std.proofs.Common.{◌≡◌, ℕ, ◌<◌, ◌≤◌, Bool, true, false, refl, sym, ap, ◌∙◌, subst}
use Rattle.std.specs.Prelude.{IsTrue}
use Rattle.base_outside.specs.Images.{Image}
use Rattle.pmem_alloc.specs.Blocks.{BlocksState, IsOpened as AreOpened}
use Rattle.pmem_undo.specs.Settled.{OnlyLooks}
use Rattle.pmem_undo.specs.Undo.{UndoState}
use Rattle.vos_pool_make.proofs.Held.{target_is}
use Rattle.vos_pool_make.specs.Attached.{CanBeHeld, IsAttached, IsFoundOf}
use Rattle.vos_pool_base.specs.Pool.{IsOpened, kept_by}
use Rattle.vos_pool_base.specs.vos_places.Tables.{Table}
use Rattle.vos_pool_base.specs.vos_standing.Standing.{Stand}
use Rattle.vos_pool_open.specs.vos_check_content.declared.content.ContentFound.{ContentFound}
use Rattle.vos_pool_open.specs.vos_check_content.Laws.{WhatIsFoundStands}
use Rattle.vos_pool_open.specs.vos_check_places.Fixed.{table_of}

kept_as : (tells : Bool) (target target' size size' : ℕ) (f g : Image) → target' ≡ target → size' ≡ size → (IsTrue tells → g ≡ f) → kept_by tells target' size' g ≡ kept_by tells target size f
kept_as false target target' size size' f g same long is = refl
kept_as true target target' size size' f g same long is = ap (λ (n : ℕ). kept_by true n size' g) same ∙ (ap (λ (n : ℕ). kept_by true target n g) long ∙ ap (λ (h : Image). kept_by true target size h) (is refl))

module _ {R : Type 0} (extent : R → ℕ) (tells : Bool) (count burns : R → ℕ) (image : R → Image) (may_leave : R → Image → Type 0) (moment : R → ℕ) (left_since : R → ℕ → Image → Type 0)
    (target : ℕ) (undo : UndoState R) (x : ContentFound) (b : BlocksState R) (t : Table) (held : CanBeHeld extent target undo x) (same : t ≡ table_of x.fixed) (opened : AreOpened extent count burns undo b)
    (looks : IsTrue tells → OnlyLooks (image undo.region) (image b.undo.region) (may_leave undo.region) (may_leave b.undo.region) (moment undo.region) (moment b.undo.region) (left_since undo.region) (left_since b.undo.region))
    (laws : WhatIsFoundStands) (big : 323584 ≤ extent undo.region) (bytes : IsTrue tells → (i : ℕ) → image undo.region i < 256) where
  header_target : t.header.target ≡ target
  header_target = ap (λ (z : Table). z.header.target) same ∙ target_is target (extent undo.region) (table_of x.fixed) held

  found_stands : IsTrue tells → (w : IsFoundOf extent image target undo x) → Stand target (extent b.undo.region) (image b.undo.region) t w.stored
  found_stands told w =
      subst (λ (n : ℕ). Stand target n (image b.undo.region) t w.stored) (sym opened.size)
      (subst (λ (f : Image). Stand target (extent undo.region) f t w.stored) (sym (looks told).image)
      (subst (λ (u : Table). Stand target (extent undo.region) (image undo.region) u w.stored) (sym same)
      (laws target (extent undo.region) (image undo.region) x big (bytes told) w)))

  pub opened_is : (IsTrue tells → IsFoundOf extent image target undo x) → IsOpened (extent b.undo.region) tells (image b.undo.region) b.undo.staged b.undo.stopped b.map b.lasting t
  opened_is found = record {
    unstaged = opened.staged;
    unchanged = sym opened.lasting;
    stands = λ told going. record { stored = (found told).stored; stands = subst (λ (n : ℕ). Stand n (extent b.undo.region) (image b.undo.region) t (found told).stored) (sym header_target) (found_stands told (found told)) };
  }

  pub attached_is : IsAttached tells extent count burns image may_leave target undo x (record { blocks = b; table = t })
  attached_is = record {
    table = same;
    target_is = header_target;
    going = opened.going.1;
    size = opened.size;
    later_faults = opened.later_faults;
    later_burns = opened.later_burns;
    kept = kept_as tells target t.header.target (extent undo.region) (extent b.undo.region) (image undo.region) (image b.undo.region) header_target opened.size (λ told. (looks told).image);
    stands = found_stands;
    read = λ told. (looks told).image;
    left = λ told. (looks told).crash;
  }
