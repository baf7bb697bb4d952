-- Zeros over which a pool's first bytes were committed are a fresh content.
use Rattle.std.proofs.Common.{◌≡◌, ℕ, ◌≤◌, ◌<◌, nat_lt, cond, Bool, true, false, length, refl, sym, ap, ◌∙◌, subst, arith, inl, inr}
use Rattle.std.specs.Prelude.{◌⊎◌, IsTrue}
use Rattle.std.proofs.lemmas.Bool.Decides.{nat_tests}
use Rattle.base_outside.specs.ImageLaws.{length-bytes_at, over_outside}
use Rattle.base_outside.specs.Images.{Image, Range, all_over, lies_in, over}
use Rattle.pmem_undo.specs.Layout.{SameContent, gate, is_content}
use Rattle.pmem_undo.specs.Opening.{IsBegun}
use Rattle.pmem_undo.specs.Settled.{IsBeforeOrAfter, StandsFor, settled}
use Rattle.pmem_undo.specs.Undo.{IsUndo, UndoState}
use Rattle.vos_pool_open.specs.vos_check_content.Region.{region_content}
use Rattle.vos_check_region.specs.Blank.{IsBlank}
use Rattle.vos_commits.specs.Kept.{content_of}
use Rattle.vos_fresh.specs.Fresh.{IsFresh, header_bytes, header_range, map_byte, map_bytes, map_range}
use Rattle.vos_pool_make.specs.Format.{IsFormatted, LeavesFormatted, fresh_ranges}

pub long_map : (size : ℕ) → length (map_bytes size) ≡ 16384
unfolding map_bytes
long_map size = length-bytes_at (map_byte size) 0 16384

long_header : (size target targets : ℕ) → length (header_bytes size target targets) ≡ 32
unfolding header_bytes
long_header size target targets = refl

-- a region with a closed gate is as it is read
pub closed_stays : (size : ℕ) (f : Image) → f gate ≡ 0 → settled size f ≡ f
unfolding settled
closed_stays size f closed = rw closed refl

pub blank_stays : (size : ℕ) (f : Image) → 323584 ≤ size → IsBlank size f → settled size f ≡ f
blank_stays size f big blank = closed_stays size f (blank gate (omega (arith, big)))

-- beside both ranges an image stays
beside : (size target targets : ℕ) (z : Image) (i : ℕ) → 32 ≤ i → (i < 307200) ⊎ (323584 ≤ i) → all_over (fresh_ranges size target targets) z i ≡ z i
beside size target targets z i low where_it_is =
    let h = long_header size target targets in
    let m = long_map size in
    over_outside (map_range size) (over (header_range size target targets) z) i (outside_map where_it_is m)
    ∙ over_outside (header_range size target targets) z i (grind (arith, nat_tests))
  where
    outside_map : (i < 307200) ⊎ (323584 ≤ i) → length (map_bytes size) ≡ 16384 → lies_in i (map_range size) ≡ false
    outside_map (inl before) m = grind (arith, nat_tests)
    outside_map (inr behind) m = grind (arith, nat_tests)

-- what is over an image goes by what it is there
over_as : (r : Range) (f g : Image) (i : ℕ) → f i ≡ g i → over r f i ≡ over r g i
unfolding over
over_as r f g i same = rw same refl

all_as : (size target targets : ℕ) (f g : Image) (i : ℕ) → f i ≡ g i → all_over (fresh_ranges size target targets) f i ≡ all_over (fresh_ranges size target targets) g i
all_as size target targets f g i same =
    let h = header_range size target targets in
    over_as (map_range size) (over h f) (over h g) i (over_as h f g i same)

low_beside : (i : ℕ) → is_content i ≡ false → (32 ≤ i) × (i < 307200)
low_beside i is = (grind (arith, nat_tests), grind (arith, nat_tests))

pub fresh_is : (size target targets : ℕ) (f g : Image) → 323584 ≤ size → IsBlank size f → SameContent g (all_over (fresh_ranges size target targets) f) → IsFresh size target targets (region_content size g)
unfolding region_content content_of
fresh_is size target targets f g big blank same i = by (nat_lt i size) refl (is_content i) refl
  where
    by : (a : Bool) → nat_lt i size ≡ a → (b : Bool) → is_content i ≡ b → cond a (cond b (g i) 0) 0 ≡ all_over (fresh_ranges size target targets) (λ j. 0) i
    by true inside true is = same i is ∙ all_as size target targets f (λ j. 0) i (blank i (grind (arith, nat_tests)))
    by true inside false is = let at = low_beside i is in sym (beside size target targets (λ j. 0) i at.0 (inl at.1))
    by false out b is = let far : 323584 ≤ i = grind (arith, nat_tests) in sym (beside size target targets (λ j. 0) i (omega (arith, far)) (inr far))

-- ---- what may be left

-- before the commit it was at rest, so what may be left then stands for its zeros
pub rest_stands : (size : ℕ) (f c : Image) → f gate ≡ 0 → ((i : ℕ) → c i ≡ f i) → StandsFor size f c
rest_stands size f c closed same =
    let shut : c gate ≡ 0 = same gate ∙ closed in
    record {
      attachable = λ opened. absurd (opened shut);
      content = λ i is. ap (λ (z : Image). z i) (closed_stays size c shut) ∙ same i;
    }

module _ {R : Type 0} (extent count burns : R → ℕ) (tells : Bool) (image : R → Image) (may_leave : R → Image → Type 0) (target targets : ℕ) (region : R) (big : 323584 ≤ extent region) (blank : IsTrue tells → IsBlank (extent region) (image region)) where
  pub never_begun : (back : R) → (IsTrue tells → (c : Image) → may_leave back c → may_leave region c ⊎ StandsFor (extent region) (settled (extent region) (image region)) c) → IsTrue tells → LeavesFormatted extent image may_leave target targets region back
  never_begun back left told c may = elim (left told c may) [
    | inl before ↦ inl before
    | inr stands ↦ inr (inl (subst (λ (f : Image). StandsFor (extent region) f c) (blank_stays (extent region) (image region) big (blank told)) stands))
  ]

  module _ (undo : UndoState R) (begun : IsBegun extent count burns region undo) (attached : IsTrue tells → image undo.region ≡ settled (extent region) (image region)) where
    image_kept : IsTrue tells → image undo.region ≡ image region
    image_kept told = attached told ∙ blank_stays (extent region) (image region) big (blank told)

    pub formatted_is : (now : UndoState R) (back : R) → back ≡ now.region → extent now.region ≡ extent undo.region → count undo.region ≤ count now.region → burns undo.region ≤ burns now.region
        → (IsTrue tells → SameContent (image now.region) (all_over (fresh_ranges (extent undo.region) target targets) (image undo.region))) → now.stopped ≡ false
        → IsUndo (extent now.region) tells (image now.region) (may_leave now.region) now.staged now.stopped → IsFormatted tells extent count burns image may_leave target targets region back
    formatted_is now back is same faults burned committed going holds =
        let size : extent now.region ≡ extent region = same ∙ begun.size in
        let content : IsTrue tells → SameContent (image now.region) (all_over (fresh_ranges (extent region) target targets) (image region)) = λ told.
        subst (λ (f : Image). SameContent (image now.region) (all_over (fresh_ranges (extent region) target targets) f)) (image_kept told)
        (subst (λ (n : ℕ). SameContent (image now.region) (all_over (fresh_ranges n target targets) (image undo.region))) begun.size (committed told)) in
        subst (IsFormatted tells extent count burns image may_leave target targets region) (sym is) (record {
          size = size;
          later_faults = (let a = begun.later_faults in omega (arith, a, faults));
          later_burns = (let a = begun.later_burns in omega (arith, a, burned));
          content = content;
          fresh = λ told. fresh_is (extent region) target targets (image region) (image now.region) big (blank told) (content told);
          rest = λ told. holds.rest told going;
        })

    pub was_left : IsUndo (extent undo.region) tells (image undo.region) (may_leave undo.region) undo.staged undo.stopped → (now : UndoState R) (back : R) → back ≡ now.region
        → (IsTrue tells → (c : Image) → may_leave now.region c → may_leave undo.region c ⊎ IsBeforeOrAfter (extent undo.region) (image undo.region) (fresh_ranges (extent undo.region) target targets) c)
        → IsTrue tells → LeavesFormatted extent image may_leave target targets region back
    was_left holds now back is left told c may = elim (left told c (subst (λ (r : R). may_leave r c) is may)) [
      | inl before ↦ inr (inl (subst (λ (f : Image). StandsFor (extent region) f c) (image_kept told) (rest_stands (extent region) (image undo.region) c (holds.rest told begun.going).closed (λ i. (holds.rest told begun.going).only c before i))))
      | inr either ↦ inr (subst (λ (f : Image). IsBeforeOrAfter (extent region) f (fresh_ranges (extent region) target targets) c) (image_kept told) (subst (λ (n : ℕ). IsBeforeOrAfter n (image undo.region) (fresh_ranges n target targets) c) begun.size either))
    ]
