-- What ranges written over an image, and written back, leave at a place.
use Rattle.std.proofs.Common.{◌≡◌, ℕ, ◌+◌, ◌-◌, ◌≤◌, ◌<◌, true, false, cond, List, [], ◌∷◌, length, refl, sym, ap, ◌∙◌, arith}
use Rattle.std.proofs.lemmas.Bool.Decides.{nat_tests}
use Rattle.base_outside.specs.Images.{Image, Range, lies_in, lies_in_some, over, all_over, bytes_at}
use Rattle.base_outside.specs.ImageLaws.{over_outside, over_inside, length-bytes_at, get_or-bytes_at}
use Rattle.pmem_undo.specs.Settled.{rolled}
use Rattle.pmem_undo.specs.Log.{old_range, old_ranges}

pub over_at : (r : Range) (f g : Image) (i : ℕ) → (lies_in i r ≡ false → f i ≡ g i) → over r f i ≡ over r g i
over_at r f g i same =
    elim (lies_in i r) as (λ b. lies_in i r ≡ b → over r f i ≡ over r g i) [
      | true ↦ λ e. over_inside r f i e ∙ sym (over_inside r g i e)
      | false ↦ λ e. over_outside r f i e ∙ (same e ∙ sym (over_outside r g i e))
    ] refl

pub all_over_at : (rs : List Range) (f g : Image) (i : ℕ) → f i ≡ g i → all_over rs f i ≡ all_over rs g i
all_over_at [] f g i e = e
all_over_at (r ∷ rs) f g i e = all_over_at rs (over r f) (over r g) i (over_at r f g i (λ _. e))

pub all_over_outside : (rs : List Range) (f : Image) (i : ℕ) → lies_in_some i rs ≡ false → all_over rs f i ≡ f i
all_over_outside [] f i h = refl
all_over_outside (r ∷ rs) f i h =
    elim (lies_in i r) as (λ b. lies_in i r ≡ b → cond b true (lies_in_some i rs) ≡ false → all_over rs (over r f) i ≡ f i) [
      | true ↦ λ e no. absurd (cc)
      | false ↦ λ e no. all_over_outside rs (over r f) i no ∙ over_outside r f i e
    ] refl h

pub rolled_outside : (rs : List Range) (f : Image) (i : ℕ) → lies_in_some i rs ≡ false → rolled rs f i ≡ f i
rolled_outside [] f i h = refl
rolled_outside (r ∷ rs) f i h =
    elim (lies_in i r) as (λ b. lies_in i r ≡ b → cond b true (lies_in_some i rs) ≡ false → over r (rolled rs f) i ≡ f i) [
      | true ↦ λ e no. absurd (cc)
      | false ↦ λ e no. over_outside r (rolled rs f) i e ∙ rolled_outside rs f i no
    ] refl h

-- what is written back does not depend on what stood in the ranges
pub rolled_at : (rs : List Range) (f g : Image) (i : ℕ) → (lies_in_some i rs ≡ false → f i ≡ g i) → rolled rs f i ≡ rolled rs g i
rolled_at [] f g i same = same refl
rolled_at (r ∷ rs) f g i same =
    over_at r (rolled rs f) (rolled rs g) i (λ e. rolled_at rs f g i (λ no. same (ap (λ b. cond b true (lies_in_some i rs)) e ∙ no)))

-- a range of old bytes lies where the range itself does
pub old_lies : (f : Image) (r : Range) (i : ℕ) → lies_in i (old_range f r) ≡ lies_in i r
old_lies f r i = rw length-bytes_at refl

pub old_ranges_lie : (f : Image) (rs : List Range) (i : ℕ) → lies_in_some i (old_ranges f rs) ≡ lies_in_some i rs
old_ranges_lie f [] i = refl
old_ranges_lie f (r ∷ rs) i = let a = old_lies f r i in let b = old_ranges_lie f rs i in rw (a, b) refl

over_old : (f g : Image) (r : Range) (i : ℕ) → lies_in i (old_range f r) ≡ true → over (old_range f r) g i ≡ f i
over_old f g r i e =
    let low : r.place ≤ i = grind (arith, nat_tests) in
    let high : i < r.place + length (bytes_at f r.place (length r.bytes)) = grind (arith, nat_tests) in
    let long = length-bytes_at f r.place (length r.bytes) in
    let place : r.place + (i - r.place) ≡ i = omega arith in
    over_inside (old_range f r) g i e ∙ (get_or-bytes_at f r.place (length r.bytes) (i - r.place) (omega arith) ∙ ap f place)

-- old bytes that are written back give the image that they were read from
pub rolled_old : (rs : List Range) (f c : Image) (i : ℕ) → (lies_in_some i rs ≡ false → c i ≡ f i) → rolled (old_ranges f rs) c i ≡ f i
rolled_old [] f c i same = same refl
rolled_old (r ∷ rs) f c i same =
    elim (lies_in i (old_range f r)) as (λ b. lies_in i (old_range f r) ≡ b → over (old_range f r) (rolled (old_ranges f rs) c) i ≡ f i) [
      | true ↦ λ e. over_old f (rolled (old_ranges f rs) c) r i e
      | false ↦ λ e. over_outside (old_range f r) (rolled (old_ranges f rs) c) i e ∙ rolled_old rs f c i (λ no. same (ap (λ b. cond b true (lies_in_some i rs)) (sym (old_lies f r i) ∙ e) ∙ no))
    ] refl
