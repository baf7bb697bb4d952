-- Bytes that are zero, piece by piece.
use Rattle.std.proofs.Common.{◌≡◌, ℕ, zero, suc, ◌+◌, ◌<◌, ◌≤◌, ◌&&◌, Bool, true, false, refl, sym, ap, ◌∙◌, arith, inl, inr}
use Rattle.std.specs.List.{list_all}
use Rattle.std.proofs.lemmas.Bool.{cases_lt}
use Rattle.std.proofs.lemmas.Bool.Decides.{nat_tests}
use Rattle.base_outside.specs.Images.{Image, bytes_at}
use Rattle.vos_check_region.specs.Blank.{is_zero}

first_zero : (b : ℕ) (t : Bool) → (is_zero b && t) ≡ true → b ≡ 0
first_zero b t h = grind (arith, nat_tests)

rest_zero : (b : ℕ) (t : Bool) → (is_zero b && t) ≡ true → t ≡ true
rest_zero b t h = by (is_zero b) t h
  where
    by : (s t : Bool) → (s && t) ≡ true → t ≡ true
    by true t h = h
    by false t h = absurd (let no : ⊥ = cc in no)

pub all_zero : (f : Image) (n at i : ℕ) → list_all is_zero (bytes_at f at n) ≡ true → at ≤ i → i < at + n → f i ≡ 0
unfolding bytes_at
all_zero f zero at i h low high = absurd (omega (arith, low, high))
all_zero f (suc n) at i h low high = elim (cases_lt at i) [
  | inl above ↦ all_zero f n (at + 1) i (rest_zero (f at) _ h) (omega (arith, above)) (omega (arith, high))
  | inr same ↦ let e : at ≡ i = omega (arith, low, same) in ap f (sym e) ∙ first_zero (f at) _ h
]

pub some_zero : (f : Image) (n at : ℕ) → ((i : ℕ) → at ≤ i → i < at + n → f i ≡ 0) → list_all is_zero (bytes_at f at n) ≡ true
unfolding bytes_at
some_zero f zero at h = refl
some_zero f (suc n) at h =
    let e = h at (omega arith) (omega arith) in
    rw e (some_zero f n (at + 1) (λ i low high. h i (omega (arith, low)) (omega (arith, high))))
