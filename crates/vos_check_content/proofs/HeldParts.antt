-- An image that has bytes that were read, in its fixed places and its map.
use Rattle.std.proofs.Common.{◌≡◌, ℕ, ◌+◌, ◌-◌, ◌<◌, cond, Bool, true, false, List, length, refl, sym, ap, ◌∙◌, arith}
use Rattle.std.specs.Prelude.{nat_lt, slice_index}
use Rattle.std.proofs.lemmas.Bool.Decides.{nat_tests}
use Rattle.base_outside.specs.Images.{Image, bytes_at}
use Rattle.base_outside.specs.ImageLaws.{known_bytes_at}
use Rattle.vos_image.specs.Laws.{IsOfBytes}
use Rattle.vos_check_places.specs.Shown.{Shows}

abbrev pub of_parts : List ℕ → List ℕ → Image
of_parts fixed map i = cond (nat_lt i 307200) (slice_index fixed i) (slice_index map (i - 307200))

low_part : (fixed map : List ℕ) (i : ℕ) → i < 307200 → of_parts fixed map i ≡ slice_index fixed i
low_part fixed map i low = let t : nat_lt i 307200 ≡ true = grind (arith, nat_tests) in rw t refl

high_part : (fixed map : List ℕ) (k : ℕ) → of_parts fixed map (307200 + k) ≡ slice_index map k
high_part fixed map k =
    let t : nat_lt (307200 + k) 307200 ≡ false = grind (arith, nat_tests) in
    let e : 307200 + k - 307200 ≡ k = omega arith in
    rw (t, e) refl

pub parts_shown : (fixed map : List ℕ) → length map ≡ 16384 → Shows (of_parts fixed map) fixed map
parts_shown fixed map many = record {
  low = λ i from to. low_part fixed map i (omega (arith, to));
  high = λ i from to. low_part fixed map i (omega (arith, to));
  blocks = sym (ap (bytes_at (of_parts fixed map) 307200) many) ∙ known_bytes_at (of_parts fixed map) 307200 map (λ k low. high_part fixed map k);
}

either_low : (t : Bool) (m n : ℕ) → m < 256 → n < 256 → cond t m n < 256
either_low true m n a b = a
either_low false m n a b = b

pub parts_bytes : (fixed map : List ℕ) → ((k : ℕ) → slice_index fixed k < 256) → ((k : ℕ) → slice_index map k < 256) → IsOfBytes (of_parts fixed map)
parts_bytes fixed map a b i = either_low (nat_lt i 307200) _ _ (a i) (b (i - 307200))
