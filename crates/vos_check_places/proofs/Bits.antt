-- The map of blocks bit by bit, and byte by byte.
use Rattle.std.proofs.Common.{◌≡◌, ◌≢◌, ℕ, zero, suc, ◌+◌, ◌*◌, ◌/◌, ◌%◌, ◌≤◌, ◌<◌, ◌==◌, ◌&&◌, ◌||◌, not, nat_le, nat_lt, Bool, true, false, List, Ok, Err, get_or, refl, sym, ap, ◌∙◌, arith, inl, inr}
use Rattle.std.specs.Prelude.{min}
use Rattle.std.specs.Int.{bit_at}
use Rattle.std.proofs.lemmas.Bool.Decides.{eqb_tells}
use Rattle.std.proofs.lemmas.Nat.Bits.{bit_at-lt}
use Rattle.base_outside.specs.ImageLaws.{get_or-bytes_at}
use Rattle.base_outside.specs.Images.{Image, bytes_at}
use Rattle.vos_image.specs.Content.{Content, is_taken}
use Rattle.vos_image.specs.Places.{are_bits_right, is_bit_right, read_map}
use Rattle.vos_image.specs.Steps.{◌>>=◌, rule}

pub mapped : (f : Image) (map : List ℕ) (k : ℕ) → bytes_at f 307200 16384 ≡ map → k < 16384 → f (307200 + k) ≡ get_or map k 0
mapped f map k is below = sym (get_or-bytes_at f 307200 16384 k below) ∙ ap (λ (z : List ℕ). get_or z k 0) is

-- ---- blocks that are taken

one_or_none : (n : ℕ) → n < 2 → not (n == 0) ≡ (n == 1)
one_or_none zero h = refl
one_or_none (suc zero) h = refl
one_or_none (suc (suc n)) h = absurd (omega arith)

taken_by : (low high : Bool) (n : ℕ) → n < 2 → (low && (high && not (n == 0))) ≡ (low && (high && (n == 1)))
taken_by low high n h = ap (λ (z : Bool). low && (high && z)) (one_or_none n h)

pub taken_is : (c : Content) (b byte : ℕ) → c.bytes (307200 + b / 8) ≡ byte → is_taken c b ≡ (nat_le 1264 b && (nat_lt b (min (c.size / 256) 131072) && (bit_at byte (b % 8) == 1)))
unfolding is_taken
taken_is c b byte is = rw is (taken_by (nat_le 1264 b) (nat_lt b (min (c.size / 256) 131072)) (bit_at byte (b % 8)) (bit_at-lt byte (b % 8)))

-- ---- bits

pub bit_is : (c : Content) (at bit q byte end : ℕ) → q ≡ 8 * at + bit → bit < 8 → c.bytes (307200 + at) ≡ byte → min (c.size / 256) 131072 ≡ end → is_bit_right c q ≡ ((nat_le 1264 q && nat_lt q end) || (bit_at byte bit == 1))
bit_is c at bit q byte end is below there size =
    let byte_at : q / 8 ≡ at = omega arith in
    let bit_of : q % 8 ≡ bit = omega arith in
    rw (size, byte_at, bit_of, there) refl

pub bits_hold : (c : Content) (b n : ℕ) → ((q : ℕ) → b ≤ q → q < b + n → is_bit_right c q ≡ true) → are_bits_right c b n ≡ true
bits_hold c b zero h = refl
bits_hold c b (suc n) h =
    let e : is_bit_right c b ≡ true = h b (omega arith) (omega arith) in
    let rest = bits_hold c (b + 1) n (λ q low high. h q (omega arith) (omega arith)) in
    ap (λ (z : Bool). z && are_bits_right c (b + 1) n) e ∙ rest

pub bits_fail : (c : Content) (b n q : ℕ) → b ≤ q → q < b + n → is_bit_right c q ≡ false → are_bits_right c b n ≡ false
bits_fail c b zero q low high wrong = absurd (omega arith)
bits_fail c b (suc n) q low high wrong =
    elim (eqb_tells b q) [
      | inl a ↦ let same = a.1 in let e : is_bit_right c b ≡ false = ap (is_bit_right c) same ∙ wrong in ap (λ (z : Bool). z && are_bits_right c (b + 1) n) e
      | inr a ↦ let other : b ≢ q = a.1 in none (is_bit_right c b) (are_bits_right c (b + 1) n) (bits_fail c (b + 1) n q (omega arith) (omega arith) wrong)
    ]
  where
    none : (s t : Bool) → t ≡ false → (s && t) ≡ false
    none true t h = h
    none false t h = refl

-- ---- bytes

pub map_holds : (c : Content) (j n : ℕ) (led : List ℕ) → ((k : ℕ) → j ≤ k → k < j + n → are_bits_right c (8 * k) 8 ≡ true) → read_map c j n led ≡ Ok (tt, led)
unfolding ◌>>=◌ rule
map_holds c j zero led h = refl
map_holds c j (suc n) led h =
    let e : are_bits_right c (8 * j) 8 ≡ true = h j (omega arith) (omega arith) in
    rw e (map_holds c (j + 1) n led (λ k low high. h k (omega arith) (omega arith)))

pub map_fails : (c : Content) (j n i : ℕ) (led : List ℕ) → j ≤ i → i < j + n → ((k : ℕ) → j ≤ k → k < i → are_bits_right c (8 * k) 8 ≡ true) → are_bits_right c (8 * i) 8 ≡ false → read_map c j n led ≡ Err (307200 + i)
unfolding ◌>>=◌ rule
map_fails c j zero i led low high h wrong = absurd (omega arith)
map_fails c j (suc n) i led low high h wrong =
    elim (eqb_tells j i) [
      | inl a ↦ let same = a.1 in let e : are_bits_right c (8 * j) 8 ≡ false = ap (λ (z : ℕ). are_bits_right c (8 * z) 8) same ∙ wrong in rw e (ap (λ (z : ℕ). Err (307200 + z)) same)
      | inr a ↦
          let other : j ≢ i = a.1 in
          let e : are_bits_right c (8 * j) 8 ≡ true = h j (omega arith) (omega arith) in
          rw e (map_fails c (j + 1) n i led (omega arith) (omega arith) (λ k l m. h k (omega arith) m) wrong)
    ]
