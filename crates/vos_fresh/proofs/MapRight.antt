-- A fresh map has the bits set that have to be.
use Rattle.std.proofs.Common.{◌≡◌, ℕ, zero, suc, ◌+◌, ◌*◌, ◌/◌, ◌%◌, ◌≤◌, ◌<◌, ◌==◌, ◌&&◌, ◌||◌, not, Bool, true, false, List, Ok, nat_le, nat_lt, refl, ap, subst, ◌∙◌, arith}
use Rattle.std.specs.Prelude.{min, if◌then◌else◌}
use Rattle.std.specs.Int.{bit_at}
use Rattle.std.proofs.lemmas.Bool.Decides.{nat_tests}
use Rattle.vos_image.specs.Content.{Content, is_taken}
use Rattle.vos_image.specs.Places.{are_bits_right, is_bit_right, read_map}
use Rattle.vos_places.proofs.Steps.{rule_goes}
use Rattle.vos_fresh.specs.Fresh.{map_byte}

all_set : (i : ℕ) → i < 8 → (bit_at 255 i == 1) ≡ true
all_set zero h = refl
all_set (suc zero) h = refl
all_set (suc (suc zero)) h = refl
all_set (suc (suc (suc zero))) h = refl
all_set (suc (suc (suc (suc zero)))) h = refl
all_set (suc (suc (suc (suc (suc zero))))) h = refl
all_set (suc (suc (suc (suc (suc (suc zero)))))) h = refl
all_set (suc (suc (suc (suc (suc (suc (suc zero))))))) h = refl
all_set (suc (suc (suc (suc (suc (suc (suc (suc n)))))))) h = absurd (omega arith)

or_right_true : (a b : Bool) → b ≡ true → (a || b) ≡ true
or_right_true true b h = refl
or_right_true false b h = h

or_left_true : (a b : Bool) → a ≡ true → (a || b) ≡ true
or_left_true true b h = refl
or_left_true false b h = absurd (cc)

both_true : (a b : Bool) → a ≡ true → b ≡ true → (a && b) ≡ true
both_true a b h k = rw (h, k) refl

first_true : (a b : Bool) → (a && b) ≡ true → a ≡ true
first_true true b h = refl
first_true false b h = absurd (cc)

then_true : (a b : Bool) → (a && b) ≡ true → b ≡ true
then_true true b h = h
then_true false b h = absurd (cc)

-- a block lies in the region where the blocks of its byte do
in_region : (size j b : ℕ) → j < size / 2048 → j < 16384 → b < 8 * j + 8 → nat_lt b (min (size / 256) 131072) ≡ true
in_region size j b low small below =
    let many : b < size / 256 = omega arith in
    let few : b < 131072 = omega arith in
    grind (arith, nat_tests)

bit_right : (c : Content) (size j i b : ℕ) → c.size ≡ size → c.bytes (307200 + j) ≡ map_byte size j → j < 16384 → i < 8 → b ≡ 8 * j + i → is_bit_right c b ≡ true
bit_right c size j i b is byte small low at = by (nat_le 158 j && nat_lt j (size / 2048)) refl
  where
    eighth : b / 8 ≡ j
    eighth = omega arith

    rest : b % 8 ≡ i
    rest = omega arith

    here : c.bytes (307200 + b / 8) ≡ map_byte size j
    here = ap (λ n. c.bytes (307200 + n)) eighth ∙ byte

    by : (t : Bool) → (nat_le 158 j && nat_lt j (size / 2048)) ≡ t → is_bit_right c b ≡ true
    by true e =
        let high : 158 ≤ j = let h : nat_le 158 j ≡ true = first_true (nat_le 158 j) (nat_lt j (size / 2048)) e in grind (arith, nat_tests) in
        let within : j < size / 2048 = let h : nat_lt j (size / 2048) ≡ true = then_true (nat_le 158 j) (nat_lt j (size / 2048)) e in grind (arith, nat_tests) in
        let above : nat_le 1264 b ≡ true = let h : 1264 ≤ b = omega arith in grind (arith, nat_tests) in
        let below : nat_lt b (min (c.size / 256) 131072) ≡ true = ap (λ n. nat_lt b (min (n / 256) 131072)) is ∙ in_region size j b within small (omega arith) in
        or_left_true (nat_le 1264 b && nat_lt b (min (c.size / 256) 131072)) (bit_at (c.bytes (307200 + b / 8)) (b % 8) == 1) (both_true (nat_le 1264 b) (nat_lt b (min (c.size / 256) 131072)) above below)
    by false e =
        let full : c.bytes (307200 + b / 8) ≡ 255 = here ∙ ap (λ (t : Bool). if t then 0 else 255) e in
        let set : (bit_at (c.bytes (307200 + b / 8)) (b % 8) == 1) ≡ true = ap (λ n. bit_at n (b % 8) == 1) full ∙ (ap (λ n. bit_at 255 n == 1) rest ∙ all_set i low) in
        or_right_true (nat_le 1264 b && nat_lt b (min (c.size / 256) 131072)) (bit_at (c.bytes (307200 + b / 8)) (b % 8) == 1) set

bits_right : (c : Content) (size j i b k : ℕ) → c.size ≡ size → c.bytes (307200 + j) ≡ map_byte size j → j < 16384 → b ≡ 8 * j + i → i + k ≤ 8 → are_bits_right c b k ≡ true
bits_right c size j i b zero is byte small at fits = refl
bits_right c size j i b (suc k) is byte small at fits =
    both_true (is_bit_right c b) (are_bits_right c (b + 1) k)
    (bit_right c size j i b is byte small (omega arith) at)
    (bits_right c size j (i + 1) (b + 1) k is byte small (omega arith) (omega arith))

pub map_right : (c : Content) (size j k : ℕ) (led : List ℕ) → c.size ≡ size → ((i : ℕ) → i < 16384 → c.bytes (307200 + i) ≡ map_byte size i) → j + k ≤ 16384 → read_map c j k led ≡ Ok (tt, led)
map_right c size j zero led is bytes fits = refl
map_right c size j (suc k) led is bytes fits =
    rule_goes (307200 + j) (are_bits_right c (8 * j) 8) (λ _. read_map c (j + 1) k) led (tt, led)
    (bits_right c size j 0 (8 * j) 8 is (bytes j (omega arith)) (omega arith) (omega arith) (omega arith))
    (map_right c size (j + 1) k led is bytes (omega arith))

-- ---- and no block is taken

none_set : (i : ℕ) → i < 8 → (bit_at 0 i == 0) ≡ true
none_set zero h = refl
none_set (suc zero) h = refl
none_set (suc (suc zero)) h = refl
none_set (suc (suc (suc zero))) h = refl
none_set (suc (suc (suc (suc zero)))) h = refl
none_set (suc (suc (suc (suc (suc zero))))) h = refl
none_set (suc (suc (suc (suc (suc (suc zero)))))) h = refl
none_set (suc (suc (suc (suc (suc (suc (suc zero))))))) h = refl
none_set (suc (suc (suc (suc (suc (suc (suc (suc n)))))))) h = absurd (omega arith)

below_least : (b m n : ℕ) → nat_lt b (min m n) ≡ true → (b < m) × (b < n)
below_least b m n h = (grind (arith, nat_tests), grind (arith, nat_tests))

pub none_taken : (c : Content) (size b : ℕ) → c.size ≡ size → size % 2048 ≡ 0 → ((i : ℕ) → i < 16384 → c.bytes (307200 + i) ≡ map_byte size i) → is_taken c b ≡ false
unfolding is_taken
none_taken c size b is whole bytes = by (nat_le 1264 b) (nat_lt b (min (c.size / 256) 131072)) refl refl
  where
    free : nat_le 1264 b ≡ true → nat_lt b (min (c.size / 256) 131072) ≡ true → not (bit_at (c.bytes (307200 + b / 8)) (b % 8) == 0) ≡ false
    free above below =
        let low : 1264 ≤ b = grind (arith, nat_tests) in
        let in_size = below_least b (c.size / 256) 131072 below in
        let within : b < size / 256 = subst (λ n. b < n / 256) is in_size.0 in
        let j_low : 158 ≤ b / 8 = omega arith in
        let j_high : b / 8 < size / 2048 = omega (arith, within, whole) in
        let j_small : b / 8 < 16384 = omega (arith, in_size.1) in
        let first : nat_le 158 (b / 8) ≡ true = grind (arith, nat_tests) in
        let second : nat_lt (b / 8) (size / 2048) ≡ true = grind (arith, nat_tests) in
        let byte : c.bytes (307200 + b / 8) ≡ 0 = bytes (b / 8) j_small ∙ ap (λ (t : Bool). if t then 0 else 255) (both_true (nat_le 158 (b / 8)) (nat_lt (b / 8) (size / 2048)) first second) in
        ap (λ n. not (bit_at n (b % 8) == 0)) byte ∙ ap not (none_set (b % 8) (omega arith))

    by : (s t : Bool) → nat_le 1264 b ≡ s → nat_lt b (min (c.size / 256) 131072) ≡ t → (nat_le 1264 b && (nat_lt b (min (c.size / 256) 131072) && not (bit_at (c.bytes (307200 + b / 8)) (b % 8) == 0))) ≡ false
    by true true e f = rw (e, f) (free e f)
    by true false e f = rw (e, f) refl
    by false t e f = rw e refl
