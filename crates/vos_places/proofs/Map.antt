-- The map of blocks is as right as before where its bytes and the region's size are as before.
use Rattle.std.proofs.Common.{◌≡◌, ℕ, zero, suc, ◌+◌, ◌*◌, ◌/◌, ◌%◌, ◌≤◌, ◌==◌, ◌&&◌, ◌||◌, not, nat_le, nat_lt, Bool, refl, ap, ◌∙◌, arith}
use Rattle.std.specs.Prelude.{min}
use Rattle.std.specs.Int.{bit_at}
use Rattle.vos_image.specs.Content.{Content, is_taken}
use Rattle.vos_image.specs.Places.{are_bits_right, is_bit_right, read_map}
use Rattle.vos_image.specs.Steps.{Step, ◌>>=◌, rule}

-- from the map on the bytes are as before, and so is the size
pub record SameMap (c d : Content) : Type 0 where
  pub bytes : (i : ℕ) → 307200 ≤ i → d.bytes i ≡ c.bytes i
  pub size : d.size ≡ c.size

pub taken_as : (c d : Content) (b : ℕ) → SameMap c d → is_taken d b ≡ is_taken c b
unfolding is_taken
taken_as c d b s =
    let byte : d.bytes (307200 + b / 8) ≡ c.bytes (307200 + b / 8) = s.bytes (307200 + b / 8) (omega arith) in
    ap (λ (n : ℕ). nat_le 1264 b && (nat_lt b (min (n / 256) 131072) && not (bit_at (d.bytes (307200 + b / 8)) (b % 8) == 0))) s.size
    ∙ ap (λ (x : ℕ). nat_le 1264 b && (nat_lt b (min (c.size / 256) 131072) && not (bit_at x (b % 8) == 0))) byte

bit_as : (c d : Content) (b : ℕ) → SameMap c d → is_bit_right d b ≡ is_bit_right c b
bit_as c d b s =
    let byte : d.bytes (307200 + b / 8) ≡ c.bytes (307200 + b / 8) = s.bytes (307200 + b / 8) (omega arith) in
    ap (λ (n : ℕ). (nat_le 1264 b && nat_lt b (min (n / 256) 131072)) || (bit_at (d.bytes (307200 + b / 8)) (b % 8) == 1)) s.size
    ∙ ap (λ (x : ℕ). (nat_le 1264 b && nat_lt b (min (c.size / 256) 131072)) || (bit_at x (b % 8) == 1)) byte

bits_as : (c d : Content) (b k : ℕ) → SameMap c d → are_bits_right d b k ≡ are_bits_right c b k
bits_as c d b zero s = refl
bits_as c d b (suc k) s = ap (λ (t : Bool). t && are_bits_right d (b + 1) k) (bit_as c d b s) ∙ ap (λ (t : Bool). is_bit_right c b && t) (bits_as c d (b + 1) k s)

pub map_as : (c d : Content) (j k : ℕ) → SameMap c d → read_map d j k ≡ read_map c j k
map_as c d j zero s = refl
map_as c d j (suc k) s =
    ap (λ (t : Bool). rule (307200 + j) t >>= λ _. read_map d (j + 1) k) (bits_as c d (8 * j) 8 s)
    ∙ ap (λ (x : Step (Unit {0})). rule (307200 + j) (are_bits_right c (8 * j) 8) >>= λ _. x) (map_as c d (j + 1) k s)
