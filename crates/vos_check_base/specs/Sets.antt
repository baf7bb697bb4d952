-- The blocks of a map whose bits are 1.
use Rattle.std.specs.Prelude.{◌≡◌, ℕ, Bool, false, ◌/◌, ◌%◌, ◌==◌, ◌&&◌, not, nat_le, nat_lt, cond, List, slice_index}
use Rattle.std.specs.Int.{bit_at}

abbrev pub Set : Type 0
Set = ℕ → Bool

-- of the blocks from 1264 on and below an end those whose bit is 1
unfoldable pub is_open : ℕ → ℕ → ℕ → Bool
is_open end byte b = nat_le 1264 b && (nat_lt b end && not (bit_at byte (b % 8) == 0))

unfoldable pub open_in : ℕ → List ℕ → Set
open_in end bytes b = is_open end (slice_index bytes (b / 8)) b

-- the bytes of a map, and the end of its blocks
pub record FreshState : Type 0 where
  pub bytes : List ℕ
  pub end : ℕ

abbrev pub open_of : FreshState → Set
open_of m = open_in m.end m.bytes

-- all but one
unfoldable pub without : Set → ℕ → Set
without s b q = cond (q == b) false (s q)

-- one set is another without a block
abbrev pub IsWithout : Set → ℕ → Set → Type 0
IsWithout s b t = (q : ℕ) → t q ≡ without s b q

-- a byte isn't zero
abbrev pub is_some_byte : ℕ → Bool
is_some_byte b = not (b == 0)
