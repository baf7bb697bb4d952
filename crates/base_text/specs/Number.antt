-- Numbers in a text: decimal digits, without a sign or a leading zero.
use Rattle.std.specs.Prelude.{◌≡◌, ℕ, ◌+◌, ◌-◌, ◌*◌, ◌^◌, ◌<◌, ◌≤◌, Bool, ◌&&◌, ◌||◌, ◌==◌, not, nat_le, List, [], ◌∷◌, length, Option, Some, None, if◌then◌else◌, slice_index}
use Rattle.std.specs.Option.{option_and_then}
use Rattle.std.specs.Fmt.{decimal}

-- a decimal digit
abbrev pub is_digit : ℕ → Bool
is_digit byte = nat_le 48 byte && nat_le byte 57

-- the number after a further digit, where it is at most this
abbrev pub with_digit : ℕ → ℕ → ℕ → Option ℕ
with_digit most n byte = if is_digit byte && nat_le (n * 10 + (byte - 48)) most then Some (n * 10 + (byte - 48)) else None

-- the number after n and these digits, where it is at most this
abbrev pub number_from : ℕ → ℕ → List ℕ → Option ℕ
number_from most n [] = Some n
number_from most n (byte ∷ bytes) = option_and_then (λ m. number_from most m bytes) (with_digit most n byte)

-- some bytes, of which the first is no zero unless it is the only one
abbrev pub is_canonical : List ℕ → Bool
is_canonical word = not (length word == 0) && (length word == 1 || not (slice_index word 0 == 48))

-- the number from lo to hi that a word spells
unfoldable pub number_in : ℕ → ℕ → List ℕ → Option ℕ
number_in lo hi word =
    if is_canonical word then option_and_then (λ n. if nat_le lo n then Some n else None) (number_from hi 0 word) else None

-- a word spells a number exactly where it is what that number is written as
pub record NumbersAreDecimals : Type 0 where
  pub spelled : (lo hi n : ℕ) (word : List ℕ) → hi < 2 ^ 64 → number_in lo hi word ≡ Some n → (word ≡ decimal n) × (lo ≤ n) × (n ≤ hi)
  pub read : (lo hi n : ℕ) → hi < 2 ^ 64 → lo ≤ n → n ≤ hi → number_in lo hi (decimal n) ≡ Some n
