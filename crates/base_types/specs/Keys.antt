-- What a key is, and why bytes are none.
use Rattle.std.specs.Prelude.{ℕ, Bool, ◌||◌, ◌&&◌, ◌==◌, not, nat_eq, nat_le, nat_lt, List, length, position, Option, Some, None, if◌then◌else◌, ◌≡◌}
use Rattle.std.specs.Option.{option_map}
use Rattle.std.specs.Cmp.Lexicographic.{pointwise}
use Rattle.base_types.specs.declared.key.KeyNo.{KeyNo}
use Rattle.base_types.specs.declared.key.KeyNo.TheVariants.{Empty, TooLong, BadByte}

-- a letter, a digit, a dot, an underscore or a dash
abbrev pub is_key_byte : ℕ → Bool
is_key_byte b =
    (nat_le 97 b && nat_le b 122) || (nat_le 65 b && nat_le b 90) || (nat_le 48 b && nat_le b 57) || b == 46 || b == 95 || b == 45

-- the place of the first byte that may not stand in a key
abbrev pub first_bad_byte : List ℕ → Option ℕ
first_bad_byte bytes = position (λ b. not (is_key_byte b)) bytes

-- why bytes are no key: there are none, more than 64, or one that may not stand in a key
abbrev pub key_fault : List ℕ → Option KeyNo
key_fault bytes =
    if length bytes == 0 then Some Empty else if nat_lt 64 (length bytes) then Some TooLong else option_map (λ place. BadByte place) (first_bad_byte bytes)

-- bytes that are a key
abbrev pub IsKey : List ℕ → Type 0
IsKey bytes = key_fault bytes ≡ None

-- keys are the same where their bytes are
abbrev pub same_key : List ℕ → List ℕ → Bool
same_key a b = pointwise nat_eq a b
