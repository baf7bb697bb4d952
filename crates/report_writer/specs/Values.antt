-- How the bytes of a value are spelled.
use Rattle.std.specs.Prelude.{ℕ, ◌+◌, ◌/◌, ◌%◌, Bool, ◌&&◌, nat_le, nat_lt, List, [], ◌∷◌, flat_map, if◌then◌else◌}
use Rattle.std.specs.List.{list_all}

-- a printable byte that is no space: from 33 to 126
abbrev pub is_printable : ℕ → Bool
is_printable byte = nat_le 33 byte && nat_le byte 126

-- a hexadecimal digit, in lower case
abbrev pub hex_digit : ℕ → ℕ
hex_digit n = if nat_lt n 10 then 48 + n else 87 + n

-- a byte in two hexadecimal digits
abbrev pub hex_byte : ℕ → List ℕ
hex_byte byte = hex_digit (byte / 16) ∷ hex_digit (byte % 16) ∷ []

-- a value: its bytes behind `=` where all are printable, else their hexadecimal digits behind `#`
unfoldable pub value_word : List ℕ → List ℕ
value_word bytes = if list_all is_printable bytes then 61 ∷ bytes else 35 ∷ flat_map hex_byte bytes
