-- The spellings of values.
use Rattle.std.specs.Prelude.{ℕ, Bool, ◌&&◌, ◌||◌, ◌==◌, ◌≡◌, nat_le, nat_lt, List, [], ◌∷◌, length, Result, Ok, Err, if◌then◌else◌}
use Rattle.std.specs.List.{list_all}
use Rattle.hex.specs.Hex.{IsBytes, decode_of, encode_lower}
use Rattle.hex.specs.declared.error.FromHexError.{FromHexError}
use Rattle.base_types.specs.Scripts.{IsLength}
use Rattle.base_types.specs.declared.fault.Why.TheVariants.{BadHex, TooLong}
use Rattle.base_text.specs.Results.{◌>>=◌}
use Rattle.script_words.specs.Reads.{Read}

-- a byte that a value shows as it is
abbrev pub is_printable : ℕ → Bool
is_printable b = nat_le 33 b && nat_le b 126

-- a decimal digit, or a letter from a to f
abbrev pub is_lower_digit : ℕ → Bool
is_lower_digit b = (nat_le 48 b && nat_le b 57) || (nat_le 97 b && nat_le b 102)

-- 1 to 1,024 bytes, all printable
abbrev pub plain_value : List ℕ → Read (List ℕ)
plain_value bytes =
    if length bytes == 0 then Err BadHex
    else if list_all is_printable bytes then (if nat_lt 1024 (length bytes) then Err (TooLong 1024) else Ok bytes)
    else Err BadHex

-- 1 to 1,024 bytes, not all printable
abbrev pub hidden_value : List ℕ → Read (List ℕ)
hidden_value bytes = if nat_lt 1024 (length bytes) then Err (TooLong 1024) else if list_all is_printable bytes then Err BadHex else Ok bytes

-- the bytes of pairs of hexadecimal digits
abbrev pub paired : Result (List ℕ) FromHexError → Read (List ℕ)
paired (Ok bytes) = Ok bytes
paired (Err error) = Err BadHex

-- the bytes of pairs of lower-case hexadecimal digits
unfoldable pub hex_value : List ℕ → Read (List ℕ)
hex_value digits = if list_all is_lower_digit digits then (paired (decode_of digits) >>= λ bytes. hidden_value bytes) else Err BadHex

-- the bytes that a word spells: behind `=` as they are, behind `#` in hexadecimal
unfoldable pub value_of : List ℕ → Read (List ℕ)
value_of [] = Err BadHex
value_of (c ∷ rest) = if c == 61 then plain_value rest else if c == 35 then hex_value rest else Err BadHex

-- what a value is written as: as it is where all bytes are printable, else in hexadecimal
abbrev pub spelling : List ℕ → List ℕ
spelling v = if list_all is_printable v then 61 ∷ v else 35 ∷ encode_lower v

-- a word is a value exactly where it is what that value is written as
pub record ValuesHaveOneSpelling : Type 0 where
  pub read : (v : List ℕ) → IsLength (length v) → IsBytes v → value_of (spelling v) ≡ Ok v
  pub spelled : (w v : List ℕ) → value_of w ≡ Ok v → w ≡ spelling v
