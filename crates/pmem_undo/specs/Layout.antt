-- Where the undo log stands in a region, and which bytes are content.
use Rattle.std.specs.Prelude.{◌≡◌, ◌⊎◌, ℕ, ◌+◌, ◌≤◌, ◌<◌, Bool, true, ◌==◌, not, ◌&&◌, ◌||◌, nat_lt, nat_le, List, [], ◌∷◌, length}
use Rattle.base_outside.specs.Images.{Image, Range}

-- the place of the gate byte: zero is closed, any other byte open
abbrev pub gate : ℕ
gate = 32768

-- the first place of the log body, and the first place after it
abbrev pub log_place : ℕ
log_place = 36864

abbrev pub log_end : ℕ
log_end = 307200

-- the most ranges of one commit, and the most bytes of them together
abbrev pub most_ranges : ℕ
most_ranges = 1024

abbrev pub most_bytes : ℕ
most_bytes = 256000

-- content are all bytes but the gate byte and the log body
abbrev pub is_content : ℕ → Bool
is_content i = not (i == gate) && (nat_lt i log_place || nat_le log_end i)

-- n bytes from a place on lie inside a region of that size, outside the gate byte and the log body
pub record IsContent (size place n : ℕ) : Type 0 where
  pub inside : place + n ≤ size
  pub outside : (place + n ≤ gate) ⊎ (((gate < place) × (place + n ≤ log_place)) ⊎ (log_end ≤ place))

-- each of some ranges does
abbrev pub AreContent : ℕ → List Range → Type 0
AreContent size [] = Unit {0}
AreContent size (r ∷ rs) = IsContent size r.place (length r.bytes) × AreContent size rs

-- how many bytes some ranges have together
abbrev pub total_bytes : List Range → ℕ
total_bytes [] = 0
total_bytes (r ∷ rs) = length r.bytes + total_bytes rs

-- a test for it
abbrev pub are_content : ℕ → ℕ → ℕ → Bool
are_content size place n =
    nat_le (place + n) size && (nat_le (place + n) gate || ((nat_lt gate place && nat_le (place + n) log_place) || nat_le log_end place))

-- two images have the same content
abbrev pub SameContent : Image → Image → Type 0
SameContent f g = (i : ℕ) → is_content i ≡ true → f i ≡ g i

-- the gate byte
abbrev pub gate_byte : ℕ → Range
gate_byte b = record { place = gate; bytes = b ∷ [] }
