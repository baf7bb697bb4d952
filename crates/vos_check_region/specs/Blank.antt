-- A region without a byte that isn't zero.
use Rattle.std.specs.Prelude.{◌≡◌, ◌<◌, ◌==◌, ℕ, Bool}
use Rattle.base_outside.specs.Images.{Image}

abbrev pub is_zero : ℕ → Bool
is_zero b = b == 0

-- of so many bytes all are zero
abbrev pub IsBlank : ℕ → Image → Type 0
IsBlank size f = (i : ℕ) → i < size → f i ≡ 0
