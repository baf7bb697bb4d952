-- Numbers drawn one after another, in 64 bits.
use Rattle.std.specs.Prelude.{ℕ, zero, suc, ◌*◌, ◌/◌, ◌%◌, ◌^◌, bit_xor}

-- combined by exclusive or with itself, moved to the left or to the right by so many bits
abbrev pub mixed_left : ℕ → ℕ → ℕ
mixed_left bits x = bit_xor x (x * 2 ^ bits % 2 ^ 64)

abbrev pub mixed_right : ℕ → ℕ → ℕ
mixed_right bits x = bit_xor x (x / 2 ^ bits)

-- the number drawn after this one
unfoldable pub drawn : ℕ → ℕ
drawn x = mixed_left 17 (mixed_right 7 (mixed_left 13 x))

-- the number after so many draws from a first one
abbrev pub drawn_after : ℕ → ℕ → ℕ
drawn_after first zero = first
drawn_after first (suc n) = drawn (drawn_after first n)
