use Rattle.std.proofs.Common.{◌≡◌, ℕ, ◌+◌, ◌*◌, ◌/◌, ◌<◌, ◌≤◌, true}
use Rattle.std.specs.Prelude.{min}
use Rattle.vos_image.specs.Content.{Content}
use Rattle.vos_image.specs.Places.{is_bit_right}
use Rattle.vos_check_places.proofs.blocks.are_bits_right.Given as goal

-- the bits so far are right
abbrev pub invariant-loop-bit : goal.invariant-loop-bit
invariant-loop-bit l = (c : Content) → c.bytes (307200 + l.at) ≡ l.byte → min (c.size / 256) 131072 ≡ l.end → (q : ℕ) → 8 * l.at ≤ q → q < 8 * l.at + l.bit → is_bit_right c q ≡ true
