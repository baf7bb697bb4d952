use Rattle.std.proofs.Common.{◌≡◌, ℕ, ◌*◌, ◌<◌, true}
use Rattle.base_outside.specs.Images.{Image, bytes_at}
use Rattle.vos_image.specs.Content.{content_of}
use Rattle.vos_image.specs.Places.{are_bits_right}
use Rattle.vos_check_places.proofs.blocks.read_map.Given as goal

-- the bytes so far are right
abbrev pub invariant-loop-at : goal.invariant-loop-at
invariant-loop-at l = (f : Image) → bytes_at f 307200 16384 ≡ l.map → (k : ℕ) → k < l.at → are_bits_right (content_of l.size f) (8 * k) 8 ≡ true
