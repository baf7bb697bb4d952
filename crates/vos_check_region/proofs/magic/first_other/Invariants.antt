use Rattle.std.proofs.Common.{◌≡◌, ℕ, ◌<◌, get_or}
use Rattle.vos_check_base.specs.vos_image.Places.{magic}
use Rattle.vos_check_region.proofs.magic.first_other.Given as goal

-- the bytes so far are a pool's
abbrev pub invariant-loop-i : goal.invariant-loop-i
invariant-loop-i l = (k : ℕ) → k < l.i → get_or l.bytes k 0 ≡ get_or magic k 0
