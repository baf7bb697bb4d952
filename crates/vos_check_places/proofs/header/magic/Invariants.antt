use Rattle.std.proofs.Common.{◌≡◌, ℕ, ◌<◌, get_or}
use Rattle.vos_image.specs.Places.{magic}
use Rattle.vos_check_places.proofs.header.magic.Given as goal

-- the bytes so far are as they have to be
abbrev pub invariant-loop-i : goal.invariant-loop-i
invariant-loop-i l = (k : ℕ) → k < l.i → get_or l.fixed k 0 ≡ get_or magic k 0
