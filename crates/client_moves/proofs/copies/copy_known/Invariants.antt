use Rattle.std.proofs.Common.{◌≡◌, take}
use Rattle.client_moves.proofs.copies.copy_known.Given as goal

-- those so far
abbrev pub invariant-loop-snap : goal.invariant-loop-snap
invariant-loop-snap l = l.copied.items ≡ take l.snap-index l.known
