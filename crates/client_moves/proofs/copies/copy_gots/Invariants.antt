use Rattle.std.proofs.Common.{◌≡◌, take}
use Rattle.client_moves.proofs.copies.copy_gots.Given as goal

-- those so far
abbrev pub invariant-loop-got : goal.invariant-loop-got
invariant-loop-got l = l.copied.items ≡ take l.got-index l.gots
