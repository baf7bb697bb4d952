use Rattle.std.proofs.Common.{◌≡◌, take}
use Rattle.run_base.proofs.changing.copied.Given as goal

-- the letters so far
abbrev pub invariant-loop-letter : goal.invariant-loop-letter
invariant-loop-letter l = l.copy.items ≡ take l.letter-index l.letters
