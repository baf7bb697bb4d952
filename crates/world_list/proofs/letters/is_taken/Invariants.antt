use Rattle.std.proofs.Common.{ℕ, ◌<◌}
use Rattle.world_list.specs.Taken.{IsTakenAt}
use Rattle.world_list.proofs.letters.is_taken.Given as goal

-- the letter was taken from none of the places so far
abbrev pub invariant-loop-at : goal.invariant-loop-at
invariant-loop-at l = (k : ℕ) → k < l.at → IsTakenAt l.after l.before k l.letter l.sent → ⊥
