use Rattle.std.proofs.Common.{◌≡◌, ℕ, ◌<◌, ◌≤◌, get_or}
use Rattle.vos_check_places.proofs.fields.zeros_at.Given as goal

-- the bytes so far are zero
abbrev pub invariant-loop-i : goal.invariant-loop-i
invariant-loop-i l = (k : ℕ) → l.at ≤ k → k < l.i → get_or l.fixed k 0 ≡ 0
