use Rattle.std.proofs.Common.{◌≡◌, ◌≤◌, ◌<◌, ℕ, get_or, vec_capacity, vec_len}
use Rattle.vos_aggregate.proofs.planner.fill.Given as goal

abbrev pub invariant-loop-i : goal.invariant-loop-i
invariant-loop-i l = record {
  len : vec_len l.places ≡ l.i;
  items : (k : ℕ) → k < l.i → get_or l.places.items k 0 ≡ l.count;
  capacity : vec_capacity l.initial.places ≤ vec_capacity l.places;
}
