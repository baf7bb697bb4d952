use Rattle.std.proofs.Common.{◌≡◌, ◌≤◌, ℕ, false, get_or, vec_capacity, vec_len}
use Rattle.vos_aggregate.proofs.planner.unmark_all.Given as goal

abbrev pub invariant-loop-i : goal.invariant-loop-i
invariant-loop-i l = record {
  len : vec_len l.marks ≡ l.i;
  items : (k : ℕ) → get_or l.marks.items k false ≡ false;
  capacity : vec_capacity l.initial.marks ≤ vec_capacity l.marks;
}
