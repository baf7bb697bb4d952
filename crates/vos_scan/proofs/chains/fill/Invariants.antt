use Rattle.std.proofs.Common.{◌≡◌, ◌≤◌, ◌<◌, ℕ, get_or, vec_capacity, vec_len}
use Rattle.vos_scan.proofs.chains.fill.Given as goal

abbrev pub invariant-loop-i : goal.invariant-loop-i
invariant-loop-i l = record {
  len : vec_len l.lasts ≡ l.i;
  items : (k : ℕ) → k < l.i → get_or l.lasts.items k 0 ≡ 0;
  capacity : vec_capacity l.initial.lasts ≤ vec_capacity l.lasts;
}
