use Rattle.std.proofs.Common.{◌≡◌, ◌<◌, ℕ, get_or, length}
use Rattle.vos_scan.proofs.chains.reset.Given as goal

abbrev pub invariant-loop-i : goal.invariant-loop-i
invariant-loop-i l = record {
  len : length l.lasts ≡ length l.initial.lasts;
  items : (k : ℕ) → k < l.i → get_or l.lasts k 0 ≡ 0;
}
