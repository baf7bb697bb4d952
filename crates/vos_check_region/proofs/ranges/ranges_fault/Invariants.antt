use Rattle.std.proofs.Common.{◌≡◌, ◌+◌, ◌≤◌, ℕ, length, drop}
use Rattle.vos_check_region.specs.Fault.{ranges_fault}
use Rattle.vos_check_region.proofs.ranges.ranges_fault.Given as goal

abbrev pub invariant-loop-range : goal.invariant-loop-range
invariant-loop-range l = record {
  inside : l.at ≤ length l.bytes;
  told : (left : ℕ) → left + l._range ≡ l.count → ranges_fault l.size left (36872 + l.at) (drop l.at l.bytes) ≡ ranges_fault l.size l.count 36872 l.bytes;
}
