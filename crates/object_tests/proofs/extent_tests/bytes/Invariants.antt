use Rattle.std.proofs.Common.{◌≡◌, length}
use Rattle.object_tests.proofs.extent_tests.bytes.Given as goal

-- one byte for each iteration
abbrev pub invariant-loop : goal.invariant-loop
invariant-loop l = length l.bytes ≡ l.counter
