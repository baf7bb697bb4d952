use Rattle.std.proofs.Common.{◌≡◌, ◌*◌, length}
use Rattle.moment_tests.proofs.store.records.Given as goal

-- two bytes for each iteration
abbrev pub invariant-loop : goal.invariant-loop
invariant-loop l = length l.bytes ≡ l.counter * 2
