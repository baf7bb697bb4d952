use Rattle.std.proofs.Common.{◌≡◌, ◌+◌, ◌≤◌, drop}
use Rattle.std.specs.Prelude.{count_by}
use Rattle.daos_summary.specs.Counts.{is_try}
use Rattle.daos_summary.proofs.counts.attempts.Given as goal

abbrev pub invariant-loop-line : goal.invariant-loop-line
invariant-loop-line l = record {
  few : l.count ≤ l.line-index;
  so_far : l.count + count_by is_try (drop l.line-index l.lines) ≡ count_by is_try l.lines;
}
