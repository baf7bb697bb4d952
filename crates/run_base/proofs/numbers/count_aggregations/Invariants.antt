use Rattle.std.specs.Prelude.{filter, length}
use Rattle.std.proofs.Common.{◌≡◌, ◌≤◌, take}
use Rattle.run_base.specs.Numbers.{is_aggregation}
use Rattle.run_base.proofs.numbers.count_aggregations.Given as goal

-- the aggregations so far were counted
abbrev pub invariant-loop-line : goal.invariant-loop-line
invariant-loop-line l = (l.aggregations ≡ length (filter is_aggregation (take l.line-index l.lines))) × (l.aggregations ≤ l.line-index)
