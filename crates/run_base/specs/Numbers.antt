-- Which number the next aggregation has.
use Rattle.std.specs.Prelude.{ℕ, ◌≡◌, Bool, true, false, List, [], ◌∷◌, filter, length, refl}
use Rattle.std.proofs.Common.{ap, suc}
use Rattle.base_types.specs.declared.report.Line.{Line}
use Rattle.base_types.specs.declared.report.Line.TheVariants as line
use Rattle.daos_model.specs.Stops.{aggregate_numbers}

abbrev pub is_aggregation : Line → Bool
is_aggregation (line.Aggregate number target cont upto) = true
is_aggregation l = false

-- lines of aggregations are counted, from 0
abbrev pub next_aggregate : List Line → ℕ
next_aggregate lines = length (aggregate_numbers lines)

-- each of them has its number
pub aggregations-counted : (ls : List Line) → length (filter is_aggregation ls) ≡ next_aggregate ls
aggregations-counted [] = refl
aggregations-counted (line.Aggregate number target cont upto ∷ ls) = ap suc (aggregations-counted ls)
aggregations-counted (line.Try a ∷ ls) = aggregations-counted ls
aggregations-counted (line.Stop number target ∷ ls) = aggregations-counted ls
aggregations-counted (line.Restart number target incarnation floor ∷ ls) = aggregations-counted ls
aggregations-counted (line.Freeze target cont epoch ∷ ls) = aggregations-counted ls
aggregations-counted (line.Snapshot name cont epoch ∷ ls) = aggregations-counted ls
aggregations-counted (line.Down target ∷ ls) = aggregations-counted ls
