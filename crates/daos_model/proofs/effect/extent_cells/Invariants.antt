use Rattle.std.proofs.Common.{◌≡◌, ◌+◌, ◌/◌, ◌≤◌, length, reverse, drop}
use Rattle.base_types.specs.Paths.{record_size}
use Rattle.daos_model.specs.Effect.{record_cells, records_of}
use Rattle.daos_model.proofs.effect.extent_cells.Given as goal

-- the cells from an index on are there
abbrev pub invariant-loop-i : goal.invariant-loop-i
invariant-loop-i l = record {
  made : reverse l.cells.items ≡ record_cells l.path (l.low + l.i) (drop l.i (records_of (record_size l.path) l.bytes));
  within : l.i ≤ length l.bytes / record_size l.path;
}

abbrev pub decreases-loop-i : goal.decreases-loop-i
decreases-loop-i l = l.i
