use Rattle.std.proofs.Common.{◌≡◌, ◌≤◌}
use Rattle.base_types.specs.Paths.{record_size}
use Rattle.daos_model.specs.Pieces.{last_hole, pieces_of, window}
use Rattle.daos_model.specs.Versions.{map_below}
use Rattle.vos_scan.proofs.layers.pieces_below.Given as goal

-- the pieces of the indexes so far
abbrev pub invariant-loop-k : goal.invariant-loop-k
invariant-loop-k l = record {
  made : l.pieces.items ≡ pieces_of (record_size l.path) (window l.path l.low l.k (map_below l.rows l.fn.below.0));
  short : last_hole l.pieces.items ≤ l.k;
}
