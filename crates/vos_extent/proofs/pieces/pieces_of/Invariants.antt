use Rattle.std.proofs.Common.{◌≡◌, ◌≤◌, take}
use Rattle.daos_model.specs.Pieces.{last_hole, pieces_of}
use Rattle.vos_extent.specs.Looks.{records_of}
use Rattle.vos_extent.proofs.pieces.pieces_of.Given as goal

-- the pieces of the indexes so far
abbrev pub invariant-loop-cell : goal.invariant-loop-cell
invariant-loop-cell l = record {
  made : l.pieces.items ≡ pieces_of l.unit (records_of l.unit (take l.cell-index l.cells));
  short : last_hole l.pieces.items ≤ l.cell-index;
}
