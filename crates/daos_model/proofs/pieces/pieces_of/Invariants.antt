use Rattle.std.proofs.Common.{◌≡◌, ◌≤◌, take}
use Rattle.daos_model.specs.Pieces.{last_hole, lent, pieces_of}
use Rattle.daos_model.proofs.pieces.pieces_of.Given as goal

-- the pieces of the indexes so far
abbrev pub invariant-loop-bytes : goal.invariant-loop-bytes
invariant-loop-bytes l = record {
  made : l.pieces.items ≡ pieces_of l.size (lent (take l.bytes-index l.held));
  short : last_hole l.pieces.items ≤ l.bytes-index;
}
