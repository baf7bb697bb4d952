use Rattle.std.proofs.Common.{◌≡◌, drop, None}
use Rattle.report_reader.specs.Told.{pieces_fit}
use Rattle.report_reader.proofs.told.pieces_fit.Given as goal

abbrev pub invariant-loop-piece : goal.invariant-loop-piece
invariant-loop-piece l = pieces_fit l.unit l.last (drop l.piece-index l.pieces) ≡ pieces_fit l.unit None l.pieces
