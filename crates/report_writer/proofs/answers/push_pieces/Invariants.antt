use Rattle.std.proofs.Common.{◌≡◌, ◌++◌, drop, map}
use Rattle.report_writer.specs.Answers.{piece_word}
use Rattle.report_writer.specs.Words.{spaced}
use Rattle.report_writer.proofs.answers.push_pieces.Given as goal

abbrev pub invariant-loop-piece : goal.invariant-loop-piece
invariant-loop-piece l = l.out.items ++ spaced (map piece_word (drop l.piece-index l.pieces)) ≡ l.initial.out.items ++ spaced (map piece_word l.pieces)
