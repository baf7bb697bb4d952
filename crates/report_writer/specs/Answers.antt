-- What a read was answered, in words.
use Rattle.std.specs.Prelude.{ℕ, List, [], ◌∷◌, map, codes}
use Rattle.std.specs.Fmt.{decimal}
use Rattle.base_types.specs.declared.answer.Answer.{Answer}
use Rattle.base_types.specs.declared.answer.Answer.TheVariants as answer
use Rattle.base_types.specs.declared.answer.Piece.{Piece}
use Rattle.base_types.specs.declared.answer.Piece.TheVariants as piece
use Rattle.base_text.specs.Rows.{Words}
use Rattle.report_writer.specs.Values.{value_word}

-- a run of an array: a value, or the length of a hole behind `~`
abbrev pub piece_word : Piece → List ℕ
piece_word (piece.Bytes bytes) = value_word bytes
piece_word (piece.Hole count) = 126 ∷ decimal count

abbrev pub answer_words : Answer → Words
answer_words (answer.Bytes bytes) = codes "value" ∷ value_word bytes ∷ []
answer_words (answer.Parts pieces) = codes "parts" ∷ map piece_word pieces
answer_words (answer.Names keys) = codes "names" ∷ keys
answer_words answer.Yes = codes "yes" ∷ []
answer_words answer.No = codes "no" ∷ []
answer_words answer.Absent = codes "absent" ∷ []
