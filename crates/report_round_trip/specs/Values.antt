-- That values which a report tells of are bytes.
use Rattle.std.specs.Prelude.{ℕ, All, List}
use Rattle.base_types.specs.declared.answer.Answer.{Answer}
use Rattle.base_types.specs.declared.answer.Answer.TheVariants as answer
use Rattle.base_types.specs.declared.answer.Piece.{Piece}
use Rattle.base_types.specs.declared.answer.Piece.TheVariants as piece
use Rattle.base_types.specs.declared.report.Attempt.{Attempt}
use Rattle.base_types.specs.declared.report.Line.{Line}
use Rattle.base_types.specs.declared.report.Line.TheVariants as line
use Rattle.daos_model.specs.Attempts.{tries}
use Rattle.report_reader.specs.Law.{AreBytes}

-- a run of an array has bytes, where it isn't a hole
abbrev pub IsRunOfBytes : Piece → Type 0
IsRunOfBytes (piece.Bytes bytes) = AreBytes bytes
IsRunOfBytes (piece.Hole count) = Unit {0}

-- the values of an answer are bytes
abbrev pub HasBytes : Answer → Type 0
HasBytes (answer.Bytes bytes) = AreBytes bytes
HasBytes (answer.Parts pieces) = All IsRunOfBytes pieces
HasBytes (answer.Names keys) = Unit {0}
HasBytes answer.Yes = Unit {0}
HasBytes answer.No = Unit {0}
HasBytes answer.Absent = Unit {0}

-- so are those of all that an attempt was answered
abbrev pub HasByteAnswers : Attempt → Type 0
HasByteAnswers a = All (λ got. HasBytes got.1) a.gots

-- of the attempt that a line tells of
abbrev pub TellsBytes : Line → Type 0
TellsBytes (line.Try a) = HasByteAnswers a
TellsBytes l = Unit {0}

-- and of all attempts that lines tell of
abbrev pub AllTellBytes : List Line → Type 0
AllTellBytes lines = All HasByteAnswers (tries lines)
