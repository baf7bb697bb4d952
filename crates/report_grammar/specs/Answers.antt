-- Answers in words.
use Rattle.std.specs.Prelude.{ℕ, ◌+◌, ◌-◌, ◌*◌, ◌&&◌, ◌==◌, nat_le, List, [], ◌∷◌, ◌++◌, Option, Some, None, codes, if◌then◌else◌}
use Rattle.std.specs.Str.{bytes_eq}
use Rattle.base_types.specs.declared.answer.Answer.{Answer}
use Rattle.base_types.specs.declared.answer.Answer.TheVariants as answer
use Rattle.base_types.specs.declared.answer.Piece.{Piece}
use Rattle.base_types.specs.declared.answer.Piece.TheVariants as piece
use Rattle.base_text.specs.Number.{number_in}
use Rattle.base_text.specs.Rows.{Words}
use Rattle.report_grammar.specs.Reads.{◌>>=◌}
use Rattle.report_grammar.specs.Words.{word_at, nothing_at, key_of}

-- a hexadecimal digit in lower case
abbrev pub digit_of : ℕ → Option ℕ
digit_of d = if nat_le 48 d && nat_le d 57 then Some (d - 48) else if nat_le 97 d && nat_le d 102 then Some (d - 87) else None

-- these bytes, and behind them those that digits spell, two a byte
abbrev pub hex_of : List ℕ → List ℕ → Option (List ℕ)
hex_of bytes [] = Some bytes
hex_of bytes (high ∷ []) = None
hex_of bytes (high ∷ low ∷ digits) = digit_of high >>= λ h. digit_of low >>= λ l. hex_of (bytes ++ (h * 16 + l) ∷ []) digits

-- the bytes behind `=`, or those that the digits behind `#` spell
abbrev pub value_of : List ℕ → Option (List ℕ)
value_of [] = None
value_of (mark ∷ spelled) = if mark == 61 then Some spelled else if mark == 35 then hex_of [] spelled else None

-- a hole of the number behind `~`, or a value
abbrev pub piece_of : List ℕ → Option Piece
piece_of [] = None
piece_of (mark ∷ spelled) =
    if mark == 126 then (number_in 1 4294967295 spelled >>= λ n. Some (piece.Hole n)) else (value_of (mark ∷ spelled) >>= λ v. Some (piece.Bytes v))

abbrev pub pieces_from : List Piece → Words → Option (List Piece)
pieces_from ps [] = Some ps
pieces_from ps (w ∷ ws) = piece_of w >>= λ p. pieces_from (ps ++ p ∷ []) ws

abbrev pub names_from : List (List ℕ) → Words → Option (List (List ℕ))
names_from ks [] = Some ks
names_from ks (w ∷ ws) = key_of w >>= λ k. names_from (ks ++ k ∷ []) ws

abbrev pub plain_of : List ℕ → Option Answer
plain_of w =
    if bytes_eq w (codes "yes") then Some answer.Yes else if bytes_eq w (codes "no") then Some answer.No
    else if bytes_eq w (codes "absent") then Some answer.Absent else None

abbrev pub value_answer : Words → Option Answer
value_answer ws = do
  w ← word_at ws
  v ← value_of w.0
  end ← nothing_at w.1
  Some (answer.Bytes v)

abbrev pub plain_answer : List ℕ → Words → Option Answer
plain_answer w ws = do
  a ← plain_of w
  end ← nothing_at ws
  Some a

abbrev pub answer_by : List ℕ → Words → Option Answer
answer_by w ws =
    if bytes_eq w (codes "value") then value_answer ws
    else if bytes_eq w (codes "parts") then (pieces_from [] ws >>= λ ps. Some (answer.Parts ps))
    else if bytes_eq w (codes "names") then (names_from [] ws >>= λ ks. Some (answer.Names ks))
    else plain_answer w ws

-- an answer, of all the words that are left
unfoldable pub answer_of : Words → Option Answer
answer_of ws = do
  w ← word_at ws
  answer_by w.0 w.1
