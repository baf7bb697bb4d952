-- What may be told of a script, and how it is spelled.
use Rattle.std.specs.Prelude.{ℕ, Bool, true, false, ◌&&◌, ◌==◌, ◌%◌, not, nat_le, nat_lt, is_some, List, [], ◌∷◌, ◌++◌, length, Option, Some, None, if◌then◌else◌}
use Rattle.std.specs.Str.{bytes_eq}
use Rattle.base_types.specs.declared.answer.Answer.{Answer}
use Rattle.base_types.specs.declared.answer.Answer.TheVariants as answer
use Rattle.base_types.specs.declared.answer.Piece.{Piece}
use Rattle.base_types.specs.declared.answer.Piece.TheVariants as piece
use Rattle.base_types.specs.declared.id.AttemptId.{AttemptId}
use Rattle.base_types.specs.declared.outcome.Cause.{Cause}
use Rattle.base_types.specs.declared.outcome.Cause.TheVariants as cause
use Rattle.base_types.specs.declared.outcome.Outcome.{Outcome}
use Rattle.base_types.specs.declared.outcome.Outcome.TheVariants as outcome
use Rattle.base_types.specs.declared.report.Attempt.{Attempt}
use Rattle.base_types.specs.declared.report.Line.{Line}
use Rattle.base_types.specs.declared.report.Line.TheVariants as line
use Rattle.base_types.specs.declared.script.Command.{Command}
use Rattle.base_types.specs.declared.script.Command.TheVariants as command
use Rattle.base_types.specs.declared.script.OldDecl.{OldDecl}
use Rattle.base_types.specs.declared.script.Script.{Script}
use Rattle.base_types.specs.Keys.{same_key}
use Rattle.base_text.specs.Parts.{parts_of}
use Rattle.base_text.specs.Rows.{rows_text}
use Rattle.report_writer.specs.Reports.{try_row, cond_row, got_row, line_rows}
use Rattle.report_grammar.specs.declared.rows.Told.{Told}
use Rattle.report_grammar.specs.declared.rows.Told.TheVariants.{Try, Cond, Got, Other}
use Rattle.report_grammar.specs.Rows.{told_of}
use Rattle.report_grammar.specs.Reads.{◌>>=◌}
use Rattle.report_reader.specs.Marks.{Marks, ops_of}

-- ---- spelling

-- the text of what a row tells, with its line end
abbrev pub told_text : Script → Told → List ℕ
told_text s (Try attempt) = rows_text (try_row s attempt ∷ [])
told_text s (Cond cond) = rows_text (cond_row cond ∷ [])
told_text s (Got got) = rows_text (got_row got ∷ [])
told_text s (Other l) = rows_text (line_rows s l)

-- what is told, where the line is what that is spelled as
abbrev pub spelled : Script → List ℕ → Told → Option Told
spelled s line told = if bytes_eq (told_text s told) (line ++ 10 ∷ []) then Some told else None

-- what a line tells, whatever stands above it
unfoldable pub told_in : Script → List ℕ → Option Told
told_in s line = do
  read ← told_of s (parts_of 32 line)
  spelled s line read

-- ---- attempts

abbrev pub is_target : Script → ℕ → Bool
is_target s target = nat_lt target s.targets

-- an attempt of a numbered command of a client
abbrev pub has_attempt : List (List Marks) → AttemptId → Bool
has_attempt table id = is_some (ops_of table id)

abbrev pub cause_fits : Script → List (List Marks) → Cause → Bool
cause_fits s table (cause.ReadLater by epoch path) = has_attempt table by
cause_fits s table (cause.WriteLater by epoch path) = has_attempt table by
cause_fits s table (cause.Unresolved by) = has_attempt table by
cause_fits s table (cause.Floor target epoch why) = is_target s target

-- an outcome of a command of so many operations
abbrev pub outcome_fits : Script → List (List Marks) → ℕ → Outcome → Bool
outcome_fits s table ops outcome.Committed = true
outcome_fits s table ops (outcome.CondFailed op) = nat_lt op ops
outcome_fits s table ops (outcome.Restart why) = cause_fits s table why
outcome_fits s table ops (outcome.NoSpace target need free) = is_target s target
outcome_fits s table ops outcome.EpochsSpent = true
outcome_fits s table ops outcome.NoSnapshot = true
outcome_fits s table ops (outcome.Unknown target) = is_target s target

abbrev pub outcome_fits_in : Script → List (List Marks) → Option ℕ → Outcome → Bool
outcome_fits_in s table None o = false
outcome_fits_in s table (Some ops) o = outcome_fits s table ops o

-- no rows stand below an attempt
abbrev pub is_bare : Attempt → Bool
is_bare a = (length a.conds == 0) && (length a.gots == 0)

abbrev pub attempt_fits : Script → List (List Marks) → Attempt → Bool
attempt_fits s table a = is_bare a && outcome_fits_in s table (ops_of table a.id) a.outcome

-- ---- answers

abbrev pub is_length : ℕ → Bool
is_length len = nat_le 1 len && nat_le len 1024

-- so many bytes are whole records of a size
abbrev pub is_whole : ℕ → ℕ → Bool
is_whole unit len = len % unit == 0

abbrev pub is_hole : Piece → Bool
is_hole (piece.Bytes bytes) = false
is_hole (piece.Hole count) = true

abbrev pub differs : Bool → Bool → Bool
differs true hole = not hole
differs false hole = hole

-- the last run, if there is one, is of another kind
abbrev pub is_other : Option Bool → Bool → Bool
is_other None hole = true
is_other (Some last) hole = differs last hole

abbrev pub piece_fits : ℕ → Option Bool → Piece → Bool
piece_fits unit last (piece.Bytes bytes) = is_length (length bytes) && is_whole unit (length bytes) && is_other last false
piece_fits unit last (piece.Hole count) = is_other last true

-- runs of an array with records of a size, of which neighbours are of two kinds
abbrev pub pieces_fit : ℕ → Option Bool → List Piece → Bool
pieces_fit unit last [] = true
pieces_fit unit last (p ∷ ps) = piece_fits unit last p && pieces_fit unit (Some (is_hole p)) ps

-- what may be told of a read of an object whose arrays have records of this size
abbrev pub answer_fits : ℕ → Answer → Bool
answer_fits unit (answer.Bytes bytes) = is_length (length bytes)
answer_fits unit (answer.Parts pieces) = not (length pieces == 0) && pieces_fit unit None pieces
answer_fits unit (answer.Names keys) = true
answer_fits unit answer.Yes = true
answer_fits unit answer.No = true
answer_fits unit answer.Absent = true

-- ---- other lines

abbrev pub is_old : List OldDecl → List ℕ → Bool
is_old [] name = false
is_old (decl ∷ decls) name = if same_key decl.name name then true else is_old decls name

abbrev pub is_made : List ℕ → Command → Bool
is_made made (command.Run ops skips snapshot) = false
is_made made (command.Snap name cont) = same_key name made
is_made made (command.Aggregate cont) = false
is_made made (command.Tell client) = false
is_made made (command.Skip turns) = false

abbrev pub is_snap_of : List Command → List ℕ → Bool
is_snap_of [] name = false
is_snap_of (c ∷ cs) name = if is_made name c then true else is_snap_of cs name

abbrev pub is_snap_of_any : List (List Command) → List ℕ → Bool
is_snap_of_any [] name = false
is_snap_of_any (cs ∷ lists) name = if is_snap_of cs name then true else is_snap_of_any lists name

-- the name of a snapshot: one of an earlier run, or one that a client makes
abbrev pub is_snap : Script → List ℕ → Bool
is_snap s name = if is_old s.olds name then true else is_snap_of_any s.clients name

abbrev pub is_next : Option ℕ → ℕ → Bool
is_next None number = false
is_next (Some next) number = next == number

-- a line of one row, where the next stop has this number
abbrev pub line_fits : Script → Option ℕ → Line → Bool
line_fits s next (line.Try attempt) = false
line_fits s next (line.Stop number target) = is_next next number && is_target s target
line_fits s next (line.Restart number target incarnation floor) = is_target s target
line_fits s next (line.Freeze target cont epoch) = is_target s target
line_fits s next (line.Snapshot name cont epoch) = is_snap s name
line_fits s next (line.Aggregate number target cont upto) = is_target s target
line_fits s next (line.Down target) = is_target s target
