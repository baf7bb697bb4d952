-- How the text of a report is read, a line at a time.
use Rattle.std.specs.Prelude.{ℕ, ◌+◌, ◌-◌, ◌*◌, ◌^◌, Bool, false, ◌&&◌, ◌==◌, nat_le, nat_lt, List, [], ◌∷◌, ◌++◌, length, Option, Some, None, Result, Ok, Err, if◌then◌else◌}
use Rattle.std.specs.Str.{bytes_eq}
use Rattle.base_types.specs.declared.answer.Answer.{Answer}
use Rattle.base_types.specs.declared.id.AttemptId.{AttemptId}
use Rattle.base_types.specs.declared.report.Attempt.{Attempt}
use Rattle.base_types.specs.declared.report.Line.{Line}
use Rattle.base_types.specs.declared.report.Line.TheVariants as line
use Rattle.base_types.specs.declared.report.Report.{Report}
use Rattle.base_types.specs.declared.script.Script.{Script}
use Rattle.base_text.specs.Parts.{parts_of}
use Rattle.base_text.specs.Results as result
use Rattle.base_text.specs.Rows.{row_line}
use Rattle.base_text.specs.Steps.{steps}
use Rattle.report_writer.specs.Reports.{head_row, end_row}
use Rattle.report_reader.specs.declared.reading.Open.{Open}
use Rattle.report_reader.specs.declared.reading.Reading.{Reading}
use Rattle.report_reader.specs.declared.report.Stage.{Stage}
use Rattle.report_reader.specs.declared.report.Stage.TheVariants.{Start, Inside, Ended, Whole}
use Rattle.report_grammar.specs.declared.rows.Told.{Told}
use Rattle.report_grammar.specs.declared.rows.Told.TheVariants.{Try, Cond, Got, Other}
use Rattle.report_reader.specs.declared.marks.Mark.{Mark}
use Rattle.report_reader.specs.Marks.{Marks, mark_at, table_of}
use Rattle.report_grammar.specs.Reads.{◌>>=◌}
use Rattle.report_reader.specs.Told.{told_in, attempt_fits, answer_fits, line_fits}

-- ---- the rows of an attempt

abbrev pub asked_in : Option Mark → Bool
asked_in None = false
asked_in (Some mark) = mark.asked

abbrev pub reads_in : Option Mark → Bool
reads_in None = false
reads_in (Some mark) = mark.reads

abbrev pub unit_in : Option Mark → ℕ
unit_in None = 1
unit_in (Some mark) = mark.unit

-- an operation that has a condition, and one that reads
abbrev pub asked : List (List Marks) → AttemptId → ℕ → Bool
asked table id op = asked_in (mark_at table id op)

abbrev pub reads : List (List Marks) → AttemptId → ℕ → Bool
reads table id op = reads_in (mark_at table id op)

-- the record size of the object that an operation is on
abbrev pub unit_at : List (List Marks) → AttemptId → ℕ → ℕ
unit_at table id op = unit_in (mark_at table id op)

abbrev pub cond_added : Open → ℕ × Bool → Open
cond_added o cond = record { attempt = record o.attempt { conds = o.attempt.conds ++ cond ∷ [] }; next = cond.0 * 2 + 1 }

abbrev pub got_added : Open → ℕ × Answer → Open
got_added o got = record { attempt = record o.attempt { gots = o.attempt.gots ++ got ∷ [] }; next = got.0 * 2 + 2 }

-- a condition of an operation that has one; rows come in order of operations, a condition before the answer of one operation
abbrev pub takes_cond : List (List Marks) → Open → ℕ → Bool
takes_cond table o op = asked table o.attempt.id op && nat_le o.next (op * 2)

unfoldable pub with_cond : List (List Marks) → Open → ℕ × Bool → Option Open
with_cond table o cond = if takes_cond table o cond.0 then Some (cond_added o cond) else None

-- an answer of an operation that reads, which fits its object
abbrev pub takes_got : List (List Marks) → Open → ℕ × Answer → Bool
takes_got table o got = reads table o.attempt.id got.0 && nat_le o.next (got.0 * 2 + 1) && answer_fits (unit_at table o.attempt.id got.0) got.1

unfoldable pub with_got : List (List Marks) → Open → ℕ × Answer → Option Open
with_got table o got =
    if takes_got table o got then Some (got_added o got) else None

-- ---- rows

-- the attempt of which more may be told is a line of its own
abbrev pub lines_of : List Line → Option Open → List Line
lines_of lines None = lines
lines_of lines (Some o) = lines ++ line.Try o.attempt ∷ []

abbrev pub some_open : Attempt → Option Open
some_open a = Some (record { attempt = a; next = 0 })

abbrev pub opened : Reading → Attempt → Reading
opened r a = record { lines = lines_of r.lines r.last; last = some_open a; next_stop = r.next_stop; down = r.down }

unfoldable pub with_try : Script → List (List Marks) → Reading → Attempt → Option Reading
with_try s table r a = if attempt_fits s table a then Some (opened r a) else None

-- stops are numbered from 0
abbrev pub next_number : ℕ → Option ℕ
next_number n = if nat_lt (n + 1) (2 ^ 32) then Some (n + 1) else None

abbrev pub stop_after : Option ℕ → Line → Option ℕ
stop_after next (line.Try attempt) = next
stop_after next (line.Stop number target) = next_number number
stop_after next (line.Restart number target incarnation floor) = next
stop_after next (line.Freeze target cont epoch) = next
stop_after next (line.Snapshot name cont epoch) = next
stop_after next (line.Aggregate number target cont upto) = next
stop_after next (line.Down target) = next

abbrev pub lesser : Option ℕ → ℕ → Option ℕ
lesser None target = Some target
lesser (Some other) target = if nat_lt other target then Some other else Some target

-- the least target that is down
abbrev pub down_after : Option ℕ → Line → Option ℕ
down_after down (line.Try attempt) = down
down_after down (line.Stop number target) = down
down_after down (line.Restart number target incarnation floor) = down
down_after down (line.Freeze target cont epoch) = down
down_after down (line.Snapshot name cont epoch) = down
down_after down (line.Aggregate number target cont upto) = down
down_after down (line.Down target) = lesser down target

abbrev pub line_added : Reading → Line → Reading
line_added r l = record { lines = lines_of r.lines r.last ++ l ∷ []; last = None; next_stop = stop_after r.next_stop l; down = down_after r.down l }

unfoldable pub with_line : Script → Reading → Line → Option Reading
with_line s r l = if line_fits s r.next_stop l then Some (line_added r l) else None

abbrev pub reopened : Reading → Open → Reading
reopened r o = record r { last = Some o }

abbrev pub with_cond_last : List (List Marks) → Reading → Option Open → ℕ × Bool → Option Reading
with_cond_last table r None cond = None
with_cond_last table r (Some o) cond = with_cond table o cond >>= λ p. Some (reopened r p)

abbrev pub with_got_last : List (List Marks) → Reading → Option Open → ℕ × Answer → Option Reading
with_got_last table r None got = None
with_got_last table r (Some o) got = with_got table o got >>= λ p. Some (reopened r p)

-- what one more row adds
abbrev pub put : Script → List (List Marks) → Reading → Told → Option Reading
put s table r (Try a) = with_try s table r a
put s table r (Cond cond) = with_cond_last table r r.last cond
put s table r (Got got) = with_got_last table r r.last got
put s table r (Other l) = with_line s r l

-- ---- lines

abbrev pub nothing_read : Reading
nothing_read = record { lines = []; last = None; next_stop = Some 0; down = None }

-- the first line tells the script's number of targets
unfoldable pub at_head : Script → List ℕ → Option Stage
at_head s line = if bytes_eq (row_line (head_row s.targets)) line then Some (Inside nothing_read) else None

abbrev pub report_read : Script → Reading → Report
report_read s r = record { targets = s.targets; lines = lines_of r.lines r.last; down = r.down }

-- the last line
unfoldable pub at_end : Script → Reading → Option Stage
at_end s r = Some (Ended (report_read s r))

-- what a line between them tells
abbrev pub put_row : Script → List (List Marks) → Reading → Told → Option Stage
put_row s table r told = put s table r told >>= λ next. Some (Inside next)

-- a line between them
unfoldable pub row_of : Script → List (List Marks) → Reading → List ℕ → Option Stage
row_of s table r line = do
  told ← told_in s line
  put_row s table r told

abbrev pub inside : Script → List (List Marks) → Reading → List ℕ → Option Stage
inside s table r line = if bytes_eq line (row_line (end_row r.down)) then at_end s r else row_of s table r line

-- one line more; behind the end stands nothing
abbrev pub next_of : Script → List (List Marks) → Stage → List ℕ → Option Stage
next_of s table Start line = at_head s line
next_of s table (Inside r) line = inside s table r line
next_of s table (Ended q) line = if length line == 0 then Some (Whole q) else None
next_of s table (Whole q) line = None

-- ---- the text

abbrev pub or_bad_line : {A : Type 0} → ℕ → Option A → Result A ℕ
or_bad_line at None = Err at
or_bad_line at (Some x) = Ok x

-- the line that is bad where this one can't be read; behind a whole report it is the empty line before
abbrev pub bad_at : ℕ → Stage → ℕ
bad_at at Start = at
bad_at at (Inside r) = at
bad_at at (Ended q) = at
bad_at at (Whole q) = at - 1

-- a line of this number
unfoldable pub step : Script → List (List Marks) → ℕ → Stage → List ℕ → Result Stage ℕ
step s table at stage line = or_bad_line (bad_at at stage) (next_of s table stage line)

abbrev pub finished : ℕ → Stage → Result Report ℕ
finished at Start = Err at
finished at (Inside r) = Err at
finished at (Ended q) = Err at
finished at (Whole q) = Ok q

-- the report of a text, or its first bad line; what stands behind the last line end counts as a line, which is to be empty
unfoldable pub report_of : Script → List ℕ → Result Report ℕ
report_of s bytes = result.◌>>=◌ (steps (step s (table_of s)) 1 Start (parts_of 10 bytes)) (finished (length (parts_of 10 bytes)))
