-- Which reports are read, and which line of a text is the first bad one.
use Rattle.std.specs.Prelude.{◌≡◌, ℕ, ◌+◌, ◌-◌, ◌^◌, ◌<◌, ◌≤◌, true, List, [], ◌∷◌, ◌++◌, length, map, take, All, Result, Ok, Err}
use Rattle.base_types.specs.declared.answer.Answer.{Answer}
use Rattle.base_types.specs.declared.answer.Answer.TheVariants as answer
use Rattle.base_types.specs.declared.answer.Piece.{Piece}
use Rattle.base_types.specs.declared.answer.Piece.TheVariants as piece
use Rattle.base_types.specs.declared.id.AttemptId.{AttemptId}
use Rattle.base_types.specs.declared.report.Attempt.{Attempt}
use Rattle.base_types.specs.declared.report.Line.{Line}
use Rattle.base_types.specs.declared.report.Line.TheVariants as line
use Rattle.base_types.specs.declared.report.Report.{Report}
use Rattle.base_types.specs.declared.script.Script.{Script}
use Rattle.base_text.specs.Parts.{parts_of}
use Rattle.base_text.specs.Rows.{lines_text}
use Rattle.report_writer.specs.Forms.{HasNames, IsReportOf}
use Rattle.report_writer.specs.Reports.{report_text}
use Rattle.report_reader.specs.Marks.{ops_of, table_of}
use Rattle.report_reader.specs.declared.fault.ReportNo.{ReportNo}
use Rattle.report_reader.specs.declared.fault.ReportNo.TheVariants as no
use Rattle.report_reader.specs.Reading.{asked, reads, report_of, unit_at}
use Rattle.report_reader.specs.Reads.{told_line}
use Rattle.report_reader.specs.Told.{answer_fits, is_snap, outcome_fits_in}

-- ---- what is told of a script

-- numbers from this one on, each greater than the one before
abbrev pub RiseFrom : ℕ → List ℕ → Type 0
RiseFrom n [] = Unit {0}
RiseFrom n (m ∷ ms) = (n ≤ m) × RiseFrom (m + 1) ms

-- bytes, each of eight bits
abbrev pub AreBytes : List ℕ → Type 0
AreBytes bytes = All (λ b. b < 2 ^ 8) bytes

-- a run of an array: bytes, or a hole that has a record at least
abbrev pub IsWholePiece : Piece → Type 0
IsWholePiece (piece.Bytes bytes) = AreBytes bytes
IsWholePiece (piece.Hole count) = 0 < count

abbrev pub HasWholeValues : Answer → Type 0
HasWholeValues (answer.Bytes bytes) = AreBytes bytes
HasWholeValues (answer.Parts pieces) = All IsWholePiece pieces
HasWholeValues (answer.Names keys) = Unit {0}
HasWholeValues answer.Yes = Unit {0}
HasWholeValues answer.No = Unit {0}
HasWholeValues answer.Absent = Unit {0}

-- the answer of an operation of the attempt, which reads: what it tells of an array is whole records of its object
pub record IsGotIn (s : Script) (id : AttemptId) (got : ℕ × Answer) : Type 0 where
  pub reads : reads (table_of s) id got.0 ≡ true
  pub fits : answer_fits (unit_at (table_of s) id got.0) got.1 ≡ true
  pub values : HasWholeValues got.1

-- an attempt of a command of the script: it ended as that can, and tells of its operations in order
pub record IsAttemptIn (s : Script) (a : Attempt) : Type 0 where
  pub ends : outcome_fits_in s (table_of s) (ops_of (table_of s) a.id) a.outcome ≡ true
  pub conds : All (λ cond. asked (table_of s) a.id cond.0 ≡ true) a.conds
  pub conds_rise : RiseFrom 0 (map (λ cond. cond.0) a.conds)
  pub gots : All (IsGotIn s a.id) a.gots
  pub gots_rise : RiseFrom 0 (map (λ got. got.0) a.gots)

-- a line that names targets and snapshots of the script
abbrev pub IsLineIn : Script → Line → Type 0
IsLineIn s (line.Try attempt) = IsAttemptIn s attempt
IsLineIn s (line.Stop number target) = target < s.targets
IsLineIn s (line.Restart number target incarnation floor) = target < s.targets
IsLineIn s (line.Freeze target cont epoch) = target < s.targets
IsLineIn s (line.Snapshot name cont epoch) = is_snap s name ≡ true
IsLineIn s (line.Aggregate number target cont upto) = target < s.targets
IsLineIn s (line.Down target) = target < s.targets

-- the stops have the numbers from this one on
abbrev pub StopsFrom : ℕ → List Line → Type 0
StopsFrom n [] = Unit {0}
StopsFrom n (line.Try attempt ∷ lines) = StopsFrom n lines
StopsFrom n (line.Stop number target ∷ lines) = (number ≡ n) × StopsFrom (n + 1) lines
StopsFrom n (line.Restart number target incarnation floor ∷ lines) = StopsFrom n lines
StopsFrom n (line.Freeze target cont epoch ∷ lines) = StopsFrom n lines
StopsFrom n (line.Snapshot name cont epoch ∷ lines) = StopsFrom n lines
StopsFrom n (line.Aggregate number target cont upto ∷ lines) = StopsFrom n lines
StopsFrom n (line.Down target ∷ lines) = StopsFrom n lines

-- a report for the script: it is in form, and tells of what the script has
pub record IsReportFor (s : Script) (q : Report) : Type 0 where
  pub targets : q.targets ≡ s.targets
  pub in_form : IsReportOf s q
  pub lines : All (IsLineIn s) q.lines
  pub stops : StopsFrom 0 q.lines

-- ---- bad lines

-- some report for the script begins so
pub record Begins (s : Script) (text : List ℕ) : Type 0 where
  pub report : Report
  pub of_script : IsReportFor s report
  pub rest : List ℕ
  pub whole : report_text s report ≡ text ++ rest

-- the first lines of a text, each with its end
abbrev pub first_lines : ℕ → List ℕ → List ℕ
first_lines n bytes = lines_text (take n (parts_of 10 bytes))

-- the line of this number, counted from 1, is the first bad one: the lines before it begin the text of some report; with it they
-- begin none, and the text is that of none. What stands behind the last line end, which may be nothing, counts as a line.
pub record IsFirstBad (s : Script) (bytes : List ℕ) (at : ℕ) : Type 0 where
  pub from_one : 0 < at
  pub within : at ≤ length (parts_of 10 bytes)
  pub good : Begins s (first_lines (at - 1) bytes)
  pub bad : at < length (parts_of 10 bytes) → Begins s (first_lines at bytes) → ⊥
  pub none : (q : Report) → IsReportFor s q → bytes ≡ report_text s q → ⊥

-- ---- what is read

-- a script whose names are keys, each its own, for a number of targets that a byte holds
pub record IsNamed (s : Script) : Type 0 where
  pub names : HasNames s
  pub targets : s.targets < 2 ^ 8

-- a report is read of its own text alone; the text of each report for a script is read back; and where no report has the text, the
-- line that is told is the first bad one
pub record ReadsTexts : Type 0 where
  pub spelled : (s : Script) (bytes : List ℕ) (q : Report) → report_of s bytes ≡ Ok q → bytes ≡ report_text s q
  pub back : (s : Script) (q : Report) → IsReportFor s q → report_of s (report_text s q) ≡ Ok q
  pub for_script : (s : Script) (bytes : List ℕ) (q : Report) → IsNamed s → AreBytes bytes → report_of s bytes ≡ Ok q → IsReportFor s q
  pub first_bad : (s : Script) (bytes : List ℕ) (at : ℕ) → IsNamed s → AreBytes bytes → report_of s bytes ≡ Err at → IsFirstBad s bytes at

-- ---- what is answered

abbrev pub IsNoBadLine : ReportNo → Type 0
IsNoBadLine no.Memory = Unit {0}
IsNoBadLine (no.BadLine told) = ⊥

-- the answer is this report, unless memory is wanting
abbrev pub IsReadAs : Report → Result Report ReportNo → Type 0
IsReadAs q (Ok r) = r ≡ q
IsReadAs q (Err e) = IsNoBadLine e

-- a bad line that is told is the first one of the text
abbrev pub IsFirstTold : Script → List ℕ → ReportNo → Type 0
IsFirstTold s bytes no.Memory = Unit {0}
IsFirstTold s bytes (no.BadLine told) = (at : ℕ) × IsFirstBad s bytes at × (told ≡ told_line at)

abbrev pub TellsFirstBad : Script → List ℕ → Result Report ReportNo → Type 0
TellsFirstBad s bytes (Ok q) = Unit {0}
TellsFirstBad s bytes (Err e) = IsFirstTold s bytes e
