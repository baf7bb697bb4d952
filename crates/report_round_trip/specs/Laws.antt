-- Which legal reports are read back of their texts.
use Rattle.std.specs.Prelude.{ℕ, ◌≡◌, ◌<◌, Bool, true, map, All, Ok, Some}
use Rattle.base_types.specs.declared.answer.Answer.{Answer}
use Rattle.base_types.specs.declared.id.AttemptId.{AttemptId}
use Rattle.base_types.specs.declared.operation.Read.{Read}
use Rattle.base_types.specs.declared.outcome.Outcome.TheVariants.{Committed}
use Rattle.base_types.specs.declared.report.Attempt.{Attempt}
use Rattle.base_types.specs.declared.report.Report.{Report}
use Rattle.daos_model.specs.Attempts.{tries}
use Rattle.daos_model.specs.Headline.{Headline}
use Rattle.daos_model.specs.Kinds.{is_of_kind}
use Rattle.daos_model.specs.Opening.{Given, Outside}
use Rattle.daos_model.specs.Transactions.{attempt_ops, read_at}
use Rattle.report_writer.specs.Forms.{IsReportOf}
use Rattle.report_writer.specs.Reports.{report_text}
use Rattle.base_types.specs.declared.script.Script.{Script}
use Rattle.base_types.specs.Scripts.{IsReadInForm}
use Rattle.report_reader.specs.Marks.{table_of}
use Rattle.report_reader.specs.Told.{answer_fits}
use Rattle.report_reader.specs.Law.{HasWholeValues, IsReportFor, RiseFrom}
use Rattle.report_reader.specs.Reading.{report_of, unit_at}
use Rattle.report_round_trip.specs.Values.{HasBytes}

-- an answer of an attempt that a text can spell: its values have 1 to 1,024 bytes of eight bits, and its runs of an array are whole
-- records of the object that is read, and differ in kind from their neighbours
pub record IsSpelled (s : Script) (id : AttemptId) (got : ℕ × Answer) : Type 0 where
  pub fits : answer_fits (unit_at (table_of s) id got.0) got.1 ≡ true
  pub values : HasWholeValues got.1

-- an attempt tells of its conditions and of its answers in the order of operations
pub record IsToldInOrder (a : Attempt) : Type 0 where
  pub conds : RiseFrom 0 (map (λ cond. cond.0) a.conds)
  pub gots : RiseFrom 0 (map (λ got. got.0) a.gots)

-- What legality leaves open of an attempt: it tells in order also where it isn't committed, and its answers can be spelled.
pub record IsToldWell (s : Script) (a : Attempt) : Type 0 where
  pub in_order : (a.outcome ≡ Committed → ⊥) → IsToldInOrder a
  pub answers : All (IsSpelled s a.id) a.gots

-- An answer can be spelled where it is of the kind of its read, which is in form, and its values are bytes.
abbrev pub AnswersOfKindAreSpelled : Type 0
AnswersOfKindAreSpelled =
    (s : Script) (id : AttemptId) (got : ℕ × Answer) (r : Read) → read_at (attempt_ops s id) got.0 ≡ Some r → IsReadInForm s.objs r → is_of_kind r got.1 ≡ true → HasBytes got.1 → IsSpelled s id got

-- A legal report of a script for some targets is a report for the script, where it is in form and each attempt is told well.
abbrev pub LegalReportsAreForScripts : Type 0
LegalReportsAreForScripts =
    (g : Given) (o : Outside) (resolved : AttemptId → Bool) (q : Report) → 0 < g.script.targets → IsReportOf g.script q → Headline g o resolved q → All (IsToldWell g.script) (tries q.lines)
    → IsReportFor g.script q

-- And so it is read back of its text.
abbrev pub LegalReportsAreReadBack : Type 0
LegalReportsAreReadBack =
    (g : Given) (o : Outside) (resolved : AttemptId → Bool) (q : Report) → 0 < g.script.targets → IsReportOf g.script q → Headline g o resolved q → All (IsToldWell g.script) (tries q.lines)
    → report_of g.script (report_text g.script q) ≡ Ok q
