-- The rows of a report, and its text.
use Rattle.std.specs.Prelude.{ℕ, Bool, true, false, List, [], ◌∷◌, ◌++◌, map, flat_map, Option, Some, None, nat_le, codes, if◌then◌else◌}
use Rattle.std.specs.Fmt.{decimal}
use Rattle.base_types.specs.declared.answer.Answer.{Answer}
use Rattle.base_types.specs.declared.epoch.Epoch.{Epoch}
use Rattle.base_types.specs.declared.id.ContId.{ContId}
use Rattle.base_types.specs.declared.report.Attempt.{Attempt}
use Rattle.base_types.specs.declared.report.Line.{Line}
use Rattle.base_types.specs.declared.report.Line.TheVariants as line
use Rattle.base_types.specs.declared.report.Report.{Report}
use Rattle.base_types.specs.declared.script.Script.{Script}
use Rattle.base_text.specs.Rows.{Words, rows_text}
use Rattle.report_writer.specs.Answers.{answer_words}
use Rattle.report_writer.specs.Names.{cont_word}
use Rattle.report_writer.specs.Outcomes.{outcome_words}
use Rattle.report_writer.specs.Words.{attempt_words, epoch_word}

-- ---- the rows of an attempt

-- how an attempt ended
abbrev pub try_row : Script → Attempt → Words
try_row s a = codes "try" ∷ attempt_words a.id ++ epoch_word a.epoch ∷ outcome_words s a.outcome

abbrev pub yes_word : Bool → List ℕ
yes_word true = codes "yes"
yes_word false = codes "no"

-- whether the path of an operation had a cell
abbrev pub cond_row : ℕ × Bool → Words
cond_row cond = codes "cond" ∷ decimal cond.0 ∷ yes_word cond.1 ∷ []

-- what the read of an operation was answered
abbrev pub got_row : ℕ × Answer → Words
got_row got = codes "got" ∷ decimal got.0 ∷ answer_words got.1

-- the first conditions, of operations up to this one
abbrev pub conds_until : ℕ → List (ℕ × Bool) → List (ℕ × Bool)
conds_until op [] = []
conds_until op (cond ∷ conds) = if nat_le cond.0 op then cond ∷ conds_until op conds else []

-- the conditions behind those
abbrev pub conds_after : ℕ → List (ℕ × Bool) → List (ℕ × Bool)
conds_after op [] = []
conds_after op (cond ∷ conds) = if nat_le cond.0 op then conds_after op conds else cond ∷ conds

-- conditions and answers in order of operations, a condition before the answer of the same operation
abbrev pub detail_rows : List (ℕ × Bool) → List (ℕ × Answer) → List Words
detail_rows conds [] = map cond_row conds
detail_rows conds (got ∷ gots) = map cond_row (conds_until got.0 conds) ++ got_row got ∷ detail_rows (conds_after got.0 conds) gots

abbrev pub attempt_rows : Script → Attempt → List Words
attempt_rows s a = try_row s a ∷ detail_rows a.conds a.gots

-- ---- the rows of a report

-- the stop of this number, of a target
abbrev pub stop_row : ℕ → ℕ → Words
stop_row number target = codes "stop" ∷ decimal number ∷ decimal target ∷ []

-- the restart of this number, of a target: its incarnation and its floor
abbrev pub restart_row : ℕ → ℕ → ℕ → Epoch → Words
restart_row number target incarnation floor = codes "restart" ∷ decimal number ∷ decimal target ∷ decimal incarnation ∷ decimal floor.0 ∷ []

-- a target froze a container at an epoch
abbrev pub freeze_row : Script → ℕ → ContId → Epoch → Words
freeze_row s target cont epoch = codes "freeze" ∷ decimal target ∷ cont_word s.conts cont ∷ decimal epoch.0 ∷ []

-- a snapshot of a container was created, with its name and its epoch
abbrev pub snapshot_row : Script → List ℕ → ContId → Epoch → Words
snapshot_row s name cont epoch = codes "snapshot" ∷ name ∷ cont_word s.conts cont ∷ decimal epoch.0 ∷ []

-- the aggregation of this number, of a container on a target, up to an epoch
abbrev pub aggregate_row : Script → ℕ → ℕ → ContId → Epoch → Words
aggregate_row s number target cont upto = codes "aggregate" ∷ decimal number ∷ decimal target ∷ cont_word s.conts cont ∷ decimal upto.0 ∷ []

-- a target was given up
abbrev pub down_row : ℕ → Words
down_row target = codes "down" ∷ decimal target ∷ []

-- an attempt has a row for each condition and answer behind its own, any other line has one row
abbrev pub line_rows : Script → Line → List Words
line_rows s (line.Try attempt) = attempt_rows s attempt
line_rows s (line.Stop number target) = stop_row number target ∷ []
line_rows s (line.Restart number target incarnation floor) = restart_row number target incarnation floor ∷ []
line_rows s (line.Freeze target cont epoch) = freeze_row s target cont epoch ∷ []
line_rows s (line.Snapshot name cont epoch) = snapshot_row s name cont epoch ∷ []
line_rows s (line.Aggregate number target cont upto) = aggregate_row s number target cont upto ∷ []
line_rows s (line.Down target) = down_row target ∷ []

-- the number of targets
abbrev pub head_row : ℕ → Words
head_row targets = codes "daos" ∷ codes "1" ∷ codes "targets" ∷ decimal targets ∷ []

-- whether a target is down
abbrev pub end_row : Option ℕ → Words
end_row None = codes "end" ∷ codes "0" ∷ []
end_row (Some target) = codes "end" ∷ codes "8" ∷ []

-- the number of targets, then each line, then the end
unfoldable pub report_rows : Script → Report → List Words
report_rows s q = head_row q.targets ∷ flat_map (line_rows s) q.lines ++ end_row q.down ∷ []

-- the text of a report, in which a script's names stand for containers and objects
unfoldable pub report_text : Script → Report → List ℕ
report_text s q = rows_text (report_rows s q)
