-- What a row of a report tells, by its words.
use Rattle.std.specs.Prelude.{ℕ, Bool, true, false, List, [], Option, Some, None, codes, if◌then◌else◌}
use Rattle.std.specs.Str.{bytes_eq}
use Rattle.base_types.specs.declared.report.Line.TheVariants as line
use Rattle.base_types.specs.declared.script.Script.{Script}
use Rattle.base_text.specs.Rows.{Words}
use Rattle.report_grammar.specs.declared.rows.Told.{Told}
use Rattle.report_grammar.specs.declared.rows.Told.TheVariants.{Try, Cond, Got, Other}
use Rattle.report_grammar.specs.Answers.{answer_of}
use Rattle.report_grammar.specs.Names.{cont_at}
use Rattle.report_grammar.specs.Outcomes.{outcome_of}
use Rattle.report_grammar.specs.Reads.{◌>>=◌, Taken}
use Rattle.report_grammar.specs.Words.{word_at, nothing_at, number_at, key_at, epoch_at, epoch_or_none_at, attempt_id_at}

-- an attempt, of which more may be told below
unfoldable pub attempt_of : Script → Words → Option Told
attempt_of s ws = do
  id ← attempt_id_at ws
  epoch ← epoch_or_none_at id.1
  outcome ← outcome_of s epoch.1
  Some (Try (record { id = id.0; epoch = epoch.0; conds = []; gots = []; outcome = outcome }))

abbrev pub yes_of : List ℕ → Option Bool
yes_of w = if bytes_eq w (codes "yes") then Some true else if bytes_eq w (codes "no") then Some false else None

unfoldable pub yes_at : Words → Taken Bool
yes_at ws = do
  w ← word_at ws
  b ← yes_of w.0
  Some (b, w.1)

unfoldable pub cond_of : Words → Option Told
cond_of ws = do
  op ← number_at 0 255 ws
  holds ← yes_at op.1
  end ← nothing_at holds.1
  Some (Cond (op.0, holds.0))

unfoldable pub got_of : Words → Option Told
got_of ws = do
  op ← number_at 0 255 ws
  answer ← answer_of op.1
  Some (Got (op.0, answer))

unfoldable pub stop_of : Words → Option Told
stop_of ws = do
  number ← number_at 0 4294967295 ws
  target ← number_at 0 255 number.1
  end ← nothing_at target.1
  Some (Other (line.Stop number.0 target.0))

unfoldable pub restart_of : Words → Option Told
restart_of ws = do
  number ← number_at 0 4294967295 ws
  target ← number_at 0 255 number.1
  incarnation ← number_at 0 18446744073709551615 target.1
  floor ← epoch_at incarnation.1
  end ← nothing_at floor.1
  Some (Other (line.Restart number.0 target.0 incarnation.0 floor.0))

unfoldable pub freeze_of : Script → Words → Option Told
freeze_of s ws = do
  target ← number_at 0 255 ws
  cont ← cont_at s target.1
  epoch ← epoch_at cont.1
  end ← nothing_at epoch.1
  Some (Other (line.Freeze target.0 cont.0 epoch.0))

unfoldable pub snapshot_of : Script → Words → Option Told
snapshot_of s ws = do
  name ← key_at ws
  cont ← cont_at s name.1
  epoch ← epoch_at cont.1
  end ← nothing_at epoch.1
  Some (Other (line.Snapshot name.0 cont.0 epoch.0))

unfoldable pub aggregate_of : Script → Words → Option Told
aggregate_of s ws = do
  number ← number_at 0 4294967295 ws
  target ← number_at 0 255 number.1
  cont ← cont_at s target.1
  upto ← epoch_at cont.1
  end ← nothing_at upto.1
  Some (Other (line.Aggregate number.0 target.0 cont.0 upto.0))

unfoldable pub down_of : Words → Option Told
down_of ws = do
  target ← number_at 0 255 ws
  end ← nothing_at target.1
  Some (Other (line.Down target.0))

abbrev pub told_by : Script → List ℕ → Words → Option Told
told_by s kind ws =
    if bytes_eq kind (codes "try") then attempt_of s ws
    else if bytes_eq kind (codes "cond") then cond_of ws
    else if bytes_eq kind (codes "got") then got_of ws
    else if bytes_eq kind (codes "stop") then stop_of ws
    else if bytes_eq kind (codes "restart") then restart_of ws
    else if bytes_eq kind (codes "freeze") then freeze_of s ws
    else if bytes_eq kind (codes "snapshot") then snapshot_of s ws
    else if bytes_eq kind (codes "aggregate") then aggregate_of s ws
    else if bytes_eq kind (codes "down") then down_of ws
    else None

-- what a row tells, whatever stands above it
unfoldable pub told_of : Script → Words → Option Told
told_of s ws = do
  kind ← word_at ws
  told_by s kind.0 kind.1
