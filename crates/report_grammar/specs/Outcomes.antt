-- How an attempt ended, in words.
use Rattle.std.specs.Prelude.{ℕ, List, Option, Some, None, codes, if◌then◌else◌}
use Rattle.std.specs.Str.{bytes_eq}
use Rattle.base_types.specs.declared.outcome.Cause.{Cause}
use Rattle.base_types.specs.declared.outcome.Cause.TheVariants as cause
use Rattle.base_types.specs.declared.outcome.FloorWhy.{FloorWhy}
use Rattle.base_types.specs.declared.outcome.FloorWhy.TheVariants as floor
use Rattle.base_types.specs.declared.outcome.Outcome.{Outcome}
use Rattle.base_types.specs.declared.outcome.Outcome.TheVariants as outcome
use Rattle.base_types.specs.declared.script.Script.{Script}
use Rattle.base_types.specs.declared.shown.Shown.{Shown}
use Rattle.base_text.specs.Rows.{Words}
use Rattle.report_grammar.specs.Reads.{◌>>=◌}
use Rattle.report_grammar.specs.Names.{path_at}
use Rattle.report_grammar.specs.Words.{word_at, nothing_at, number_at, epoch_at, attempt_id_at}

abbrev pub snapshot_floor : Words → Option FloorWhy
snapshot_floor ws = do
  epoch ← epoch_at ws
  end ← nothing_at epoch.1
  Some (floor.Snapshot epoch.0)

abbrev pub floor_by : List ℕ → ℕ → Option FloorWhy
floor_by kind n =
    if bytes_eq kind (codes "restart") then Some (floor.Restart n) else if bytes_eq kind (codes "aggregate") then Some (floor.Aggregate n) else None

abbrev pub numbered_floor : List ℕ → Words → Option FloorWhy
numbered_floor kind ws = do
  number ← number_at 0 4294967295 ws
  end ← nothing_at number.1
  floor_by kind number.0

-- what set a floor
unfoldable pub floor_of : Words → Option FloorWhy
floor_of ws = do
  kind ← word_at ws
  if bytes_eq kind.0 (codes "snapshot") then snapshot_floor kind.1 else numbered_floor kind.0 kind.1

-- another attempt's access
unfoldable pub access_of : Script → Words → Option Shown
access_of s ws = do
  by ← attempt_id_at ws
  epoch ← epoch_at by.1
  path ← path_at s epoch.1
  end ← nothing_at path.1
  Some (record { by = by.0; epoch = epoch.0; path = path.0 })

unfoldable pub floor_cause_of : Words → Option Cause
floor_cause_of ws = do
  target ← number_at 0 255 ws
  epoch ← epoch_at target.1
  why ← floor_of epoch.1
  Some (cause.Floor target.0 epoch.0 why)

abbrev pub unresolved_of : Words → Option Cause
unresolved_of ws = do
  by ← attempt_id_at ws
  end ← nothing_at by.1
  Some (cause.Unresolved by.0)

abbrev pub later_by : List ℕ → Shown → Option Cause
later_by kind a =
    if bytes_eq kind (codes "readlater") then Some (cause.ReadLater a.by a.epoch a.path)
    else if bytes_eq kind (codes "writelater") then Some (cause.WriteLater a.by a.epoch a.path) else None

abbrev pub later_of : Script → List ℕ → Words → Option Cause
later_of s kind ws = do
  a ← access_of s ws
  later_by kind a

-- why an attempt was told to restart
unfoldable pub cause_of : Script → Words → Option Cause
cause_of s ws = do
  kind ← word_at ws
  if bytes_eq kind.0 (codes "floor") then floor_cause_of kind.1 else if bytes_eq kind.0 (codes "unresolved") then unresolved_of kind.1 else later_of s kind.0 kind.1

unfoldable pub no_space_of : Words → Option Outcome
no_space_of ws = do
  target ← number_at 0 255 ws
  need ← number_at 0 4294967295 target.1
  free ← number_at 0 4294967295 need.1
  end ← nothing_at free.1
  Some (outcome.NoSpace target.0 need.0 free.0)

abbrev pub numbered_by : List ℕ → ℕ → Option Outcome
numbered_by kind n =
    if bytes_eq kind (codes "condfailed") then Some (outcome.CondFailed n) else if bytes_eq kind (codes "unknown") then Some (outcome.Unknown n) else None

-- an outcome of one number
unfoldable pub numbered_of : List ℕ → Words → Option Outcome
numbered_of kind ws = do
  number ← number_at 0 255 ws
  end ← nothing_at number.1
  numbered_by kind number.0

-- an outcome of one word
abbrev pub plain_of : List ℕ → Option Outcome
plain_of kind =
    if bytes_eq kind (codes "committed") then Some outcome.Committed else if bytes_eq kind (codes "spent") then Some outcome.EpochsSpent
    else if bytes_eq kind (codes "nosnap") then Some outcome.NoSnapshot else None

abbrev pub plain_or_numbered : List ℕ → Option Outcome → Words → Option Outcome
plain_or_numbered kind None ws = numbered_of kind ws
plain_or_numbered kind (Some o) ws = nothing_at ws >>= λ end. Some o

abbrev pub restart_of : Script → Words → Option Outcome
restart_of s ws = do
  why ← cause_of s ws
  Some (outcome.Restart why)

abbrev pub outcome_by : Script → List ℕ → Words → Option Outcome
outcome_by s kind ws =
    if bytes_eq kind (codes "restart") then restart_of s ws else if bytes_eq kind (codes "nospace") then no_space_of ws
    else plain_or_numbered kind (plain_of kind) ws

-- how an attempt ended, of all the words that are left
unfoldable pub outcome_of : Script → Words → Option Outcome
outcome_of s ws = do
  kind ← word_at ws
  outcome_by s kind.0 kind.1
