-- Counts over the lines of a report.
use Rattle.std.specs.Prelude.{ℕ, ◌+◌, ◌%◌, Bool, true, false, ◌&&◌, ◌==◌, List, [], ◌∷◌, ◌++◌, Option, Some, None, if◌then◌else◌}
use Rattle.std.specs.List.{filter_map, list_any}
use Rattle.base_types.specs.declared.epoch.Epoch.{Epoch}
use Rattle.base_types.specs.declared.outcome.Cause.{Cause}
use Rattle.base_types.specs.declared.outcome.Cause.TheVariants as cause
use Rattle.base_types.specs.declared.outcome.Outcome.{Outcome}
use Rattle.base_types.specs.declared.outcome.Outcome.TheVariants as outcome
use Rattle.base_types.specs.declared.report.Line.{Line}
use Rattle.base_types.specs.declared.report.Line.TheVariants as line
use Rattle.daos_summary.specs.declared.counts.Ending.{Ending}
use Rattle.daos_summary.specs.declared.counts.Ending.TheVariants as ending

-- ---- how attempts end

abbrev pub cause_ending : Cause → Ending
cause_ending (cause.ReadLater by epoch path) = ending.ReadLater
cause_ending (cause.WriteLater by epoch path) = ending.WriteLater
cause_ending (cause.Unresolved by) = ending.Unresolved
cause_ending (cause.Floor target epoch why) = ending.Floor

-- a restart by its cause
abbrev pub ending_of : Outcome → Ending
ending_of outcome.Committed = ending.Committed
ending_of (outcome.CondFailed op) = ending.CondFailed
ending_of (outcome.Restart why) = cause_ending why
ending_of (outcome.NoSpace target need free) = ending.NoSpace
ending_of outcome.EpochsSpent = ending.Spent
ending_of outcome.NoSnapshot = ending.NoSnap
ending_of (outcome.Unknown target) = ending.Unknown

-- the place of an ending among them all
abbrev pub number_of : Ending → ℕ
number_of ending.Committed = 0
number_of ending.CondFailed = 1
number_of ending.ReadLater = 2
number_of ending.WriteLater = 3
number_of ending.Unresolved = 4
number_of ending.Floor = 5
number_of ending.NoSpace = 6
number_of ending.Spent = 7
number_of ending.NoSnap = 8
number_of ending.Unknown = 9

-- ---- what lines tell

-- of an attempt
abbrev pub is_try : Line → Bool
is_try (line.Try attempt) = true
is_try (line.Stop number target) = false
is_try (line.Restart number target incarnation floor) = false
is_try (line.Freeze target cont epoch) = false
is_try (line.Snapshot name cont epoch) = false
is_try (line.Aggregate number target cont upto) = false
is_try (line.Down target) = false

-- of an attempt that ended so
abbrev pub ends_so : Ending → Line → Bool
ends_so e (line.Try attempt) = number_of e == number_of (ending_of attempt.outcome)
ends_so e (line.Stop number target) = false
ends_so e (line.Restart number target incarnation floor) = false
ends_so e (line.Freeze target cont epoch) = false
ends_so e (line.Snapshot name cont epoch) = false
ends_so e (line.Aggregate number target cont upto) = false
ends_so e (line.Down target) = false

abbrev pub is_issuer : ℕ → Option Epoch → Bool
is_issuer target None = false
is_issuer target (Some epoch) = epoch.0 % 256 == target

-- of an attempt whose epoch a target issued
abbrev pub is_issued_by : ℕ → Line → Bool
is_issued_by target (line.Try attempt) = is_issuer target attempt.epoch
is_issued_by target (line.Stop number of_target) = false
is_issued_by target (line.Restart number of_target incarnation floor) = false
is_issued_by target (line.Freeze of_target cont epoch) = false
is_issued_by target (line.Snapshot name cont epoch) = false
is_issued_by target (line.Aggregate number of_target cont upto) = false
is_issued_by target (line.Down of_target) = false

-- ---- commands

-- a command: its client and its number
abbrev pub Numbered : Type 0
Numbered = ℕ × ℕ

abbrev pub same_command : Numbered → Numbered → Bool
same_command a b = (a.0 == b.0) && (a.1 == b.1)

-- the command of an attempt
abbrev pub command_of : Line → Option Numbered
command_of (line.Try attempt) = Some (attempt.id.client, attempt.id.command)
command_of (line.Stop number target) = None
command_of (line.Restart number target incarnation floor) = None
command_of (line.Freeze target cont epoch) = None
command_of (line.Snapshot name cont epoch) = None
command_of (line.Aggregate number target cont upto) = None
command_of (line.Down target) = None

-- how many commands there are, each counted where it stands first: where none before is the same
abbrev pub count_new : List Numbered → List Numbered → ℕ
count_new before [] = 0
count_new before (c ∷ cs) = (if list_any (same_command c) before then 0 else 1) + count_new (before ++ c ∷ []) cs

-- how many commands have an attempt
abbrev pub commands_of : List Line → ℕ
commands_of lines = count_new [] (filter_map command_of lines)
