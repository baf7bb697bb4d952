-- By which causes an attempt may be told to restart, as its command goes.
use Rattle.std.specs.Prelude.{ℕ, ◌≡◌, Bool, true, false, not, List, Option, Some, None}
use Rattle.base_types.specs.declared.id.AttemptId.{AttemptId}
use Rattle.base_types.specs.declared.outcome.Cause.{Cause}
use Rattle.base_types.specs.declared.outcome.Cause.TheVariants as cause
use Rattle.base_types.specs.declared.outcome.FloorWhy.{FloorWhy}
use Rattle.base_types.specs.declared.outcome.FloorWhy.TheVariants as why
use Rattle.base_types.specs.declared.outcome.Outcome.{Outcome}
use Rattle.base_types.specs.declared.outcome.Outcome.TheVariants as outcome
use Rattle.base_types.specs.declared.script.Command.{Command}
use Rattle.base_types.specs.declared.script.Command.TheVariants.{Run, Snap, Aggregate, Tell, Skip}
use Rattle.base_types.specs.declared.script.Script.{Script}
use Rattle.daos_model.specs.Transactions.{command_of}

-- an unresolved attempt: whichever it is, the refused one itself or another one
abbrev pub is_unresolved : Cause → Bool
is_unresolved (cause.ReadLater by epoch path) = false
is_unresolved (cause.WriteLater by epoch path) = false
is_unresolved (cause.Unresolved by) = true
is_unresolved (cause.Floor target epoch reason) = false

-- a floor that a snapshot set
abbrev pub is_of_snapshot : FloorWhy → Bool
is_of_snapshot why.Opening = false
is_of_snapshot (why.Restart number) = false
is_of_snapshot (why.Snapshot epoch) = true
is_of_snapshot (why.Aggregate number) = false

-- a snapshot is refused by a floor that no snapshot set, or by an unresolved attempt, its own or another one
abbrev pub may_refuse_snap : Cause → Bool
may_refuse_snap (cause.ReadLater by epoch path) = false
may_refuse_snap (cause.WriteLater by epoch path) = false
may_refuse_snap (cause.Unresolved by) = true
may_refuse_snap (cause.Floor target epoch reason) = not (is_of_snapshot reason)

-- a transaction is refused by any cause; one that reads at a snapshot, by an unresolved attempt alone, its own or another one
abbrev pub may_refuse_run : Option (List ℕ) → Cause → Bool
may_refuse_run None c = true
may_refuse_run (Some name) c = is_unresolved c

-- an attempt of a command may be told to restart for this cause; one that aggregates, only by an unresolved attempt, itself or another one
abbrev pub may_refuse : Option Command → Cause → Bool
may_refuse None c = true
may_refuse (Some (Run ops skips snapshot)) c = may_refuse_run snapshot c
may_refuse (Some (Snap name cont)) c = may_refuse_snap c
may_refuse (Some (Aggregate cont)) c = is_unresolved c
may_refuse (Some (Tell client)) c = true
may_refuse (Some (Skip turns)) c = true

-- it may end so
abbrev pub may_end : Option Command → Outcome → Bool
may_end d outcome.Committed = true
may_end d (outcome.CondFailed op) = true
may_end d (outcome.Restart c) = may_refuse d c
may_end d (outcome.NoSpace target need free) = true
may_end d outcome.EpochsSpent = true
may_end d outcome.NoSnapshot = true
may_end d (outcome.Unknown target) = true

-- an attempt may end so, by its command in the script
abbrev pub GoesWithCommand : Script → AttemptId → Outcome → Type 0
GoesWithCommand s x how = may_end (command_of s x) how ≡ true
