-- The attempts that a report tells of, and when they stand before one another.
use Rattle.std.specs.Prelude.{ℕ, ◌≡◌, ◌==◌, Bool, true, false, ◌||◌, not, List, [], ◌∷◌, ◌++◌, Option, Some, None, filter, is_some, if◌then◌else◌}
use Rattle.std.specs.List.{list_any}
use Rattle.base_types.specs.declared.epoch.Epoch.{Epoch}
use Rattle.base_types.specs.declared.id.AttemptId.{AttemptId}
use Rattle.base_types.specs.declared.outcome.Cause.{Cause}
use Rattle.base_types.specs.declared.outcome.Cause.TheVariants as cause
use Rattle.base_types.specs.declared.outcome.Outcome.{Outcome}
use Rattle.base_types.specs.declared.outcome.Outcome.TheVariants as outcome
use Rattle.base_types.specs.declared.report.Attempt.{Attempt}
use Rattle.base_types.specs.declared.report.Line.{Line}
use Rattle.base_types.specs.declared.report.Line.TheVariants as line
use Rattle.base_types.specs.declared.script.Command.{Command}
use Rattle.base_types.specs.declared.script.Command.TheVariants.{Run, Snap, Aggregate, Tell, Skip}
use Rattle.base_types.specs.declared.script.Script.{Script}
use Rattle.daos_model.specs.Durables.{same_attempt}
use Rattle.daos_model.specs.Transactions.{command_of}

-- the attempt that a line tells of
abbrev pub tried : Line → List Attempt
tried (line.Try a) = a ∷ []
tried (line.Stop number target) = []
tried (line.Restart number target incarnation floor) = []
tried (line.Freeze target cont epoch) = []
tried (line.Snapshot name cont epoch) = []
tried (line.Aggregate number target cont upto) = []
tried (line.Down target) = []

-- the attempts that lines tell of, in their order
unfoldable pub tries : List Line → List Attempt
tries [] = []
tries (l ∷ ls) = tried l ++ tries ls

abbrev pub is_of_client : ℕ → Attempt → Bool
is_of_client c a = a.id.client == c

-- the attempts of one client, in the order of the lines
abbrev pub tries_of : ℕ → List Line → List Attempt
tries_of c lines = filter (is_of_client c) (tries lines)

-- each attempt has a property, which may speak of the lines before its own
abbrev pub EachTry : (List Line → Attempt → Type 0) → List Line → Type 0
EachTry P lines = (before : List Line) (a : Attempt) (after : List Line) → lines ≡ before ++ line.Try a ∷ after → P before a

-- lines up to the last one that tells of an attempt of the client; none where there is no such line
unfoldable pub up_to_last_of : ℕ → List Line → List Line
up_to_last_of c [] = []
up_to_last_of c (l ∷ ls) = if list_any (is_of_client c) (tries (l ∷ ls)) then l ∷ up_to_last_of c ls else []

-- the epoch, if there is one, as a list
abbrev pub epoch_or_none : Option Epoch → List ℕ
epoch_or_none None = []
epoch_or_none (Some e) = e.0 ∷ []

-- the snapshot at which a command reads
abbrev pub snapshot_of_command : Command → Option (List ℕ)
snapshot_of_command (Run ops skips snapshot) = snapshot
snapshot_of_command (Snap name cont) = None
snapshot_of_command (Aggregate cont) = None
snapshot_of_command (Tell client) = None
snapshot_of_command (Skip turns) = None

abbrev pub snapshot_or_none : Option Command → Option (List ℕ)
snapshot_or_none None = None
snapshot_or_none (Some c) = snapshot_of_command c

-- the name of the snapshot at which an attempt reads, if it is a snapshot read
abbrev pub snapshot_of : Script → AttemptId → Option (List ℕ)
snapshot_of s x = snapshot_or_none (command_of s x)

-- an attempt has an epoch of its own where it isn't a snapshot read
abbrev pub has_own_epoch : Script → Attempt → Bool
has_own_epoch s a = not (is_some (snapshot_of s a.id))

-- the epochs of the attempts that aren't snapshot reads, in the order of the attempts
unfoldable pub own_epochs : Script → List Attempt → List ℕ
own_epochs s [] = []
own_epochs s (a ∷ tries) = (if has_own_epoch s a then epoch_or_none a.epoch else []) ++ own_epochs s tries

abbrev pub is_unresolved_by : AttemptId → Cause → Bool
is_unresolved_by x (cause.ReadLater by epoch path) = false
is_unresolved_by x (cause.WriteLater by epoch path) = false
is_unresolved_by x (cause.Unresolved by) = same_attempt by x
is_unresolved_by x (cause.Floor target epoch why) = false

-- an attempt that is told to restart since it is unresolved itself: a target of it stopped
abbrev pub is_lost : AttemptId → Outcome → Bool
is_lost x outcome.Committed = false
is_lost x (outcome.CondFailed op) = false
is_lost x (outcome.Restart why) = is_unresolved_by x why
is_lost x (outcome.NoSpace target need free) = false
is_lost x outcome.EpochsSpent = false
is_lost x outcome.NoSnapshot = false
is_lost x (outcome.Unknown target) = false

abbrev pub is_unknown : Outcome → Bool
is_unknown outcome.Committed = false
is_unknown (outcome.CondFailed op) = false
is_unknown (outcome.Restart why) = false
is_unknown (outcome.NoSpace target need free) = false
is_unknown outcome.EpochsSpent = false
is_unknown outcome.NoSnapshot = false
is_unknown (outcome.Unknown target) = true

-- an attempt whose client may not have heard its epoch, or what became of it
abbrev pub is_unsure : Attempt → Bool
is_unsure a = is_unknown a.outcome || is_lost a.id a.outcome

abbrev pub is_restart : Outcome → Bool
is_restart outcome.Committed = false
is_restart (outcome.CondFailed op) = false
is_restart (outcome.Restart why) = true
is_restart (outcome.NoSpace target need free) = false
is_restart outcome.EpochsSpent = false
is_restart outcome.NoSnapshot = false
is_restart (outcome.Unknown target) = false
