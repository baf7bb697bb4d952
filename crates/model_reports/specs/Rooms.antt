-- Room for all that a script may write, and places for its snapshots: then no attempt of a legal report is refused for want of these.
use Rattle.std.specs.Prelude.{ℕ, ◌+◌, ◌*◌, ◌≡◌, ◌≤◌, ◌<◌, Bool, true, false, is_none, List, [], ◌∷◌, length, All, Some}
use Rattle.std.specs.List.{list_all}
use Rattle.base_types.specs.declared.id.AttemptId.{AttemptId}
use Rattle.base_types.specs.declared.outcome.Outcome.{Outcome}
use Rattle.base_types.specs.declared.outcome.Outcome.TheVariants as outcome
use Rattle.base_types.specs.declared.report.Report.{Report}
use Rattle.base_types.specs.declared.script.Command.{Command}
use Rattle.base_types.specs.declared.script.Command.TheVariants.{Run, Snap, Aggregate, Tell, Skip}
use Rattle.base_types.specs.declared.script.Script.{Script}
use Rattle.base_types.specs.Scripts.{is_numbered}
use Rattle.daos_model.specs.Accesses.{minor_writes}
use Rattle.daos_model.specs.Attempts.{tries}
use Rattle.daos_model.specs.CausesShown.{blocks_of_some, is_snap}
use Rattle.daos_model.specs.Headline.{Headline}
use Rattle.daos_model.specs.Opening.{Given, Outside}
use Rattle.daos_model.specs.Transactions.{command_of, ops_of}

-- ---- the measure of a script

-- a measure of each, summed up
abbrev pub sum_of : {T : Type 0} → (T → ℕ) → List T → ℕ
sum_of f [] = 0
sum_of f (x ∷ xs) = f x + sum_of f xs

-- a measure of each command of each client, summed up
abbrev pub sum_over : (Command → ℕ) → Script → ℕ
sum_over f s = sum_of (sum_of f) s.clients

-- the blocks that a command's entry and writes take at most; none where it writes nothing
abbrev pub blocks_of_command : Command → ℕ
blocks_of_command c = blocks_of_some (minor_writes 0 (ops_of c))

-- how many snapshots a command makes
abbrev pub snaps_of_command : Command → ℕ
snaps_of_command (Run ops skips snapshot) = 0
snaps_of_command (Snap name cont) = 1
snaps_of_command (Aggregate cont) = 0
snaps_of_command (Tell client) = 0
snaps_of_command (Skip turns) = 0

-- Every target has as many free blocks as all commands take together, each attempted as often as is allowed.
abbrev pub HasRoom : Script → ℕ → (ℕ → ℕ) → Type 0
HasRoom s attempts free = (t : ℕ) → t < s.targets → sum_over blocks_of_command s * attempts ≤ free t

-- Beside so many snapshots there is a place for each that commands make, each attempted as often as is allowed.
abbrev pub HasPlaces : Script → ℕ → ℕ → Type 0
HasPlaces s attempts snaps = snaps + sum_over snaps_of_command s * attempts ≤ 256

-- ---- scripts without snapshots

-- a transaction that reads at no snapshot
abbrev pub is_transaction : Command → Bool
is_transaction (Run ops skips snapshot) = is_none snapshot
is_transaction (Snap name cont) = false
is_transaction (Aggregate cont) = false
is_transaction (Tell client) = false
is_transaction (Skip turns) = false

-- each command that has attempts is one
abbrev pub OnlyTransactions : Script → Type 0
OnlyTransactions s = (x : AttemptId) (c : Command) → command_of s x ≡ Some c → is_transaction c ≡ true

-- so it is where each command of the clients' lists passes a test that only a transaction passes, of those that bear a number
abbrev pub ListsOfTransactions : Type 0
ListsOfTransactions = (s : Script) (t : Command → Bool) → ((c : Command) → t c ≡ true → is_numbered c ≡ true → is_transaction c ≡ true) → list_all (list_all t) s.clients ≡ true → OnlyTransactions s

-- ---- the report

abbrev pub lacks_space : Outcome → Bool
lacks_space outcome.Committed = false
lacks_space (outcome.CondFailed op) = false
lacks_space (outcome.Restart why) = false
lacks_space (outcome.NoSpace target need free) = true
lacks_space outcome.EpochsSpent = false
lacks_space outcome.NoSnapshot = false
lacks_space (outcome.Unknown target) = false

-- no attempt is refused for want of space
abbrev pub FindsRoom : Report → Type 0
FindsRoom q = All (λ a. lacks_space a.outcome ≡ false) (tries q.lines)

-- no attempt to make a snapshot is refused for want of a place
abbrev pub SnapshotsFindPlaces : Script → Report → Type 0
SnapshotsFindPlaces s q = All (λ a. is_snap (command_of s a.id) ≡ true → lacks_space a.outcome ≡ false) (tries q.lines)

-- ---- the statements

-- where there are places, no attempt of a legal report to make a snapshot is refused one, whatever blocks there are
abbrev pub PlacesAreFound : Type 0
PlacesAreFound =
    (g : Given) (o : Outside) (resolved : AttemptId → Bool) (q : Report) → 0 < g.job.attempts → HasPlaces g.script g.job.attempts (length g.opening.stand.snaps) → Headline g o resolved q
    → SnapshotsFindPlaces g.script q

-- where there is room and there are places, no attempt of a legal report is refused for want of space
abbrev pub RoomIsFound : Type 0
RoomIsFound =
    (g : Given) (o : Outside) (resolved : AttemptId → Bool) (q : Report) → 0 < g.script.targets → 0 < g.job.attempts → HasRoom g.script g.job.attempts g.opening.free
    → HasPlaces g.script g.job.attempts (length g.opening.stand.snaps) → Headline g o resolved q → FindsRoom q

-- where each command is a transaction that reads at no snapshot, room is enough
abbrev pub TransactionsFindRoom : Type 0
TransactionsFindRoom =
    (g : Given) (o : Outside) (resolved : AttemptId → Bool) (q : Report) → 0 < g.script.targets → 0 < g.job.attempts → HasRoom g.script g.job.attempts g.opening.free → OnlyTransactions g.script
    → Headline g o resolved q → FindsRoom q
