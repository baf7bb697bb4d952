-- Which attempts a report has: each command's, in order, up to the one that ends it.
use Rattle.std.specs.Prelude.{ℕ, ◌+◌, ◌≡◌, ◌<◌, ◌⊎◌, true, false, List, [], ◌∷◌, ◌++◌, Option, Some, None, slice_get, All}
use Rattle.std.specs.List.{IsDistinct}
use Rattle.std.specs.Prelude.{nat_eq}
use Rattle.base_types.specs.declared.epoch.Epoch.{Epoch}
use Rattle.base_types.specs.declared.outcome.Cause.{Cause}
use Rattle.base_types.specs.declared.outcome.Cause.TheVariants as cause
use Rattle.base_types.specs.declared.outcome.Outcome.{Outcome}
use Rattle.base_types.specs.declared.outcome.Outcome.TheVariants as outcome
use Rattle.base_types.specs.declared.report.Attempt.{Attempt}
use Rattle.base_types.specs.declared.report.Line.{Line}
use Rattle.base_types.specs.declared.script.Command.{Command}
use Rattle.base_types.specs.declared.script.Script.{Script}
use Rattle.daos_model.specs.Attempts.{EachTry, has_own_epoch, is_restart, is_unsure, own_epochs, tries, tries_of}
use Rattle.daos_model.specs.Transactions.{numbered}

-- the attempt of this number of a command of a client
abbrev pub IsNumbered : ℕ → ℕ → ℕ → Attempt → Type 0
IsNumbered client command n a = a.id ≡ record { client = client; command = command; attempt = n }

-- the attempts of a command from number n on: each but the last is told to restart; the last isn't, or is the last allowed
abbrev pub AreAttempts : ℕ → ℕ → ℕ → ℕ → List Attempt → Type 0
AreAttempts limit client command n [] = ⊥
AreAttempts limit client command n (a ∷ []) = IsNumbered client command n a × ((is_restart a.outcome ≡ false) ⊎ (n + 1 ≡ limit))
AreAttempts limit client command n (a ∷ b ∷ more) =
    IsNumbered client command n a × (is_restart a.outcome ≡ true) × (n + 1 < limit) × AreAttempts limit client command (n + 1) (b ∷ more)

-- the attempts of a client's commands from this number on, command after command
abbrev pub AreInTurn : ℕ → ℕ → ℕ → List Command → List Attempt → Type 0
AreInTurn limit client n [] attempts = attempts ≡ []
AreInTurn limit client n (c ∷ cs) attempts =
    (own : List Attempt) × (later : List Attempt) × (attempts ≡ own ++ later) × AreAttempts limit client n 0 own × AreInTurn limit client (n + 1) cs later

abbrev pub commands_or_none : Option (List Command) → List Command
commands_or_none None = []
commands_or_none (Some list) = numbered list

-- the commands of a client that have attempts; none where there is no such client
abbrev pub client_commands : Script → ℕ → List Command
client_commands s client = commands_or_none (slice_get s.clients client)

-- a client's lines stand in the order of its commands and of their attempts
abbrev pub AllInTurn : ℕ → Script → List Line → Type 0
AllInTurn limit s lines = (client : ℕ) → AreInTurn limit client 0 (client_commands s client) (tries_of client lines)

-- the epochs of attempts, but for those of snapshot reads, differ from one another and lie above all of before the run
pub record AreIssued (s : Script) (top : ℕ) (lines : List Line) : Type 0 where
  pub distinct : IsDistinct nat_eq (own_epochs s (tries lines))
  pub above : All (λ e. top < e) (own_epochs s (tries lines))

-- an epoch, if there is one, is below a number
abbrev pub EpochIsBelow : ℕ → Option Epoch → Type 0
EpochIsBelow n None = Unit {0}
EpochIsBelow n (Some e) = e.0 < n

abbrev pub told_by_cause : Cause → List ℕ
told_by_cause (cause.ReadLater by epoch path) = epoch.0 ∷ []
told_by_cause (cause.WriteLater by epoch path) = epoch.0 ∷ []
told_by_cause (cause.Unresolved by) = []
told_by_cause (cause.Floor target epoch why) = epoch.0 ∷ []

-- the epoch that an outcome tells its client of
abbrev pub told_by : Outcome → List ℕ
told_by outcome.Committed = []
told_by (outcome.CondFailed op) = []
told_by (outcome.Restart why) = told_by_cause why
told_by (outcome.NoSpace target need free) = []
told_by outcome.EpochsSpent = []
told_by outcome.NoSnapshot = []
told_by (outcome.Unknown target) = []

-- an epoch of an attempt is above that of an earlier one of its client: always where that one is of the same command, and of
-- another command where it was known what became of it; and above each epoch that the client was told of
pub record IsAfter (s : Script) (epoch : ℕ) (a : Attempt) (earlier : Attempt) : Type 0 where
  pub command : earlier.id.command ≡ a.id.command → EpochIsBelow epoch earlier.epoch
  pub sure : has_own_epoch s earlier ≡ true → is_unsure earlier ≡ false → EpochIsBelow epoch earlier.epoch
  pub told : All (λ e. e < epoch) (told_by earlier.outcome)

abbrev pub IsAfterAll : Script → Attempt → Option Epoch → List Attempt → Type 0
IsAfterAll s a None earlier = Unit {0}
IsAfterAll s a (Some e) earlier = All (IsAfter s e.0 a) earlier

-- what an attempt's epoch owes to the lines before its own
abbrev pub RisesFrom : Script → List Line → Attempt → Type 0
RisesFrom s before a = has_own_epoch s a ≡ true → IsAfterAll s a a.epoch (tries_of a.id.client before)

abbrev pub AllRise : Script → List Line → Type 0
AllRise s lines = EachTry (RisesFrom s) lines
