-- A client that is alone: no attempt of it is told to restart, and each of its commands is attempted once.
use Rattle.std.specs.Prelude.{ℕ, ◌+◌, ◌^◌, ◌≡◌, ◌≤◌, ◌<◌, Bool, true, false, max, [], length, map, All, Contains, Some}
use Rattle.std.specs.List.{range_with_len}
use Rattle.base_types.specs.declared.epoch.Epoch.{Epoch}
use Rattle.base_types.specs.declared.id.AttemptId.{AttemptId}
use Rattle.base_types.specs.declared.job.Job.{Job}
use Rattle.base_types.specs.declared.operation.Cond.TheVariants.{Free}
use Rattle.base_types.specs.declared.operation.Op.{Op}
use Rattle.base_types.specs.declared.outcome.Outcome.{Outcome}
use Rattle.base_types.specs.declared.outcome.Outcome.TheVariants as outcome
use Rattle.base_types.specs.declared.report.Attempt.{Attempt}
use Rattle.base_types.specs.declared.report.Report.{Report}
use Rattle.base_types.specs.declared.script.Script.{Script}
use Rattle.base_types.specs.Epochs.{last_ticks}
use Rattle.base_types.specs.Scripts.{IsInForm}
use Rattle.daos_model.specs.Attempts.{EachTry, is_restart, tries}
use Rattle.daos_model.specs.Headline.{Headline}
use Rattle.daos_model.specs.Opening.{Given, Opening, Outside, fresh, top}
use Rattle.daos_model.specs.Order.{client_commands}
use Rattle.daos_model.specs.Transactions.{attempt_ops}
use Rattle.model_reports.specs.Rooms.{HasRoom, OnlyTransactions}

-- ---- the run

abbrev pub HasOneClient : Script → Type 0
HasOneClient s = length s.clients ≡ 1

-- One client runs transactions alone, none of which reads at a snapshot; and nothing stops a target: the script asks for no stop, and
-- the outside failed no region.
pub record IsLone (s : Script) (o : Outside) : Type 0 where
  pub one : HasOneClient s
  pub plain : OnlyTransactions s
  pub no_stops : s.stops ≡ []
  pub undisturbed : (t : ℕ) → o.rises t ≡ Some 0

-- no operation has a condition
abbrev pub HasNoConditions : Script → Type 0
HasNoConditions s = (x : AttemptId) (op : Op) → Contains (attempt_ops s x) op → op.cond ≡ Free

-- there are ticks for an attempt of each command of the client, whatever the clock tells
abbrev pub HasTicks : Script → Opening → Type 0
HasTicks s o = max (2 ^ 55) o.lease + length (client_commands s 0) ≤ last_ticks

-- ---- the report

-- no attempt is told to restart
abbrev pub NeverRestarts : Report → Type 0
NeverRestarts q = All (λ a. is_restart a.outcome ≡ false) (tries q.lines)

-- the first attempt of a command of the only client
abbrev pub first_attempt : ℕ → AttemptId
first_attempt n = record { client = 0; command = n; attempt = 0 }

-- each command of the only client has one attempt, in the order of the script
abbrev pub EachIsTriedOnce : Script → Report → Type 0
EachIsTriedOnce s q = map (λ a. a.id) (tries q.lines) ≡ map first_attempt (range_with_len 0 (length (client_commands s 0)))

-- the epoch of each attempt is above those of the lines before its own
abbrev pub EpochsRise : Report → Type 0
EpochsRise q = EachTry (λ before a. (b : Attempt) (e f : Epoch) → Contains (tries before) b → b.epoch ≡ Some e → a.epoch ≡ Some f → e.0 < f.0) q.lines

-- all epochs are above this one
abbrev pub EpochsAreAbove : ℕ → Report → Type 0
EpochsAreAbove low q = (a : Attempt) (e : Epoch) → Contains (tries q.lines) a → a.epoch ≡ Some e → low < e.0

-- an attempt is committed, or it fails by a condition, for want of space or for want of ticks
abbrev pub ends_plainly : Outcome → Bool
ends_plainly outcome.Committed = true
ends_plainly (outcome.CondFailed op) = true
ends_plainly (outcome.Restart why) = false
ends_plainly (outcome.NoSpace target need free) = true
ends_plainly outcome.EpochsSpent = true
ends_plainly outcome.NoSnapshot = false
ends_plainly (outcome.Unknown target) = false

abbrev pub EndsPlainly : Report → Type 0
EndsPlainly q = All (λ a. ends_plainly a.outcome ≡ true) (tries q.lines)

abbrev pub AllAreCommitted : Report → Type 0
AllAreCommitted q = All (λ a. a.outcome ≡ outcome.Committed) (tries q.lines)

-- ---- the statements

-- of every legal report of such a run
abbrev pub OfLoneClients : (Given → Report → Type 0) → Type 0
OfLoneClients P = (g : Given) (o : Outside) (resolved : AttemptId → Bool) (q : Report) → IsLone g.script o → Headline g o resolved q → P g q

-- no attempt is told to restart
abbrev pub LoneClientsNeverRestart : Type 0
LoneClientsNeverRestart = OfLoneClients (λ g q. NeverRestarts q)

-- so each command has one attempt
abbrev pub LoneClientsTryOnce : Type 0
LoneClientsTryOnce = OfLoneClients (λ g q. EachIsTriedOnce g.script q)

-- epochs rise in the order of the lines, and are above all of before the run
abbrev pub LoneClientsRise : Type 0
LoneClientsRise = OfLoneClients (λ g q. EpochsRise q × EpochsAreAbove (top g.opening) q)

-- it is known what became of each attempt
abbrev pub LoneClientsEndPlainly : Type 0
LoneClientsEndPlainly = OfLoneClients (λ g q. EndsPlainly q)

-- without conditions, with room and with ticks, each attempt is committed
abbrev pub LoneClientsCommit : Type 0
LoneClientsCommit =
    OfLoneClients (λ g q. 0 < g.script.targets → 0 < g.job.attempts → HasRoom g.script g.job.attempts g.opening.free → HasNoConditions g.script → HasTicks g.script g.opening → AllAreCommitted q)

-- over regions of zeros there are ticks for every script in form
abbrev pub FreshRunsHaveTicks : Type 0
FreshRunsHaveTicks = (targets : ℕ) (s : Script) (j : Job) → IsInForm targets s → HasOneClient s → HasTicks s (fresh s j).opening
