-- The transactions of a report that took effect.
use Rattle.std.specs.Prelude.{Bool, true, false, ◌++◌, List, [], ◌∷◌, Option, Some, None, if◌then◌else◌}
use Rattle.base_types.specs.declared.epoch.Epoch.{Epoch}
use Rattle.base_types.specs.declared.id.AttemptId.{AttemptId}
use Rattle.base_types.specs.declared.operation.Write.{Write}
use Rattle.base_types.specs.declared.outcome.Outcome.{Outcome}
use Rattle.base_types.specs.declared.outcome.Outcome.TheVariants as outcome
use Rattle.base_types.specs.declared.report.Attempt.{Attempt}
use Rattle.base_types.specs.declared.report.Line.{Line}
use Rattle.base_types.specs.declared.script.Script.{Script}
use Rattle.daos_model.specs.declared.stand.Taken.{Taken}
use Rattle.daos_model.specs.Attempts.{tries}
use Rattle.daos_model.specs.Transactions.{attempt_ops, writes_of}

-- whether an attempt took effect: one that is reported committed did, one that is reported unknown where it is found resolved
abbrev pub took_effect : Bool → Outcome → Bool
took_effect resolved outcome.Committed = true
took_effect resolved (outcome.CondFailed op) = false
took_effect resolved (outcome.Restart cause) = false
took_effect resolved (outcome.NoSpace target need free) = false
took_effect resolved outcome.EpochsSpent = false
took_effect resolved outcome.NoSnapshot = false
took_effect resolved (outcome.Unknown target) = resolved

-- a transaction of writes at an epoch; without a write there is none
abbrev pub taken_at : Option Epoch → List Write → List Taken
taken_at None ws = []
taken_at (Some e) [] = []
taken_at (Some e) (w ∷ ws) = record { epoch = e; writes = w ∷ ws } ∷ []

-- the writes of an attempt that took effect, at its epoch
abbrev pub taken_by : Script → (AttemptId → Bool) → Attempt → List Taken
taken_by s resolved a = if took_effect (resolved a.id) a.outcome then taken_at a.epoch (writes_of (attempt_ops s a.id)) else []

-- the transactions of attempts that took effect, in the order of the attempts
abbrev pub all_taken : Script → (AttemptId → Bool) → List Attempt → List Taken
all_taken s resolved [] = []
all_taken s resolved (a ∷ attempts) = taken_by s resolved a ++ all_taken s resolved attempts

-- the transactions that took effect by the lines of a report, where it is known which attempts the regions hold resolved
unfoldable pub took : Script → (AttemptId → Bool) → List Line → List Taken
took s resolved lines = all_taken s resolved (tries lines)
