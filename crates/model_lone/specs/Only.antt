-- The only client of a script, none of whose attempts is told to restart: each of its commands is attempted once, and how that ends.
use Rattle.std.specs.Prelude.{◌≡◌, ◌<◌, Bool, true, false, is_some, [], All, Contains, Some}
use Rattle.base_types.specs.declared.epoch.Epoch.{Epoch}
use Rattle.base_types.specs.declared.id.AttemptId.{AttemptId}
use Rattle.base_types.specs.declared.outcome.Outcome.{Outcome}
use Rattle.base_types.specs.declared.outcome.Outcome.TheVariants as outcome
use Rattle.base_types.specs.declared.report.Attempt.{Attempt}
use Rattle.base_types.specs.declared.report.Report.{Report}
use Rattle.base_types.specs.declared.script.Script.{Script}
use Rattle.daos_model.specs.Attempts.{EachTry, has_own_epoch, snapshot_of, tries}
use Rattle.daos_model.specs.Headline.{Headline}
use Rattle.daos_model.specs.Opening.{Given, Outside}
use Rattle.daos_model.specs.Stops.{stop_numbers}
use Rattle.model_reports.specs.Lone.{EachIsTriedOnce, HasOneClient, NeverRestarts}

-- the epoch of each attempt that reads at no snapshot is above those of the others that stand before it
abbrev pub OwnEpochsRise : Script → Report → Type 0
OwnEpochsRise s q =
    EachTry (λ before a. has_own_epoch s a ≡ true → (b : Attempt) (e f : Epoch) → Contains (tries before) b → has_own_epoch s b ≡ true → b.epoch ≡ Some e → a.epoch ≡ Some f → e.0 < f.0) q.lines

-- an attempt is committed, or fails by a condition, for want of space, for want of ticks, or for want of a snapshot
abbrev pub ends_surely : Outcome → Bool
ends_surely outcome.Committed = true
ends_surely (outcome.CondFailed op) = true
ends_surely (outcome.Restart why) = false
ends_surely (outcome.NoSpace target need free) = true
ends_surely outcome.EpochsSpent = true
ends_surely outcome.NoSnapshot = true
ends_surely (outcome.Unknown target) = false

abbrev pub EndSurely : Report → Type 0
EndSurely q = All (λ a. ends_surely a.outcome ≡ true) (tries q.lines)

-- one that fails for want of a snapshot reads at one
abbrev pub ReadersMissSnapshots : Script → Report → Type 0
ReadersMissSnapshots s q = (a : Attempt) → Contains (tries q.lines) a → a.outcome ≡ outcome.NoSnapshot → is_some (snapshot_of s a.id) ≡ true

-- What is told of the only client of a script, whatever its commands do: no attempt is told to restart; each command has one attempt, in
-- the order of the script; epochs rise in the order of the lines, but for those of snapshots that are read; and it is known what became of
-- each attempt.
pub record TellsOfOnlyClient (s : Script) (q : Report) : Type 0 where
  pub never_restarted : NeverRestarts q
  pub one_attempt : EachIsTriedOnce s q
  pub rising : OwnEpochsRise s q
  pub surely : EndSurely q
  pub missing : ReadersMissSnapshots s q

-- so it is by every legal report that tells of no stop, and no attempt to restart
abbrev pub OnlyClientsTellSo : Type 0
OnlyClientsTellSo =
    (g : Given) (o : Outside) (resolved : AttemptId → Bool) (q : Report) → HasOneClient g.script → stop_numbers q.lines ≡ [] → NeverRestarts q → Headline g o resolved q → TellsOfOnlyClient g.script q
