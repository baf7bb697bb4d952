-- What the changes of a turn leave, one by one.
use Rattle.std.specs.Prelude.{ℕ, ◌≡◌, ◌<◌, ◌≤◌, ◌^◌, List, Option, Some}
use Rattle.std.proofs.Common.{arith}
use Rattle.base_types.specs.declared.entry.Entry.{Entry}
use Rattle.base_types.specs.declared.entry.Settle.TheVariants.{Abort, Commit, Confirm}
use Rattle.base_types.specs.declared.epoch.Epoch.{Epoch}
use Rattle.base_types.specs.declared.id.AttemptId.{AttemptId}
use Rattle.base_types.specs.declared.operation.MinorWrite.{MinorWrite}
use Rattle.base_types.specs.declared.outcome.FloorWhy.{FloorWhy}
use Rattle.base_types.specs.declared.shown.Shown.{Shown}
use Rattle.base_types.specs.Epochs.{lease_for}
use Rattle.daos_model.specs.declared.durable.Durable.{Durable}
use Rattle.daos_model.specs.declared.durable.Version.{Version}
use Rattle.daos_model.specs.Changes.{leased, prepared, settled}
use Rattle.daos_model.specs.Opening.{Opening}
use Rattle.world_commit.specs.attempts.History.{History, Served}
use Rattle.world_commit.specs.world_base.declared.target.TargetPlan.{TargetPlan}
use Rattle.world_commit.specs.world_base.Events.{Rules}
use Rattle.world_contents.specs.reads.ChangeLaws.{WasDecided, aborts-stands, confirms-stands, extends-stands, settles-stands}
use Rattle.world_contents.specs.reads.Midway.{Sound}
use Rattle.world_contents.specs.reads.ShowLaws.{aborts-shows, confirms-shows, extends-shows, settles-shows, stores-shows}
use Rattle.world_contents.specs.reads.StoreLaws.{AreItsOwn, IsNewEntry, stores-stands}
use Rattle.world_commit.specs.world_base.ChangeLaws.{lease-covers}
use Rattle.world_commit.specs.world_base.Commits.{IsAllowed}

module _ (r : Rules) (o : Opening) (held : List Version) (h : History) (served : List Served) (opening : Epoch × FloorWhy) (t : ℕ) (stamps : List Shown) where
  -- the lease is extended to cover ticks above it
  pub extends-sound : (d : Durable) (n ticks : ℕ) → d.lease < n → lease_for n ≡ Some ticks → Sound r o held h served opening t d stamps → Sound r o held h served opening t (leased ticks d) stamps
  extends-sound d n ticks low is k = record { stand = extends-stands r o held h t d ticks more covers.1 k.stand; shows = extends-shows r served opening t d stamps ticks more k.shows }
    where
      covers : (n ≤ ticks) × (ticks < 2 ^ 56)
      covers = lease-covers n ticks is

      more : d.lease ≤ ticks
      more = let c = covers.0 in omega (arith, low, c)

  -- a decided attempt is settled
  pub commits-sound : (d : Durable) (a : AttemptId) → WasDecided h a → Sound r o held h served opening t d stamps → Sound r o held h served opening t (settled a Commit d) stamps
  commits-sound d a decided k = record { stand = settles-stands r o held h t d a decided k.stand; shows = settles-shows r served opening t d stamps a k.shows }

  -- one that isn't is aborted
  pub aborts-sound : (d : Durable) (a : AttemptId) → (WasDecided h a → ⊥) → Sound r o held h served opening t d stamps → Sound r o held h served opening t (settled a Abort d) stamps
  aborts-sound d a none k = record { stand = aborts-stands r o held h t d a none k.stand; shows = aborts-shows r served opening t d stamps a k.shows }

  -- a member confirms
  pub confirms-sound : (d : Durable) (a : AttemptId) (n : ℕ) → Sound r o held h served opening t d stamps → Sound r o held h served opening t (settled a (Confirm n) d) stamps
  confirms-sound d a n k = record { stand = confirms-stands r o held h t d a n k.stand; shows = confirms-shows r served opening t d stamps a n k.shows }

  -- an attempt's writes are stored, which aren't refused
  pub stores-sound : (d : Durable) (k : Entry) (ws : List MinorWrite) (p : TargetPlan) (first : Option Epoch) → IsNewEntry h d k ws → AreItsOwn r k.attempt t ws → IsAllowed p opening first k.epoch d stamps ws
      → Sound r o held h served opening t d stamps → Sound r o held h served opening t (prepared k ws d) stamps
  stores-sound d k ws p first new own allowed s = record { stand = stores-stands r o held h t d k ws new own s.stand; shows = stores-shows r served opening t d stamps k ws p first allowed s.shows }
