-- The laws of the epochs of attempts where snapshots are made and read, and containers are aggregated, as statements.
use Rattle.std.specs.Prelude.{ℕ, ◌≡◌, ◌<◌, true, slice_get, Some}
use Rattle.base_types.specs.declared.id.AttemptId.{AttemptId}
use Rattle.world_causes.specs.world_commit.attempts.History.{History}
use Rattle.world_base.specs.declared.client.ClientState.{ClientState}
use Rattle.world_base.specs.declared.world.World.{World}
use Rattle.world_base.specs.Events.{Rules}
use Rattle.world_base.specs.Stops.{WorldEvent}
use Rattle.world_letters.specs.epochs.Epochs.{ClientsStand, Epochs, is_making, issuer_of}
use Rattle.world_causes.specs.world_commit.fates.Facts.{Attempts}
use Rattle.world_letters.specs.snapshots.Makings.{Makings}
use Rattle.world_letters.specs.waits.Premises.{RequestsAreOfClients}
use Rattle.world_letters.specs.waits.Waits.{Conversation}
use Rattle.world_causes.specs.handing.Dates.{SnapshotsAreRead}
use Rattle.world_making.specs.dates.Clients.{KeepsKnown}

-- Where attempts that read at snapshots write nothing, requests come from clients, and conversations, attempts and what makes snapshots and
-- aggregates are in order, every event of a run keeps what is said of epochs.
abbrev pub AllEventsKeepEpochs : Type 0
AllEventsKeepEpochs =
    (r : Rules) (top : ℕ) (h : History) (w v : World) → 0 < r.attempts → SnapshotsAreRead r → RequestsAreOfClients w → Conversation r w → Attempts r h w → Makings r w → ClientsStand r w → Epochs r top w → WorldEvent r w v → Epochs r top v

-- a client goes on knowing snapshots at their epochs, whatever happens
abbrev pub EventsKeepKnown : Type 0
EventsKeepKnown = (r : Rules) (w v : World) → WorldEvent r w v → (n : ℕ) (c : ClientState) → slice_get w.clients n ≡ Some c → (d : ClientState) × (slice_get v.clients n ≡ Some d) × KeepsKnown c d

-- the epoch of an attempt that makes a snapshot or aggregates is issued by target 0
abbrev pub MakersAskFirstTarget : Type 0
MakersAskFirstTarget = (r : Rules) (x : AttemptId) → is_making r x ≡ true → issuer_of r.script x ≡ 0
