-- The laws of what is frozen where, as statements.
use Rattle.std.specs.Prelude.{ℕ, ◌≡◌, ◌≤◌, ◌<◌, true, [], length, slice_get, Some, None}
use Rattle.base_types.specs.declared.epoch.Epoch.{Epoch}
use Rattle.base_types.specs.declared.id.ContId.{ContId}
use Rattle.model_laws.specs.Members.{Has}
use Rattle.daos_model.specs.Durables.{is_frozen}
use Rattle.daos_model.specs.Opening.{Opening, top}
use Rattle.world_base.specs.declared.client.ClientState.{ClientState}
use Rattle.world_base.specs.declared.client.KnownSnap.{KnownSnap}
use Rattle.world_base.specs.declared.target.TargetState.{TargetState}
use Rattle.world_base.specs.declared.world.World.{World}
use Rattle.world_base.specs.Events.{Rules}
use Rattle.world_base.specs.Stops.{WorldEvent}
use Rattle.world_letters.specs.epochs.Epochs.{ClientsStand}
use Rattle.world_making.specs.freezings.Events.{event-keeps}
use Rattle.world_making.specs.freezings.Freezings.{Freezings, HaveOneEpoch, IsKnownSo, KeepsFrozen}
use Rattle.world_making.specs.making.Snapshots.{holds_created}
use Rattle.world_letters.specs.lines.Lines.{Endings}
use Rattle.world_letters.specs.snapshots.Makings.{Makings}
use Rattle.world_letters.specs.waits.Premises.{LeadersKnow, RequestsAreOfClients}
use Rattle.world_letters.specs.waits.Waits.{Conversation}

-- Where nothing is in flight, told or collected, what target 0 keeps as created is frozen at every target, what is frozen is of before the run,
-- and clients know snapshots that are there and are at no attempt.
abbrev pub FreezingsBegin : Type 0
FreezingsBegin =
    (r : Rules) (o : Opening) (w : World) → w.messages ≡ [] → w.lines ≡ [] → ((t : ℕ) (z : TargetState) → slice_get w.targets t ≡ Some z → z.memory.collecting ≡ [])
    → ((z : TargetState) (c : ContId) (s : Epoch) → slice_get w.targets 0 ≡ Some z → holds_created z.durable c s ≡ true → (t : ℕ) → KeepsFrozen w t c s)
    → ((t : ℕ) (z : TargetState) (c : ContId) (s : Epoch) → slice_get w.targets t ≡ Some z → is_frozen z.durable c s ≡ true → s.0 ≤ top o)
    → ((n : ℕ) (c : ClientState) (k : KnownSnap) → slice_get w.clients n ≡ Some c → Has k c.known → IsKnownSo r o w n k) → ((n : ℕ) (c : ClientState) → slice_get w.clients n ≡ Some c → c.present ≡ None) → Freezings r o w

-- Every event of a run keeps it, on as many targets as the script has, where clients stand at their commands, and where their conversations are
-- in order.
abbrev pub EventsKeepFreezings : Type 0
EventsKeepFreezings =
    (r : Rules) (o : Opening) → 0 < r.attempts → r.script.targets ≤ 64 → (w v : World) → length w.targets ≡ r.script.targets → HaveOneEpoch w → Makings r w → Endings w
    → ClientsStand r w → RequestsAreOfClients w → LeadersKnow r w → Conversation r w
    → WorldEvent r w v → Freezings r o w → Freezings r o v

pub events-keep : EventsKeepFreezings
events-keep r o some few w v many once makings ends stand requests leaders talks =
    event-keeps r o w v some (record { many = many; few = few; once = once; makings = makings; ends = ends; stand = stand; requests = requests; talks = talks }) leaders
