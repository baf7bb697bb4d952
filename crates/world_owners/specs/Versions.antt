-- What holds of all versions that a target kept, done or not, and of those that an event brings it, holds of all that it then keeps; and one that
-- isn't settled then is of a prepared entry.
use Rattle.std.specs.Prelude.{ℕ, ◌≡◌, ◌⊎◌, Bool, false, List, slice_get, Some, None, refl}
use Rattle.std.proofs.Common.{inl, inr, sym, ◌∙◌, ap, subst}
use Rattle.base_types.specs.declared.entry.Entry.{Entry}
use Rattle.base_types.specs.declared.operation.MinorWrite.{MinorWrite}
use Rattle.model_laws.specs.EntryLaws.{has-puts}
use Rattle.model_laws.specs.Members.{Has, has-from_map}
use Rattle.daos_model.specs.declared.durable.Durable.{Durable}
use Rattle.daos_model.specs.declared.durable.Version.{Version}
use Rattle.daos_model.specs.Changes.{prepared}
use Rattle.daos_model.specs.Durables.{entry_of, version_key}
use Rattle.daos_model.specs.EntryLaws.{entry_of-prepared}
use Rattle.daos_model.specs.Versions.{version_of, versions_of}
use Rattle.world_base.specs.declared.target.TargetState.{TargetState}
use Rattle.world_base.specs.declared.world.World.{World}
use Rattle.world_base.specs.ChangeLaws.{LeaseRises, lease-prepared, lease-same, lease-then}
use Rattle.world_base.specs.Events.{Rules}
use Rattle.world_base.specs.Stops.{WorldEvent}
use Rattle.world_making.specs.world_contents.reads.StoreLaws.{entry-kept}
use Rattle.world_making.specs.world_contents.reads.Versions.{IsPreparedAt}
use Rattle.world_owners.specs.Changing.{AllPrepared, WasKept, prepared-same, was-kept}
use Rattle.world_owners.specs.Events.{Became, EventBrings, all-events-leave_or_store}
use Rattle.world_owners.specs.Becoming.{Becomes, IsLeft, IsStored, IsStoredOn}

-- ---- the statements

-- a version is a write of what an event brings a target
pub record WasBrought (r : Rules) {w v : World} (e : WorldEvent r w v) (t : ℕ) (u : Version) : Type 0 where
  pub entry : Entry
  pub writes : List MinorWrite
  pub brought : EventBrings r e t entry writes
  pub write : MinorWrite
  pub among : Has write writes
  pub same : u ≡ version_of entry write

-- Each version that a target keeps after an event it kept before, done or not, or the event brought it.
abbrev pub AllEventsBringVersions : Type 0
AllEventsBringVersions =
    (r : Rules) (w v : World) (e : WorldEvent r w v) (t : ℕ) (s z : TargetState) → slice_get w.targets t ≡ Some s → slice_get v.targets t ≡ Some z
    → (u : Version) → Has u z.durable.versions → WasKept s.durable u ⊎ WasBrought r e t u

-- it holds of a version, done or not
abbrev pub DisregardsDone : (Version → Type 0) → Type 0
DisregardsDone P = (v : Version) (b : Bool) → P v → P (record v { done = b })

-- it holds of all versions that a target keeps
abbrev pub HoldsAt : (Version → Type 0) → World → ℕ → Type 0
HoldsAt P w t = (s : TargetState) → slice_get w.targets t ≡ Some s → (v : Version) → Has v s.durable.versions → P v

-- What holds of versions, done or not, and of all that a target keeps before an event, holds of all that it keeps after it, if it holds of those
-- that the event brings it.
abbrev pub AllEventsKeepVersions : Type 1
AllEventsKeepVersions =
    (P : Version → Type 0) → DisregardsDone P → (r : Rules) (w v : World) (e : WorldEvent r w v) (t : ℕ)
    → ((k : Entry) (ws : List MinorWrite) (m : MinorWrite) → EventBrings r e t k ws → Has m ws → P (version_of k m)) → HoldsAt P w t → HoldsAt P v t

-- each version of a target that isn't settled is of an entry that is prepared there
abbrev pub ArePreparedAt : World → ℕ → Type 0
ArePreparedAt w t = (s : TargetState) → slice_get w.targets t ≡ Some s → AllPrepared s.durable

-- an entry is new at a target: it isn't committed, and the target has none of its attempt
pub record IsNewAt (w : World) (t : ℕ) (k : Entry) : Type 0 where
  pub open' : k.committed ≡ false
  pub absent : (s : TargetState) → slice_get w.targets t ≡ Some s → entry_of s.durable k.attempt ≡ None

-- so it stays, if what the event brings it is new there
abbrev pub AllEventsKeepPrepared : Type 0
AllEventsKeepPrepared =
    (r : Rules) (w v : World) (e : WorldEvent r w v) (t : ℕ) → ((k : Entry) (ws : List MinorWrite) → EventBrings r e t k ws → IsNewAt w t k) → ArePreparedAt w t → ArePreparedAt v t

-- no event lowers a lease, or raises it above a clock's ticks
abbrev pub AllEventsRaiseLeases : Type 0
AllEventsRaiseLeases =
    (r : Rules) (w v : World) (e : WorldEvent r w v) (t : ℕ) (s z : TargetState) → slice_get w.targets t ≡ Some s → slice_get v.targets t ≡ Some z → LeaseRises s.durable z.durable

-- ---- what is stored on what is kept

-- a version that is kept then was brought, or was there
stored-or-there : (d e : Durable) (k : Entry) (ws : List MinorWrite) → IsStoredOn d k ws e → (v : Version) → Has v e.versions → ((m : MinorWrite) × Has m ws × (version_of k m ≡ v)) ⊎ Has v d.versions
unfolding prepared
stored-or-there d e k ws on v i =
    elim (has-puts version_key (versions_of k ws) on.on.versions v (subst (λ x. Has v x.versions) on.now i)) [
      | inl j ↦ inl (has-from_map (version_of k) ws v j)
      | inr j ↦ inr (subst (Has v) on.extended.versions j)
    ]

absent-on : (d x : Durable) (k : Entry) → x.entries ≡ d.entries → entry_of d k.attempt ≡ None → entry_of x k.attempt ≡ None
unfolding entry_of
absent-on d x k same none = rw same none

prepared-then : (d e : Durable) (k : Entry) (ws : List MinorWrite) → IsStoredOn d k ws e → k.committed ≡ false → entry_of d k.attempt ≡ None → AllPrepared d → AllPrepared e
prepared-then d e k ws on open' none all v i off = subst (λ x. IsPreparedAt x v.by v.epoch) (sym on.now) (by (stored-or-there d e k ws on v i))
  where
    absent : entry_of on.on k.attempt ≡ None
    absent = absent-on d on.on k on.extended.entries none

    Open : Version → Type 0
    Open u = IsPreparedAt (prepared k ws on.on) u.by u.epoch

    by : ((m : MinorWrite) × Has m ws × (version_of k m ≡ v)) ⊎ Has v d.versions → Open v
    by (inl y) = subst Open y.2 (record { entry = k; found = entry_of-prepared k ws on.on absent; open' = open'; epoch = refl })
    by (inr j) =
        let z = prepared-same d on.on v.by v.epoch on.extended.entries (all v j off) in
        record { entry = z.entry; found = entry-kept k ws on.on v.by z.entry absent z.found; open' = z.open'; epoch = z.epoch }

stored-lease : (d e : Durable) (k : Entry) (ws : List MinorWrite) → IsStoredOn d k ws e → LeaseRises d e
stored-lease d e k ws on = lease-then d on.on e on.extended.lease (lease-same on.on e (ap (λ x. x.lease) on.now ∙ lease-prepared k ws on.on))

-- ---- the laws

same-target : (w : World) (t : ℕ) (s z : TargetState) → slice_get w.targets t ≡ Some s → slice_get w.targets t ≡ Some z → s ≡ z
same-target w t s z here there = cc

pub all-events-bring_versions : AllEventsBringVersions
all-events-bring_versions r w v e t s z here at u i = subst (λ x. WasKept x.durable u ⊎ WasBrought r e t u) (same-target w t k.s s k.here here) (by k.becomes)
  where
    k : Became r e t z
    k = all-events-leave_or_store r w v e t z at

    by : Becomes (EventBrings r e t) k.s.durable z.durable → WasKept k.s.durable u ⊎ WasBrought r e t u
    by (IsLeft left) = inl (left.versions u i)
    by (IsStored j ws b on) = elim (stored-or-there k.s.durable z.durable j ws on u i) [
      | inl y ↦ inr (record { entry = j; writes = ws; brought = b; write = y.0; among = y.1; same = sym y.2 })
      | inr was ↦ inl (was-kept k.s.durable u was)
    ]

pub all-events-keep_versions : AllEventsKeepVersions
all-events-keep_versions P either r w v e t brought all z at u i = by (all-events-bring_versions r w v e t k.s z k.here at u i)
  where
    k : Became r e t z
    k = all-events-leave_or_store r w v e t z at

    by : WasKept k.s.durable u ⊎ WasBrought r e t u → P u
    by (inl y) = subst P (sym y.same) (either y.before u.done (all k.s k.here y.before y.among))
    by (inr y) = subst P (sym y.same) (brought y.entry y.writes y.write y.brought y.among)

pub all-events-keep_prepared : AllEventsKeepPrepared
all-events-keep_prepared r w v e t new all z at = by k.becomes
  where
    k : Became r e t z
    k = all-events-leave_or_store r w v e t z at

    by : Becomes (EventBrings r e t) k.s.durable z.durable → AllPrepared z.durable
    by (IsLeft left) = left.prepared (all k.s k.here)
    by (IsStored j ws b on) = let n = new j ws b in prepared-then k.s.durable z.durable j ws on n.open' (n.absent k.s k.here) (all k.s k.here)

pub all-events-raise_leases : AllEventsRaiseLeases
all-events-raise_leases r w v e t s z here at = subst (λ x. LeaseRises x.durable z.durable) (same-target w t k.s s k.here here) (by k.becomes)
  where
    k : Became r e t z
    k = all-events-leave_or_store r w v e t z at

    by : Becomes (EventBrings r e t) k.s.durable z.durable → LeaseRises k.s.durable z.durable
    by (IsLeft left) = left.lease
    by (IsStored j ws b on) = stored-lease k.s.durable z.durable j ws on
