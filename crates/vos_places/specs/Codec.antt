-- The fixed places as bytes: a container, a snapshot, and what an image says of itself.
use Rattle.std.specs.Prelude.{◌≡◌, ◌≤◌, ◌<◌, ◌^◌, ℕ, Bool, List, [], ◌∷◌, if◌then◌else◌}
use Rattle.base_types.specs.declared.epoch.Epoch.{Epoch}
use Rattle.base_types.specs.declared.outcome.FloorWhy.{FloorWhy}
use Rattle.base_types.specs.declared.outcome.FloorWhy.TheVariants.{Aggregate, Opening, Restart, Snapshot}
use Rattle.base_types.specs.declared.snapshot.Snap.{Snap}
use Rattle.daos_model.specs.declared.durable.ContRow.{ContRow}
use Rattle.vos_image.specs.Places.{Header}
use Rattle.vos_values.specs.Fields.{Fields, packed}
use Rattle.vos_places.specs.declared.codec.Counters.{Counters}

-- ---- a container's place, of 64 bytes

-- the reason of a floor: 0 for none, 2 for a snapshot, 3 for an aggregation
abbrev pub why_kind : FloorWhy → ℕ
why_kind Opening = 0
why_kind (Restart n) = 0
why_kind (Snapshot s) = 2
why_kind (Aggregate n) = 3

-- the snapshot's epoch, or the aggregation's number
abbrev pub why_number : FloorWhy → ℕ
why_number Opening = 0
why_number (Restart n) = 0
why_number (Snapshot s) = s.0
why_number (Aggregate n) = n

-- in use, the floor's reason, zeros, the floor, the reason's epoch or number, the aggregated-to epoch and its number, zeros, the uuid
abbrev pub cont_fields : ContRow → Fields
cont_fields r = (1, 1) ∷ (1, why_kind r.why) ∷ (6, 0) ∷ (8, r.floor.0) ∷ (8, why_number r.why) ∷ (8, r.aggregated.0) ∷ (8, r.number) ∷ (8, 0) ∷ (16, r.cont.0) ∷ []

unfoldable pub cont_bytes : ContRow → List ℕ
cont_bytes r = packed (cont_fields r)

-- a floor that is stored was set by a snapshot or an aggregation, or else is 0
abbrev pub IsStoredFloor : Epoch → FloorWhy → Type 0
IsStoredFloor floor Opening = floor.0 ≡ 0
IsStoredFloor floor (Restart n) = ⊥
IsStoredFloor floor (Snapshot s) = s.0 < 2 ^ 64
IsStoredFloor floor (Aggregate n) = n < 2 ^ 32

-- a container that a place can say, under a lease that covers these epochs
pub record IsContUnder (covered : ℕ) (r : ContRow) : Type 0 where
  pub uuid : r.cont.0 < 2 ^ 128
  pub floor : r.floor.0 ≤ covered
  pub why : IsStoredFloor r.floor r.why
  pub aggregated : r.aggregated.0 ≤ covered
  pub number : r.number < 2 ^ 32

-- ---- a snapshot's place, of 32 bytes

abbrev pub snap_kind : Bool → ℕ
snap_kind created = if created then 2 else 1

-- frozen or created, zeros, its epoch, and the uuid of its container
abbrev pub snap_fields : Snap → Fields
snap_fields s = (1, snap_kind s.created) ∷ (7, 0) ∷ (8, s.epoch.0) ∷ (16, s.cont.0) ∷ []

unfoldable pub snap_bytes : Snap → List ℕ
snap_bytes s = packed (snap_fields s)

pub record IsSnap (s : Snap) : Type 0 where
  pub uuid : s.cont.0 < 2 ^ 128
  pub epoch : s.epoch.0 < 2 ^ 64

-- a place that is given up, of a container or of a snapshot, has its first byte as zero
abbrev pub unused_bytes : List ℕ
unused_bytes = 0 ∷ []

-- ---- what changes of what an image says of itself, 24 bytes from 24 on

-- the incarnation, the lease in ticks, and the roots of the objects and of the entries
abbrev pub counter_fields : Counters → Fields
counter_fields n = (8, n.incarnation) ∷ (8, n.lease) ∷ (4, n.objects) ∷ (4, n.entries) ∷ []

unfoldable pub counter_bytes : Counters → List ℕ
counter_bytes n = packed (counter_fields n)

pub record AreCounters (n : Counters) : Type 0 where
  pub incarnation : n.incarnation < 2 ^ 64
  pub lease : n.lease < 2 ^ 56
  pub objects : n.objects < 2 ^ 32
  pub entries : n.entries < 2 ^ 32

-- what an image says of itself with these
abbrev pub with_counters : Counters → Header → Header
with_counters n h = record h { incarnation = n.incarnation; lease = n.lease; objects = n.objects; entries = n.entries }
