-- A version, and an entry, that come to what stands in a pool.
use Rattle.std.specs.Prelude.{◌≡◌, ◌≤◌, ◌<◌, ◌^◌, ℕ, false, []}
use Rattle.base_outside.specs.Images.{Image}
use Rattle.base_types.specs.declared.entry.Entry.{Entry}
use Rattle.base_types.specs.declared.operation.Write.{Write}
use Rattle.daos_model.specs.declared.durable.Durable.{Durable}
use Rattle.vos_entries.specs.Entries.{entries_in, has_entry_at, listings}
use Rattle.vos_fitting.specs.Fitting.{ListNothing}
use Rattle.vos_image.specs.Kept.{Stored, counts, durable_of}
use Rattle.vos_levels.specs.Levels.{HasMore, things}
use Rattle.vos_path.specs.declared.stamp.Stamp.{Stamp}
use Rattle.vos_path.specs.Objects.{objects_versions}
use Rattle.vos_path.specs.Writes.{IsNewIn, fresh}
use Rattle.vos_places.specs.Laws.{covered_by}
use Rattle.vos_places.specs.Tables.{Table, places_of}
use Rattle.vos_pool_base.specs.Pool.{OpenedState}
use Rattle.vos_pool_stage.specs.Staged.{StandsInPool}

-- A version may come to what stands in a pool: it is of the second layout, nothing of its moment stands in its object, no entry lists nodes, the
-- lease covers its epoch, and it counts for nothing as long as its attempt has no entry.
pub record MayCome {R : Type 0} (extent : R → ℕ) (image : R → Image) (p : OpenedState R) (s : Stamp) (w : Write) (x : Stored) : Type 0 where
  pub stands : StandsInPool extent image p x
  pub layout : p.table.header.layout ≡ 2
  pub new : IsNewIn (fresh s w) x.0
  pub unlisted : ListNothing x.1
  pub leased : s.at.epoch.0 ≤ covered_by p.table.header
  pub unseen : counts (entries_in x.1) (fresh s w) ≡ false

-- it came: it stands there beside all others, with the same entries
pub record HasCome {R : Type 0} (extent : R → ℕ) (image : R → Image) (p : OpenedState R) (s : Stamp) (w : Write) (x : Stored) : Type 0 where
  pub now : Stored
  pub stands : StandsInPool extent image p now
  pub entries : now.1 ≡ x.1
  pub versions : HasMore (fresh s w) (objects_versions x.0) (objects_versions now.0)

-- An entry may come to what stands in a pool: its attempt has none, it names targets that there are, and the lease covers its epoch.
pub record MayEnter {R : Type 0} (extent : R → ℕ) (image : R → Image) (p : OpenedState R) (e : Entry) (x : Stored) : Type 0 where
  pub stands : StandsInPool extent image p x
  pub absent : has_entry_at e.attempt (things x.1) ≡ false
  pub unlisted : ListNothing x.1
  pub leader : e.leader < p.table.header.targets
  pub members : e.members < 2 ^ p.table.header.targets
  pub unconfirmed : e.confirmed ≡ 0
  pub leased : e.epoch.0 ≤ covered_by p.table.header

-- it came, and lists nothing
pub record HasEntered {R : Type 0} (extent : R → ℕ) (image : R → Image) (p : OpenedState R) (e : Entry) (x : Stored) : Type 0 where
  pub now : Stored
  pub stands : StandsInPool extent image p now
  pub objects : now.0 ≡ x.0
  pub entries : HasMore (record { entry = e; nodes = [] }) (listings x.1) (listings now.1)

-- whatever the entry makes of what stands, with one more beside all others, what is kept changes so
abbrev pub EntryMakes : Table → Entry → Stored → (Durable → Durable) → Type 0
EntryMakes t e x change =
    (y : Stored) → y.0 ≡ x.0 → HasMore (record { entry = e; nodes = [] }) (listings x.1) (listings y.1)
    → durable_of (record { places = places_of t; stored = y }) ≡ change (durable_of (record { places = places_of t; stored = x }))
