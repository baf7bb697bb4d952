-- What an entry makes that comes behind the versions of its writes, as a statement.
use Rattle.std.specs.Prelude.{◌≡◌, false, List, []}
use Rattle.base_types.specs.declared.entry.Entry.{Entry}
use Rattle.base_types.specs.declared.operation.MinorWrite.{MinorWrite}
use Rattle.daos_model.specs.Changes.{prepared}
use Rattle.daos_model.specs.Durables.{version_key}
use Rattle.daos_model.specs.Versions.{versions_of}
use Rattle.vos_entries.specs.Entries.{has_entry_at, listings}
use Rattle.vos_image.specs.Kept.{Stored, durable_of}
use Rattle.vos_levels.specs.Levels.{HasMore, things}
use Rattle.vos_path.specs.Objects.{objects_versions}
use Rattle.vos_places.specs.Tables.{Table, places_of}
use Rattle.vos_pool_base.specs.Tidy.{AllCount}
use Rattle.vos_pool_write.specs.Lists.{AreNew, HaveMore}

-- Where every version counted and the attempt had no entry: its versions came, and then its entry with no list. What is kept is prepared then, and every
-- version counts.
pub record IsPrepared (e : Entry) (ws : List MinorWrite) (x z y : Stored) : Type 0 where
  pub counted : AllCount x
  pub come : HaveMore (versions_of e ws) (objects_versions x.0) (objects_versions z.0)
  pub entries : z.1 ≡ x.1
  pub objects : y.0 ≡ z.0
  pub entered : HasMore (record { entry = e; nodes = [] }) (listings z.1) (listings y.1)
  pub new : AreNew version_key (versions_of e ws) (objects_versions x.0)
  pub absent : has_entry_at e.attempt (things x.1) ≡ false
  pub undecided : e.committed ≡ false

abbrev pub EntriesPrepare : Type 0
EntriesPrepare = (e : Entry) (ws : List MinorWrite) (x z y : Stored) (t : Table) → IsPrepared e ws x z y
    → (durable_of (record { places = places_of t; stored = y }) ≡ prepared e ws (durable_of (record { places = places_of t; stored = z }))) × AllCount y
