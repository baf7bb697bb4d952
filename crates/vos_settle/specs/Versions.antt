-- What becomes of the versions of all objects.
use Rattle.std.specs.Prelude.{◌≡◌, ◌==◌, ◌&&◌, ◌+◌, ℕ, Bool, true, false, is_some, List, Option, Some, None}
use Rattle.base_types.specs.declared.id.ObjId.{ObjId}
use Rattle.base_types.specs.declared.operation.Write.{Write}
use Rattle.base_types.specs.declared.operation.Write.TheVariants.{Single, Extent, PunchObject, PunchDkey, PunchAkey}
use Rattle.base_types.specs.declared.path.Path.{Path}
use Rattle.base_types.specs.Paths.{same_path}
use Rattle.daos_model.specs.declared.durable.Version.{Version}
use Rattle.daos_model.specs.Forms.{ends_at_akey, is_path_in_form}
use Rattle.pmem_pages.specs.Blocks.{Blocks}
use Rattle.pmem_pages.specs.Owners.{Changed}
use Rattle.vos_values.specs.declared.keys.Moment.{Moment}
use Rattle.vos_values.specs.declared.keys.ObjectKey.{ObjectKey}
use Rattle.vos_levels.specs.Changes.{changed_by, freed_by, keeps, takes}
use Rattle.vos_levels.specs.Levels.{hung_root}
use Rattle.vos_levels.specs.Moments.{same_moment}
use Rattle.vos_path.specs.Objects.{Objects, objects_owner, objects_versions}
use Rattle.vos_path.specs.Writes.{data_blocks}
use Rattle.vos_settle.specs.declared.task.Task.{Task}
use Rattle.vos_settle.specs.declared.task.WriteKind.{WriteKind}
use Rattle.vos_settle.specs.declared.task.WriteKind.TheVariants as kind
use Rattle.vos_settle.specs.Nodes.{OneObjectTurn, one_object_freed}

-- a write is a punch of a path, the single value there, or the extent there that begins at an index
abbrev pub is_punch_at : Path → Write → Bool
is_punch_at p (Single q bytes) = false
is_punch_at p (Extent q low bytes) = false
is_punch_at p (PunchObject q) = same_path p q
is_punch_at p (PunchDkey q) = same_path p q
is_punch_at p (PunchAkey q) = same_path p q

abbrev pub is_single_at : Path → Write → Bool
is_single_at p (Single q bytes) = same_path p q
is_single_at p (Extent q low bytes) = false
is_single_at p (PunchObject q) = false
is_single_at p (PunchDkey q) = false
is_single_at p (PunchAkey q) = false

abbrev pub is_extent_at : Path → ℕ → Write → Bool
is_extent_at p at (Single q bytes) = false
is_extent_at p at (Extent q low bytes) = same_path p q && (low == at)
is_extent_at p at (PunchObject q) = false
is_extent_at p at (PunchDkey q) = false
is_extent_at p at (PunchAkey q) = false

abbrev pub is_write : Path → WriteKind → Write → Bool
is_write p kind.Punch w = is_punch_at p w
is_write p kind.Single w = is_single_at p w
is_write p (kind.Extent low) w = is_extent_at p low w

-- a version of such a write, of a moment
abbrev pub is_version_of : Path → WriteKind → Moment → Version → Bool
is_version_of p k m v = is_write p k v.write && same_moment (record { epoch = v.epoch; minor = v.minor }) m

abbrev pub done_version : Version → Version
done_version v = record { epoch = v.epoch; minor = v.minor; by = v.by; done = true; write = v.write }

-- the change takes the version of the write: it becomes done, or goes
abbrev pub is_version_taken : WriteKind → Task → Path → Version → Bool
is_version_taken k t p v = is_version_of p k t.at v && takes t.change v.by v.done

abbrev pub versions_after : Task → Path → List Version → List Version
versions_after t p vs = changed_by (keeps t.change) (is_version_taken t.kind t p) done_version vs

-- a path leads to an object at least, and for an update to an akey
abbrev pub fits_kind : WriteKind → Path → Bool
fits_kind kind.Punch p = is_path_in_form p && is_some p.obj
fits_kind kind.Single p = ends_at_akey p
fits_kind (kind.Extent low) p = ends_at_akey p

abbrev pub object_in : Path → ObjId → ObjectKey
object_in p o = record { cont = p.cont; obj = o }

-- the blocks that the change gives back
abbrev pub freed_in : Option ObjId → Task → Path → Objects → ℕ
freed_in None t p g = 0
freed_in (Some o) t p g = one_object_freed t (object_in p o) p g

abbrev pub write_freed : Task → Path → Objects → ℕ
write_freed t p g = freed_in p.obj t p g

-- the blocks of a version: those of its bytes, and its pair's
abbrev pub version_blocks : Version → ℕ
version_blocks v = data_blocks v.write + 1

-- among them those of the version
abbrev pub versions_freed : Task → Path → List Version → ℕ
versions_freed t p vs = freed_by (keeps t.change) (is_version_taken t.kind t p) version_blocks vs

-- The version of one write became done, or went, and its creations on the way did. All else stayed: other versions, other
-- entries, and all nodes.
pub record WriteTurn (t : Task) (p : Path) (m : Blocks) (g : Objects) (n : Blocks) (at : ℕ) : Type 0 where
  pub now : Objects
  pub changed : Changed objects_owner m g n now
  pub root_is : at ≡ hung_root now
  pub versions : objects_versions now ≡ versions_after t p (objects_versions g)
  pub nodes : (o : ObjId) → p.obj ≡ Some o → OneObjectTurn t (object_in p o) p g now
