-- What is asked of a write and of a read, and what is said of them.
use Rattle.std.specs.Prelude.{◌≡◌, ◌<◌, ◌+◌, ℕ, true, false, Bool, is_none, if◌then◌else◌}
use Rattle.base_types.specs.declared.epoch.Epoch.{Epoch}
use Rattle.base_types.specs.declared.id.AttemptId.{AttemptId}
use Rattle.base_types.specs.declared.operation.MinorWrite.{MinorWrite}
use Rattle.base_types.specs.declared.operation.Read.{Read}
use Rattle.base_types.specs.declared.operation.Write.{Write}
use Rattle.base_types.specs.declared.operation.Read.TheVariants as read
use Rattle.base_types.specs.declared.path.Path.{Path}
use Rattle.base_types.specs.Operations.{write_path}
use Rattle.base_types.specs.Paths.{record_size}
use Rattle.daos_model.specs.declared.durable.Version.{Version}
use Rattle.daos_model.specs.Forms.{is_unit, is_write_in_form}
use Rattle.pmem_pages.specs.Blocks.{Blocks}
use Rattle.vos_values.specs.declared.keys.ObjectKey.{ObjectKey}
use Rattle.vos_levels.specs.Levels.{HasMore, hung_root}
use Rattle.vos_path.specs.declared.stamp.Stamp.{Stamp}
use Rattle.vos_path.specs.Calls.{Turns}
use Rattle.vos_path.specs.Nodes.{ObjectsNoted}
use Rattle.vos_path.specs.Objects.{Objects, objects_owner, objects_versions}
use Rattle.vos_path.specs.Writes.{IsAtObject, NamesAreKeys, data_blocks, object_pairs}

-- A write that objects can take: its number is below 64, its form is right, the record size of its object is from 1 to 64, and
-- its names are keys.
pub record IsWritable (w : MinorWrite) : Type 0 where
  pub minor : w.minor < 64
  pub form : is_write_in_form w.write ≡ true
  pub size : is_unit (record_size (write_path w.write)) ≡ true
  pub names : NamesAreKeys (write_path w.write)

-- The blocks that a write takes at most: one for each piece of its bytes, and one for each pair that comes into a tree.
abbrev pub most_blocks : Write → ℕ
most_blocks w = data_blocks w + object_pairs w 1

-- a version that was just written: it isn't settled
abbrev pub new_version : Epoch → AttemptId → MinorWrite → Version
new_version epoch by w = record { epoch = epoch; minor = w.minor; by = by; done = false; write = w.write }

-- a read of a single value or of an array, or of whether there is a cell; and no listing
abbrev pub is_value_read : Read → Bool
is_value_read (read.Single p) = true
is_value_read (read.Extent p low len) = true
is_value_read (read.Dkeys p) = false
is_value_read (read.Akeys p) = false
is_value_read (read.Exists p) = true

-- when a write is made, and whose it is
abbrev pub stamp_of : Epoch → AttemptId → MinorWrite → Stamp
stamp_of epoch by w = record { at = record { epoch = epoch; minor = w.minor }; by = by }

-- There is one version more, and no other changed. An update's creation came into each log on its way, or in the place of the
-- creation of its moment; a punch came into the log of its own path. All other entries and nodes stay.
abbrev pub Added : Epoch → AttemptId → MinorWrite → Blocks → Objects → Blocks → ℕ → Type 0
Added epoch by w m g n at =
    (o : ObjectKey) → IsAtObject o (write_path w.write)
    → Turns objects_owner hung_root objects_versions m g n at (HasMore (new_version epoch by w)) (ObjectsNoted (stamp_of epoch by w) w.write o (write_path w.write).dkey (write_path w.write).akey)

-- the listing of a path: of the dkeys of an object, or of the akeys of a dkey
abbrev pub listing : Path → Read
listing p = if is_none p.dkey then read.Dkeys p else read.Akeys p
