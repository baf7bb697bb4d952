-- The names of writes.
use Rattle.std.specs.Prelude.{◌≡◌, ◌<◌, true}
use Rattle.base_types.specs.Operations.{write_path}
use Rattle.base_types.specs.Paths.{record_size}
use Rattle.base_types.specs.declared.operation.Write.{Write}
use Rattle.base_types.specs.declared.operation.Write.TheVariants as write
use Rattle.daos_model.specs.declared.durable.Version.{Version}
use Rattle.daos_model.specs.Forms.{is_unit}
use Rattle.vos_values.specs.declared.keys.Moment.{Moment}
use Rattle.vos_path.specs.Writes.{NamesAreKeys}
use Rattle.vos_settle.specs.declared.name.WriteName.{WriteName}
use Rattle.vos_settle.specs.declared.task.WriteKind.{WriteKind}
use Rattle.vos_settle.specs.declared.task.WriteKind.TheVariants as kind
use Rattle.vos_settle.specs.Versions.{fits_kind}

abbrev pub moment_of : WriteName → Moment
moment_of n = record { epoch = n.epoch; minor = n.minor }

-- A name of a write that objects can have: its number is below 64, its kind fits its path, the record size of its object is from
-- 1 to 64, and its names are keys.
pub record IsNamed (n : WriteName) : Type 0 where
  pub minor : n.minor < 64
  pub fits : fits_kind n.kind n.path ≡ true
  pub size : is_unit (record_size n.path) ≡ true
  pub names : NamesAreKeys n.path

-- the name of a version's write
abbrev pub kind_of : Write → WriteKind
kind_of (write.Single p bytes) = kind.Single
kind_of (write.Extent p low bytes) = kind.Extent low
kind_of (write.PunchObject p) = kind.Punch
kind_of (write.PunchDkey p) = kind.Punch
kind_of (write.PunchAkey p) = kind.Punch

abbrev pub name_of : Version → WriteName
name_of v = record { path = write_path v.write; kind = kind_of v.write; epoch = v.epoch; minor = v.minor }
