-- Versions that objects can have.
use Rattle.std.specs.Prelude.{◌≡◌, ◌<◌, true}
use Rattle.base_types.specs.Operations.{write_path}
use Rattle.base_types.specs.Paths.{record_size}
use Rattle.daos_model.specs.declared.durable.Version.{Version}
use Rattle.daos_model.specs.Durables.{is_version_in_form}
use Rattle.daos_model.specs.Forms.{is_unit}
use Rattle.vos_pool_base.specs.vos_path.Writes.{NamesAreKeys}
use Rattle.vos_turns.specs.Turns.{CanBeNamed}

-- its number is below 64, the record size of its object is from 1 to 64, and the names of its path are keys
pub record HasKeys (v : Version) : Type 0 where
  pub minor : v.minor < 64
  pub size : is_unit (record_size (write_path v.write)) ≡ true
  pub names : NamesAreKeys (write_path v.write)

-- it can be named, and its write is in form
pub record IsSound (v : Version) : Type 0 where
  pub named : CanBeNamed v
  pub form : is_version_in_form v ≡ true
