-- What is found in an open pool, and that it is tidy then.
use Rattle.std.specs.Prelude.{◌≡◌, ℕ, Bool, false, true, All, IsTrue, List, Some, map}
use Rattle.std.specs.List.{list_all}
use Rattle.base_outside.specs.Images.{Image}
use Rattle.daos_model.specs.declared.durable.Version.{Version}
use Rattle.daos_model.specs.Durables.{entry_key, is_version_in_form, version_key}
use Rattle.daos_model.specs.Ordered.{in_order}
use Rattle.vos_check_entries.specs.declared.entry.EntryRow.{EntryRow}
use Rattle.vos_check_entries.specs.Rows.{entry_row}
use Rattle.vos_levels.specs.Levels.{things}
use Rattle.vos_pool_held.specs.vos_pool_base.Pool.{OpenedState, kept_of}
use Rattle.vos_pool_held.specs.vos_pool_base.Tidy.{IfTidy}
use Rattle.vos_pool_held.specs.vos_pool_base.vos_image.Kept.{Stored}
use Rattle.vos_pool_held.specs.vos_pool_base.vos_standing.Standing.{Stand}
use Rattle.vos_pool_held.specs.vos_pool_base.vos_tables.Kept.{kept_with}
use Rattle.vos_pool_held.specs.vos_turns.Turns.{CanBeNamed}
use Rattle.vos_counting.specs.Counting.{entries_of}

-- something stands in a pool that tells its bytes, with these entries
pub record StandsThere {R : Type 0} (extent : R → ℕ) (image : R → Image) (p : OpenedState R) (rows : List EntryRow) : Type 0 where
  pub stored : Stored
  pub stands : Stand p.table.header.target (extent p.blocks.undo.region) (image p.blocks.undo.region) p.table stored
  pub rows_are : rows ≡ map entry_row (things stored.1)

-- What was found in a pool, which is tidy: these versions and entries are all that its places keep. They are in form, and can be named.
pub record IsFoundIn {R : Type 0} (tells : Bool) (extent : R → ℕ) (image : R → Image) (p : OpenedState R) (rows : List EntryRow) (versions : List Version) : Type 0 where
  pub running : p.blocks.undo.stopped ≡ false
  pub kept : IsTrue tells → kept_of tells extent image p ≡ Some (kept_with p.table (in_order version_key versions) (in_order entry_key (entries_of rows)))
  pub tidy : IfTidy tells extent image p
  pub form : list_all is_version_in_form versions ≡ true
  pub named : All CanBeNamed versions
