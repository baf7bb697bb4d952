-- What stands in a pool before and after the versions go that don't count.
use Rattle.std.specs.Prelude.{◌≡◌, ℕ, List, filter}
use Rattle.base_outside.specs.Images.{Image}
use Rattle.daos_model.specs.declared.durable.Version.{Version}
use Rattle.vos_counting.specs.declared.prepared.Prepared.{Prepared}
use Rattle.vos_counting.specs.Prepared.{counts_in}
use Rattle.vos_entries.specs.Entries.{entries_in}
use Rattle.vos_keeping.specs.Keeping.{versions_in}
use Rattle.vos_pool_stage.specs.Staged.{StandsInPool}
use Rattle.vos_pool_stage.specs.vos_pool_base.Pool.{OpenedState}
use Rattle.vos_pool_turns.specs.vos_fitting.Fitting.{ListNothing}
use Rattle.vos_pool_turns.specs.vos_turns.vos_image.Kept.{Stored, counts}

-- This stands in a pool, no entry lists nodes, these are its versions, and prepared entries tell which of them count.
pub record IsUncleared {R : Type 0} (extent : R → ℕ) (image : R → Image) (prepared : Prepared) (us : List Version) (p : OpenedState R) (x : Stored) : Type 0 where
  pub stands : StandsInPool extent image p x
  pub nothing : ListNothing x.1
  pub versions : us ≡ versions_in x
  pub told : (v : Version) → counts_in prepared v ≡ counts (entries_in x.1) v

-- Then the same entries stand there, and of the versions those that count.
pub record IsCleared {R : Type 0} (extent : R → ℕ) (image : R → Image) (x : Stored) (p : OpenedState R) : Type 0 where
  pub now : Stored
  pub stands : StandsInPool extent image p now
  pub entries : now.1 ≡ x.1
  pub versions : versions_in now ≡ filter (counts (entries_in x.1)) (versions_in x)
