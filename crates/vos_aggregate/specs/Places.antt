-- Which version stands before those in chains.
use Rattle.std.specs.Prelude.{ℕ, ◌≡◌, ◌-◌, ◌<◌, ◌≤◌, List, length}
use Rattle.std.specs.List.{slice_index_or}
use Rattle.daos_model.specs.declared.durable.Version.{Version}

-- of versions this is the one right before a place
pub record IsLastBefore (vs : List Version) (start : ℕ) (v : Version) : Type 0 where
  pub some : 0 < start
  pub within : start ≤ length vs
  pub is : slice_index_or vs (start - 1) v ≡ v
