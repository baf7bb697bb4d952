-- A table of versions.
use Rattle.std.specs.Prelude.{ℕ, ◌≡◌, ◌+◌, ◌≤◌, Bool, true, nat_le, length, take, List}
use Rattle.std.specs.List.{list_all}
use Rattle.daos_model.specs.declared.durable.Version.{Version}

abbrev pub is_done : Version → Bool
is_done v = v.done

abbrev pub is_upto : ℕ → Version → Bool
is_upto e v = nat_le v.epoch.0 e

-- its versions, and those that are to come
pub record Kept : Type 0 where
  pub items : List Version
  pub coming : List Version

-- the first rows, so many, are done, and there is memory for those that are to come
pub record IsTable (rows coming : List Version) (settled capacity : ℕ) : Type 0 where
  pub within : settled ≤ length rows
  pub done : list_all is_done (take settled rows) ≡ true
  pub memory : length rows + length coming ≤ capacity
