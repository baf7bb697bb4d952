-- A table of entries.
use Rattle.std.specs.Prelude.{ℕ, ◌≡◌, ◌≤◌, Bool, true, filter, length, List, Option}
use Rattle.base_types.specs.declared.entry.Entry.{Entry}
use Rattle.daos_model.specs.Durables.{entry_key}
use Rattle.daos_model.specs.Ordered.{is_rising}
use Rattle.dtx_entries.specs.Owing.{is_owing}

-- its entries, and whether there is memory for one more
pub record Kept : Type 0 where
  pub items : List Entry
  pub room : Bool

-- beside the rows stand those that a target owes, with memory for all rows; where the rows are known to rise, they do
pub record IsTable (me : Option ℕ) (rows apart : List Entry) (capacity : ℕ) (rises : Bool) : Type 0 where
  pub owing : apart ≡ filter (is_owing me) rows
  pub memory : length rows ≤ capacity
  pub rising : rises ≡ true → is_rising entry_key rows ≡ true
