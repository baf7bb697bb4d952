-- What is written of a table is what an image then holds.
use Rattle.std.specs.Prelude.{◌≡◌, ◌<◌, ℕ, true, List, map}
use Rattle.std.specs.List.{list_all}
use Rattle.base_outside.specs.Images.{Image, all_over}
use Rattle.base_types.specs.declared.entry.Entry.{Entry}
use Rattle.daos_model.specs.declared.durable.Version.{Version}
use Rattle.daos_model.specs.Durables.{IsInForm, entry_key, is_version_in_form, version_key}
use Rattle.daos_model.specs.Ordered.{is_in_order, is_rising}
use Rattle.vos_places.specs.vos_image.Kept.{Stored, kept}
use Rattle.vos_places.specs.vos_image.Laws.{IsOfBytes, Stands}
use Rattle.vos_places.specs.Codec.{AreCounters}
use Rattle.vos_places.specs.Laws.{IsRightBeyond, Keeps}
use Rattle.vos_places.specs.Tables.{Table, places_of}
use Rattle.vos_tables.specs.declared.change.Change.{Change}
use Rattle.vos_tables.specs.Changes.{AllFit, all_changed, range_of}
use Rattle.vos_tables.specs.Kept.{kept_with}
use Rattle.vos_tables.specs.Tables.{IsTable, counters_in}

-- An image holds a table, and the ranges of changes that it can take are written over it, as far as the fixed places reach. Then it
-- holds the table with the changes.
abbrev pub ChangesAreWritten : Type 0
ChangesAreWritten = (target size : ℕ) (f g : Image) (t : Table) (xs : List Change) → Keeps target size f t → AllFit t xs
    → ((i : ℕ) → i < 36864 → g i ≡ all_over (map range_of xs) f i) → IsRightBeyond size g t.header → Keeps target size g (all_changed xs t)

-- what is kept is in form where its versions and its entries are
abbrev pub IsKeptInForm : Table → Type 0
IsKeptInForm t = (vs : List Version) (es : List Entry) → is_in_order version_key vs ≡ true → list_all is_version_in_form vs ≡ true → is_rising entry_key es ≡ true → IsInForm (kept_with t vs es)

-- An image whose places hold a table, and in whose blocks something stands, keeps the rows of the table in order, its lease and its
-- incarnation, beside versions and entries.
abbrev pub TablesAreKept : Type 0
TablesAreKept = (target size : ℕ) (f : Image) (t : Table) (x : Stored) → Stands target size f (places_of t) x → kept target size f ≡ kept_with t (kept target size f).versions (kept target size f).entries

-- what the places of an image of bytes hold is a table that places can hold, if its counters are of their widths
abbrev pub HeldAreTables : Type 0
HeldAreTables = (target size : ℕ) (f : Image) (t : Table) → IsOfBytes f → AreCounters (counters_in t) → Keeps target size f t → IsTable t
