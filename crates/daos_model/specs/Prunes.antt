-- Which versions a prune removes, and what a prune or a discard leaves where it is cut.
use Rattle.std.specs.Prelude.{ℕ, ◌+◌, Bool, true, false, ◌≡◌, ◌&&◌, ◌||◌, ◌==◌, ◌-◌, not, nat_le, nat_lt, filter, List, [], ◌∷◌, Option, Some, None, if◌then◌else◌}
use Rattle.std.specs.List.{list_any}
use Rattle.base_types.specs.declared.epoch.Epoch.{Epoch}
use Rattle.base_types.specs.declared.id.ContId.{ContId}
use Rattle.base_types.specs.declared.operation.Write.{Write}
use Rattle.base_types.specs.declared.operation.Write.TheVariants.{Single, Extent, PunchObject, PunchDkey, PunchAkey}
use Rattle.base_types.specs.declared.snapshot.Snap.{Snap}
use Rattle.base_types.specs.Operations.{write_path}
use Rattle.base_types.specs.Paths.{leads_to}
use Rattle.daos_model.specs.declared.cell.Cell.{Cell}
use Rattle.daos_model.specs.declared.cell.CellValue.{CellValue}
use Rattle.daos_model.specs.declared.durable.Durable.{Durable}
use Rattle.daos_model.specs.declared.durable.Version.{Version}
use Rattle.daos_model.specs.Answers.{is_before}
use Rattle.daos_model.specs.Cells.{is_of, single_cell}
use Rattle.daos_model.specs.Durables.{version_key}
use Rattle.daos_model.specs.Effect.{extent_cells}
use Rattle.daos_model.specs.Versions.{sees, version_path}

abbrev pub is_punch : Write → Bool
is_punch (Single p bytes) = false
is_punch (Extent p low bytes) = false
is_punch (PunchObject p) = true
is_punch (PunchDkey p) = true
is_punch (PunchAkey p) = true

-- the cells that an update sets
abbrev pub values_of : Write → List CellValue
values_of (Single p bytes) = record { cell = single_cell p; bytes = bytes } ∷ []
values_of (Extent p low bytes) = extent_cells p low bytes
values_of (PunchObject p) = []
values_of (PunchDkey p) = []
values_of (PunchAkey p) = []

-- an index lies in an extent
abbrev pub is_index_in : ℕ → ℕ → Option ℕ → Bool
is_index_in low len None = false
is_index_in low len (Some i) = nat_le low i && nat_lt (i - low) len

-- a write says what a cell holds: it sets it, or removes it
unfoldable pub touches : Cell → Write → Bool
touches c w = if is_punch w then leads_to (write_path w) c.path else list_any (is_of c) (values_of w)

-- a version that is seen below a sight says what a cell holds, and comes after this one
unfoldable pub hides : ℕ → Version → Cell → Version → Bool
hides s v c w = sees s w && is_before (version_key v) (version_key w) && touches c w.write

unfoldable pub is_hidden : List Version → ℕ → Version → Cell → Bool
is_hidden vs s v c = list_any (hides s v c) vs

abbrev pub is_shown : List Version → ℕ → Version → CellValue → Bool
is_shown vs s v x = not (is_hidden vs s v x.cell)

-- below a sight a cell has its bytes from this update
unfoldable pub shows_at : List Version → Version → ℕ → Bool
shows_at vs v s = sees s v && list_any (is_shown vs s v) (values_of v.write)

-- a snapshot of the container, frozen or created, at or below the epoch, shows the update
unfoldable pub shows_in : List Version → Version → ContId → Epoch → Snap → Bool
shows_in vs v c upto x = (x.cont.0 == c.0) && nat_le x.epoch.0 upto.0 && shows_at vs v x.epoch.0

-- one of the sights shows the update: the epoch after that of the prune, or such a snapshot
unfoldable pub is_in_sight : ContId → Epoch → List Version → List Snap → Version → Bool
is_in_sight c upto vs snaps v = shows_at vs v (upto.0 + 1) || list_any (shows_in vs v c upto) snaps

-- a version may go: it is done, of the container, and at or below the epoch
unfoldable pub is_old : ContId → Epoch → Version → Bool
is_old c upto v = v.done && ((version_path v).cont.0 == c.0) && nat_le v.epoch.0 upto.0

-- an update that no sight shows
unfoldable pub is_unseen : ContId → Epoch → List Version → List Snap → Version → Bool
is_unseen c upto vs snaps v = is_old c upto v && not (is_punch v.write) && not (is_in_sight c upto vs snaps v)

-- an update that stays, under the path of a punch and no later than it
unfoldable pub is_needing : ContId → Epoch → List Version → List Snap → Version → Version → Bool
is_needing c upto vs snaps p u =
    not (is_punch u.write) && not (is_before (version_key p) (version_key u)) && leads_to (version_path p) (version_path u) && not (is_unseen c upto vs snaps u)

-- a punch that hides no update that stays
unfoldable pub is_idle : ContId → Epoch → List Version → List Snap → Version → Bool
is_idle c upto vs snaps p = is_old c upto p && is_punch p.write && not (list_any (is_needing c upto vs snaps p) vs)

-- the versions that a prune of a container up to an epoch removes
unfoldable pub is_going : ContId → Epoch → List Version → List Snap → Version → Bool
is_going c upto vs snaps v = is_unseen c upto vs snaps v || is_idle c upto vs snaps v

abbrev pub is_staying : ContId → Epoch → Durable → Version → Bool
is_staying c upto d v = not (is_going c upto d.versions d.snaps v)

-- A cut leaves some, all or none of the versions that go. No punch of them is gone while an older update of them under
-- its path still stands.
pub record Partly (vs : List Version) (going : Version → Bool) (ws : List Version) : Type 0 where
  pub stays : Version → Bool
  pub left : ws ≡ filter stays vs
  pub planned : (v : Version) → stays v ≡ false → going v ≡ true
  pub punches : (p u : Version) → stays p ≡ false → is_punch p.write ≡ true → is_punch u.write ≡ false →
      is_before (version_key p) (version_key u) ≡ false → leads_to (version_path p) (version_path u) ≡ true → going u ≡ true → stays u ≡ false
