-- Where rows stand among places.
use Rattle.std.specs.Prelude.{◌≡◌, ◌<◌, ◌≤◌, ℕ, true, false, List, [], ◌∷◌, length, Option, Some, None, slice_index_or}
use Rattle.std.specs.List.{list_any}
use Rattle.base_types.specs.declared.epoch.Epoch.{Epoch}
use Rattle.base_types.specs.declared.id.ContId.{ContId}
use Rattle.base_types.specs.declared.snapshot.Snap.{Snap}
use Rattle.daos_model.specs.declared.durable.ContRow.{ContRow}
use Rattle.daos_model.specs.Durables.{is_row_of, is_snap_at}
use Rattle.vos_places.specs.Tables.{Table, those}
use Rattle.vos_tables.specs.declared.change.Change.{Change}
use Rattle.vos_tables.specs.Changes.{AllFit, all_changed}
use Rattle.vos_tables.specs.Tables.{IsTable}

-- this row stands at a place
pub record StandsAt {T : Type 0} (os : List (Option T)) (i : ℕ) (row : T) : Type 0 where
  pub within : i < length os
  pub row_there : slice_index_or os i None ≡ Some row

-- a container with its place, or none where it isn't there
abbrev pub FindsCont : ContId → List (Option ContRow) → Option (ℕ × ContRow) → Type 0
FindsCont c os None = list_any (is_row_of c) (those os) ≡ false
FindsCont c os (Some at) = StandsAt os at.0 at.1 × (is_row_of c at.1 ≡ true)

-- a snapshot with its place, or none where it isn't there
abbrev pub FindsSnap : ContId → Epoch → List (Option Snap) → Option (ℕ × Snap) → Type 0
FindsSnap c e os None = list_any (is_snap_at c e) (those os) ≡ false
FindsSnap c e os (Some at) = StandsAt os at.0 at.1 × (is_snap_at c e at.1 ≡ true)

-- a place that isn't used, or none where all are
abbrev pub FindsUnused : {T : Type 0} → List (Option T) → Option ℕ → Type 0
FindsUnused os None = length (those os) ≡ length os
FindsUnused os (Some i) = (i < length os) × (slice_index_or os i None ≡ None)

-- The places of a table's containers with some more, and the changes that make them. Where places are wanting there are more than 256,
-- all used.
pub record AreSeated (t : Table) (seats : List (Option ContRow)) (changes : List Change) : Type 0 where
  pub table : IsTable t
  pub many : 256 ≤ length seats
  pub full : 256 < length seats → length (those seats) ≡ length seats
  pub fit : length seats ≡ 256 → AllFit t changes
  pub made : length seats ≡ 256 → all_changed changes t ≡ record t { conts = seats }
  pub few : length changes ≤ length (those seats)

-- containers are in the order of their uuids
abbrev pub id_key : ContId → List ℕ
id_key c = c.0 ∷ []
