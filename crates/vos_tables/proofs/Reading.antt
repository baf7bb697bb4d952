-- What is read of a table is what is kept.
use Rattle.std.proofs.Common.{◌≡◌, ℕ, ◌<◌, Bool, true, false, List, [], ◌∷◌, Option, Some, None, refl, sym, ap, ◌∙◌, arith, nat_lt}
use Rattle.std.specs.Prelude.{find, is_some, if◌then◌else◌}
use Rattle.std.specs.List.{list_any}
use Rattle.base_types.specs.declared.entry.Entry.{Entry}
use Rattle.base_types.specs.declared.epoch.Epoch.{Epoch}
use Rattle.base_types.specs.declared.id.ContId.{ContId}
use Rattle.base_types.specs.declared.outcome.FloorWhy.{FloorWhy}
use Rattle.base_types.specs.declared.outcome.FloorWhy.TheVariants.{Aggregate, Opening, Restart, Snapshot}
use Rattle.base_types.specs.declared.snapshot.Snap.{Snap}
use Rattle.daos_model.specs.declared.durable.ContRow.{ContRow}
use Rattle.daos_model.specs.declared.durable.Version.{Version}
use Rattle.daos_model.specs.BoolLaws.{or_left, or_right}
use Rattle.daos_model.specs.Durables.{cont_key, is_enlisted, is_frozen, is_row_of, is_stored_why, new_row, row_of, row_or_new}
use Rattle.daos_model.specs.Ordered.{in_order}
use Rattle.vos_places.specs.Codec.{IsContUnder, IsStoredFloor}
use Rattle.vos_places.specs.Laws.{covered_by}
use Rattle.vos_places.specs.Tables.{Table, those}
use Rattle.vos_store.specs.Answers.{floor_of, later_floor}
use Rattle.vos_tables.specs.Kept.{OfKept, kept_with}
use Rattle.vos_tables.specs.Seats.{FindsCont, FindsSnap}
use Rattle.vos_tables.specs.Tables.{IsKeptFloor, IsTable}
use Rattle.vos_tables.proofs.Lone.{cont_lone, lone_there}
use Rattle.vos_tables.proofs.Places.{All_those-at, any_in_order}
use Rattle.vos_tables.proofs.Planning.{frozen_found, frozen_not}

pub cont_told : (t : Table) (c : ContId) (o : Option (ℕ × ContRow)) (vs : List Version) (es : List Entry) → IsTable t → FindsCont c t.conts o → is_some o ≡ is_enlisted (kept_with t vs es) c
unfolding is_enlisted
cont_told t c None vs es h found = sym (any_in_order cont_key (is_row_of c) (those t.conts) ∙ found)
cont_told t c (Some at) vs es h found = sym (lone_there cont_key (is_row_of c) t.conts at.0 at.1 (cont_lone t c at.0 at.1 h.apart found))

pub snap_told : (t : Table) (c : ContId) (s : Epoch) (o : Option (ℕ × Snap)) (vs : List Version) (es : List Entry) → IsTable t → FindsSnap c s t.snaps o → is_some o ≡ is_frozen (kept_with t vs es) c s
snap_told t c s None vs es h found = sym (frozen_not t c s vs es found)
snap_told t c s (Some at) vs es h found = sym (frozen_found t c s at.0 at.1 vs es h.apart found)

none_found : {T : Type 0} (p : T → Bool) (xs : List T) → list_any p xs ≡ false → find p xs ≡ None
none_found p [] h = refl
none_found p (x ∷ xs) h = rw (or_left (p x) (list_any p xs) h) (none_found p xs (or_right (p x) (list_any p xs) h))

pub row_new : (t : Table) (c : ContId) → FindsCont c t.conts None → OfKept t (λ d. row_of d c ≡ new_row c)
unfolding row_of
row_new t c none vs es = ap (row_or_new c) (none_found (is_row_of c) (in_order cont_key (those t.conts)) (any_in_order cont_key (is_row_of c) (those t.conts) ∙ none))

stored : (floor : Epoch) (why : FloorWhy) → IsStoredFloor floor why → 0 < floor.0 → is_stored_why why ≡ true
stored floor Opening h some = absurd (omega arith)
stored floor (Restart n) h some = absurd h
stored floor (Snapshot s) h some = refl
stored floor (Aggregate n) h some = refl

pub row_kept : (t : Table) (i : ℕ) (c : ContId) (r : ContRow) → IsTable t → FindsCont c t.conts (Some (i, r)) → IsKeptFloor r
row_kept t i c r h found some = stored r.floor r.why (All_those-at (IsContUnder (covered_by t.header)) t.conts i r found.0.row_there h.rows).why some

pub floor_told : (t : Table) (opening : Epoch × FloorWhy) (c : ContId) (r : ContRow) (b : Bool) → OfKept t (λ d. r ≡ row_of d c) → nat_lt opening.0.0 r.floor.0 ≡ b → OfKept t (λ d. floor_of opening d c ≡ (if b then (r.floor, r.why) else opening))
unfolding floor_of
floor_told t opening c r b row is vs es = ap (later_floor opening) (sym (row vs es)) ∙ ap (λ (z : Bool). if z then (r.floor, r.why) else opening) is
