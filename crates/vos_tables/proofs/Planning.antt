-- What changes of one or two places make of what is kept.
use Rattle.std.proofs.Common.{◌≡◌, ℕ, ◌<◌, ◌≤◌, ◌/◌, ◌^◌, Bool, true, false, ◌&&◌, not, List, [], ◌∷◌, Option, Some, None, Ok, Err, length, map, refl, sym, ap, subst, ◌∙◌, arith, nat_lt, nat_le}
use Rattle.std.specs.Prelude.{is_some, set, if◌then◌else◌}
use Rattle.std.specs.List.{list_any}
use Rattle.std.proofs.lemmas.Bool.Decides.{nat_tests}
use Rattle.std.proofs.lemmas.List.{set-get_or}
use Rattle.base_types.specs.declared.entry.Entry.{Entry}
use Rattle.base_types.specs.declared.epoch.Epoch.{Epoch}
use Rattle.base_types.specs.declared.id.ContId.{ContId}
use Rattle.base_types.specs.declared.outcome.FloorWhy.{FloorWhy}
use Rattle.base_types.specs.declared.outcome.FloorWhy.TheVariants as why
use Rattle.base_types.specs.declared.snapshot.Snap.{Snap}
use Rattle.daos_model.specs.declared.durable.ContRow.{ContRow}
use Rattle.daos_model.specs.declared.durable.Durable.{Durable}
use Rattle.daos_model.specs.declared.durable.Version.{Version}
use Rattle.daos_model.specs.BoolLaws.{clash}
use Rattle.daos_model.specs.Changes.{aggregated_to, created, created_at, frozen, marked, marked_at, new_snap, raised, raised_at, thawed}
use Rattle.daos_model.specs.Durables.{cont_key, is_enlisted, is_frozen, is_row_of, is_snap_at, row_of, row_or_new, snap_key}
use Rattle.daos_model.specs.Ordered.{in_order, put}
use Rattle.vos_places.specs.Codec.{IsContUnder, IsSnap, IsStoredFloor}
use Rattle.vos_places.specs.Laws.{IsApart, RowsChange, SnapsCome, covered_by, with_cont, with_snap}
use Rattle.vos_places.specs.Tables.{Table, those}
use Rattle.vos_store.specs.declared.refusal.FreezeNo.TheVariants as no
use Rattle.vos_store.specs.Answers.{freezes}
use Rattle.vos_store.specs.Conditions.{CanFreeze}
use Rattle.vos_tables.specs.declared.change.Change.TheVariants.{Cont, Snapshot}
use Rattle.vos_tables.specs.Changes.{AllFit, all_changed}
use Rattle.vos_tables.specs.Kept.{Makes, OfKept, kept_with}
use Rattle.vos_tables.specs.Seats.{FindsCont, FindsSnap, FindsUnused}
use Rattle.vos_tables.specs.Tables.{IsTable}
use Rattle.vos_tables.proofs.Lone.{absent_snaps, cont_lone, lone_changed, lone_found, lone_gone, lone_there, none_changed, none_gone, snap_lone}
use Rattle.vos_tables.proofs.Places.{All_those-at, any_in_order, length_in_order, one_unused, seat_in}

-- ---- what is kept of a container, and whether a snapshot is frozen

pub row_found : (t : Table) (c : ContId) (i : ℕ) (r : ContRow) (vs : List Version) (es : List Entry) → IsApart t → FindsCont c t.conts (Some (i, r)) → row_of (kept_with t vs es) c ≡ r
unfolding row_of
row_found t c i r vs es apart found = ap (row_or_new c) (lone_found cont_key (is_row_of c) t.conts i r (cont_lone t c i r apart found))

pub enlisted_not : (t : Table) (c : ContId) (vs : List Version) (es : List Entry) → FindsCont c t.conts None → is_enlisted (kept_with t vs es) c ≡ false
unfolding is_enlisted
enlisted_not t c vs es none = any_in_order cont_key (is_row_of c) (those t.conts) ∙ none

pub frozen_not : (t : Table) (c : ContId) (s : Epoch) (vs : List Version) (es : List Entry) → FindsSnap c s t.snaps None → is_frozen (kept_with t vs es) c s ≡ false
unfolding is_frozen
frozen_not t c s vs es none = any_in_order snap_key (is_snap_at c s) (those t.snaps) ∙ none

pub frozen_found : (t : Table) (c : ContId) (s : Epoch) (i : ℕ) (x : Snap) (vs : List Version) (es : List Entry) → IsApart t → FindsSnap c s t.snaps (Some (i, x)) → is_frozen (kept_with t vs es) c s ≡ true
unfolding is_frozen
frozen_found t c s i x vs es apart found = lone_there snap_key (is_snap_at c s) t.snaps i x (snap_lone t c s i x apart found)

-- ---- rows that change

raised_key : (c : ContId) (e : Epoch) (y : FloorWhy) (r : ContRow) → cont_key (raised_at c e y r) ≡ cont_key r
raised_key c e y r = by (is_row_of c r) (nat_lt r.floor.0 e.0)
  where
    by : (b t : Bool) → cont_key (if b then (if t then record r { floor = e; why = y } else r) else r) ≡ cont_key r
    by true true = refl
    by true false = refl
    by false t = refl

marked_key : (c : ContId) (e : Epoch) (n : ℕ) (r : ContRow) → cont_key (marked_at c e n r) ≡ cont_key r
marked_key c e n r = by (is_row_of c r) (nat_lt r.aggregated.0 e.0)
  where
    low : (t : Bool) (x : ContRow) → cont_key (if t then record x { floor = e; why = why.Aggregate n } else x) ≡ cont_key x
    low true x = refl
    low false x = refl

    by : (b t : Bool) → cont_key (if b then raised e (why.Aggregate n) (if t then record r { aggregated = e; number = n } else r) else r) ≡ cont_key r
    by true true = low (nat_lt r.floor.0 e.0) (record r { aggregated = e; number = n })
    by true false = low (nat_lt r.floor.0 e.0) r
    by false t = refl

created_key : (c : ContId) (s : Epoch) (x : Snap) → snap_key (created_at c s x) ≡ snap_key x
created_key c s x = by (is_snap_at c s x)
  where
    by : (b : Bool) → snap_key (if b then record x { created = true } else x) ≡ snap_key x
    by true = refl
    by false = refl

pub raised_cont : (e : Epoch) (y : FloorWhy) (r : ContRow) → (raised e y r).cont ≡ r.cont
raised_cont e y r = by (nat_lt r.floor.0 e.0)
  where
    by : (t : Bool) → (if t then record r { floor = e; why = y } else r).cont ≡ r.cont
    by true = refl
    by false = refl

pub marked_cont : (e : Epoch) (n : ℕ) (r : ContRow) → (raised e (why.Aggregate n) (aggregated_to e n r)).cont ≡ r.cont
marked_cont e n r = raised_cont e (why.Aggregate n) (aggregated_to e n r) ∙ by (nat_lt r.aggregated.0 e.0)
  where
    by : (t : Bool) → (if t then record r { aggregated = e; number = n } else r).cont ≡ r.cont
    by true = refl
    by false = refl

-- an epoch whose ticks the lease covers
covered : (t : Table) (e : Epoch) → e.0 / 256 ≤ t.header.lease → e.0 ≤ covered_by t.header
covered t e h = omega arith

pub raised_under : (t : Table) (e : Epoch) (y : FloorWhy) (r : ContRow) → e.0 / 256 ≤ t.header.lease → IsStoredFloor e y → IsContUnder (covered_by t.header) r → IsContUnder (covered_by t.header) (raised e y r)
raised_under t e y r low stored h = by (nat_lt r.floor.0 e.0)
  where
    by : (b : Bool) → IsContUnder (covered_by t.header) (if b then record r { floor = e; why = y } else r)
    by true = record { uuid = h.uuid; floor = covered t e low; why = stored; aggregated = h.aggregated; number = h.number }
    by false = h

pub marked_under : (t : Table) (e : Epoch) (n : ℕ) (r : ContRow) → e.0 / 256 ≤ t.header.lease → n < 2 ^ 32 → IsContUnder (covered_by t.header) r → IsContUnder (covered_by t.header) (raised e (why.Aggregate n) (aggregated_to e n r))
marked_under t e n r low small h = raised_under t e (why.Aggregate n) (aggregated_to e n r) low small (by (nat_lt r.aggregated.0 e.0))
  where
    by : (b : Bool) → IsContUnder (covered_by t.header) (if b then record r { aggregated = e; number = n } else r)
    by true = record { uuid = h.uuid; floor = h.floor; why = h.why; aggregated = covered t e low; number = small }
    by false = h

-- ---- a freeze

pub freeze_fits : RowsChange → SnapsCome → (t : Table) (c : ContId) (s : Epoch) (at free : ℕ) (r : ContRow) → IsTable t → FindsCont c t.conts (Some (at, r)) → FindsSnap c s t.snaps None → FindsUnused t.snaps (Some free) → s.0 / 256 ≤ t.header.lease
    → IsSnap (new_snap c s) → AllFit t (Snapshot free (new_snap c s) ∷ Cont at (raised s (why.Snapshot s) r) ∷ [])
freeze_fits change come t c s at free r h found none unused low small =
    let there : list_any (is_row_of c) (those t.conts) ≡ true = sym (any_in_order cont_key (is_row_of c) (those t.conts)) ∙ lone_there cont_key (is_row_of c) t.conts at r (cont_lone t c at r h.apart found) in
    let held = come t free (new_snap c s) h.apart unused.0 unused.1 there none in
    let within : at < 256 = subst (λ n. at < n) h.many_conts found.0.within in
    let free_within : free < 256 = subst (λ n. free < n) h.many_snaps unused.0 in
    let row = All_those-at (IsContUnder (covered_by t.header)) t.conts at r found.0.row_there h.rows in (
      (free_within, small, held),
      (
        (within, raised_under t s (why.Snapshot s) r low small.epoch row, change (with_snap free (Some (new_snap c s)) t) at r (raised s (why.Snapshot s) r) held found.0.row_there (raised_cont s (why.Snapshot s) r)),
        tt,
      ),
    )

pub freeze_makes : (t : Table) (c : ContId) (s : Epoch) (at free : ℕ) (r : ContRow) → IsTable t → FindsCont c t.conts (Some (at, r)) → FindsSnap c s t.snaps None → FindsUnused t.snaps (Some free)
    → Makes (frozen c s) t (all_changed (Snapshot free (new_snap c s) ∷ Cont at (raised s (why.Snapshot s) r) ∷ []) t)
unfolding frozen
freeze_makes t c s at free r h found none unused vs es =
    let d = kept_with t vs es in
    let f = raised_at c s (why.Snapshot s) in
    let rows : in_order cont_key (those (set t.conts at (Some (raised s (why.Snapshot s) r)))) ≡ map f (in_order cont_key (those t.conts)) =
    lone_changed cont_key (is_row_of c) t.conts at r (cont_lone t c at r h.apart found) f (raised s (why.Snapshot s) r)
    (ap (λ (b : Bool). if b then raised s (why.Snapshot s) r else r) found.1)
    (raised_key c s (why.Snapshot s))
    (λ y other. ap (λ (b : Bool). if b then raised s (why.Snapshot s) y else y) other) in
    let empty : set t.snaps free None ≡ t.snaps = ap (set t.snaps free) (sym unused.1) ∙ set-get_or t.snaps free None in
    let held : in_order snap_key (those (set t.snaps free (Some (new_snap c s)))) ≡ put snap_key (new_snap c s) (in_order snap_key (those t.snaps)) =
    seat_in snap_key t.snaps free (new_snap c s) unused.0 (absent_snaps c s (those (set t.snaps free None)) (ap (λ z. list_any (is_snap_at c s) (those z)) empty ∙ none))
    ∙ ap (λ z. put snap_key (new_snap c s) (in_order snap_key (those z))) empty in
    ap (λ x. record d { conts = x; snaps = in_order snap_key (those (set t.snaps free (Some (new_snap c s)))) }) rows
    ∙ (ap (λ x. record d { conts = map f d.conts; snaps = x }) held
    ∙ sym (ap (λ (b : Bool). if b then d else record d { conts = map f d.conts; snaps = put snap_key (new_snap c s) d.snaps }) (frozen_not t c s vs es none)))

-- one that is frozen stays so
pub freeze_again : (t : Table) (c : ContId) (s : Epoch) (i : ℕ) (x : Snap) → IsTable t → FindsSnap c s t.snaps (Some (i, x)) → Makes (frozen c s) t t
unfolding frozen
freeze_again t c s i x h found vs es =
    let d = kept_with t vs es in
    sym (ap (λ (b : Bool). if b then d else record d { conts = map (raised_at c s (why.Snapshot s)) d.conts; snaps = put snap_key (new_snap c s) d.snaps }) (frozen_found t c s i x vs es h.apart found))

-- how a freeze is answered
answered : (c : ContId) (s : Epoch) (d : Durable) (r : ContRow) (low there full : Bool) → row_of d c ≡ r → nat_le s.0 r.aggregated.0 ≡ low → is_frozen d c s ≡ there → nat_le 256 (length d.snaps) ≡ full
    → freezes c s d ≡ (if low then Err (no.Below r.aggregated r.number) else if not there && full then Err no.NoPlace else Ok tt)
unfolding freezes
answered c s d r low there full a b e f = rw (a, b, e, f) refl

pub freeze_low : (t : Table) (c : ContId) (s : Epoch) (at : ℕ) (r : ContRow) → IsTable t → FindsCont c t.conts (Some (at, r)) → s.0 ≤ r.aggregated.0 → OfKept t (λ d. freezes c s d ≡ Err (no.Below r.aggregated r.number))
freeze_low t c s at r h found low vs es =
    let d = kept_with t vs es in
    answered c s d r true (is_frozen d c s) (nat_le 256 (length d.snaps)) (row_found t c at r vs es h.apart found) (grind (arith, nat_tests)) refl refl

pub freeze_there : (t : Table) (c : ContId) (s : Epoch) (at i : ℕ) (r : ContRow) (x : Snap) → IsTable t → FindsCont c t.conts (Some (at, r)) → r.aggregated.0 < s.0 → FindsSnap c s t.snaps (Some (i, x)) → OfKept t (λ d. freezes c s d ≡ Ok tt)
freeze_there t c s at i r x h found high held vs es =
    let d = kept_with t vs es in
    answered c s d r false true (nat_le 256 (length d.snaps)) (row_found t c at r vs es h.apart found) (grind (arith, nat_tests)) (frozen_found t c s i x vs es h.apart held) refl

pub freeze_full : (t : Table) (c : ContId) (s : Epoch) (at : ℕ) (r : ContRow) → IsTable t → FindsCont c t.conts (Some (at, r)) → r.aggregated.0 < s.0 → FindsSnap c s t.snaps None → FindsUnused t.snaps None → OfKept t (λ d. freezes c s d ≡ Err no.NoPlace)
freeze_full t c s at r h found high none full vs es =
    let d = kept_with t vs es in
    let many : length (in_order snap_key (those t.snaps)) ≡ 256 = length_in_order snap_key (those t.snaps) ∙ (full ∙ h.many_snaps) in
    answered c s d r false false true (row_found t c at r vs es h.apart found) (grind (arith, nat_tests)) (frozen_not t c s vs es none) (ap (nat_le 256) many)

pub freeze_free : (t : Table) (c : ContId) (s : Epoch) (at free : ℕ) (r : ContRow) → IsTable t → FindsCont c t.conts (Some (at, r)) → r.aggregated.0 < s.0 → FindsSnap c s t.snaps None → FindsUnused t.snaps (Some free) → OfKept t (λ d. freezes c s d ≡ Ok tt)
freeze_free t c s at free r h found high none unused vs es =
    let d = kept_with t vs es in
    let few : length (those t.snaps) < length t.snaps = one_unused t.snaps free unused.0 unused.1 in
    let many : length (in_order snap_key (those t.snaps)) < 256 = omega (arith, length_in_order snap_key (those t.snaps), h.many_snaps) in
    answered c s d r false false false (row_found t c at r vs es h.apart found) (grind (arith, nat_tests)) (frozen_not t c s vs es none) (grind (arith, nat_tests))

-- ---- a snapshot is created or dropped

pub create_makes : (t : Table) (c : ContId) (s : Epoch) (i : ℕ) (x : Snap) → IsTable t → FindsSnap c s t.snaps (Some (i, x)) → Makes (created c s) t (with_snap i (Some (record x { created = true })) t)
unfolding created
create_makes t c s i x h found vs es =
    ap (λ z. record (kept_with t vs es) { snaps = z })
    (lone_changed snap_key (is_snap_at c s) t.snaps i x (snap_lone t c s i x h.apart found) (created_at c s) (record x { created = true })
    (ap (λ (b : Bool). if b then record x { created = true } else x) found.1)
    (created_key c s)
    (λ y other. ap (λ (b : Bool). if b then record y { created = true } else y) other))

pub create_none : (t : Table) (c : ContId) (s : Epoch) → FindsSnap c s t.snaps None → Makes (created c s) t t
unfolding created
create_none t c s none vs es =
    ap (λ z. record (kept_with t vs es) { snaps = z })
    (none_changed (is_snap_at c s) (created_at c s) (λ y other. ap (λ (b : Bool). if b then record y { created = true } else y) other) (in_order snap_key (those t.snaps)) (any_in_order snap_key (is_snap_at c s) (those t.snaps) ∙ none))

pub thaw_makes : (t : Table) (c : ContId) (s : Epoch) (i : ℕ) (x : Snap) → IsTable t → FindsSnap c s t.snaps (Some (i, x)) → Makes (thawed c s) t (with_snap i None t)
unfolding thawed
thaw_makes t c s i x h found vs es =
    ap (λ z. record (kept_with t vs es) { snaps = z }) (lone_gone snap_key (is_snap_at c s) t.snaps i x (snap_lone t c s i x h.apart found))

pub thaw_none : (t : Table) (c : ContId) (s : Epoch) → FindsSnap c s t.snaps None → Makes (thawed c s) t t
unfolding thawed
thaw_none t c s none vs es =
    ap (λ z. record (kept_with t vs es) { snaps = z }) (none_gone (is_snap_at c s) (in_order snap_key (those t.snaps)) (any_in_order snap_key (is_snap_at c s) (those t.snaps) ∙ none))

-- ---- the first step of a prune

pub mark_fits : RowsChange → (t : Table) (c : ContId) (e : Epoch) (n at : ℕ) (r : ContRow) → IsTable t → FindsCont c t.conts (Some (at, r)) → e.0 / 256 ≤ t.header.lease → n < 2 ^ 32
    → AllFit t (Cont at (raised e (why.Aggregate n) (aggregated_to e n r)) ∷ [])
mark_fits change t c e n at r h found low small =
    let within : at < 256 = subst (λ k. at < k) h.many_conts found.0.within in
    let row = All_those-at (IsContUnder (covered_by t.header)) t.conts at r found.0.row_there h.rows in
    ((within, marked_under t e n r low small row, change t at r (raised e (why.Aggregate n) (aggregated_to e n r)) h.apart found.0.row_there (marked_cont e n r)), tt)

pub mark_makes : (t : Table) (c : ContId) (e : Epoch) (n at : ℕ) (r : ContRow) → IsTable t → FindsCont c t.conts (Some (at, r)) → Makes (marked c e n) t (with_cont at (raised e (why.Aggregate n) (aggregated_to e n r)) t)
unfolding marked
mark_makes t c e n at r h found vs es =
    ap (λ z. record (kept_with t vs es) { conts = z })
    (lone_changed cont_key (is_row_of c) t.conts at r (cont_lone t c at r h.apart found) (marked_at c e n) (raised e (why.Aggregate n) (aggregated_to e n r))
    (ap (λ (b : Bool). if b then raised e (why.Aggregate n) (aggregated_to e n r) else r) found.1)
    (marked_key c e n)
    (λ y other. ap (λ (b : Bool). if b then raised e (why.Aggregate n) (aggregated_to e n y) else y) other))

pub mark_none : (t : Table) (c : ContId) (e : Epoch) (n : ℕ) → FindsCont c t.conts None → Makes (marked c e n) t t
unfolding marked
mark_none t c e n none vs es =
    ap (λ z. record (kept_with t vs es) { conts = z })
    (none_changed (is_row_of c) (marked_at c e n) (λ y other. ap (λ (b : Bool). if b then raised e (why.Aggregate n) (aggregated_to e n y) else y) other) (in_order cont_key (those t.conts)) (any_in_order cont_key (is_row_of c) (those t.conts) ∙ none))

-- ---- what a search says

pub not_found : (c : ContId) (s : Epoch) (os : List (Option Snap)) (o : Option (ℕ × Snap)) → is_some o ≡ false → FindsSnap c s os o → FindsSnap c s os None
not_found c s os None none h = h
not_found c s os (Some at) none h = let n : ⊥ = cc in absurd n

-- what holds wherever it is found
pub where_found : (c : ContId) (s : Epoch) (os : List (Option Snap)) (P : Type 0) (o : Option (ℕ × Snap)) → is_some o ≡ true → FindsSnap c s os o → ((i : ℕ) (x : Snap) → FindsSnap c s os (Some (i, x)) → P) → P
where_found c s os P None some h f = let n : ⊥ = cc in absurd n
where_found c s os P (Some at) some h f = f at.0 at.1 h

-- a container that isn't there is not one to be asked for
pub not_there : {A : Type 0} (t : Table) (c : ContId) (s : Epoch) (vs : List Version) (es : List Entry) → FindsCont c t.conts None → CanFreeze c s (kept_with t vs es) → A
not_there t c s vs es none can = clash (is_enlisted (kept_with t vs es) c) can.enlisted (enlisted_not t c vs es none)
