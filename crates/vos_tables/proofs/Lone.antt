-- The one row that passes a test among rows in order, and what rows in order are once it changes or goes.
use Rattle.std.proofs.Common.{◌≡◌, ℕ, Bool, true, false, ◌||◌, ◌==◌, not, List, [], ◌∷◌, ◌++◌, Option, Some, None, map, refl, sym, ap, subst, ◌∙◌, arith}
use Rattle.std.specs.Prelude.{◌≢◌, All, filter, find, set}
use Rattle.std.specs.List.{list_any}
use Rattle.std.proofs.lemmas.Bool.Decides.{nat_tests}
use Rattle.std.proofs.lemmas.List.{set-get_or}
use Rattle.std.proofs.lemmas.List.Elements.{All-cons}
use Rattle.base_types.specs.declared.epoch.Epoch.{Epoch}
use Rattle.base_types.specs.declared.id.ContId.{ContId}
use Rattle.base_types.specs.declared.snapshot.Snap.{Snap}
use Rattle.daos_model.specs.declared.durable.ContRow.{ContRow}
use Rattle.daos_model.specs.BoolLaws.{and_left, and_right, both, clash, not_true, or_left, or_right}
use Rattle.daos_model.specs.Changes.{new_snap}
use Rattle.daos_model.specs.Durables.{cont_key, is_row_of, is_snap_at, snap_key}
use Rattle.daos_model.specs.FormLaws.{absent_rows}
use Rattle.daos_model.specs.Ordered.{in_order, put}
use Rattle.vos_places.specs.Laws.{IsApart}
use Rattle.vos_places.specs.Tables.{AreNewConts, AreNewSnaps, Table, those}
use Rattle.vos_tables.specs.Seats.{FindsCont, FindsSnap, StandsAt}
use Rattle.vos_tables.proofs.Order.{any-put, filter-put, find-put, map-put}
use Rattle.vos_tables.proofs.Places.{AreNew, any_in_order, none_all, others, seat_in}

-- a row that stands at a place, passes a test, and has a key that no other row has; no other row passes
pub record IsLone {T : Type 0} (key : T → List ℕ) (test : T → Bool) (os : List (Option T)) (i : ℕ) (x : T) : Type 0 where
  pub stands : StandsAt os i x
  pub passes : test x ≡ true
  pub alone : list_any test (those (set os i None)) ≡ false
  pub apart : All (λ y. key y ≢ key x) (those (set os i None))

module _ {T : Type 0} (key : T → List ℕ) (test : T → Bool) (os : List (Option T)) (i : ℕ) (x : T) (h : IsLone key test os i x) where
  -- the other rows, in order
  abbrev rest : List T
  rest = in_order key (those (set os i None))

  rest_none : list_any test rest ≡ false
  rest_none = any_in_order key test (those (set os i None)) ∙ h.alone

  pub lone_in : in_order key (those os) ≡ put key x rest
  lone_in =
      let same : set os i (Some x) ≡ os = ap (set os i) (sym h.stands.row_there) ∙ set-get_or os i None in
      ap (λ z. in_order key (those z)) (sym same) ∙ seat_in key os i x h.stands.within h.apart

  pub lone_found : find test (in_order key (those os)) ≡ Some x
  lone_found = ap (find test) lone_in ∙ find-put key test x rest h.passes rest_none

  pub lone_there : list_any test (in_order key (those os)) ≡ true
  lone_there = ap (list_any test) lone_in ∙ (any-put key test x rest ∙ ap (λ (t : Bool). t || list_any test rest) h.passes)

  same_rest : (f : T → T) → ((y : T) → test y ≡ false → f y ≡ y) → (ys : List T) → list_any test ys ≡ false → map f ys ≡ ys
  same_rest f others_stay [] n = refl
  same_rest f others_stay (y ∷ ys) n =
      rw (others_stay y (or_left (test y) (list_any test ys) n)) (ap (λ z. y ∷ z) (same_rest f others_stay ys (or_right (test y) (list_any test ys) n)))

  -- it changes in its place, and keeps its key
  pub lone_changed : (f : T → T) (r : T) → f x ≡ r → ((y : T) → key (f y) ≡ key y) → ((y : T) → test y ≡ false → f y ≡ y) → in_order key (those (set os i (Some r))) ≡ map f (in_order key (those os))
  lone_changed f r is keeps others_stay =
      let k : key r ≡ key x = ap key (sym is) ∙ keeps x in
      let new : All (λ y. key y ≢ key r) (those (set os i None)) = subst (λ z. All (λ y. key y ≢ z) (those (set os i None))) (sym k) h.apart in
      seat_in key os i r h.stands.within new
      ∙ (ap (λ z. put key z rest) (sym is)
      ∙ (ap (put key (f x)) (sym (same_rest f others_stay rest rest_none))
      ∙ (sym (map-put key key f keeps x rest)
      ∙ ap (map f) (sym lone_in))))

  -- it goes
  pub lone_gone : in_order key (those (set os i None)) ≡ filter (λ y. not (test y)) (in_order key (those os))
  lone_gone = sym (ap (filter (λ y. not (test y))) lone_in ∙ filter-put key (λ y. not (test y)) x rest (ap not h.passes) (none_all test rest rest_none))

-- where no row passes, none changes and none goes
pub none_changed : {T : Type 0} (test : T → Bool) (f : T → T) → ((y : T) → test y ≡ false → f y ≡ y) → (ys : List T) → list_any test ys ≡ false → ys ≡ map f ys
none_changed test f stays [] n = refl
none_changed test f stays (y ∷ ys) n = rw (stays y (or_left (test y) (list_any test ys) n)) (ap (λ z. y ∷ z) (none_changed test f stays ys (or_right (test y) (list_any test ys) n)))

pub none_gone : {T : Type 0} (test : T → Bool) (ys : List T) → list_any test ys ≡ false → ys ≡ filter (λ y. not (test y)) ys
none_gone test [] n = refl
none_gone test (y ∷ ys) n = rw (or_left (test y) (list_any test ys) n) (ap (λ z. y ∷ z) (none_gone test ys (or_right (test y) (list_any test ys) n)))

-- ---- containers and snapshots

pub eqb_turned : (a b : ℕ) → (a == b) ≡ (b == a)
eqb_turned a b = by (a == b) (b == a) refl refl
  where
    by : (s t : Bool) → (a == b) ≡ s → (b == a) ≡ t → s ≡ t
    by true true h k = refl
    by false false h k = refl
    by true false h k = let no : ⊥ = grind (arith, nat_tests) in absurd no
    by false true h k = let no : ⊥ = grind (arith, nat_tests) in absurd no

abbrev pub same_cont : ContRow → ContRow → Bool
same_cont x y = is_row_of x.cont y

pub new_conts : (before rows : List ContRow) → AreNewConts before rows → AreNew same_cont before rows
new_conts before [] n = tt
new_conts before (r ∷ rows) n = (n.0, new_conts (before ++ r ∷ []) rows n.1)

abbrev pub same_snap : Snap → Snap → Bool
same_snap x y = is_snap_at x.cont x.epoch y

pub new_snaps : (rows : List ContRow) (before ss : List Snap) → AreNewSnaps rows before ss → AreNew same_snap before ss
new_snaps rows before [] n = tt
new_snaps rows before (s ∷ ss) n =
    (not_true (list_any (is_snap_at s.cont s.epoch) before) (and_right (list_any (is_row_of s.cont) rows) (not (list_any (is_snap_at s.cont s.epoch) before)) n.0), new_snaps rows (before ++ s ∷ []) ss n.1)

cont_is : (c : ContId) (r : ContRow) → is_row_of c r ≡ true → r.cont ≡ c
cont_is c r h = let e : r.cont.0 ≡ c.0 = grind (arith, nat_tests) in ap (λ n. record { 0 = n }) e

pub cont_lone : (t : Table) (c : ContId) (i : ℕ) (r : ContRow) → IsApart t → FindsCont c t.conts (Some (i, r)) → IsLone cont_key (is_row_of c) t.conts i r
cont_lone t c i r apart found =
    let e : r.cont ≡ c = cont_is c r found.1 in
    let alone : list_any (is_row_of r.cont) (those (set t.conts i None)) ≡ false = others same_cont (λ x y. eqb_turned y.cont.0 x.cont.0) t.conts i r [] found.0.row_there (new_conts [] (those t.conts) apart.0) in
    record {
      stands = found.0;
      passes = found.1;
      alone = subst (λ z. list_any (is_row_of z) (those (set t.conts i None)) ≡ false) e alone;
      apart = absent_rows r.cont (those (set t.conts i None)) alone;
    }

snap_at-key : (c : ContId) (s : Epoch) (x : Snap) → snap_key x ≡ snap_key (new_snap c s) → is_snap_at c s x ≡ true
snap_at-key c s x k =
    let e : x.cont.0 ≡ c.0 = cc in
    let f : x.epoch.0 ≡ s.0 = cc in
    both (x.cont.0 == c.0) (x.epoch.0 == s.0) (grind (arith, nat_tests)) (grind (arith, nat_tests))

-- a snapshot that isn't there has a key that none has
pub absent_snaps : (c : ContId) (s : Epoch) (xs : List Snap) → list_any (is_snap_at c s) xs ≡ false → All (λ x. snap_key x ≢ snap_key (new_snap c s)) xs
absent_snaps c s [] h = λ k x lt same. absurd (omega arith)
absent_snaps c s (x ∷ xs) h =
    All-cons (λ y. snap_key y ≢ snap_key (new_snap c s)) x xs (λ k. clash (is_snap_at c s x) (snap_at-key c s x k) (or_left (is_snap_at c s x) (list_any (is_snap_at c s) xs) h)) (absent_snaps c s xs (or_right (is_snap_at c s x) (list_any (is_snap_at c s) xs) h))

snap_is : (c : ContId) (e : Epoch) (s : Snap) → is_snap_at c e s ≡ true → (s.cont ≡ c) × (s.epoch ≡ e)
snap_is c e s h =
    let k : (s.cont.0 == c.0) ≡ true = and_left (s.cont.0 == c.0) (s.epoch.0 == e.0) h in
    let l : (s.epoch.0 == e.0) ≡ true = and_right (s.cont.0 == c.0) (s.epoch.0 == e.0) h in
    let a : s.cont.0 ≡ c.0 = grind (arith, nat_tests) in
    let b : s.epoch.0 ≡ e.0 = grind (arith, nat_tests) in
    (ap (λ n. record { 0 = n }) a, ap (λ n. record { 0 = n }) b)

pub snaps_turned : (x y : Snap) → same_snap x y ≡ same_snap y x
snaps_turned x y = rw (eqb_turned y.cont.0 x.cont.0, eqb_turned y.epoch.0 x.epoch.0) refl

pub snap_lone : (t : Table) (c : ContId) (e : Epoch) (i : ℕ) (s : Snap) → IsApart t → FindsSnap c e t.snaps (Some (i, s)) → IsLone snap_key (is_snap_at c e) t.snaps i s
snap_lone t c e i s apart found =
    let is = snap_is c e s found.1 in
    let alone : list_any (is_snap_at s.cont s.epoch) (those (set t.snaps i None)) ≡ false = others same_snap snaps_turned t.snaps i s [] found.0.row_there (new_snaps (those t.conts) [] (those t.snaps) apart.1) in
    let alone' : list_any (is_snap_at c e) (those (set t.snaps i None)) ≡ false = subst (λ z. list_any (is_snap_at z e) (those (set t.snaps i None)) ≡ false) is.0 (subst (λ z. list_any (is_snap_at s.cont z) (those (set t.snaps i None)) ≡ false) is.1 alone) in
    record {
      stands = found.0;
      passes = found.1;
      alone = alone';
      apart = absent_snaps s.cont s.epoch (those (set t.snaps i None)) alone;
    }
