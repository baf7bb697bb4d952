-- What a search among places finds, and the rows in order where one place comes to hold another.
use Rattle.std.proofs.Common.{◌≡◌, ℕ, zero, suc, ◌<◌, ◌≤◌, Bool, true, false, cond, ◌||◌, not, List, [], ◌∷◌, ◌++◌, Option, Some, None, length, get_or, refl, sym, ap, subst, ◌∙◌, arith, position}
use Rattle.std.specs.Prelude.{◌≢◌, All, nat_lt, set}
use Rattle.std.specs.List.{list_any, list_all, position_or_len}
use Rattle.std.proofs.lemmas.Bool.Decides.{nat_tests}
use Rattle.std.proofs.lemmas.List.Elements.{All-cons, All-head, All-tail}
use Rattle.std.proofs.lemmas.List.Folds.{list_any-append, list_any_none}
use Rattle.std.proofs.lemmas.List.Sums.{fails_before_first, passes_at_first}
use Rattle.daos_model.specs.BoolLaws.{both, or_left, or_right}
use Rattle.daos_model.specs.FormLaws.{length-put}
use Rattle.daos_model.specs.Ordered.{in_order, put}
use Rattle.base_types.specs.declared.epoch.Epoch.{Epoch}
use Rattle.base_types.specs.declared.id.ContId.{ContId}
use Rattle.base_types.specs.declared.snapshot.Snap.{Snap}
use Rattle.daos_model.specs.declared.durable.ContRow.{ContRow}
use Rattle.daos_model.specs.Durables.{is_row_of, is_snap_at}
use Rattle.vos_places.specs.Tables.{is_cont_at, is_held_at, is_unused, those}
use Rattle.vos_tables.specs.Seats.{FindsCont, FindsSnap, FindsUnused}
use Rattle.vos_tables.proofs.Order.{any-put, put-put}

-- ---- a search

pub found_at : {X : Type 0} (p : X → Bool) (d : X) (xs : List X) (i : ℕ) → position p xs ≡ Some i → (i < length xs) × (p (get_or xs i d) ≡ true)
found_at p d xs i is = by (nat_lt (position_or_len p xs) (length xs)) refl is
  where
    by : (t : Bool) → nat_lt (position_or_len p xs) (length xs) ≡ t → cond t (Some (position_or_len p xs)) None ≡ Some i → (i < length xs) × (p (get_or xs i d) ≡ true)
    by true e h =
        let n : position_or_len p xs ≡ i = cc in
        let below : position_or_len p xs < length xs = grind (arith, nat_tests) in
        subst (λ k. (k < length xs) × (p (get_or xs k d) ≡ true)) n (below, passes_at_first p xs d below)
    by false e h = let no : ⊥ = cc in absurd no

pub none_at : {X : Type 0} (p : X → Bool) (xs : List X) → position p xs ≡ None → list_any p xs ≡ false
none_at p xs is = by (nat_lt (position_or_len p xs) (length xs)) refl is
  where
    by : (t : Bool) → nat_lt (position_or_len p xs) (length xs) ≡ t → cond t (Some (position_or_len p xs)) None ≡ None → list_any p xs ≡ false
    by true e h = let no : ⊥ = cc in absurd no
    by false e h =
        let far : length xs ≤ position_or_len p xs = grind (arith, nat_tests) in
        list_any_none p xs (λ k d lt. fails_before_first p xs k d (omega arith))

-- a test of places is one of the rows in them
pub any_those : {T : Type 0} (p : Option T → Bool) (q : T → Bool) → p None ≡ false → ((x : T) → p (Some x) ≡ q x) → (os : List (Option T)) → list_any p os ≡ list_any q (those os)
any_those p q none some [] = refl
any_those p q none some (None ∷ os) = rw none (any_those p q none some os)
any_those p q none some (Some x ∷ os) = rw (some x) (ap (λ (t : Bool). q x || t) (any_those p q none some os))

pub all_used : {T : Type 0} (os : List (Option T)) → list_any is_unused os ≡ false → length (those os) ≡ length os
all_used [] h = refl
all_used (None ∷ os) h = let no : ⊥ = cc in absurd no
all_used (Some x ∷ os) h = omega (arith, all_used os h)

pub fewer_used : {T : Type 0} (os : List (Option T)) → length (those os) ≤ length os
fewer_used [] = omega arith
fewer_used (None ∷ os) = omega (arith, fewer_used os)
fewer_used (Some x ∷ os) = omega (arith, fewer_used os)

pub one_unused : {T : Type 0} (os : List (Option T)) (i : ℕ) → i < length os → get_or os i None ≡ None → length (those os) < length os
one_unused [] i below is = absurd (omega arith)
one_unused (None ∷ os) zero below is = omega (arith, fewer_used os)
one_unused (Some x ∷ os) zero below is = let no : ⊥ = cc in absurd no
one_unused (None ∷ os) (suc i) below is = omega (arith, fewer_used os)
one_unused (Some x ∷ os) (suc i) below is = omega (arith, one_unused os i (omega arith) is)

pub is_none : {T : Type 0} (o : Option T) → is_unused o ≡ true → o ≡ None
is_none None h = refl
is_none (Some x) h = let no : ⊥ = cc in absurd no

-- what a place holds has what all rows have
pub All_those-set : {T : Type 0} (P : T → Type 0) (os : List (Option T)) (i : ℕ) (r : T) → P r → All P (those os) → All P (those (set os i (Some r)))
All_those-set P [] i r new h = h
All_those-set P (None ∷ os) zero r new h = All-cons P r (those os) new h
All_those-set P (Some x ∷ os) zero r new h = All-cons P r (those os) new (All-tail P x (those os) h)
All_those-set P (None ∷ os) (suc i) r new h = All_those-set P os i r new h
All_those-set P (Some x ∷ os) (suc i) r new h = All-cons P x (those (set os i (Some r))) (All-head P x (those os) h) (All_those-set P os i r new (All-tail P x (those os) h))

pub All_those-unset : {T : Type 0} (P : T → Type 0) (os : List (Option T)) (i : ℕ) → All P (those os) → All P (those (set os i None))
All_those-unset P [] i h = h
All_those-unset P (None ∷ os) zero h = h
All_those-unset P (Some x ∷ os) zero h = All-tail P x (those os) h
All_those-unset P (None ∷ os) (suc i) h = All_those-unset P os i h
All_those-unset P (Some x ∷ os) (suc i) h = All-cons P x (those (set os i None)) (All-head P x (those os) h) (All_those-unset P os i (All-tail P x (those os) h))

pub All_those-at : {T : Type 0} (P : T → Type 0) (os : List (Option T)) (i : ℕ) (r : T) → get_or os i None ≡ Some r → All P (those os) → P r
All_those-at P [] i r is h = absurd (let no : None ≡ Some r = is in let n : ⊥ = cc in n)
All_those-at P (None ∷ os) zero r is h = let no : ⊥ = cc in absurd no
All_those-at P (Some x ∷ os) zero r is h = let e : x ≡ r = cc in subst P e (All-head P x (those os) h)
All_those-at P (None ∷ os) (suc i) r is h = All_those-at P os i r is h
All_those-at P (Some x ∷ os) (suc i) r is h = All_those-at P os i r is (All-tail P x (those os) h)

-- ---- rows in order

module _ {T : Type 0} (key : T → List ℕ) where
  pub seat_in : (os : List (Option T)) (i : ℕ) (r : T) → i < length os → All (λ y. key y ≢ key r) (those (set os i None)) → in_order key (those (set os i (Some r))) ≡ put key r (in_order key (those (set os i None)))
  unfolding in_order
  seat_in [] i r below new = absurd (omega arith)
  seat_in (None ∷ os) zero r below new = refl
  seat_in (Some x ∷ os) zero r below new = refl
  seat_in (None ∷ os) (suc i) r below new = seat_in os i r (omega arith) new
  seat_in (Some x ∷ os) (suc i) r below new =
      ap (put key x) (seat_in os i r (omega arith) (All-tail (λ y. key y ≢ key r) x (those (set os i None)) new))
      ∙ put-put key x r (in_order key (those (set os i None))) (All-head (λ y. key y ≢ key r) x (those (set os i None)) new)

  pub push_in : (os : List (Option T)) (r : T) → All (λ y. key y ≢ key r) (those os) → in_order key (those (os ++ Some r ∷ [])) ≡ put key r (in_order key (those os))
  unfolding in_order
  push_in [] r new = refl
  push_in (None ∷ os) r new = push_in os r new
  push_in (Some x ∷ os) r new =
      ap (put key x) (push_in os r (All-tail (λ y. key y ≢ key r) x (those os) new))
      ∙ put-put key x r (in_order key (those os)) (All-head (λ y. key y ≢ key r) x (those os) new)

  pub any_in_order : (p : T → Bool) (xs : List T) → list_any p (in_order key xs) ≡ list_any p xs
  unfolding in_order
  any_in_order p [] = refl
  any_in_order p (x ∷ xs) = any-put key p x (in_order key xs) ∙ ap (λ (t : Bool). p x || t) (any_in_order p xs)

  pub length_in_order : (xs : List T) → length (in_order key xs) ≡ length xs
  unfolding in_order
  length_in_order [] = refl
  length_in_order (x ∷ xs) = omega (arith, length-put key x (in_order key xs), length_in_order xs)

pub none_all : {T : Type 0} (p : T → Bool) (xs : List T) → list_any p xs ≡ false → list_all (λ x. not (p x)) xs ≡ true
none_all p [] h = refl
none_all p (x ∷ xs) h = both (not (p x)) (list_all (λ y. not (p y)) xs) (ap not (or_left (p x) (list_any p xs) h)) (none_all p xs (or_right (p x) (list_any p xs) h))

-- ---- rows of which each is new

-- each is none of those before it
abbrev pub AreNew : {T : Type 0} → (T → T → Bool) → List T → List T → Type 0
AreNew same before [] = Unit {0}
AreNew same before (x ∷ xs) = (list_any (same x) before ≡ false) × AreNew same (before ++ x ∷ []) xs

module _ {T : Type 0} (same : T → T → Bool) where
  pub left_of : (x y : T) (before : List T) → list_any (same x) (before ++ y ∷ []) ≡ false → list_any (same x) before ≡ false
  left_of x y before h = or_left (list_any (same x) before) (same x y || false) (sym (list_any-append (same x) before (y ∷ [])) ∙ h)

  pub last_of : (x y : T) (before : List T) → list_any (same x) (before ++ y ∷ []) ≡ false → same x y ≡ false
  last_of x y before h = or_left (same x y) false (or_right (list_any (same x) before) (same x y || false) (sym (list_any-append (same x) before (y ∷ [])) ∙ h))

  earlier : (os : List (Option T)) (i : ℕ) (x : T) (before : List T) → get_or os i None ≡ Some x → AreNew same before (those os) → list_any (same x) before ≡ false
  earlier [] i x before is n = absurd (let no : None ≡ Some x = is in let k : ⊥ = cc in k)
  earlier (None ∷ os) zero x before is n = let no : ⊥ = cc in absurd no
  earlier (Some y ∷ os) zero x before is n = let e : y ≡ x = cc in subst (λ z. list_any (same z) before ≡ false) e n.0
  earlier (None ∷ os) (suc i) x before is n = earlier os i x before is n
  earlier (Some y ∷ os) (suc i) x before is n = left_of x y before (earlier os i x (before ++ y ∷ []) is n.1)

  pub later : ((x y : T) → same x y ≡ same y x) → (x : T) (before xs : List T) → ((r : T) → list_any (same r) before ≡ false → same r x ≡ false) → AreNew same before xs → list_any (same x) xs ≡ false
  later turned x before [] has n = refl
  later turned x before (r ∷ rs) has n =
      rw (turned x r ∙ has r n.0) (later turned x (before ++ r ∷ []) rs (λ s h. has s (left_of s r before h)) n.1)

  -- no other place has what one has
  pub others : ((x y : T) → same x y ≡ same y x) → (os : List (Option T)) (i : ℕ) (x : T) (before : List T) → get_or os i None ≡ Some x → AreNew same before (those os) → list_any (same x) (those (set os i None)) ≡ false
  others turned [] i x before is n = absurd (let no : None ≡ Some x = is in let k : ⊥ = cc in k)
  others turned (None ∷ os) zero x before is n = let no : ⊥ = cc in absurd no
  others turned (Some y ∷ os) zero x before is n =
      let e : y ≡ x = cc in
      later turned x (before ++ y ∷ []) (those os) (λ r h. subst (λ z. same r z ≡ false) e (last_of r y before h)) n.1
  others turned (None ∷ os) (suc i) x before is n = others turned os i x before is n
  others turned (Some y ∷ os) (suc i) x before is n =
      rw (last_of x y before (earlier os i x (before ++ y ∷ []) is n.1)) (others turned os i x (before ++ y ∷ []) is n.1)

-- ---- what is found

pub unused_found : {T : Type 0} (os : List (Option T)) (at : Option ℕ) → at ≡ position is_unused os → FindsUnused os at
unused_found os None is = all_used os (none_at is_unused os (sym is))
unused_found os (Some i) is =
    let f = found_at is_unused None os i (sym is) in
    (f.0, is_none (get_or os i None) f.1)

-- a container, at the place where it is found
pub cont_absent : (c : ContId) (os : List (Option ContRow)) → position (is_cont_at c) os ≡ None → list_any (is_row_of c) (those os) ≡ false
cont_absent c os is = sym (any_those (is_cont_at c) (is_row_of c) refl (λ x. refl) os) ∙ none_at (is_cont_at c) os is

pub cont_somewhere : {A : Type 0} (c : ContId) (os : List (Option ContRow)) (i : ℕ) → position (is_cont_at c) os ≡ Some i → get_or os i None ≡ None → A
cont_somewhere c os i is gone =
    let yes : is_cont_at c (get_or os i None) ≡ true = (found_at (is_cont_at c) None os i is).1 in
    let wrong : false ≡ true = sym (ap (is_cont_at c) gone) ∙ yes in
    absurd (let n : ⊥ = cc in n)

pub cont_seat : (c : ContId) (os : List (Option ContRow)) (i : ℕ) (r : ContRow) → position (is_cont_at c) os ≡ Some i → get_or os i None ≡ Some r → FindsCont c os (Some (i, r))
cont_seat c os i r is there =
    let found = found_at (is_cont_at c) None os i is in
    (record { within = found.0; row_there = there }, sym (ap (is_cont_at c) there) ∙ found.1)

-- a snapshot
pub snap_absent : (c : ContId) (e : Epoch) (os : List (Option Snap)) → position (is_held_at c e) os ≡ None → list_any (is_snap_at c e) (those os) ≡ false
snap_absent c e os is = sym (any_those (is_held_at c e) (is_snap_at c e) refl (λ x. refl) os) ∙ none_at (is_held_at c e) os is

pub snap_somewhere : {A : Type 0} (c : ContId) (e : Epoch) (os : List (Option Snap)) (i : ℕ) → position (is_held_at c e) os ≡ Some i → get_or os i None ≡ None → A
snap_somewhere c e os i is gone =
    let yes : is_held_at c e (get_or os i None) ≡ true = (found_at (is_held_at c e) None os i is).1 in
    let wrong : false ≡ true = sym (ap (is_held_at c e) gone) ∙ yes in
    absurd (let n : ⊥ = cc in n)

pub snap_seat : (c : ContId) (e : Epoch) (os : List (Option Snap)) (i : ℕ) (s : Snap) → position (is_held_at c e) os ≡ Some i → get_or os i None ≡ Some s → FindsSnap c e os (Some (i, s))
snap_seat c e os i s is there =
    let found = found_at (is_held_at c e) None os i is in
    (record { within = found.0; row_there = there }, sym (ap (is_held_at c e) there) ∙ found.1)
