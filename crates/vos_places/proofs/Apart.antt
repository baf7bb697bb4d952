-- After a change no container is twice in a table, and no snapshot.
use Rattle.std.proofs.Common.{◌≡◌, ℕ, zero, suc, ◌<◌, ◌==◌, ◌&&◌, ◌||◌, not, Bool, true, false, List, [], ◌∷◌, ◌++◌, Option, Some, None, length, get_or, refl, sym, ap, subst, ◌∙◌, arith, inl, inr}
use Rattle.std.specs.Prelude.{set}
use Rattle.std.specs.List.{list_any}
use Rattle.std.proofs.lemmas.Bool.{ne_eqb}
use Rattle.std.proofs.lemmas.Bool.Decides.{eqb_tells, nat_tests}
use Rattle.std.proofs.lemmas.List.Folds.{list_any-append}
use Rattle.base_types.specs.declared.epoch.Epoch.{Epoch}
use Rattle.base_types.specs.declared.id.ContId.{ContId}
use Rattle.base_types.specs.declared.snapshot.Snap.{Snap}
use Rattle.daos_model.specs.declared.durable.ContRow.{ContRow}
use Rattle.daos_model.specs.Durables.{is_row_of, is_snap_at}
use Rattle.vos_image.specs.Places.{is_new_snap}
use Rattle.vos_places.specs.Laws.{RowsChange, RowsCome, SnapsChange, SnapsCome, SnapsGo}
use Rattle.vos_places.specs.Tables.{AreNewConts, AreNewSnaps, those}

-- ---- what rows are told apart by

-- rows of the same containers, one by one
abbrev Alike : List ContRow → List ContRow → Type 0
Alike [] [] = Unit {0}
Alike [] (y ∷ ys) = ⊥
Alike (x ∷ xs) [] = ⊥
Alike (x ∷ xs) (y ∷ ys) = (y.cont ≡ x.cont) × Alike xs ys

alike : (xs : List ContRow) → Alike xs xs
alike [] = tt
alike (x ∷ xs) = (refl, alike xs)

alike_more : (xs ys : List ContRow) (x y : ContRow) → Alike xs ys → y.cont ≡ x.cont → Alike (xs ++ x ∷ []) (ys ++ y ∷ [])
alike_more [] [] x y h e = (e, tt)
alike_more [] (b ∷ ys) x y h e = absurd h
alike_more (a ∷ xs) [] x y h e = absurd h
alike_more (a ∷ xs) (b ∷ ys) x y h e = (h.0, alike_more xs ys x y h.1 e)

alike_any : (c : ContId) (xs ys : List ContRow) → Alike xs ys → list_any (is_row_of c) ys ≡ list_any (is_row_of c) xs
alike_any c [] [] h = refl
alike_any c [] (y ∷ ys) h = absurd h
alike_any c (x ∷ xs) [] h = absurd h
alike_any c (x ∷ xs) (y ∷ ys) h =
    ap (λ (k : ContId). (k.0 == c.0) || list_any (is_row_of c) ys) h.0 ∙ ap (λ (t : Bool). (x.cont.0 == c.0) || t) (alike_any c xs ys h.1)

alike_new : (a b xs ys : List ContRow) → Alike a b → Alike xs ys → AreNewConts a xs → AreNewConts b ys
alike_new a b [] [] k h n = tt
alike_new a b [] (y ∷ ys) k h n = absurd h
alike_new a b (x ∷ xs) [] k h n = absurd h
alike_new a b (x ∷ xs) (y ∷ ys) k h n = (
  ap (λ (c : ContId). list_any (is_row_of c) b) h.0 ∙ (alike_any x.cont a b k ∙ n.0),
  alike_new (a ++ x ∷ []) (b ++ y ∷ []) xs ys (alike_more a b x y k h.0) h.1 n.1,
)

set_alike : (os : List (Option ContRow)) (i : ℕ) (old r : ContRow) → get_or os i None ≡ Some old → r.cont ≡ old.cont → Alike (those os) (those (set os i (Some r)))
set_alike [] i old r is e = absurd (let no : None ≡ Some old = is in cc)
set_alike (None ∷ os) zero old r is e = absurd (cc)
set_alike (Some x ∷ os) zero old r is e = let same : x ≡ old = cc in (e ∙ ap (λ (z : ContRow). z.cont) (sym same), alike (those os))
set_alike (None ∷ os) (suc i) old r is e = set_alike os i old r is e
set_alike (Some x ∷ os) (suc i) old r is e = (refl, set_alike os i old r is e)

-- ---- snapshots by the containers that are there

-- whatever container is in the one list is in the other
abbrev Covers : List ContRow → List ContRow → Type 0
Covers a b = (c : ContId) → list_any (is_row_of c) a ≡ true → list_any (is_row_of c) b ≡ true

both_true : (a b c : Bool) → (a ≡ true → c ≡ true) → (a && b) ≡ true → (c && b) ≡ true
both_true true b c h k = rw (h refl) k
both_true false b c h k = absurd (cc)

covered_snaps : (a b : List ContRow) (before ss : List Snap) → Covers a b → AreNewSnaps a before ss → AreNewSnaps b before ss
covered_snaps a b before [] h n = tt
covered_snaps a b before (s ∷ ss) h n = (
  both_true (list_any (is_row_of s.cont) a) (not (list_any (is_snap_at s.cont s.epoch) before)) (list_any (is_row_of s.cont) b) (h s.cont) n.0,
  covered_snaps a b (before ++ s ∷ []) ss h n.1,
)

pub rows_change : RowsChange
rows_change t i old r apart is e =
    let k = set_alike t.conts i old r is e in (
      alike_new [] [] (those t.conts) (those (set t.conts i (Some r))) tt k apart.0,
      covered_snaps (those t.conts) (those (set t.conts i (Some r))) [] (those t.snaps) (λ c h. alike_any c (those t.conts) (those (set t.conts i (Some r))) k ∙ h) apart.1,
    )

-- ---- a row more

-- the one list has what the other one has, and this container
abbrev With : ContRow → List ContRow → List ContRow → Type 0
With r a b = (c : ContId) → list_any (is_row_of c) b ≡ ((r.cont.0 == c.0) || list_any (is_row_of c) a)

any_more : (c : ContId) (xs : List ContRow) (x : ContRow) → list_any (is_row_of c) (xs ++ x ∷ []) ≡ (list_any (is_row_of c) xs || (x.cont.0 == c.0))
any_more c [] x = right_none (x.cont.0 == c.0)
  where
    right_none : (t : Bool) → (t || false) ≡ t
    right_none true = refl
    right_none false = refl
any_more c (y ∷ xs) x = ap (λ (t : Bool). (y.cont.0 == c.0) || t) (any_more c xs x) ∙ moved (y.cont.0 == c.0) (list_any (is_row_of c) xs) (x.cont.0 == c.0)
  where
    moved : (s t u : Bool) → (s || (t || u)) ≡ ((s || t) || u)
    moved true t u = refl
    moved false t u = refl

with_more : (r : ContRow) (a b : List ContRow) (x : ContRow) → With r a b → With r (a ++ x ∷ []) (b ++ x ∷ [])
with_more r a b x h c = any_more c b x ∙ (ap (λ (t : Bool). t || (x.cont.0 == c.0)) (h c) ∙ (moved (r.cont.0 == c.0) (list_any (is_row_of c) a) (x.cont.0 == c.0) ∙ ap (λ (t : Bool). (r.cont.0 == c.0) || t) (sym (any_more c a x))))
  where
    moved : (s t u : Bool) → ((s || t) || u) ≡ (s || (t || u))
    moved true t u = refl
    moved false t u = refl

with_last : (r : ContRow) (a : List ContRow) → With r a (a ++ r ∷ [])
with_last r a c = any_more c a r ∙ turned (list_any (is_row_of c) a) (r.cont.0 == c.0)
  where
    turned : (s t : Bool) → (s || t) ≡ (t || s)
    turned true true = refl
    turned true false = refl
    turned false true = refl
    turned false false = refl

first_not : (s t : Bool) → (s || t) ≡ false → s ≡ false
first_not true t h = h
first_not false t h = refl

then_not : (s t : Bool) → (s || t) ≡ false → t ≡ false
then_not true t h = absurd (cc)
then_not false t h = h

turned_not : (a b : ℕ) → (a == b) ≡ false → (b == a) ≡ false
turned_not a b h =
    elim (eqb_tells b a) [
      | inl e ↦ absurd (let same : (a == b) ≡ true = subst (λ (z : ℕ). (a == z) ≡ true) (sym e.1) (itself a) in let no : true ≡ false = sym same ∙ h in cc)
      | inr e ↦ ne_eqb b a e.1
    ]
  where
    itself : (n : ℕ) → (n == n) ≡ true
    itself n = grind (arith, nat_tests)

still_new : (r : ContRow) (a b ys : List ContRow) → With r a b → AreNewConts a ys → list_any (is_row_of r.cont) ys ≡ false → AreNewConts b ys
still_new r a b [] h n k = tt
still_new r a b (y ∷ ys) h n k =
    let other : (r.cont.0 == y.cont.0) ≡ false = turned_not y.cont.0 r.cont.0 (first_not (y.cont.0 == r.cont.0) (list_any (is_row_of r.cont) ys) k) in (
      h y.cont ∙ rw (other, n.0) refl,
      still_new r (a ++ y ∷ []) (b ++ y ∷ []) ys (with_more r a b y h) n.1 (then_not (y.cont.0 == r.cont.0) (list_any (is_row_of r.cont) ys) k),
    )

come_new : (os : List (Option ContRow)) (i : ℕ) (r : ContRow) (a : List ContRow) → i < length os → get_or os i None ≡ None → AreNewConts a (those os) → list_any (is_row_of r.cont) a ≡ false → list_any (is_row_of r.cont) (those os) ≡ false
    → AreNewConts a (those (set os i (Some r)))
come_new [] i r a below is n k m = absurd (omega arith)
come_new (None ∷ os) zero r a below is n k m = (k, still_new r a (a ++ r ∷ []) (those os) (with_last r a) n m)
come_new (Some x ∷ os) zero r a below is n k m = absurd (cc)
come_new (None ∷ os) (suc i) r a below is n k m = come_new os i r a (omega arith) is n k m
come_new (Some x ∷ os) (suc i) r a below is n k m =
    let here = first_not (x.cont.0 == r.cont.0) (list_any (is_row_of r.cont) (those os)) m in
    let none : list_any (is_row_of r.cont) (a ++ x ∷ []) ≡ false = any_more r.cont a x ∙ rw (k, here) refl in
    (n.0, come_new os i r (a ++ x ∷ []) (omega arith) is n.1 none (then_not (x.cont.0 == r.cont.0) (list_any (is_row_of r.cont) (those os)) m))

come_covers : (os : List (Option ContRow)) (i : ℕ) (r : ContRow) → get_or os i None ≡ None → Covers (those os) (those (set os i (Some r)))
come_covers [] i r is c h = absurd (cc)
come_covers (None ∷ os) zero r is c h = later (r.cont.0 == c.0) (list_any (is_row_of c) (those os)) h
  where
    later : (s t : Bool) → t ≡ true → (s || t) ≡ true
    later true t h = refl
    later false t h = h
come_covers (Some x ∷ os) zero r is c h = absurd (cc)
come_covers (None ∷ os) (suc i) r is c h = come_covers os i r is c h
come_covers (Some x ∷ os) (suc i) r is c h = behind_it (x.cont.0 == c.0) (list_any (is_row_of c) (those os)) (list_any (is_row_of c) (those (set os i (Some r)))) (λ k. come_covers os i r is c k) h
  where
    behind_it : (s t u : Bool) → (t ≡ true → u ≡ true) → (s || t) ≡ true → (s || u) ≡ true
    behind_it true t u f k = refl
    behind_it false t u f k = f k

pub rows_come : RowsCome
rows_come t i r apart below is new = (
  come_new t.conts i r [] below is apart.0 refl new,
  covered_snaps (those t.conts) (those (set t.conts i (Some r))) [] (those t.snaps) (come_covers t.conts i r is) apart.1,
)

-- ---- snapshots

-- whatever snapshot isn't in the one list isn't in the other
abbrev Fewer : List Snap → List Snap → Type 0
Fewer a b = (c : ContId) (e : Epoch) → list_any (is_snap_at c e) a ≡ false → list_any (is_snap_at c e) b ≡ false

-- the one list has what the other one has, and this snapshot
abbrev WithSnap : Snap → List Snap → List Snap → Type 0
WithSnap s a b = (c : ContId) (e : Epoch) → is_snap_at c e s ≡ false → list_any (is_snap_at c e) a ≡ false → list_any (is_snap_at c e) b ≡ false

both_false : (s t : Bool) → s ≡ false → t ≡ false → (s || t) ≡ false
both_false s t h k = rw (h, k) refl

apart_from : (s t u : Bool) → (s && not t) ≡ true → (t ≡ false → u ≡ false) → (s && not u) ≡ true
apart_from true true u h f = absurd (cc)
apart_from true false u h f = rw (f refl) refl
apart_from false t u h f = absurd (cc)

not_there : (s t : Bool) → (s && not t) ≡ true → t ≡ false
not_there true true h = absurd (cc)
not_there true false h = refl
not_there false t h = absurd (cc)

snaps_more : (a : List Snap) (x : Snap) (c : ContId) (e : Epoch) → list_any (is_snap_at c e) (a ++ x ∷ []) ≡ (list_any (is_snap_at c e) a || (is_snap_at c e x || false))
snaps_more a x c e = list_any-append (is_snap_at c e) a (x ∷ [])

fewer_more : (a b : List Snap) (x : Snap) → Fewer a b → Fewer (a ++ x ∷ []) (b ++ x ∷ [])
fewer_more a b x f c e h =
    let all = sym (snaps_more a x c e) ∙ h in
    let one = first_not (list_any (is_snap_at c e) a) (is_snap_at c e x || false) all in
    let two = then_not (list_any (is_snap_at c e) a) (is_snap_at c e x || false) all in
    snaps_more b x c e ∙ both_false (list_any (is_snap_at c e) b) (is_snap_at c e x || false) (f c e one) two

fewer_snaps : (rows : List ContRow) (a b ss : List Snap) → Fewer a b → AreNewSnaps rows a ss → AreNewSnaps rows b ss
fewer_snaps rows a b [] f n = tt
fewer_snaps rows a b (s ∷ ss) f n = (
  apart_from (list_any (is_row_of s.cont) rows) (list_any (is_snap_at s.cont s.epoch) a) (list_any (is_snap_at s.cont s.epoch) b) n.0 (f s.cont s.epoch),
  fewer_snaps rows (a ++ s ∷ []) (b ++ s ∷ []) ss (fewer_more a b s f) n.1,
)

without_last : (a : List Snap) (x : Snap) → Fewer (a ++ x ∷ []) a
without_last a x c e h = first_not (list_any (is_snap_at c e) a) (is_snap_at c e x || false) (sym (snaps_more a x c e) ∙ h)

go_new : (rows : List ContRow) (os : List (Option Snap)) (i : ℕ) (a : List Snap) → AreNewSnaps rows a (those os) → AreNewSnaps rows a (those (set os i None))
go_new rows [] i a n = n
go_new rows (None ∷ os) zero a n = n
go_new rows (Some x ∷ os) zero a n = fewer_snaps rows (a ++ x ∷ []) a (those os) (without_last a x) n.1
go_new rows (None ∷ os) (suc i) a n = go_new rows os i a n
go_new rows (Some x ∷ os) (suc i) a n = (n.0, go_new rows os i (a ++ x ∷ []) n.1)

pub snaps_go : SnapsGo
snaps_go t i apart = (apart.0, go_new (those t.conts) t.snaps i [] apart.1)

-- a snapshot in the place of one of the same container and epoch
same_at : (c : ContId) (e : Epoch) (x y : Snap) → y.cont ≡ x.cont → y.epoch ≡ x.epoch → is_snap_at c e y ≡ is_snap_at c e x
same_at c e x y k l = rw (k, l) refl

as_last : (a : List Snap) (x y : Snap) → y.cont ≡ x.cont → y.epoch ≡ x.epoch → Fewer (a ++ x ∷ []) (a ++ y ∷ [])
as_last a x y k l c e h = snaps_more a y c e ∙ (ap (λ (t : Bool). list_any (is_snap_at c e) a || (t || false)) (same_at c e x y k l) ∙ (sym (snaps_more a x c e) ∙ h))

same_new : (rows : List ContRow) (a : List Snap) (x y : Snap) → y.cont ≡ x.cont → y.epoch ≡ x.epoch → is_new_snap rows a x ≡ true → is_new_snap rows a y ≡ true
same_new rows a x y k l h = rw (k, l) h

change_new : (rows : List ContRow) (os : List (Option Snap)) (i : ℕ) (old s : Snap) (a : List Snap) → get_or os i None ≡ Some old → s.cont ≡ old.cont → s.epoch ≡ old.epoch → AreNewSnaps rows a (those os) → AreNewSnaps rows a (those (set os i (Some s)))
change_new rows [] i old s a is k l n = absurd (let no : None ≡ Some old = is in cc)
change_new rows (None ∷ os) zero old s a is k l n = absurd (cc)
change_new rows (Some x ∷ os) zero old s a is k l n =
    let same : x ≡ old = cc in
    let c : s.cont ≡ x.cont = k ∙ ap (λ (z : Snap). z.cont) (sym same) in
    let e : s.epoch ≡ x.epoch = l ∙ ap (λ (z : Snap). z.epoch) (sym same) in
    (same_new rows a x s c e n.0, fewer_snaps rows (a ++ x ∷ []) (a ++ s ∷ []) (those os) (as_last a x s c e) n.1)
change_new rows (None ∷ os) (suc i) old s a is k l n = change_new rows os i old s a is k l n
change_new rows (Some x ∷ os) (suc i) old s a is k l n = (n.0, change_new rows os i old s (a ++ x ∷ []) is k l n.1)

pub snaps_change : SnapsChange
snaps_change t i old s apart is k l = (apart.0, change_new (those t.conts) t.snaps i old s [] is k l apart.1)

-- ---- a snapshot more

eqb_turned : (a b : ℕ) → (a == b) ≡ (b == a)
eqb_turned a b = by (a == b) (b == a) refl refl
  where
    by : (s t : Bool) → (a == b) ≡ s → (b == a) ≡ t → s ≡ t
    by true true h k = refl
    by false false h k = refl
    by true false h k = let no : true ≡ false = sym h ∙ turned_not b a k in absurd (cc)
    by false true h k = let no : true ≡ false = sym k ∙ turned_not a b h in absurd (cc)

at_turned : (x y : Snap) → is_snap_at x.cont x.epoch y ≡ is_snap_at y.cont y.epoch x
at_turned x y = rw (eqb_turned y.cont.0 x.cont.0, eqb_turned y.epoch.0 x.epoch.0) refl

with_snap_more : (s : Snap) (a b : List Snap) (x : Snap) → WithSnap s a b → WithSnap s (a ++ x ∷ []) (b ++ x ∷ [])
with_snap_more s a b x f c e other h =
    let all = sym (snaps_more a x c e) ∙ h in
    let one = first_not (list_any (is_snap_at c e) a) (is_snap_at c e x || false) all in
    let two = then_not (list_any (is_snap_at c e) a) (is_snap_at c e x || false) all in
    snaps_more b x c e ∙ both_false (list_any (is_snap_at c e) b) (is_snap_at c e x || false) (f c e other one) two

with_snap_last : (s : Snap) (a : List Snap) → WithSnap s a (a ++ s ∷ [])
with_snap_last s a c e other h = snaps_more a s c e ∙ both_false (list_any (is_snap_at c e) a) (is_snap_at c e s || false) h (both_false (is_snap_at c e s) false other refl)

still_new_snaps : (rows : List ContRow) (s : Snap) (a b ys : List Snap) → WithSnap s a b → AreNewSnaps rows a ys → list_any (is_snap_at s.cont s.epoch) ys ≡ false → AreNewSnaps rows b ys
still_new_snaps rows s a b [] f n k = tt
still_new_snaps rows s a b (y ∷ ys) f n k =
    let here = first_not (is_snap_at s.cont s.epoch y) (list_any (is_snap_at s.cont s.epoch) ys) k in
    let other : is_snap_at y.cont y.epoch s ≡ false = at_turned y s ∙ here in (
      apart_from (list_any (is_row_of y.cont) rows) (list_any (is_snap_at y.cont y.epoch) a) (list_any (is_snap_at y.cont y.epoch) b) n.0 (f y.cont y.epoch other),
      still_new_snaps rows s (a ++ y ∷ []) (b ++ y ∷ []) ys (with_snap_more s a b y f) n.1 (then_not (is_snap_at s.cont s.epoch y) (list_any (is_snap_at s.cont s.epoch) ys) k),
    )

come_new_snap : (rows : List ContRow) (os : List (Option Snap)) (i : ℕ) (s : Snap) (a : List Snap) → i < length os → get_or os i None ≡ None → AreNewSnaps rows a (those os) → list_any (is_row_of s.cont) rows ≡ true → list_any (is_snap_at s.cont s.epoch) a ≡ false → list_any (is_snap_at s.cont s.epoch) (those os) ≡ false
    → AreNewSnaps rows a (those (set os i (Some s)))
come_new_snap rows [] i s a below is n r k m = absurd (omega arith)
come_new_snap rows (None ∷ os) zero s a below is n r k m = (rw (r, k) refl, still_new_snaps rows s a (a ++ s ∷ []) (those os) (with_snap_last s a) n m)
come_new_snap rows (Some x ∷ os) zero s a below is n r k m = absurd (cc)
come_new_snap rows (None ∷ os) (suc i) s a below is n r k m = come_new_snap rows os i s a (omega arith) is n r k m
come_new_snap rows (Some x ∷ os) (suc i) s a below is n r k m =
    let here = first_not (is_snap_at s.cont s.epoch x) (list_any (is_snap_at s.cont s.epoch) (those os)) m in
    let none = snaps_more a x s.cont s.epoch ∙ both_false (list_any (is_snap_at s.cont s.epoch) a) (is_snap_at s.cont s.epoch x || false) k (both_false (is_snap_at s.cont s.epoch x) false here refl) in
    (n.0, come_new_snap rows os i s (a ++ x ∷ []) (omega arith) is n.1 r none (then_not (is_snap_at s.cont s.epoch x) (list_any (is_snap_at s.cont s.epoch) (those os)) m))

pub snaps_come : SnapsCome
snaps_come t i s apart below is there new = (apart.0, come_new_snap (those t.conts) t.snaps i s [] below is apart.1 there refl new)
