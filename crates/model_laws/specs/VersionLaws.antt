-- What a map of versions depends on.
use Rattle.std.specs.Prelude.{ℕ, zero, suc, ◌≡◌, ◌≢◌, ◌≤◌, ◌⊎◌, Bool, true, false, ◌&&◌, nat_lt, List, [], ◌∷◌, ◌++◌, map, filter, AllPairs, Contains, Option, None, if◌then◌else◌, refl}
use Rattle.std.specs.List.Sorted.{IsPermutation}
use Rattle.std.proofs.Common.{sym, ◌∙◌, ap, subst, arith, inl, inr}
use Rattle.std.proofs.lemmas.Bool.Decides.{nat_tests}
use Rattle.std.proofs.lemmas.List.Elements.{All-contains, All-contains_itself}
use Rattle.std.proofs.lemmas.List.Sorted.{All-permutation, Contains-permutation}
use Rattle.daos_model.specs.declared.cell.Cell.{Cell}
use Rattle.daos_model.specs.declared.cell.CellValue.{CellValue}
use Rattle.daos_model.specs.declared.durable.Version.{Version}
use Rattle.daos_model.specs.Answers.{is_before}
use Rattle.daos_model.specs.BoolLaws.{and_left, and_right, both, not_true}
use Rattle.daos_model.specs.Cells.{value_at}
use Rattle.daos_model.specs.Durables.{version_key}
use Rattle.daos_model.specs.Effect.{effect, effects}
use Rattle.daos_model.specs.OrderLaws.{before-total, rising-filter}
use Rattle.daos_model.specs.Ordered.{all_after, all_from, is_in_order, is_rising, put}
use Rattle.daos_model.specs.Prunes.{touches, values_of}
use Rattle.daos_model.specs.Versions.{map_below, sees, writes_in}
use Rattle.model_laws.specs.Dated.{AreSingleInOrder, Dated, SameWritesAt, after_all, dated, dated_key, dated_of, is_about, map_of}
use Rattle.model_laws.specs.Members.{Has, contains-from_has, has-cases, has-filter, has-from_contains, has-from_filter}
use Rattle.model_laws.specs.RisingLaws.{after-all, after-has, from-has, rising-same}
use Rattle.model_laws.specs.WriteLaws.{after_write, value-effect}

-- What versions give at a cell depends on which writes that say what it holds pass, and on nothing else: not on how they
-- came about, who made them, or what else stands among them.
abbrev pub MapsAreOfTheirWrites : Type 0
MapsAreOfTheirWrites =
    (p q : Version → Bool) (vs us : List Version) (c : Cell) → AreSingleInOrder vs → AreSingleInOrder us
    → SameWritesAt c (dated_of p vs) (dated_of q us) → value_at (map_of p vs) c ≡ value_at (map_of q us) c

-- so versions in order that are rearranged are the same again, and make the same map below each epoch
abbrev pub RearrangedAreTheSame : Type 0
RearrangedAreTheSame = (vs us : List Version) (e : ℕ) → AreSingleInOrder vs → AreSingleInOrder us → IsPermutation vs us → map_below vs e ≡ map_below us e

-- a version at or above an epoch changes nothing below it
abbrev pub LaterVersionsChangeNothing : Type 0
LaterVersionsChangeNothing = (vs : List Version) (v : Version) (e : ℕ) → e ≤ v.epoch.0 → map_below (put version_key v vs) e ≡ map_below vs e

-- an unsettled version changes nothing below any epoch
abbrev pub UnsettledChangeNothing : Type 0
UnsettledChangeNothing = (vs : List Version) (v : Version) (e : ℕ) → v.done ≡ false → map_below (put version_key v vs) e ≡ map_below vs e

-- ---- lists that rise

module _ {T : Type 0} (key : T → List ℕ) where
  pub rising-append : (xs ys : List T) → is_rising key xs ≡ true → is_rising key ys ≡ true → ((x y : T) → Has x xs → Has y ys → is_before (key x) (key y) ≡ true)
      → is_rising key (xs ++ ys) ≡ true
  rising-append [] ys r s h = s
  rising-append (x ∷ xs) ys r s h =
      both (all_after key (key x) (xs ++ ys)) (is_rising key (xs ++ ys))
      (after-all key (key x) (xs ++ ys) (λ z i. later z (has-cases xs ys z i)))
      (rising-append xs ys (and_right (all_after key (key x) xs) (is_rising key xs) r) s (λ a b i j. h a b (inr i) j))
    where
      later : (z : T) → Has z xs ⊎ Has z ys → is_before (key x) (key z) ≡ true
      later z (inl i) = after-has key (key x) xs z (and_left (all_after key (key x) xs) (is_rising key xs) r) i
      later z (inr j) = h x z (inl refl) j

  -- the first of a list differs from the others, and these from one another
  pub pairs-head : (R : T → T → Type 0) (x : T) (xs : List T) (y : T) → AllPairs R (x ∷ xs) → Has y xs → R x y
  pairs-head R x xs y all i = let at = contains-from_has xs y i in subst (R x) at.2 (all zero (suc at.0) y (omega arith) (omega (arith, at.1)))

  pub pairs-tail : (R : T → T → Type 0) (x : T) (xs : List T) → AllPairs R (x ∷ xs) → AllPairs R xs
  pairs-tail R x xs all i j d lt short = all (suc i) (suc j) d (omega arith) (omega arith)

  -- in order, and no two of one key
  pub rising-from_single : (xs : List T) → is_in_order key xs ≡ true → AllPairs (λ x y. key x ≢ key y) xs → is_rising key xs ≡ true
  rising-from_single [] o s = refl
  rising-from_single (x ∷ xs) o s =
      both (all_after key (key x) xs) (is_rising key xs)
      (after-all key (key x) xs (λ y i. by y i (is_before (key x) (key y)) refl))
      (rising-from_single xs (and_right (all_from key (key x) xs) (is_in_order key xs) o) (pairs-tail (λ a b. key a ≢ key b) x xs s))
    where
      by : (y : T) → Has y xs → (b : Bool) → is_before (key x) (key y) ≡ b → is_before (key x) (key y) ≡ true
      by y i true e = e
      by y i false e =
          absurd (pairs-head (λ a b. key a ≢ key b) x xs y s i
          (before-total (key x) (key y) e (not_true (is_before (key y) (key x)) (from-has key (key x) xs y (and_left (all_from key (key x) xs) (is_in_order key xs) o) i))))

all_after-mapped : {T U : Type 0} (key : U → List ℕ) (f : T → U) (k : List ℕ) (xs : List T) → all_after key k (map f xs) ≡ all_after (λ x. key (f x)) k xs
all_after-mapped key f k [] = refl
all_after-mapped key f k (x ∷ xs) = ap (λ b. is_before k (key (f x)) && b) (all_after-mapped key f k xs)

pub rising-mapped : {T U : Type 0} (key : U → List ℕ) (f : T → U) (xs : List T) → is_rising key (map f xs) ≡ is_rising (λ x. key (f x)) xs
rising-mapped key f [] = refl
rising-mapped key f (x ∷ xs) =
    ap (λ b. b && is_rising key (map f xs)) (all_after-mapped key f (key (f x)) xs) ∙ ap (λ b. all_after (λ y. key (f y)) (key (f x)) xs && b) (rising-mapped key f xs)

-- ---- what a cell holds after writes

pub value-effects : (c : Cell) (vs : List Version) (m : List CellValue) → value_at (effects (writes_in vs) m) c ≡ after_all c (map dated vs) (value_at m c)
value-effects c [] m = refl
value-effects c (v ∷ vs) m = value-effects c vs (effect v.write m) ∙ ap (after_all c (map dated vs)) (value-effect c v.write m)

-- writes that say nothing of a cell may be left out
pub after-about : (c : Cell) (xs : List Dated) (held : Option (List ℕ)) → after_all c xs held ≡ after_all c (filter (is_about c) xs) held
after-about c [] held = refl
after-about c (x ∷ xs) held = by (λ o. after-about c xs o) (touches c x.write) refl
  where
    by : ((o : Option (List ℕ)) → after_all c xs o ≡ after_all c (filter (is_about c) xs) o) → (b : Bool) → touches c x.write ≡ b → after_all c xs (after_write c x.write held) ≡ after_all c (if b then x ∷ filter (is_about c) xs else filter (is_about c) xs) held
    by more true e = more (after_write c x.write held)
    by more false e = ap (λ b. after_all c xs (if b then value_at (values_of x.write) c else held)) e ∙ more held

pub after-append : (c : Cell) (xs ys : List Dated) (held : Option (List ℕ)) → after_all c (xs ++ ys) held ≡ after_all c ys (after_all c xs held)
after-append c [] ys held = refl
after-append c (x ∷ xs) ys held = after-append c xs ys (after_write c x.write held)

-- writes that rise, of which the same say what a cell holds
pub after-same : (c : Cell) (xs ys : List Dated) (held : Option (List ℕ)) → is_rising dated_key xs ≡ true → is_rising dated_key ys ≡ true → SameWritesAt c xs ys
    → after_all c xs held ≡ after_all c ys held
after-same c xs ys held r s same =
    after-about c xs held
    ∙ ap (λ zs. after_all c zs held)
    (rising-same dated_key (filter (is_about c) xs) (filter (is_about c) ys) (rising-filter dated_key (is_about c) xs r) (rising-filter dated_key (is_about c) ys s)
    (λ x i. let h = has-from_filter (is_about c) xs x i in has-filter (is_about c) ys x (has-from_contains ys x ((same x h.1).0 (contains-from_has xs x h.0))) h.1)
    (λ x i. let h = has-from_filter (is_about c) ys x i in has-filter (is_about c) xs x (has-from_contains xs x ((same x h.1).1 (contains-from_has ys x h.0))) h.1))
    ∙ sym (after-about c ys held)

-- ---- the laws

pub rising-dated : (p : Version → Bool) (vs : List Version) → AreSingleInOrder vs → is_rising dated_key (dated_of p vs) ≡ true
rising-dated p vs f = rising-mapped dated_key dated (filter p vs) ∙ rising-filter version_key p vs (rising-from_single version_key vs f.in_order f.single)

pub maps-same : MapsAreOfTheirWrites
maps-same p q vs us c f g same =
    value-effects c (filter p vs) []
    ∙ after-same c (dated_of p vs) (dated_of q us) None (rising-dated p vs f) (rising-dated q us g) same
    ∙ sym (value-effects c (filter q us) [])

pub rearranged-same : RearrangedAreTheSame
rearranged-same vs us e f g moved =
    ap (λ ws. map_below ws e)
    (rising-same version_key vs us (rising-from_single version_key vs f.in_order f.single) (rising-from_single version_key us g.in_order g.single)
    (λ v i. has-from_contains us v (Contains-permutation vs us v moved (contains-from_has vs v i)))
    (λ v i. has-from_contains vs v (All-contains (Contains vs) us v (All-permutation (Contains vs) vs us moved (All-contains_itself vs)) (contains-from_has us v i))))

pub filter-put : {T : Type 0} (key : T → List ℕ) (t : T → Bool) (v : T) (us : List T) → t v ≡ false → filter t (put key v us) ≡ filter t us
filter-put key t v [] e = ap (λ b. if b then v ∷ [] else []) e
filter-put key t v (u ∷ us) e =
    elim (is_before (key u) (key v)) as (λ b. filter t (if b then u ∷ put key v us else v ∷ u ∷ us) ≡ filter t (u ∷ us)) [
      | true ↦ ap (λ xs. if t u then u ∷ xs else xs) (filter-put key t v us e)
      | false ↦ ap (λ b. if b then v ∷ filter t (u ∷ us) else filter t (u ∷ us)) e
    ]

unseen : (d b : Bool) → b ≡ false → (d && b) ≡ false
unseen true b e = e
unseen false b e = refl

pub later-nothing : LaterVersionsChangeNothing
unfolding map_below sees
later-nothing vs v e le = ap (λ us. effects (writes_in us) []) (filter-put version_key (sees e) v vs (unseen v.done (nat_lt v.epoch.0 e) (grind (arith, nat_tests))))

pub unsettled-nothing : UnsettledChangeNothing
unfolding map_below sees
unsettled-nothing vs v e open' = ap (λ us. effects (writes_in us) []) (filter-put version_key (sees e) v vs (ap (λ b. b && nat_lt v.epoch.0 e) open'))
