-- The stores in the places of targets, as a list.
use Rattle.std.specs.Prelude.{ℕ, ◌≡◌, ◌<◌, List, [], ◌∷◌, length, slice_get, Option, Some, None, refl}
use Rattle.std.proofs.Common.{zero, suc, sym, ◌∙◌, ap, subst, arith}
use Rattle.std.proofs.lemmas.Option.{slice_get_within}
use Rattle.daos_model.specs.FormLaws.{length-map}
use Rattle.daos_run.specs.Slots.{AreBack, AreSet, IsAt, stores_in}
use Rattle.run_targets.specs.Ends.{from-map, same-lists, stores_of}
use Rattle.run_targets.specs.Below.{TargetOf}

-- each place has a store and a clock
abbrev AllSet : {S C : Type 0} → List (Option (S × C)) → Type 0
AllSet {S} {C} slots = (t : ℕ) → t < length slots → (x : S × C) × IsAt slots t x

-- so it is of those that follow the first
others-set : {S C : Type 0} (o : Option (S × C)) (slots : List (Option (S × C))) → AllSet (o ∷ slots) → AllSet slots
others-set o slots all t low = let k = all (suc t) (omega (arith, low)) in (k.0, k.1)

first-is-set : {S C : Type 0} (slots : List (Option (S × C))) → AllSet (None ∷ slots) → ⊥
first-is-set slots all = let k = all 0 (omega arith) in let none : None ≡ Some k.0 = let e : Some None ≡ Some (Some k.0) = k.1 in cc in let no : ⊥ = cc in no

as-many-stores : {S C : Type 0} (slots : List (Option (S × C))) → AllSet slots → length (stores_in slots) ≡ length slots
as-many-stores [] all = refl
as-many-stores (None ∷ slots) all = absurd (first-is-set slots all)
as-many-stores (Some x ∷ slots) all = ap suc (as-many-stores slots (others-set (Some x) slots all))

-- the store in a place
store-there : {S C : Type 0} (slots : List (Option (S × C))) (t : ℕ) (x : S × C) → AllSet slots → IsAt slots t x → slice_get (stores_in slots) t ≡ Some x.0
store-there [] t x all at = let no : ⊥ = cc in absurd no
store-there (None ∷ slots) t x all at = absurd (first-is-set slots all)
store-there (Some y ∷ slots) zero x all at = let same : y ≡ x = let e : Some (Some y) ≡ Some (Some x) = at in cc in ap (λ z. Some z.0) same
store-there (Some y ∷ slots) (suc t) x all at = store-there slots t x (others-set (Some y) slots all) at

-- a store that is in a place
pub record IsIn {S C : Type 0} (slots : List (Option (S × C))) (t : ℕ) (store : S) : Type 0 where
  pub pair : S × C
  pub at : IsAt slots t pair
  pub is : store ≡ pair.0

place-of-store : {S C : Type 0} (slots : List (Option (S × C))) (t : ℕ) (store : S) → AllSet slots → slice_get (stores_in slots) t ≡ Some store → IsIn slots t store
place-of-store [] t store all at = let no : ⊥ = cc in absurd no
place-of-store (None ∷ slots) t store all at = absurd (first-is-set slots all)
place-of-store (Some y ∷ slots) zero store all at = record { pair = y; at = refl; is = let same : y.0 ≡ store = let e : Some y.0 ≡ Some store = at in cc in sym same }
place-of-store (Some y ∷ slots) (suc t) store all at = let k = place-of-store slots t store (others-set (Some y) slots all) at in record { pair = k.pair; at = k.at; is = k.is }

-- ---- where so many targets have a store and a clock

module _ {S C : Type 0} (targets : ℕ) (slots : List (Option (S × C))) (set : AreSet targets slots) where
  all-set : AllSet slots
  all-set t low = set.each t (subst (λ n. t < n) set.many low)

  pub stores-many : length (stores_in slots) ≡ targets
  stores-many = as-many-stores slots all-set ∙ set.many

  pub store-at : (t : ℕ) (x : S × C) → IsAt slots t x → slice_get (stores_in slots) t ≡ Some x.0
  store-at t x at = store-there slots t x all-set at

  pub in-place : (t : ℕ) (store : S) → slice_get (stores_in slots) t ≡ Some store → IsIn slots t store
  in-place t store at = place-of-store slots t store all-set at

  pub at-low : (t : ℕ) (x : S × C) → IsAt slots t x → t < targets
  at-low t x at = subst (λ n. t < n) set.many (slice_get_within slots t (Some x) at)

-- where targets are handed back, the stores in the places are theirs
pub stores-back : {S C : Type 0} (targets : ℕ) (xs : List (TargetOf S C)) (old slots : List (Option (S × C))) → AreSet targets slots → length xs ≡ targets → AreBack xs old slots → stores_of xs ≡ stores_in slots
stores-back targets xs old slots set many k =
    same-lists (stores_of xs) (stores_in slots) (length-map (λ x. x.store) xs ∙ many ∙ sym (stores-many targets slots set))
    (λ t a b at to.
    let x = from-map (λ z. z.store) xs t a at in
    let there = store-at targets slots set t (x.of_it.store, x.of_it.clock) (k.back t x.of_it x.at) in
    let same : x.of_it.store ≡ b = let e : Some x.of_it.store ≡ Some b = sym there ∙ to in cc in
    x.is ∙ same)
