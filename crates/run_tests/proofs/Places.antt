-- The store in the one place.
use Rattle.std.specs.Prelude.{ℕ, ◌≡◌, ◌<◌, List, [], ◌∷◌, slice_get, Option, Some, None, refl}
use Rattle.std.proofs.Common.{suc, zero, sym, ◌∙◌, ap, subst, arith}
use Rattle.daos_model.specs.declared.durable.Durable.{Durable}
use Rattle.daos_run.specs.Slots.{AreSet, EachStore, HaveStores, IsAt}
use Rattle.run_opening.specs.All.{AreKept}
use Rattle.run_tests.specs.Pair.{told_by}
use Rattle.vos_plain.specs.Plain.{plain_durable}
use Rattle.vos_plain.specs.declared.store.PlainStore.{PlainStore}

-- what its next opening may find
abbrev pub found_in : PlainStore → Durable → Type 0
found_in store d = d ≡ plain_durable store

pub same-some : {T : Type 0} (x y : T) → Some x ≡ Some y → x ≡ y
same-some x y e = cc

module _ {C : Type 0} (x : PlainStore × C) where
  abbrev one : List (Option (PlainStore × C))
  one = Some x ∷ []

  there : (t : ℕ) → t < 1 → (y : PlainStore × C) × IsAt one t y
  there zero low = (x, refl)
  there (suc t) low = absurd (omega (arith, low))

  each : (P : ℕ → PlainStore → Type 0) → P 0 x.0 → EachStore P one
  each P p zero y at = subst (λ z. P 0 z.0) (let e : Some x ≡ Some y = same-some (Some x) (Some y) at in same-some x y e) p
  each P p (suc t) y at = absurd (let e : None ≡ Some (Some y) = at in cc)

  pub one-has : (P : ℕ → PlainStore → Type 0) → P 0 x.0 → HaveStores P 1 one
  one-has P p = record { set = record { many = refl; each = there }; each = each P p }

-- the store of the one place
pub only : {C : Type 0} (slots : List (Option (PlainStore × C))) → AreSet 1 slots → (x : PlainStore × C) × (slots ≡ Some x ∷ [])
only [] set = absurd (let many = set.many in omega (arith, many))
only (o ∷ []) set = let x = set.each 0 (omega arith) in (x.0, ap (λ z. z ∷ []) (same-some o (Some x.0) x.1))
only (o ∷ p ∷ slots) set = absurd (let many = set.many in omega (arith, many))

-- what the one store keeps
pub kept-one : (store : PlainStore) → AreKept told_by (store ∷ []) (plain_durable store ∷ [])
kept-one store = record { many = refl; each = at }
  where
    at : (t : ℕ) (x : PlainStore) (d : Durable) → slice_get (store ∷ []) t ≡ Some x → slice_get (plain_durable store ∷ []) t ≡ Some d → told_by x ≡ Some d
    at zero x d is kept = ap told_by (sym (same-some store x is)) ∙ kept
    at (suc t) x d is kept = absurd (let e : None ≡ Some x = is in cc)

pub kept-is : (store : PlainStore) (B : List Durable) → AreKept told_by (store ∷ []) B → B ≡ plain_durable store ∷ []
kept-is store [] k = absurd (let many = k.many in omega (arith, many))
kept-is store (d ∷ []) k = ap (λ z. z ∷ []) (sym (same-some (plain_durable store) d (k.each 0 store d refl refl)))
kept-is store (d ∷ e ∷ B) k = absurd (let many = k.many in omega (arith, many))
