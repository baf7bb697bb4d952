-- The entities that have their own marks, when one is raised, comes in or goes out.
use Rattle.std.proofs.Common.{◌≡◌, ℕ, zero, suc, ◌≤◌, ◌⊎◌, Bool, true, false, cond, nat_eq, List, [], ◌∷◌, length, take, Contains, Some, None, refl, sym, ap, subst, ◌∙◌, inl, inr, arith}
use Rattle.std.specs.Prelude.{slice_get}
use Rattle.std.specs.Map.{lookup, lookup_entry, remove_entry, set_value}
use Rattle.std.specs.Option.{option_map_or}
use Rattle.std.proofs.lemmas.Bool.Decides.{nat_tests}
use Rattle.lru.specs.LruCache.{promoted}
use Rattle.lru.proofs.Splits.{Contains-head, Contains-tail}

module _ {V : Type 0} where
  pub no_entry : (k : ℕ) (es : List (ℕ × V)) → lookup (nat_eq k) es ≡ None → lookup_entry (nat_eq k) es ≡ None
  no_entry k [] h = refl
  no_entry k (f ∷ es) h = by (nat_eq k f.0) (no_entry k es) h
    where
      by : (b : Bool) → (lookup (nat_eq k) es ≡ None → lookup_entry (nat_eq k) es ≡ None) → cond b (Some f.1) (lookup (nat_eq k) es) ≡ None
          → cond b (Some f) (lookup_entry (nat_eq k) es) ≡ None
      by true rest none = absurd (let false_is : ⊥ = cc in false_is)
      by false rest none = rest none

  -- what is found under a key, as an entry, and what is left of the others
  pub record Finds (k : ℕ) (es : List (ℕ × V)) (v : V) : Type 0 where
    pub entry : lookup_entry (nat_eq k) es ≡ Some (k, v)
    pub among : Contains es (k, v)
    pub count : suc (length (remove_entry (nat_eq k) es)) ≡ length es

  pub finds : (k : ℕ) (es : List (ℕ × V)) (v : V) → lookup (nat_eq k) es ≡ Some v → Finds k es v
  finds k [] v h = absurd (let none : ⊥ = cc in none)
  finds k (f ∷ es) v h = by (nat_eq k f.0) refl (finds k es v) h
    where
      by : (b : Bool) → nat_eq k f.0 ≡ b → (lookup (nat_eq k) es ≡ Some v → Finds k es v) → cond b (Some f.1) (lookup (nat_eq k) es) ≡ Some v → Finds k (f ∷ es) v
      by true is later found =
          let key : k ≡ f.0 = grind (arith, nat_tests) in
          let value : f.1 ≡ v = cc in
          let same : f ≡ (k, v) = ap (λ x. (x, f.1)) (sym key) ∙ ap (λ x. (k, x)) value in
          record {
            entry = rw is (ap Some same);
            among = subst (Contains (f ∷ es)) same (Contains-head f es);
            count = rw is refl;
          }
      by false apart later found = let rest = later found in record {
        entry = rw apart rest.entry;
        among = Contains-tail f es (k, v) rest.among;
        count = rw apart (ap suc rest.count);
      }

  -- the entry that is raised goes first
  pub raised-first : (k : ℕ) (es : List (ℕ × V)) (v w : V) → lookup (nat_eq k) es ≡ Some v → set_value (nat_eq k) (promoted (nat_eq k) es) w ≡ (k, w) ∷ remove_entry (nat_eq k) es
  raised-first k es v w h =
      let same : nat_eq k k ≡ true = grind (arith, nat_tests) in
      let first : promoted (nat_eq k) es ≡ (k, v) ∷ remove_entry (nat_eq k) es = ap (λ o. option_map_or (λ e. e ∷ remove_entry (nat_eq k) es) o es) (finds k es v h).entry in
      ap (λ xs. set_value (nat_eq k) xs w) first ∙ ap (λ b. cond b ((k, w) ∷ remove_entry (nat_eq k) es) ((k, v) ∷ set_value (nat_eq k) (remove_entry (nat_eq k) es) w)) same

  -- the other keys are found as before
  pub others-found : (j k : ℕ) (es : List (ℕ × V)) → nat_eq j k ≡ false → lookup (nat_eq j) (remove_entry (nat_eq k) es) ≡ lookup (nat_eq j) es
  others-found j k [] apart = refl
  others-found j k (f ∷ es) apart = by (nat_eq k f.0) refl (others-found j k es apart)
    where
      by : (b : Bool) → nat_eq k f.0 ≡ b → lookup (nat_eq j) (remove_entry (nat_eq k) es) ≡ lookup (nat_eq j) es
          → lookup (nat_eq j) (cond b es (f ∷ remove_entry (nat_eq k) es)) ≡ cond (nat_eq j f.0) (Some f.1) (lookup (nat_eq j) es)
      by true is rest = let other : nat_eq j f.0 ≡ false = grind (arith, nat_tests) in rw other refl
      by false here rest = ap (λ o. cond (nat_eq j f.0) (Some f.1) o) rest

  -- where all but the last entry stay, a key is found as before, or it is the last one's
  pub stays-or_last : (k n : ℕ) (es : List (ℕ × V)) (v : V) → length es ≤ suc n → lookup (nat_eq k) es ≡ Some v
      → (lookup (nat_eq k) (take n es) ≡ Some v) ⊎ (slice_get es n ≡ Some (k, v))
  stays-or_last k n [] v few h = absurd (let none : ⊥ = cc in none)
  stays-or_last k zero (f ∷ g ∷ es) v few h = absurd (omega (arith, few))
  stays-or_last k zero (f ∷ []) v few h = by (nat_eq k f.0) refl h
    where
      by : (b : Bool) → nat_eq k f.0 ≡ b → cond b (Some f.1) None ≡ Some v → (None ≡ Some v) ⊎ (Some f ≡ Some (k, v))
      by true is found =
          let key : k ≡ f.0 = grind (arith, nat_tests) in
          let value : f.1 ≡ v = cc in
          inr (ap Some (ap (λ x. (x, f.1)) (sym key) ∙ ap (λ x. (k, x)) value))
      by false apart found = absurd (let none : ⊥ = cc in none)
  stays-or_last k (suc n) (f ∷ es) v few h = by (nat_eq k f.0) refl (stays-or_last k n es v (omega (arith, few))) h
    where
      by : (b : Bool) → nat_eq k f.0 ≡ b → (lookup (nat_eq k) es ≡ Some v → (lookup (nat_eq k) (take n es) ≡ Some v) ⊎ (slice_get es n ≡ Some (k, v))) → cond b (Some f.1) (lookup (nat_eq k) es) ≡ Some v
          → (lookup (nat_eq k) (f ∷ take n es) ≡ Some v) ⊎ (slice_get es n ≡ Some (k, v))
      by true is rest found = inl (rw is found)
      by false apart rest found = elim (rest found) [ inl i ↦ inl (rw apart i) | inr i ↦ inr i ]
