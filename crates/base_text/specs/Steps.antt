-- A step for each item of a list, of which each may fail.
use Rattle.std.specs.Prelude.{◌≡◌, ℕ, ◌+◌, ◌<◌, ◌≤◌, List, [], ◌∷◌, length, map, drop, Result, Ok, Err, refl}
use Rattle.std.proofs.Common.{ap, ◌∙◌, get_or, add-one, drop-cons}
use Rattle.std.proofs.lemmas.List.{drop_all}
use Rattle.base_text.specs.Results.{◌>>=◌}

-- a step for each item, the first with this number, until one fails
unfoldable pub steps : {S A F : Type 0} → (ℕ → S → A → Result S F) → ℕ → S → List A → Result S F
steps f at s [] = Ok s
steps f at s (x ∷ xs) = f at s x >>= λ t. steps f (at + 1) t xs

-- the items are taken from the front of a list
module _ {S A F : Type 0} (f : ℕ → S → A → Result S F) (at : ℕ) (s : S) where
  -- no item is left
  pub steps-nil : steps f at s [] ≡ Ok s
  unfolding steps
  steps-nil = refl

  -- the first step is made
  pub steps-cons_ok : (x : A) (xs : List A) (t : S) → f at s x ≡ Ok t → steps f at s (x ∷ xs) ≡ steps f (at + 1) t xs
  unfolding steps
  steps-cons_ok x xs t e = ap (λ r. r >>= λ u. steps f (at + 1) u xs) e

  -- the first step fails
  pub steps-cons_err : (x : A) (xs : List A) (fault : F) → f at s x ≡ Err fault → steps f at s (x ∷ xs) ≡ Err fault
  unfolding steps
  steps-cons_err x xs fault e = ap (λ r. r >>= λ u. steps f (at + 1) u xs) e

-- the items are those of a list from an index on, each seen through a view
module _ {S A B F : Type 0} (f : ℕ → S → B → Result S F) (view : A → B) (xs : List A) (at : ℕ) (s : S) where
  goes_on : (x : A) → at < length xs → x ≡ get_or xs at x → steps f at s (map view (drop at xs)) ≡ (f at s (view x) >>= λ t. steps f (at + 1) t (map view (drop (at + 1) xs)))
  unfolding steps
  goes_on x lt e = rw (drop-cons xs at x lt, ← e, add-one) refl

  -- no item is left
  pub steps-drop_all : length xs ≤ at → steps f at s (map view (drop at xs)) ≡ Ok s
  unfolding steps
  steps-drop_all le = rw (drop_all at xs le) refl

  -- the step for the item at the index is made
  pub steps-drop_ok : (x : A) (t : S) → at < length xs → x ≡ get_or xs at x → f at s (view x) ≡ Ok t → steps f at s (map view (drop at xs)) ≡ steps f (at + 1) t (map view (drop (at + 1) xs))
  steps-drop_ok x t lt e h = goes_on x lt e ∙ ap (λ r. r >>= λ u. steps f (at + 1) u (map view (drop (at + 1) xs))) h

  -- that step fails
  pub steps-drop_err : (x : A) (fault : F) → at < length xs → x ≡ get_or xs at x → f at s (view x) ≡ Err fault → steps f at s (map view (drop at xs)) ≡ Err fault
  steps-drop_err x fault lt e h = goes_on x lt e ∙ ap (λ r. r >>= λ u. steps f (at + 1) u (map view (drop (at + 1) xs))) h
