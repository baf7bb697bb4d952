-- Elements of lists, and lists in which one was set.
use Rattle.std.specs.Prelude.{ℕ, ◌≡◌, List, [], ◌∷◌, length, map, slice_get, Some, refl}
use Rattle.std.proofs.Common.{zero, suc, inl, inr, sym, ◌∙◌, ap, subst}
use Rattle.std.proofs.Math.ListN.{set}
use Rattle.std.proofs.lemmas.Bool.{cases_eq}
use Rattle.world_base.specs.StepLaws.{set-is, set-there}

pub map-set : {A B : Type 0} (f : A → B) (xs : List A) (n : ℕ) (x : A) → map f (set xs n x) ≡ set (map f xs) n (f x)
map-set f [] n x = refl
map-set f (y ∷ ys) zero x = refl
map-set f (y ∷ ys) (suc n) x = ap (λ zs. f y ∷ zs) (map-set f ys n x)

pub map-get : {A B : Type 0} (f : A → B) (xs : List A) (n : ℕ) (x : A) → slice_get xs n ≡ Some x → slice_get (map f xs) n ≡ Some (f x)
map-get f [] n x h = let no : ⊥ = cc in absurd no
map-get f (y ∷ ys) zero x h = let same : y ≡ x = cc in ap (λ z. Some (f z)) same
map-get f (y ∷ ys) (suc n) x h = map-get f ys n x h

pub length-set : {A : Type 0} (xs : List A) (n : ℕ) (x : A) → length (set xs n x) ≡ length xs
length-set [] n x = refl
length-set (y ∷ ys) zero x = refl
length-set (y ∷ ys) (suc n) x = ap suc (length-set ys n x)

-- an element of a list in which one was set is that one or an old one
pub get-set : {A : Type 0} (P : ℕ → A → Type 0) (xs : List A) (n : ℕ) (y : A) → P n y → ((m : ℕ) (x : A) → slice_get xs m ≡ Some x → P m x) → (m : ℕ) (x : A) → slice_get (set xs n y) m ≡ Some x → P m x
get-set P xs n y new old m x at = elim (cases_eq m n) [
  | inl same ↦ subst (λ k. P k x) (sym same) (subst (P n) (set-is xs n y x (subst (λ k. slice_get (set xs n y) k ≡ Some x) same at)) new)
  | inr apart ↦ old m x (sym (set-there xs n m y apart) ∙ at)
]
