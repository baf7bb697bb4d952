-- What stands at a place of a list.
use Rattle.std.specs.Prelude.{ℕ, ◌≡◌, List, [], ◌∷◌, length, map, replicate, slice_get, Some, refl}
use Rattle.std.proofs.Common.{zero, suc, sym, ◌∙◌, ap, arith}

-- of what is the same everywhere
pub replicate-at : {T : Type 0} (n t : ℕ) (x y : T) → slice_get (replicate n x) t ≡ Some y → y ≡ x
replicate-at zero t x y at = let no : ⊥ = cc in absurd no
replicate-at (suc n) zero x y at = let same : x ≡ y = cc in sym same
replicate-at (suc n) (suc t) x y at = replicate-at n t x y at

-- what functions make of each is so
pub maps-replicate : {A B C : Type 0} (f : A → B) (g : B → C) (c : C) (xs : List A) → ((x : A) → g (f x) ≡ c) → map g (map f xs) ≡ replicate (length xs) c
maps-replicate f g c [] all = refl
maps-replicate f g c (x ∷ xs) all = ap (λ y. y ∷ map g (map f xs)) (all x) ∙ ap (λ ys. c ∷ ys) (maps-replicate f g c xs all)

-- an element of a mapped list is that of another
pub record IsMapped {A B : Type 0} (f : A → B) (xs : List A) (n : ℕ) (y : B) : Type 0 where
  pub of_it : A
  pub at : slice_get xs n ≡ Some of_it
  pub is : y ≡ f of_it

pub from-map : {A B : Type 0} (f : A → B) (xs : List A) (n : ℕ) (y : B) → slice_get (map f xs) n ≡ Some y → IsMapped f xs n y
from-map f [] n y h = let no : ⊥ = cc in absurd no
from-map f (x ∷ xs) zero y h = record { of_it = x; at = refl; is = let same : f x ≡ y = cc in sym same }
from-map f (x ∷ xs) (suc n) y h = let k = from-map f xs n y h in record { of_it = k.of_it; at = k.at; is = k.is }

-- lists that have the same at each place are the same
pub same-lists : {T : Type 0} (xs ys : List T) → length xs ≡ length ys → ((n : ℕ) (x y : T) → slice_get xs n ≡ Some x → slice_get ys n ≡ Some y → x ≡ y) → xs ≡ ys
same-lists [] [] many each = refl
same-lists [] (y ∷ ys) many each = absurd (omega (arith, many))
same-lists (x ∷ xs) [] many each = absurd (omega (arith, many))
same-lists (x ∷ xs) (y ∷ ys) many each = ap (λ z. z ∷ xs) (each 0 x y refl refl) ∙ ap (λ zs. y ∷ zs) (same-lists xs ys (omega (arith, many)) (λ n u v a b. each (suc n) u v a b))

-- at one place stands one thing
pub one-there : {T : Type 0} (xs : List T) (n : ℕ) (x y : T) → slice_get xs n ≡ Some x → slice_get xs n ≡ Some y → x ≡ y
one-there xs n x y at to = let e : Some x ≡ Some y = sym at ∙ to in cc
