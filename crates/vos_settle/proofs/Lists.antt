-- Tests that agree take the same.
use Rattle.std.proofs.Common.{◌≡◌, ℕ, ◌+◌, ◌&&◌, Bool, true, false, List, [], ◌∷◌, ◌++◌, Option, Some, None, refl, ap, ◌∙◌, subst}
use Rattle.std.proofs.lemmas.List.Elements.{All-head, All-tail}
use Rattle.std.specs.Prelude.{All, if◌then◌else◌}
use Rattle.std.specs.List.{find, list_any}
use Rattle.std.specs.Option.{option_map}
use Rattle.vos_levels.specs.Changes.{changed_by, freed_by, sum_those}
use Rattle.vos_levels.specs.Levels.{map_those, without_those}
use Rattle.vos_levels.proofs.Spots.{first_false, then_false}
use Rattle.vos_levels.proofs.Testing.{Agree, agree_append}

module _ {A : Type 0} (p q : A → Bool) where
  agree_mapped : (f : A → A) (xs : List A) → Agree p q xs → map_those p f xs ≡ map_those q f xs
  agree_mapped f [] h = refl
  agree_mapped f (x ∷ xs) h = ap (λ (t : Bool). (if t then f x else x) ∷ map_those p f xs) h.0 ∙ ap (λ z. (if q x then f x else x) ∷ z) (agree_mapped f xs h.1)

  agree_without : (xs : List A) → Agree p q xs → without_those p xs ≡ without_those q xs
  agree_without [] h = refl
  agree_without (x ∷ xs) h = ap (λ (t : Bool). if t then without_those p xs else x ∷ without_those p xs) h.0 ∙ ap (λ z. if q x then z else x ∷ z) (agree_without xs h.1)

  agree_sum : (size : A → ℕ) (xs : List A) → Agree p q xs → sum_those p size xs ≡ sum_those q size xs
  agree_sum size [] h = refl
  agree_sum size (x ∷ xs) h = ap (λ (t : Bool). (if t then size x else 0) + sum_those p size xs) h.0 ∙ ap (λ n. (if q x then size x else 0) + n) (agree_sum size xs h.1)

  pub agree_changed : (keeps : Bool) (f : A → A) (xs : List A) → Agree p q xs → changed_by keeps p f xs ≡ changed_by keeps q f xs
  agree_changed true f xs h = agree_mapped f xs h
  agree_changed false f xs h = agree_without xs h

  pub agree_freed : (keeps : Bool) (size : A → ℕ) (xs : List A) → Agree p q xs → freed_by keeps p size xs ≡ freed_by keeps q size xs
  agree_freed true size xs h = refl
  agree_freed false size xs h = agree_sum size xs h

-- one more test, which the one that is at the place passes
module _ {A : Type 0} (at want take : A → Bool) where
  none_agree : (xs : List A) → list_any at xs ≡ false → Agree (λ x. at x && take x) (λ x. at x && (want x && take x)) xs
  none_agree [] n = tt
  none_agree (x ∷ xs) n = (let one : at x ≡ false = first_false (at x) (list_any at xs) n in rw one refl, none_agree xs (then_false (at x) (list_any at xs) n))

  pub spot_agree : (left : List A) (a : A) (right : List A) → list_any at left ≡ false → want a ≡ true → list_any at right ≡ false → Agree (λ x. at x && take x) (λ x. at x && (want x && take x)) (left ++ a ∷ right)
  spot_agree left a right n w k =
      agree_append (λ x. at x && take x) (λ x. at x && (want x && take x)) left (a ∷ right) (none_agree left n) (rw w refl, none_agree right k)

-- what was mapped to one
pub record MappedTo {A B : Type 0} (f : A → B) (x : Option A) (y : B) : Type 0 where
  pub thing : A
  pub found : x ≡ Some thing
  pub is : y ≡ f thing

pub mapped_to : {A B : Type 0} (f : A → B) (x : Option A) (y : B) (z : Option B) → z ≡ option_map f x → z ≡ Some y → MappedTo f x y
mapped_to f None y z h e = absurd (let n : ⊥ = cc in n)
mapped_to f (Some a) y z h e = record { thing = a; found = refl; is = let same : y ≡ f a = cc in same }

pub mapped_none : {A B : Type 0} (f : A → B) (x : Option A) (z : Option B) → z ≡ option_map f x → z ≡ None → x ≡ None
mapped_none f None z h e = refl
mapped_none f (Some a) z h e = absurd (let n : ⊥ = cc in n)

-- what holds of those that pass a test holds of the one that is found
pub passing_one : {A : Type 0} (Q : A → Type 0) (test : A → Bool) (xs : List A) (a : A) → All (λ x. test x ≡ true → Q x) xs → find test xs ≡ Some a → Q a
passing_one Q test [] a h e = absurd (let n : ⊥ = cc in n)
passing_one {A = A} Q test (x ∷ xs) a h e = by (test x) refl e (passing_one Q test xs a (All-tail (λ z. test z ≡ true → Q z) x xs h))
  where
    by : (t : Bool) → test x ≡ t → (if t then Some x else find test xs) ≡ Some a → (find test xs ≡ Some a → Q a) → Q a
    by true p e r = let same : x ≡ a = cc in subst Q same (All-head (λ z. test z ≡ true → Q z) x xs h p)
    by false p e r = r e

-- what holds of all holds of the one that is found
pub all_one : {A : Type 0} (Q : A → Type 0) (test : A → Bool) (xs : List A) (a : A) → All Q xs → find test xs ≡ Some a → Q a
all_one Q test [] a h e = absurd (let n : ⊥ = cc in n)
all_one {A = A} Q test (x ∷ xs) a h e = by (test x) e (all_one Q test xs a (All-tail Q x xs h))
  where
    by : (t : Bool) → (if t then Some x else find test xs) ≡ Some a → (find test xs ≡ Some a → Q a) → Q a
    by true e r = let same : x ≡ a = cc in subst Q same (All-head Q x xs h)
    by false e r = r e
