-- Lists of which a part is taken.
use Rattle.std.proofs.Common.{◌≡◌, ◌+◌, ◌≤◌, Bool, true, false, not, cond, List, [], ◌∷◌, ◌++◌, ◌⊎◌, inl, inr, get_or, length, refl, sym, ap, ◌∙◌, arith}
use Rattle.std.specs.Prelude.{All, filter}
use Rattle.std.proofs.lemmas.List.Elements.{All-cons, All-head, All-nil, All-tail}
use Rattle.daos_model.specs.BoolLaws.{clash}

-- a part of two lists, from the front, is one of the first, or the first and a part of the second
pub either_part : {A : Type 0} (gone rest xs ys : List A) → gone ++ rest ≡ xs ++ ys → ((r : List A) × (xs ≡ gone ++ r)) ⊎ ((g : List A) × ((gone ≡ xs ++ g) × (ys ≡ g ++ rest)))
either_part [] rest xs ys h = inl (xs, refl)
either_part (g ∷ gone) rest [] ys h = inr (g ∷ gone, (refl, sym h))
either_part (g ∷ gone) rest (x ∷ xs) ys h =
    let head : g ≡ x = cc in
    let tail : gone ++ rest ≡ xs ++ ys = cc in
    elim (either_part gone rest xs ys tail) [
      | inl r ↦ inl (r.0, ap (λ y. y ∷ xs) (sym head) ∙ ap (λ z. g ∷ z) r.1)
      | inr s ↦ inr (s.0, (ap (λ y. y ∷ gone) head ∙ ap (λ z. x ∷ z) s.1.0, s.1.1))
    ]

-- what holds where two things do
pub from_two : {A : Type 0} (P Q S : A → Type 0) → ((x : A) → P x → Q x → S x) → (xs : List A) → All P xs → All Q xs → All S xs
from_two P Q S on xs all other = λ k d low. on (get_or xs k d) (all k d low) (other k d low)

pub front_of : {A : Type 0} (P : A → Type 0) (xs ys : List A) → All P (xs ++ ys) → All P xs
front_of P [] ys all = All-nil P
front_of P (x ∷ xs) ys all = All-cons P x xs (All-head P x (xs ++ ys) all) (front_of P xs ys (All-tail P x (xs ++ ys) all))

-- ---- how many pass two tests

split_count : {A : Type 0} (t g : A → Bool) (xs : List A) → length (filter t xs) ≡ length (filter t (filter g xs)) + length (filter t (filter (λ x. not (g x)) xs))
split_count t g [] = refl
split_count t g (x ∷ xs) = by (g x) (t x) refl (split_count t g xs)
  where
    by : (b d : Bool) → t x ≡ d → length (filter t xs) ≡ length (filter t (filter g xs)) + length (filter t (filter (λ x. not (g x)) xs))
        → length (cond d (x ∷ filter t xs) (filter t xs)) ≡ length (filter t (cond b (x ∷ filter g xs) (filter g xs))) + length (filter t (cond (not b) (x ∷ filter (λ x. not (g x)) xs) (filter (λ x. not (g x)) xs)))
    by true true is rest = rw is (omega (arith, rest))
    by true false is rest = rw is rest
    by false true is rest = rw is (omega (arith, rest))
    by false false is rest = rw is rest

none_else : {A : Type 0} (t g : A → Bool) (xs : List A) → length (filter t (filter (λ x. not (g x)) xs)) ≤ 0 → All (λ x. t x ≡ true → g x ≡ true) xs
none_else t g [] few = All-nil (λ x. t x ≡ true → g x ≡ true)
none_else t g (x ∷ xs) few = by (g x) (t x) refl refl few (none_else t g xs)
  where
    by : (b d : Bool) → g x ≡ b → t x ≡ d → length (filter t (cond (not b) (x ∷ filter (λ x. not (g x)) xs) (filter (λ x. not (g x)) xs))) ≤ 0
        → (length (filter t (filter (λ x. not (g x)) xs)) ≤ 0 → All (λ x. t x ≡ true → g x ≡ true) xs) → All (λ x. t x ≡ true → g x ≡ true) (x ∷ xs)
    by true d is at few on = All-cons (λ x. t x ≡ true → g x ≡ true) x xs (λ yes. is) (on few)
    by false true is at few on = absurd (let n = ap (λ (b : Bool). length (cond b (x ∷ filter t (filter (λ x. not (g x)) xs)) (filter t (filter (λ x. not (g x)) xs)))) at in omega (arith, few, n))
    by false false is at few on =
        let n = ap (λ (b : Bool). length (cond b (x ∷ filter t (filter (λ x. not (g x)) xs)) (filter t (filter (λ x. not (g x)) xs)))) at in
        All-cons (λ x. t x ≡ true → g x ≡ true) x xs (λ yes. clash (t x) yes at) (on (omega (arith, few, n)))

-- where one at most passes the first test, and one that passes the second does, whatever passes the first passes the second
pub one_passes : {A : Type 0} (t g : A → Bool) (xs : List A) → length (filter t xs) ≤ 1 → 1 ≤ length (filter t (filter g xs)) → All (λ x. t x ≡ true → g x ≡ true) xs
one_passes t g xs few some = none_else t g xs (let both = split_count t g xs in omega (arith, both, few, some))

-- each that passes its own test is counted
pub each_counted : {A : Type 0} (f : A → A → Bool) (xs : List A) → All (λ x. f x x ≡ true) xs → All (λ u. 1 ≤ length (filter (f u) xs)) xs
each_counted f [] own = All-nil (λ u. 1 ≤ length (filter (f u) []))
each_counted f (x ∷ xs) own =
    let rest = each_counted f xs (All-tail (λ y. f y y ≡ true) x xs own) in
    All-cons (λ u. 1 ≤ length (filter (f u) (x ∷ xs))) x xs (let is = ap (λ (b : Bool). length (cond b (x ∷ filter (f x) xs) (filter (f x) xs))) (All-head (λ y. f y y ≡ true) x xs own) in omega (arith, is)) (λ k d low. more (f _ x) _ (rest k d low))
  where
    more : (b : Bool) (ys : List _) → 1 ≤ length ys → 1 ≤ length (cond b (x ∷ ys) ys)
    more true ys h = omega arith
    more false ys h = h
