-- Lists in which each key comes after those before it: what stands in them decides them.
use Rattle.std.specs.Prelude.{ℕ, ◌≡◌, true, not, List, [], ◌∷◌, refl}
use Rattle.std.proofs.Common.{sym, ◌∙◌, ap, inl, inr}
use Rattle.daos_model.specs.Answers.{is_before}
use Rattle.daos_model.specs.BoolLaws.{and_left, and_right, both, clash}
use Rattle.daos_model.specs.OrderLaws.{before-asym, before-itself}
use Rattle.daos_model.specs.Ordered.{all_after, all_from, is_rising}
use Rattle.model_laws.specs.Members.{Has}

module _ {T : Type 0} (key : T → List ℕ) where
  -- what stands among those that are all after a key is after it
  pub after-has : (k : List ℕ) (xs : List T) (x : T) → all_after key k xs ≡ true → Has x xs → is_before k (key x) ≡ true
  after-has k [] x h i = absurd i
  after-has k (y ∷ xs) x h (inl same) = ap (λ z. is_before k (key z)) same ∙ and_left (is_before k (key y)) (all_after key k xs) h
  after-has k (y ∷ xs) x h (inr i) = after-has k xs x (and_right (is_before k (key y)) (all_after key k xs) h) i

  pub after-all : (k : List ℕ) (xs : List T) → ((x : T) → Has x xs → is_before k (key x) ≡ true) → all_after key k xs ≡ true
  after-all k [] h = refl
  after-all k (y ∷ xs) h = both (is_before k (key y)) (all_after key k xs) (h y (inl refl)) (after-all k xs (λ x i. h x (inr i)))

  pub from-has : (k : List ℕ) (xs : List T) (x : T) → all_from key k xs ≡ true → Has x xs → not (is_before (key x) k) ≡ true
  from-has k [] x h i = absurd i
  from-has k (y ∷ xs) x h (inl same) = ap (λ z. not (is_before (key z) k)) same ∙ and_left (not (is_before (key y) k)) (all_from key k xs) h
  from-has k (y ∷ xs) x h (inr i) = from-has k xs x (and_right (not (is_before (key y) k)) (all_from key k xs) h) i

  -- a list that starts with x has nothing of x's key after it
  head-apart : (x y : T) (xs : List T) → is_rising key (x ∷ xs) ≡ true → Has y xs → (y ≡ x) → ⊥
  head-apart x y xs r i same =
      let lt : is_before (key x) (key y) ≡ true = after-has (key x) xs y (and_left (all_after key (key x) xs) (is_rising key xs) r) i in
      clash (is_before (key x) (key y)) lt (ap (λ z. is_before (key x) (key z)) same ∙ before-itself (key x))

  -- two that rise and have the same elements are one list
  pub rising-same : (xs ys : List T) → is_rising key xs ≡ true → is_rising key ys ≡ true → ((x : T) → Has x xs → Has x ys) → ((y : T) → Has y ys → Has y xs) → xs ≡ ys
  rising-same [] [] r s f g = refl
  rising-same [] (y ∷ ys) r s f g = absurd (g y (inl refl))
  rising-same (x ∷ xs) [] r s f g = absurd (f x (inl refl))
  rising-same (x ∷ xs) (y ∷ ys) r s f g =
      let first : x ≡ y = heads (f x (inl refl)) (g y (inl refl)) in
      let rest : xs ≡ ys = rising-same xs ys (and_right (all_after key (key x) xs) (is_rising key xs) r) (and_right (all_after key (key y) ys) (is_rising key ys) s)
      (λ z i. tail z (f z (inr i)) (λ same. head-apart x z xs r i (same ∙ sym first)))
      (λ z i. tail' z (g z (inr i)) (λ same. head-apart y z ys s i (same ∙ first))) in
      ap (λ z. z ∷ xs) first ∙ ap (λ zs. y ∷ zs) rest
    where
      heads : Has x (y ∷ ys) → Has y (x ∷ xs) → x ≡ y
      heads (inl same) j = same
      heads (inr i) (inl same) = sym same
      heads (inr i) (inr j) =
          clash (is_before (key x) (key y))
          (after-has (key x) xs y (and_left (all_after key (key x) xs) (is_rising key xs) r) j)
          (before-asym (key y) (key x) (after-has (key y) ys x (and_left (all_after key (key y) ys) (is_rising key ys) s) i))

      tail : (z : T) → Has z (y ∷ ys) → ((z ≡ y) → ⊥) → Has z ys
      tail z (inl same) apart = absurd (apart same)
      tail z (inr i) apart = i

      tail' : (z : T) → Has z (x ∷ xs) → ((z ≡ x) → ⊥) → Has z xs
      tail' z (inl same) apart = absurd (apart same)
      tail' z (inr i) apart = i
