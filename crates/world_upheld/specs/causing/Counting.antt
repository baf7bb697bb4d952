-- How many of a list pass a test, as more do.
use Rattle.std.specs.Prelude.{ℕ, ◌≡◌, ◌≤◌, ◌+◌, ◌++◌, Bool, true, false, List, [], ◌∷◌, filter, length, refl, if◌then◌else◌}
use Rattle.std.proofs.Common.{sym, ◌∙◌, ap, arith, inl, inr}
use Rattle.std.proofs.lemmas.List.{length-append}
use Rattle.std.proofs.lemmas.List.Elements.{filter-append}
use Rattle.model_laws.specs.Members.{Has}

module _ {T : Type 0} (p q : T → Bool) where
  -- no fewer pass a test that all pass which pass another
  pub passes-more : (xs : List T) → ((x : T) → Has x xs → p x ≡ true → q x ≡ true) → length (filter p xs) ≤ length (filter q xs)
  passes-more [] more = omega arith
  passes-more (x ∷ xs) more = by (p x) (q x) refl refl (passes-more xs (λ y i. more y (inr i)))
    where
      by : (b c : Bool) → p x ≡ b → q x ≡ c → length (filter p xs) ≤ length (filter q xs) → length (if b then x ∷ filter p xs else filter p xs) ≤ length (if c then x ∷ filter q xs else filter q xs)
      by true true a e rest = omega (arith, rest)
      by true false a e rest = let on : q x ≡ true = more x (inl refl) a in let no : ⊥ = cc in absurd no
      by false true a e rest = omega (arith, rest)
      by false false a e rest = rest

  -- and one more does, where one passes it that didn't pass the other
  pub passes-one_more : (xs : List T) (x : T) → Has x xs → p x ≡ false → q x ≡ true → ((y : T) → Has y xs → p y ≡ true → q y ≡ true) → length (filter p xs) + 1 ≤ length (filter q xs)
  passes-one_more [] x i off on more = absurd i
  passes-one_more (y ∷ ys) x (inl same) off on more = by (p y) (q y) (ap p (sym same) ∙ off) (ap q (sym same) ∙ on) (passes-more ys (λ z i. more z (inr i)))
    where
      by : (b c : Bool) → b ≡ false → c ≡ true → length (filter p ys) ≤ length (filter q ys) → length (if b then y ∷ filter p ys else filter p ys) + 1 ≤ length (if c then y ∷ filter q ys else filter q ys)
      by true c a e rest = let no : ⊥ = cc in absurd no
      by false true a e rest = omega (arith, rest)
      by false false a e rest = let no : ⊥ = cc in absurd no
  passes-one_more (y ∷ ys) x (inr i) off on more = by (p y) (q y) refl refl (passes-one_more ys x i off on (λ z j. more z (inr j)))
    where
      by : (b c : Bool) → p y ≡ b → q y ≡ c → length (filter p ys) + 1 ≤ length (filter q ys) → length (if b then y ∷ filter p ys else filter p ys) + 1 ≤ length (if c then y ∷ filter q ys else filter q ys)
      by true true a e rest = omega (arith, rest)
      by true false a e rest = let has : q y ≡ true = more y (inl refl) a in let no : ⊥ = cc in absurd no
      by false true a e rest = omega (arith, rest)
      by false false a e rest = rest

-- no fewer pass it of a list that goes on
pub passes-longer : {T : Type 0} (p : T → Bool) (xs more : List T) → length (filter p xs) ≤ length (filter p (xs ++ more))
passes-longer p xs more = by (length (filter p xs)) (length (filter p more)) (length (filter p (xs ++ more))) (ap length (filter-append p xs more) ∙ length-append (filter p xs) (filter p more))
  where
    by : (a b c : ℕ) → c ≡ a + b → a ≤ c
    by a b c e = omega (arith, e)
