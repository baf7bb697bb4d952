-- What stands in buckets at a path, where one of them was changed or added.
use Rattle.std.proofs.Common.{◌≡◌, ℕ, cond, nat_eq, Bool, true, false, List, [], Option, Some, None, refl, sym, ap, ◌∙◌, arith}
use Rattle.std.specs.Prelude.{if◌then◌else◌, OnErr, Result, Ok, Err}
use Rattle.std.proofs.lemmas.Bool.Decides.{nat_tests}
use Rattle.base_types.specs.PathLaws.{same_path-Decides}
use Rattle.base_types.specs.Paths.{same_path}
use Rattle.base_types.specs.declared.path.Path.{Path}
use Rattle.vos_levels.specs.vos_values.declared.keys.Moment.{Moment}
use Rattle.vos_punches.specs.declared.bucket.Bucket.{Bucket}
use Rattle.vos_punches.specs.Moments.{without_moment}
use Rattle.base_types.specs.Tags.{tag}
use Rattle.vos_punches.specs.Rows.{in_bucket, in_found}

clash : {X : Type 0} (b : Bool) → b ≡ true → b ≡ false → X
clash true h k = absurd (let n : ⊥ = cc in n)
clash false h k = absurd (let n : ⊥ = cc in n)

numbers_same : (a b : ℕ) → nat_eq a b ≡ true → a ≡ b
numbers_same a b h = grind (arith, nat_tests)

number_itself : (a b : ℕ) → a ≡ b → nat_eq a b ≡ true
number_itself a b h = grind (arith, nat_tests)

module _ (change : List Moment → List Moment) (p q : Path) (t : ℕ) (old now : ℕ → Option Bucket) (b : Bucket) (at : t ≡ tag p) (is : (k : ℕ) → now k ≡ cond (nat_eq t k) (Some b) (old k)) where
  -- the bucket of a path was replaced by one in which the moments of that path changed
  pub put_at : ((r : Path) → in_bucket b r ≡ (if same_path p r then change (in_found (old t) r) else in_found (old t) r))
      → in_found (now (tag q)) q ≡ (if same_path p q then change (in_found (old (tag q)) q) else in_found (old (tag q)) q)
  put_at h = by (nat_eq t (tag q)) (same_path p q) refl refl
    where
      there : nat_eq t (tag q) ≡ true → in_found (old t) q ≡ in_found (old (tag q)) q
      there e = ap (λ k. in_found (old k) q) (numbers_same t (tag q) e)

      by : (c s : Bool) → nat_eq t (tag q) ≡ c → same_path p q ≡ s → in_found (now (tag q)) q ≡ (if s then change (in_found (old (tag q)) q) else in_found (old (tag q)) q)
      by true true e f =
          ap (λ z. in_found z q) (is (tag q) ∙ ap (λ (z : Bool). cond z (Some b) (old (tag q))) e)
          ∙ (h q ∙ (ap (λ (z : Bool). if z then change (in_found (old t) q) else in_found (old t) q) f ∙ ap change (there e)))
      by true false e f =
          ap (λ z. in_found z q) (is (tag q) ∙ ap (λ (z : Bool). cond z (Some b) (old (tag q))) e)
          ∙ (h q ∙ (ap (λ (z : Bool). if z then change (in_found (old t) q) else in_found (old t) q) f ∙ there e))
      by false true e f = clash (nat_eq t (tag q)) (number_itself t (tag q) (at ∙ ap tag ((same_path-Decides p q).0 f))) e
      by false false e f = ap (λ z. in_found z q) (is (tag q) ∙ ap (λ (z : Bool). cond z (Some b) (old (tag q))) e)

  pub put_in : (b0 : Bucket) → old t ≡ Some b0 → ((r : Path) → in_bucket b r ≡ (if same_path p r then change (in_bucket b0 r) else in_bucket b0 r))
      → in_found (now (tag q)) q ≡ (if same_path p q then change (in_found (old (tag q)) q) else in_found (old (tag q)) q)
  put_in b0 f h = put_at (λ r. h r ∙ ap (λ z. if same_path p r then change (in_found z r) else in_found z r) (sym f))

  pub put_new : old t ≡ None → ((r : Path) → in_bucket b r ≡ (if same_path p r then change [] else []))
      → in_found (now (tag q)) q ≡ (if same_path p q then change (in_found (old (tag q)) q) else in_found (old (tag q)) q)
  put_new f h = put_at (λ r. h r ∙ ap (λ z. if same_path p r then change (in_found z r) else in_found z r) (sym f))

pub alike : {A : Type 0} (b : Bool) (x : A) → (if b then x else x) ≡ x
alike true x = refl
alike false x = refl

pub at_err : {T E P : Type 0} (r : Result T E) → P → OnErr r P
at_err (Ok x) p = tt
at_err (Err e) p = p

-- where a path has no bucket there is nothing to take out
pub absent : (m : Moment) (p q : Path) (t : ℕ) (old : ℕ → Option Bucket) → t ≡ tag p → old t ≡ None → in_found (old (tag q)) q ≡ (if same_path p q then without_moment m (in_found (old (tag q)) q) else in_found (old (tag q)) q)
absent m p q t old at none = by (same_path p q) refl
  where
    by : (s : Bool) → same_path p q ≡ s → in_found (old (tag q)) q ≡ (if s then without_moment m (in_found (old (tag q)) q) else in_found (old (tag q)) q)
    by true e =
        let here : old (tag q) ≡ None = ap old (sym (at ∙ ap tag ((same_path-Decides p q).0 e))) ∙ none in
        ap (λ z. in_found z q) here ∙ ap (λ z. without_moment m (in_found z q)) (sym here)
    by false e = refl
