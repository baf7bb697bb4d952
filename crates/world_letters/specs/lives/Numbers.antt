-- Lists of numbers that rise, don't fall, are counted, or are distinct, with more behind them; and what a list of lines gathers of numbers.
use Rattle.std.specs.Prelude.{ℕ, zero, suc, ◌+◌, ◌≡◌, ◌≤◌, ◌<◌, nat_eq, false, List, [], ◌∷◌, ◌++◌, All, length, slice_index, slice_index_or, refl}
use Rattle.std.specs.List.{AllByRecursion, IsDistinct}
use Rattle.std.specs.List.Sorted.{IsNonDecreasing, IsStrictlyIncreasing}
use Rattle.std.proofs.Common.{append_assoc, sym, ◌∙◌, ap, subst, arith, inl, inr}
use Rattle.std.proofs.lemmas.List.Elements.{All-tail}
use Rattle.std.proofs.lemmas.Bool.{cases_lt}
use Rattle.std.proofs.lemmas.List.Sorted.{IsNonDecreasingBy-push}
use Rattle.base_types.specs.declared.report.Line.{Line}
use Rattle.daos_model.specs.Stops.{AreCounted}
use Rattle.world_base.specs.model_laws.Members.{Has, has-left, has-right}

-- ---- rising

rising-tail : (x : ℕ) (xs : List ℕ) → IsStrictlyIncreasing (x ∷ xs) → IsStrictlyIncreasing xs
rising-tail x xs rises k lt =
    let next : suc k + 1 ≡ suc (k + 1) = omega arith in
    let P : ℕ → Type 0 = λ n. slice_index xs k < slice_index (x ∷ xs) n in
    subst P next (rises (suc k) (omega arith))

rising-cons : (x y : ℕ) (ys : List ℕ) → x < y → IsStrictlyIncreasing (y ∷ ys) → IsStrictlyIncreasing (x ∷ y ∷ ys)
rising-cons x y ys less rises zero lt = less
rising-cons x y ys less rises (suc k) lt =
    let next : suc (k + 1) ≡ suc k + 1 = omega arith in
    let P : ℕ → Type 0 = λ n. slice_index (y ∷ ys) k < slice_index (x ∷ y ∷ ys) n in
    subst P next (rises k (omega arith))

-- one more that is above all
pub rising-push : (xs : List ℕ) (y : ℕ) → IsStrictlyIncreasing xs → All (λ x. x < y) xs → IsStrictlyIncreasing (xs ++ y ∷ [])
rising-push [] y rises above k lt = absurd (omega (arith, lt))
rising-push (x ∷ []) y rises above k lt = rising-cons x y [] (above 0 0 (omega arith)) (λ n less. absurd (omega (arith, less))) k lt
rising-push (x ∷ z ∷ xs) y rises above k lt =
    rising-cons x z (xs ++ y ∷ []) (rises 0 (omega arith)) (rising-push (z ∷ xs) y (rising-tail x (z ∷ xs) rises) (All-tail (λ n. n < y) x (z ∷ xs) above)) k lt

pub rising-left : (xs ys : List ℕ) → IsStrictlyIncreasing (xs ++ ys) → IsStrictlyIncreasing xs
rising-left [] ys rises k lt = absurd (omega (arith, lt))
rising-left (x ∷ []) ys rises k lt = absurd (omega (arith, lt))
rising-left (x ∷ z ∷ xs) ys rises k lt = rising-cons x z xs (rises 0 (omega arith)) (rising-left (z ∷ xs) ys (rising-tail x (z ∷ (xs ++ ys)) rises)) k lt

-- ---- not falling

pub kept-push : (xs : List ℕ) (y : ℕ) → IsNonDecreasing xs → All (λ x. x ≤ y) xs → IsNonDecreasing (xs ++ y ∷ [])
kept-push xs y h below = IsNonDecreasingBy-push (λ x. x) xs y h (λ d some. below _ d (omega (arith, some)))

at-left : (xs ys : List ℕ) (i d : ℕ) → i < length xs → slice_index_or (xs ++ ys) i d ≡ slice_index_or xs i d
at-left [] ys i d lt = absurd (omega (arith, lt))
at-left (x ∷ xs) ys zero d lt = refl
at-left (x ∷ xs) ys (suc i) d lt = at-left xs ys i d (omega (arith, lt))

longer : (xs ys : List ℕ) (i : ℕ) → i < length xs → i < length (xs ++ ys)
longer [] ys i lt = absurd (omega (arith, lt))
longer (x ∷ xs) ys zero lt = omega arith
longer (x ∷ xs) ys (suc i) lt = let k = longer xs ys i (omega (arith, lt)) in omega (arith, k)

pub kept-left : (xs ys : List ℕ) → IsNonDecreasing (xs ++ ys) → IsNonDecreasing xs
kept-left xs ys h i j d le lt =
    let k = h i j d le (longer xs ys j lt) in
    let one = at-left xs ys i d (omega (arith, le, lt)) in
    let two = at-left xs ys j d lt in
    omega (arith, k, one, two)

-- ---- counted

counted-append : (n : ℕ) (xs ys : List ℕ) → AreCounted n xs → AreCounted (n + length xs) ys → AreCounted n (xs ++ ys)
counted-append n [] ys k l = subst (λ m. AreCounted m ys) (let e : n + length {A = ℕ} [] ≡ n = omega arith in e) l
counted-append n (x ∷ xs) ys k l = (k.0, counted-append (n + 1) xs ys k.1 (subst (λ m. AreCounted m ys) (let e : n + length (x ∷ xs) ≡ n + 1 + length xs = omega arith in e) l))

pub counted-on : (xs ys : List ℕ) → AreCounted 0 xs → AreCounted (length xs) ys → AreCounted 0 (xs ++ ys)
counted-on xs ys k l = counted-append 0 xs ys k (subst (λ n. AreCounted n ys) (let e : length xs ≡ 0 + length xs = omega arith in e) l)

pub counted-left : (n : ℕ) (xs ys : List ℕ) → AreCounted n (xs ++ ys) → AreCounted n xs
counted-left n [] ys k = tt
counted-left n (x ∷ xs) ys k = (k.0, counted-left (n + 1) xs ys k.1)

-- each number below the count of numbers is among them
counted-has : (n : ℕ) (xs : List ℕ) (m : ℕ) → AreCounted n xs → n ≤ m → m < n + length xs → Has m xs
counted-has n [] m k low high = absurd (omega (arith, low, high))
counted-has n (x ∷ xs) m k low high = elim (cases_lt n m) [
  | inl more ↦ inr (counted-has (n + 1) xs m k.1 (omega (arith, more)) (omega (arith, high)))
  | inr least ↦ inl (let e : x ≡ n = k.0 in omega (arith, low, least, e))
]

-- the next number that is below their count and one more, and not among them
pub counted-next : (xs : List ℕ) (m : ℕ) → AreCounted 0 xs → (Has m xs → ⊥) → m < length xs + 1 → m ≡ length xs
counted-next xs m k none high = elim (cases_lt m (length xs)) [
  | inl less ↦ absurd (none (counted-has 0 xs m k (omega arith) (omega (arith, less))))
  | inr least ↦ omega (arith, least, high)
]

-- ---- distinct

apart-push : (x : ℕ) (xs : List ℕ) (y : ℕ) → AllByRecursion (λ z. nat_eq x z ≡ false) xs → nat_eq x y ≡ false → AllByRecursion (λ z. nat_eq x z ≡ false) (xs ++ y ∷ [])
apart-push x [] y k off = (off, tt)
apart-push x (z ∷ xs) y k off = (k.0, apart-push x xs y k.1 off)

pub distinct-push : (xs : List ℕ) (y : ℕ) → IsDistinct nat_eq xs → ((x : ℕ) → Has x xs → nat_eq x y ≡ false) → IsDistinct nat_eq (xs ++ y ∷ [])
unfolding IsDistinct
distinct-push [] y k off = (tt, tt)
distinct-push (x ∷ xs) y k off = (apart-push x xs y k.0 (off x (inl refl)), distinct-push xs y k.1 (λ z i. off z (inr i)))

apart-left : (x : ℕ) (xs ys : List ℕ) → AllByRecursion (λ z. nat_eq x z ≡ false) (xs ++ ys) → AllByRecursion (λ z. nat_eq x z ≡ false) xs
apart-left x [] ys k = tt
apart-left x (z ∷ xs) ys k = (k.0, apart-left x xs ys k.1)

pub distinct-left : (xs ys : List ℕ) → IsDistinct nat_eq (xs ++ ys) → IsDistinct nat_eq xs
unfolding IsDistinct
distinct-left [] ys k = tt
distinct-left (x ∷ xs) ys k = (apart-left x xs ys k.0, distinct-left xs ys k.1)

pub distinct-none : IsDistinct nat_eq []
unfolding IsDistinct
distinct-none = tt

-- ---- what lines gather

module _ (one : Line → List ℕ) (all : List Line → List ℕ) (none : all [] ≡ []) (next : (l : Line) (ls : List Line) → all (l ∷ ls) ≡ one l ++ all ls) where
  pub gather-append : (xs ys : List Line) → all (xs ++ ys) ≡ all xs ++ all ys
  gather-append [] ys = ap (λ ns. ns ++ all ys) (sym none)
  gather-append (l ∷ xs) ys =
      next l (xs ++ ys) ∙ ap (λ ns. one l ++ ns) (gather-append xs ys) ∙ sym (append_assoc (one l) (all xs) (all ys)) ∙ ap (λ ns. ns ++ all ys) (sym (next l xs))

  pub gather-none : (ls : List Line) → ((l : Line) → Has l ls → one l ≡ []) → all ls ≡ []
  gather-none [] off = none
  gather-none (l ∷ ls) off = next l ls ∙ ap (λ ns. ns ++ all ls) (off l (inl refl)) ∙ gather-none ls (λ m i. off m (inr i))

  pub gather-has : (ls : List Line) (l : Line) (n : ℕ) → Has l ls → Has n (one l) → Has n (all ls)
  gather-has [] l n i j = absurd i
  gather-has (m ∷ ls) l n (inl same) j = subst (Has n) (sym (next m ls)) (has-left (one m) (all ls) n (subst (λ z. Has n (one z)) same j))
  gather-has (m ∷ ls) l n (inr i) j = subst (Has n) (sym (next m ls)) (has-right (one m) (all ls) n (gather-has ls l n i j))
