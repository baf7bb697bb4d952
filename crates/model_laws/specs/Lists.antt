-- Elements of lists and their places.
use Rattle.std.specs.Prelude.{ℕ, zero, suc, ◌≡◌, ◌<◌, ◌≤◌, ◌+◌, Bool, true, false, List, [], ◌∷◌, ◌++◌, length, take, drop, filter, replicate, slice_get, slice_index_or, All, Any, Contains, Some, if◌then◌else◌, refl}
use Rattle.std.specs.List.{list_all}
use Rattle.std.proofs.Common.{sym, ◌∙◌, ap, subst, arith, inl, inr, get_or}
use Rattle.std.proofs.Math.Seq.{drop-cons}
use Rattle.std.proofs.lemmas.Bool.{and_parts}
use Rattle.std.proofs.lemmas.List.{take_all, take_more}
use Rattle.std.proofs.lemmas.List.Elements.{All-append, All-cons, All-head, All-tail}
use Rattle.model_laws.specs.Members.{Has, contains-from_has, has-from_contains}

-- ---- places

-- something stands at each place within a list
pub at-within : {T : Type 0} (xs : List T) (n : ℕ) → n < length xs → (x : T) × (slice_get xs n ≡ Some x)
at-within [] n within = absurd (omega (arith, within))
at-within (x ∷ xs) zero within = (x, refl)
at-within (x ∷ xs) (suc n) within = at-within xs n (omega (arith, within))

-- and that is what indexing reads
pub at-index : {T : Type 0} (xs : List T) (n : ℕ) (x : T) → n < length xs → x ≡ slice_index_or xs n x → slice_get xs n ≡ Some x
at-index [] n x within is = absurd (omega (arith, within))
at-index (y ∷ ys) zero x within is = ap (λ z. Some z) (sym is)
at-index (y ∷ ys) (suc n) x within is = at-index ys n x (omega (arith, within)) is

-- a list is what stands before a place, what stands there, and what stands after it
pub cut-at : {T : Type 0} (xs : List T) (n : ℕ) (x : T) → slice_get xs n ≡ Some x → xs ≡ take n xs ++ x ∷ drop (suc n) xs
cut-at [] n x at = let no : ⊥ = cc in absurd no
cut-at (y ∷ ys) zero x at = let same : y ≡ x = cc in ap (λ z. z ∷ ys) same
cut-at (y ∷ ys) (suc n) x at = ap (λ zs. y ∷ zs) (cut-at ys n x at)

-- what stands at a place is among them, and what is among them stands at a place
pub has-at : {T : Type 0} (xs : List T) (n : ℕ) (x : T) → slice_get xs n ≡ Some x → Has x xs
has-at [] n x at = let no : ⊥ = cc in absurd no
has-at (y ∷ ys) zero x at = let same : y ≡ x = cc in inl (sym same)
has-at (y ∷ ys) (suc n) x at = inr (has-at ys n x at)

pub place-of : {T : Type 0} (xs : List T) (x : T) → Has x xs → (n : ℕ) × (slice_get xs n ≡ Some x)
place-of [] x i = absurd i
place-of (y ∷ xs) x (inl same) = (0, ap (λ z. Some z) (sym same))
place-of (y ∷ xs) x (inr j) = let k = place-of xs x j in (suc k.0, k.1)

-- so a list is what stands before one of its elements, that, and what stands after it
pub has-cut : {T : Type 0} (xs : List T) (x : T) → Has x xs → (before : List T) × (after : List T) × (xs ≡ before ++ x ∷ after)
has-cut xs x i = let k = place-of xs x i in (take k.0 xs, drop (suc k.0) xs, cut-at xs k.0 x k.1)

pub has-item : {T : Type 0} (xs : List T) (i : ℕ) (x : T) → i < length xs → x ≡ get_or xs i x → Has x xs
has-item [] i x lt is = absurd (omega (arith, lt))
has-item (y ∷ xs) zero x lt is = inl is
has-item (y ∷ xs) (suc i) x lt is = inr (has-item xs i x (omega (arith, lt)) is)

pub has-some : {T : Type 0} (xs : List T) (x : T) → Has x xs → 0 < length xs
has-some [] x i = absurd i
has-some (y ∷ xs) x i = omega arith

pub none-in : {T : Type 0} (xs : List T) (x : T) → xs ≡ [] → Contains xs x → ⊥
none-in xs x none i = has-from_contains [] x (subst (λ ys. Contains ys x) none i)

pub length-replicate : {T : Type 0} (n : ℕ) (x : T) → length (replicate n x) ≡ n
length-replicate zero x = refl
length-replicate (suc n) x = ap suc (length-replicate n x)

-- ---- what holds of all, and of one

pub all-at : {T : Type 0} (P : T → Type 0) (xs : List T) (n : ℕ) (x : T) → All P xs → slice_get xs n ≡ Some x → P x
all-at P [] n x all at = let no : ⊥ = cc in absurd no
all-at P (y ∷ ys) zero x all at = let same : y ≡ x = cc in subst P same (All-head P y ys all)
all-at P (y ∷ ys) (suc n) x all at = all-at P ys n x (All-tail P y ys all) at

pub all-one : {T : Type 0} (P : T → Type 0) (x : T) → P x → All P (x ∷ [])
all-one P x h = All-cons P x [] h (λ k y lt. absurd (omega arith))

pub any-of : {T : Type 0} (P : T → Type 0) (xs : List T) (x : T) → Has x xs → P x → Any P xs
any-of P xs x i p = let c = contains-from_has xs x i in (c.0, x, c.1, c.2, p)

pub any-all : {T : Type 0} (P Q : T → Type 0) (xs : List T) → All P xs → (i : Any Q xs) → P i.1
any-all P Q xs all i = subst P i.3 (all i.0 i.1 i.2)

-- ---- what passes a test

pub passes-at : {T : Type 0} (t : T → Bool) (xs : List T) (n : ℕ) (x : T) → list_all t xs ≡ true → slice_get xs n ≡ Some x → t x ≡ true
passes-at t [] n x all at = let no : ⊥ = cc in absurd no
passes-at t (y ∷ ys) zero x all at = let same : y ≡ x = cc in subst (λ z. t z ≡ true) same (and_parts (t y) (list_all t ys) all).0
passes-at t (y ∷ ys) (suc n) x all at = passes-at t ys n x (and_parts (t y) (list_all t ys) all).1 at

pub all-pass : {T : Type 0} (t : T → Bool) (xs : List T) → ((x : T) → Has x xs → t x ≡ true) → list_all t xs ≡ true
all-pass t [] all = refl
all-pass t (x ∷ xs) all = rw (all x (inl refl), all-pass t xs (λ y i. all y (inr i))) refl

pub filter-all : {T : Type 0} (t : T → Bool) (xs : List T) → ((x : T) → Has x xs → t x ≡ true) → filter t xs ≡ xs
filter-all t [] all = refl
filter-all t (x ∷ xs) all = rw (all x (inl refl)) (ap (λ ys. x ∷ ys) (filter-all t xs (λ y i. all y (inr i))))

-- a filter that drops one makes a list shorter
pub filter-shorter : {T : Type 0} (t : T → Bool) (xs : List T) (k : ℕ) (d : T) → k < length xs → t (slice_index_or xs k d) ≡ false → length (filter t xs) < length xs
filter-shorter t [] k d lt gone = absurd (omega arith)
filter-shorter t (x ∷ xs) zero d lt gone =
    subst (λ (b : Bool). length (if b then x ∷ filter t xs else filter t xs) < length (x ∷ xs)) (sym gone) (omega (arith, at_most t xs))
  where
    at_most : {T : Type 0} (t : T → Bool) (us : List T) → length (filter t us) ≤ length us
    at_most t [] = omega arith
    at_most t (u ∷ us) = elim (t u) as (λ b. length (if b then u ∷ filter t us else filter t us) ≤ length (u ∷ us)) [ true ↦ omega (arith, at_most t us) | false ↦ omega (arith, at_most t us) ]
filter-shorter t (x ∷ xs) (suc k) d lt gone =
    let less : length (filter t xs) < length xs = filter-shorter t xs k d (omega arith) gone in
    elim (t x) as (λ b. length (if b then x ∷ filter t xs else filter t xs) < length (x ∷ xs)) [ true ↦ omega arith | false ↦ omega arith ]

-- ---- walks along a list

pub drop-item : {T : Type 0} (xs : List T) (i : ℕ) (x : T) → i < length xs → x ≡ get_or xs i x → drop i xs ≡ x ∷ drop (i + 1) xs
drop-item xs i x lt is =
    let next : suc i ≡ i + 1 = omega arith in
    drop-cons xs i x lt ∙ ap (λ y. y ∷ drop (suc i) xs) (sym is) ∙ ap (λ n. x ∷ drop n xs) next

pub item-holds : {T : Type 0} (P : T → Type 0) (xs : List T) (i : ℕ) (x : T) → All P xs → i < length xs → x ≡ get_or xs i x → P x
item-holds P xs i x all lt is = subst P (sym is) (all i x lt)

pub all-more : {T : Type 0} (P : T → Type 0) (xs : List T) (i : ℕ) (x : T) → i < length xs → x ≡ get_or xs i x → All P (take i xs) → P x → All P (take (i + 1) xs)
all-more P xs i x lt is all p =
    subst (All P) (sym (take_more xs i x lt ∙ ap (λ y. take i xs ++ y ∷ []) (sym is))) (All-append P (take i xs) (x ∷ []) all (All-cons P x [] p (λ k d none. absurd (omega arith))))

pub all-taken : {T : Type 0} (P : T → Type 0) (xs : List T) (i : ℕ) → length xs ≤ i → All P (take i xs) → All P xs
all-taken P xs i le all = subst (All P) (take_all i xs le) all
