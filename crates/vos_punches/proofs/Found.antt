-- What stands in rows at a path, where its row was found, changed or added.
use Rattle.std.proofs.Common.{◌≡◌, ℕ, zero, suc, ◌+◌, ◌-◌, ◌++◌, nat_lt, not, cond, Bool, true, false, List, [], ◌∷◌, Option, Some, None, length, get_or, set, refl, sym, ap, ◌∙◌, subst, arith}
use Rattle.std.proofs.lemmas.Bool.Decides.{nat_tests}
use Rattle.std.specs.Prelude.{if◌then◌else◌, OnErr, Result, Ok, Err}
use Rattle.std.specs.List.{position, position_or_len}
use Rattle.base_types.specs.PathLaws.{same_path-Decides}
use Rattle.base_types.specs.Paths.{same_path}
use Rattle.base_types.specs.declared.path.Path.{Path}
use Rattle.vos_levels.specs.vos_values.declared.keys.Moment.{Moment}
use Rattle.vos_punches.specs.declared.bucket.Row.{Row}
use Rattle.vos_punches.specs.Rows.{in_rows, is_row_of}
use Rattle.vos_punches.specs.Moments.{with_moment, without_moment}

-- the first row of a path stands at a place
abbrev pub IsFirst : Path → List Row → ℕ → Type 0
IsFirst p [] n = ⊥
IsFirst p (r ∷ rs) zero = is_row_of p r ≡ true
IsFirst p (r ∷ rs) (suc n) = (is_row_of p r ≡ false) × IsFirst p rs n

some_inside : {A : Type 0} (x y : A) → Some x ≡ Some y → x ≡ y
some_inside x y h = cc

lt_both : (k l : ℕ) → nat_lt (1 + k) (suc l) ≡ nat_lt k l
lt_both k l = grind (arith, nat_tests)

zero_lt : (l : ℕ) → nat_lt 0 (suc l) ≡ true
zero_lt l = grind (arith, nat_tests)

first_found : (l n : ℕ) → cond (nat_lt 0 (suc l)) (Some 0) None ≡ Some n → 0 ≡ n
first_found l n f = some_inside 0 n (ap (λ (c : Bool). cond c (Some 0) None) (sym (zero_lt l)) ∙ f)

some_none : {A X : Type 0} (a : A) → Some a ≡ None → X
some_none a h = absurd (let z : ⊥ = cc in z)

never_none : {X : Type 0} (l : ℕ) → cond {A = Option ℕ} (nat_lt 0 (suc l)) (Some 0) None ≡ None → X
never_none l f = some_none {A = ℕ} 0 (ap (λ (c : Bool). cond {A = Option ℕ} c (Some 0) None) (sym (zero_lt l)) ∙ f)

pub first_of : (p : Path) (rs : List Row) (n : ℕ) → position (is_row_of p) rs ≡ Some n → IsFirst p rs n
first_of p [] n h = absurd (let z : ⊥ = cc in z)
first_of p (r ∷ rs) n h = by (is_row_of p r) refl n h (first_of p rs)
  where
    later : (b : Bool) (k n : ℕ) → nat_lt k (length rs) ≡ b → cond b (Some (1 + k)) None ≡ Some n → (cond b (Some k) None ≡ Some (n - 1)) × (n ≡ suc (n - 1))
    later true k n e f = let s : 1 + k ≡ n = some_inside _ _ f in (ap (λ z. Some z) (omega (arith, s)), omega (arith, s))
    later false k n e f = absurd (let z : ⊥ = cc in z)

    by : (b : Bool) → is_row_of p r ≡ b → (n : ℕ) → cond (nat_lt (cond (not b) (1 + position_or_len (is_row_of p) rs) 0) (suc (length rs))) (Some (cond (not b) (1 + position_or_len (is_row_of p) rs) 0)) None ≡ Some n
        → ((k : ℕ) → position (is_row_of p) rs ≡ Some k → IsFirst p rs k) → IsFirst p (r ∷ rs) n
    by true e n f next = let s = first_found (length rs) n f in subst (λ z. IsFirst p (r ∷ rs) z) s e
    by false e n f next =
        let q = later (nat_lt (position_or_len (is_row_of p) rs) (length rs)) (position_or_len (is_row_of p) rs) n refl (ap (λ (c : Bool). cond c (Some (1 + position_or_len (is_row_of p) rs)) None) (sym (lt_both (position_or_len (is_row_of p) rs) (length rs))) ∙ f) in
        subst (λ z. IsFirst p (r ∷ rs) z) (sym q.1) (e, next (n - 1) q.0)

pub none_of : (p : Path) (rs : List Row) → position (is_row_of p) rs ≡ None → in_rows rs p ≡ []
none_of p [] h = refl
none_of p (r ∷ rs) h = by (is_row_of p r) h (none_of p rs)
  where
    later : (b : Bool) (k : ℕ) → cond b (Some (1 + k)) None ≡ None → cond b (Some k) None ≡ None
    later true k f = absurd (let z : ⊥ = cc in z)
    later false k f = refl

    by : (b : Bool) → cond (nat_lt (cond (not b) (1 + position_or_len (is_row_of p) rs) 0) (suc (length rs))) (Some (cond (not b) (1 + position_or_len (is_row_of p) rs) 0)) None ≡ None → (position (is_row_of p) rs ≡ None → in_rows rs p ≡ []) → (if b then r.moments else in_rows rs p) ≡ []
    by true f next = never_none (length rs) f
    by false f next = next (later (nat_lt (position_or_len (is_row_of p) rs) (length rs)) (position_or_len (is_row_of p) rs) (ap (λ (c : Bool). cond c (Some (1 + position_or_len (is_row_of p) rs)) None) (sym (lt_both (position_or_len (is_row_of p) rs) (length rs))) ∙ f))

pub moments_of_first : (p : Path) (rs : List Row) (n : ℕ) (r : Row) → IsFirst p rs n → r ≡ get_or rs n r → in_rows rs p ≡ r.moments
moments_of_first p [] n r h e = absurd h
moments_of_first p (x ∷ rs) zero r h e = ap (λ (b : Bool). if b then x.moments else in_rows rs p) h ∙ ap (λ z. z.moments) (sym e)
moments_of_first p (x ∷ rs) (suc n) r h e = ap (λ (b : Bool). if b then x.moments else in_rows rs p) h.0 ∙ moments_of_first p rs n r h.1 e

-- rows are of one path where both are
same_row : (p q : Path) (r : Row) → is_row_of p r ≡ true → is_row_of q r ≡ same_path p q
same_row p q r h = ap (λ z. same_path z q) ((same_path-Decides r.path p).0 h)

clash : {X : Type 0} (b : Bool) → b ≡ true → b ≡ false → X
clash true h k = absurd (let n : ⊥ = cc in n)
clash false h k = absurd (let n : ⊥ = cc in n)

-- the first row of a path got other moments: at that path they stand, at all others what stood there
pub first_set : (p q : Path) (rs : List Row) (n : ℕ) (r s : Row) → IsFirst p rs n → r ≡ get_or rs n r → s.path ≡ r.path → in_rows (set rs n s) q ≡ (if same_path p q then s.moments else in_rows rs q)
first_set p q [] n r s h e f = absurd h
first_set p q (x ∷ rs) zero r s h e f =
    let at : is_row_of q s ≡ same_path p q = ap (λ z. same_path z q) (f ∙ ap (λ z. z.path) e) ∙ same_row p q x h in
    ap (λ (b : Bool). if b then s.moments else in_rows rs q) at
    ∙ by (same_path p q) (same_row p q x h)
  where
    by : (b : Bool) → is_row_of q x ≡ b → (if b then s.moments else in_rows rs q) ≡ (if b then s.moments else if is_row_of q x then x.moments else in_rows rs q)
    by true g = refl
    by false g = ap (λ (b : Bool). if b then x.moments else in_rows rs q) (sym g)
first_set p q (x ∷ rs) (suc n) r s h e f = by (is_row_of q x) (same_path p q) refl refl (first_set p q rs n r s h.1 e f)
  where
    by : (b c : Bool) → is_row_of q x ≡ b → same_path p q ≡ c → in_rows (set rs n s) q ≡ (if c then s.moments else in_rows rs q)
        → (if b then x.moments else in_rows (set rs n s) q) ≡ (if c then s.moments else if b then x.moments else in_rows rs q)
    by true true g k y = clash (is_row_of p x) (ap (is_is x) ((same_path-Decides p q).0 k) ∙ g) h.0
      where
        is_is : Row → Path → Bool
        is_is x z = is_row_of z x
    by true false g k y = refl
    by false true g k y = y
    by false false g k y = y

-- a row of a path that had none
pub row_pushed : (p q : Path) (rs : List Row) (s : Row) → s.path ≡ p → position (is_row_of p) rs ≡ None → in_rows (rs ++ s ∷ []) q ≡ (if same_path p q then s.moments else in_rows rs q)
row_pushed p q [] s f h = ap (λ z. if same_path z q then s.moments else []) f
row_pushed p q (x ∷ rs) s f h = by (is_row_of p x) refl h (row_pushed p q rs s f)
  where
    later : (b : Bool) (k : ℕ) → cond b (Some (1 + k)) None ≡ None → cond b (Some k) None ≡ None
    later true k f = absurd (let z : ⊥ = cc in z)
    later false k f = refl

    turn : (b c : Bool) → is_row_of q x ≡ b → same_path p q ≡ c → is_row_of p x ≡ false → in_rows (rs ++ s ∷ []) q ≡ (if c then s.moments else in_rows rs q)
        → (if b then x.moments else in_rows (rs ++ s ∷ []) q) ≡ (if c then s.moments else if b then x.moments else in_rows rs q)
    turn true true e1 e2 e3 r = clash (is_row_of p x) (ap (λ z. same_path x.path z) ((same_path-Decides p q).0 e2) ∙ e1) e3
    turn true false e1 e2 e3 r = refl
    turn false true e1 e2 e3 r = r
    turn false false e1 e2 e3 r = r

    by : (b : Bool) → is_row_of p x ≡ b → cond (nat_lt (cond (not b) (1 + position_or_len (is_row_of p) rs) 0) (suc (length rs))) (Some (cond (not b) (1 + position_or_len (is_row_of p) rs) 0)) None ≡ None
        → (position (is_row_of p) rs ≡ None → in_rows (rs ++ s ∷ []) q ≡ (if same_path p q then s.moments else in_rows rs q))
        → (if is_row_of q x then x.moments else in_rows (rs ++ s ∷ []) q) ≡ (if same_path p q then s.moments else if is_row_of q x then x.moments else in_rows rs q)
    by true e k next = never_none (length rs) k
    by false e k next =
        let gone = later (nat_lt (position_or_len (is_row_of p) rs) (length rs)) (position_or_len (is_row_of p) rs) (ap (λ (c : Bool). cond c (Some (1 + position_or_len (is_row_of p) rs)) None) (sym (lt_both (position_or_len (is_row_of p) rs) (length rs))) ∙ k) in
        turn (is_row_of q x) (same_path p q) refl refl e (next gone)

pub on_err_then : {T E P Q : Type 0} (r : Result T E) → (P → Q) → OnErr r P → OnErr r Q
on_err_then (Ok x) f h = h
on_err_then (Err e) f h = f h

-- a row found by the path has the moments that stand there
pub at_place : (p : Path) (rs : List Row) (n : ℕ) (r : Row) → position (is_row_of p) rs ≡ Some n → r ≡ get_or rs n r → in_rows rs p ≡ r.moments
at_place p rs n r h e = moments_of_first p rs n r (first_of p rs n h) e

at_same : (p q : Path) (change : List Moment → List Moment) (f : Path → List Moment) → (if same_path p q then change (f p) else f q) ≡ (if same_path p q then change (f q) else f q)
at_same p q change f = by (same_path p q) refl
  where
    by : (b : Bool) → same_path p q ≡ b → (if b then change (f p) else f q) ≡ (if b then change (f q) else f q)
    by true e = ap (λ z. change (f z)) ((same_path-Decides p q).0 e)
    by false e = refl

-- the moments of a path changed in its row
pub row_changed : (change : List Moment → List Moment) (p q : Path) (rs : List Row) (n : ℕ) (r s : Row) → position (is_row_of p) rs ≡ Some n → r ≡ get_or rs n r → s.path ≡ r.path → s.moments ≡ change r.moments
    → in_rows (set rs n s) q ≡ (if same_path p q then change (in_rows rs q) else in_rows rs q)
row_changed change p q rs n r s h e k l =
    first_set p q rs n r s (first_of p rs n h) e k
    ∙ (ap (λ z. if same_path p q then z else in_rows rs q) (l ∙ ap change (sym (at_place p rs n r h e)))
    ∙ at_same p q change (in_rows rs))

pub row_same : (p q : Path) (rs : List Row) (n : ℕ) (r s : Row) → position (is_row_of p) rs ≡ Some n → r ≡ get_or rs n r → s.path ≡ r.path → s.moments ≡ r.moments → in_rows (set rs n s) q ≡ in_rows rs q
row_same p q rs n r s h e k l = row_changed (λ z. z) p q rs n r s h e k l ∙ same (same_path p q)
  where
    same : (b : Bool) → (if b then in_rows rs q else in_rows rs q) ≡ in_rows rs q
    same true = refl
    same false = refl

-- where a path has no row, its first moment comes with one
pub row_added : (m : Moment) (p q : Path) (rs : List Row) (s : Row) → position (is_row_of p) rs ≡ None → s.path ≡ p → s.moments ≡ m ∷ [] → in_rows (rs ++ s ∷ []) q ≡ (if same_path p q then with_moment m (in_rows rs q) else in_rows rs q)
row_added m p q rs s h e k =
    row_pushed p q rs s e h
    ∙ (ap (λ z. if same_path p q then z else in_rows rs q) (k ∙ ap (with_moment m) (sym (none_of p rs h)))
    ∙ at_same p q (with_moment m) (in_rows rs))

-- and there is nothing to take out
pub row_absent : (m : Moment) (p q : Path) (rs : List Row) → position (is_row_of p) rs ≡ None → in_rows rs q ≡ (if same_path p q then without_moment m (in_rows rs q) else in_rows rs q)
row_absent m p q rs h =
    same (same_path p q)
    ∙ (ap (λ z. if same_path p q then z else in_rows rs q) (none_of p rs h ∙ ap (without_moment m) (sym (none_of p rs h)))
    ∙ at_same p q (without_moment m) (in_rows rs))
  where
    by : (b : Bool) → same_path p q ≡ b → in_rows rs q ≡ (if b then in_rows rs p else in_rows rs q)
    by true e = ap (in_rows rs) (sym ((same_path-Decides p q).0 e))
    by false e = refl

    same : (b : Bool) → in_rows rs q ≡ (if same_path p q then in_rows rs p else in_rows rs q)
    same b = by (same_path p q) refl
