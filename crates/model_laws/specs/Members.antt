-- What stands in a list.
use Rattle.std.specs.Prelude.{zero, suc, ◌≡◌, ◌⊎◌, Bool, true, false, List, [], ◌∷◌, ◌++◌, ◌||◌, map, filter, Contains, if◌then◌else◌, refl}
use Rattle.std.specs.List.{list_any}
use Rattle.std.proofs.Common.{sym, ◌∙◌, ap, arith, inl, inr}

-- something stands in a list
abbrev pub Has : {T : Type 0} → T → List T → Type 0
Has x [] = ⊥
Has x (y ∷ ys) = (x ≡ y) ⊎ Has x ys

-- it is what `Contains` says
pub has-from_contains : {T : Type 0} (xs : List T) (x : T) → Contains xs x → Has x xs
has-from_contains [] x (k, lt, at) = absurd (omega arith)
has-from_contains (y ∷ xs) x (zero, lt, at) = inl (sym at)
has-from_contains (y ∷ xs) x (suc k, lt, at) = inr (has-from_contains xs x (k, omega arith, at))

pub contains-from_has : {T : Type 0} (xs : List T) (x : T) → Has x xs → Contains xs x
contains-from_has [] x h = absurd h
contains-from_has (y ∷ xs) x (inl e) = (0, omega arith, sym e)
contains-from_has (y ∷ xs) x (inr h) = let c = contains-from_has xs x h in (suc c.0, omega arith, c.2)

-- of those that pass a test
pub has-filter : {T : Type 0} (t : T → Bool) (xs : List T) (x : T) → Has x xs → t x ≡ true → Has x (filter t xs)
has-filter t [] x h e = h
has-filter t (y ∷ xs) x (inl same) e = rw (← same, e) (inl refl)
has-filter t (y ∷ xs) x (inr h) e =
    elim (t y) as (λ b. Has x (if b then y ∷ filter t xs else filter t xs)) [
      | true ↦ inr (has-filter t xs x h e)
      | false ↦ has-filter t xs x h e
    ]

pub has-from_filter : {T : Type 0} (t : T → Bool) (xs : List T) (x : T) → Has x (filter t xs) → Has x xs × (t x ≡ true)
has-from_filter t [] x h = absurd h
has-from_filter {T = T} t (y ∷ xs) x h = by (has-from_filter t xs x) (t y) refl h
  where
    by : (Has x (filter t xs) → Has x xs × (t x ≡ true)) → (b : Bool) → t y ≡ b → Has x (if b then y ∷ filter t xs else filter t xs) → Has x (y ∷ xs) × (t x ≡ true)
    by rest true e (inl same) = (inl same, ap t same ∙ e)
    by rest true e (inr k) = let r = rest k in (inr r.0, r.1)
    by rest false e k = let r = rest k in (inr r.0, r.1)

-- of what a function makes of each
pub has-map : {T U : Type 0} (f : T → U) (xs : List T) (x : T) → Has x xs → Has (f x) (map f xs)
has-map f [] x h = absurd h
has-map f (y ∷ xs) x (inl same) = inl (ap f same)
has-map f (y ∷ xs) x (inr h) = inr (has-map f xs x h)

pub has-from_map : {T U : Type 0} (f : T → U) (xs : List T) (u : U) → Has u (map f xs) → (x : T) × Has x xs × (f x ≡ u)
has-from_map f [] u h = absurd h
has-from_map f (y ∷ xs) u (inl same) = (y, inl refl, sym same)
has-from_map f (y ∷ xs) u (inr h) = let r = has-from_map f xs u h in (r.0, inr r.1, r.2)

-- of two lists one after the other
pub has-left : {T : Type 0} (xs ys : List T) (x : T) → Has x xs → Has x (xs ++ ys)
has-left [] ys x h = absurd h
has-left (y ∷ xs) ys x (inl same) = inl same
has-left (y ∷ xs) ys x (inr h) = inr (has-left xs ys x h)

pub has-right : {T : Type 0} (xs ys : List T) (x : T) → Has x ys → Has x (xs ++ ys)
has-right [] ys x h = h
has-right (y ∷ xs) ys x h = inr (has-right xs ys x h)

pub has-cases : {T : Type 0} (xs ys : List T) (x : T) → Has x (xs ++ ys) → Has x xs ⊎ Has x ys
has-cases [] ys x h = inr h
has-cases (y ∷ xs) ys x (inl same) = inl (inl same)
has-cases (y ∷ xs) ys x (inr h) = elim (has-cases xs ys x h) [ inl k ↦ inl (inr k) | inr k ↦ inr k ]

-- whether one of them passes a test
pub any-has : {T : Type 0} (t : T → Bool) (xs : List T) (x : T) → Has x xs → t x ≡ true → list_any t xs ≡ true
any-has t [] x i e = absurd i
any-has t (y ∷ xs) x (inl same) e = ap (λ b. b || list_any t xs) (ap t (sym same) ∙ e)
any-has t (y ∷ xs) x (inr i) e = or_true (t y) (list_any t xs) (any-has t xs x i e)
  where
    or_true : (a b : Bool) → b ≡ true → (a || b) ≡ true
    or_true true b e = refl
    or_true false b e = e

pub has-any : {T : Type 0} (t : T → Bool) (xs : List T) → list_any t xs ≡ true → (x : T) × Has x xs × (t x ≡ true)
has-any t [] e = absurd (let n : ⊥ = cc in n)
has-any {T = T} t (y ∷ xs) e = by (λ h. has-any t xs h) (t y) refl e
  where
    by : (list_any t xs ≡ true → (x : T) × Has x xs × (t x ≡ true)) → (b : Bool) → t y ≡ b → (b || list_any t xs) ≡ true → (x : T) × Has x (y ∷ xs) × (t x ≡ true)
    by rest true at e = (y, inl refl, at)
    by rest false at e = let r = rest e in (r.0, inr r.1, r.2)
