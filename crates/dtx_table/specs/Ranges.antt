-- The targets one by one.
use Rattle.std.proofs.Common.{◌≡◌, ℕ, ◌+◌, ◌-◌, ◌<◌, ◌≤◌, suc, Bool, true, false, ◌&&◌, ◌||◌, List, [], ◌∷◌, ◌++◌, Option, Some, None, filter, find, refl, sym, ◌∙◌, ap, arith, append_assoc, append-nil}
use Rattle.std.specs.Prelude.{if◌then◌else◌}
use Rattle.std.specs.List.{list_all, list_any, range_with_len}

-- from one target on: that one, and those from the next on
pub from_one : (t n : ℕ) → t < n → range_with_len t (n - t) ≡ t ∷ range_with_len (t + 1) (n - (t + 1))
from_one t n within = let more : n - t ≡ suc (n - (t + 1)) = omega arith in rw more refl

-- from the last one on there is none
pub none_left : (t n : ℕ) → n ≤ t → range_with_len t (n - t) ≡ []
none_left t n past = let none : n - t ≡ 0 = omega arith in rw none refl

-- ---- those that pass a test

pub passes : (p : ℕ → Bool) (t n : ℕ) → t < n → p t ≡ true → filter p (range_with_len t (n - t)) ≡ t ∷ filter p (range_with_len (t + 1) (n - (t + 1)))
passes p t n within is =
    let rest = filter p (range_with_len (t + 1) (n - (t + 1))) in
    ap (filter p) (from_one t n within) ∙ ap (λ (b : Bool). if b then t ∷ rest else rest) is

pub fails : (p : ℕ → Bool) (t n : ℕ) → t < n → p t ≡ false → filter p (range_with_len t (n - t)) ≡ filter p (range_with_len (t + 1) (n - (t + 1)))
fails p t n within is =
    let rest = filter p (range_with_len (t + 1) (n - (t + 1))) in
    ap (filter p) (from_one t n within) ∙ ap (λ (b : Bool). if b then t ∷ rest else rest) is

pub pushed : (p : ℕ → Bool) (xs all : List ℕ) (t n : ℕ) → t < n → p t ≡ true → xs ++ filter p (range_with_len t (n - t)) ≡ all
    → (xs ++ t ∷ []) ++ filter p (range_with_len (t + 1) (n - (t + 1))) ≡ all
pushed p xs all t n within is so_far =
    append_assoc xs (t ∷ []) (filter p (range_with_len (t + 1) (n - (t + 1)))) ∙ ap (λ r. xs ++ r) (sym (passes p t n within is)) ∙ so_far

pub skipped : (p : ℕ → Bool) (xs all : List ℕ) (t n : ℕ) → t < n → p t ≡ false → xs ++ filter p (range_with_len t (n - t)) ≡ all
    → xs ++ filter p (range_with_len (t + 1) (n - (t + 1))) ≡ all
skipped p xs all t n within is so_far = ap (λ r. xs ++ r) (sym (fails p t n within is)) ∙ so_far

pub all_pushed : (p : ℕ → Bool) (xs all : List ℕ) (t n : ℕ) → n ≤ t → xs ++ filter p (range_with_len t (n - t)) ≡ all → xs ≡ all
all_pushed p xs all t n past so_far = sym (append-nil xs) ∙ ap (λ r. xs ++ filter p r) (sym (none_left t n past)) ∙ so_far

-- ---- another test of all that pass

pub holds_next : (p q : ℕ → Bool) (all : Bool) (t n : ℕ) → t < n → p t ≡ true → q t ≡ true → list_all q (filter p (range_with_len t (n - t))) ≡ all
    → list_all q (filter p (range_with_len (t + 1) (n - (t + 1)))) ≡ all
holds_next p q all t n within is holds so_far =
    let rest = list_all q (filter p (range_with_len (t + 1) (n - (t + 1)))) in
    sym (ap (λ b. b && rest) holds) ∙ sym (ap (list_all q) (passes p t n within is)) ∙ so_far

pub passed_next : (p q : ℕ → Bool) (all : Bool) (t n : ℕ) → t < n → p t ≡ false → list_all q (filter p (range_with_len t (n - t))) ≡ all
    → list_all q (filter p (range_with_len (t + 1) (n - (t + 1)))) ≡ all
passed_next p q all t n within is so_far = sym (ap (list_all q) (fails p t n within is)) ∙ so_far

pub one_fails : (p q : ℕ → Bool) (all : Bool) (t n : ℕ) → t < n → p t ≡ true → q t ≡ false → list_all q (filter p (range_with_len t (n - t))) ≡ all → false ≡ all
one_fails p q all t n within is lacks so_far =
    let rest = list_all q (filter p (range_with_len (t + 1) (n - (t + 1)))) in
    sym (ap (λ b. b && rest) lacks) ∙ sym (ap (list_all q) (passes p t n within is)) ∙ so_far

pub all_hold : (p q : ℕ → Bool) (all : Bool) (t n : ℕ) → n ≤ t → list_all q (filter p (range_with_len t (n - t))) ≡ all → true ≡ all
all_hold p q all t n past so_far = sym (ap (λ r. list_all q (filter p r)) (none_left t n past)) ∙ so_far

-- ---- the first that passes a test

pub found : (p : ℕ → Bool) (all : Option ℕ) (t n : ℕ) → t < n → p t ≡ true → find p (range_with_len t (n - t)) ≡ all → Some t ≡ all
found p all t n within is so_far =
    let rest = find p (range_with_len (t + 1) (n - (t + 1))) in
    sym (ap (λ (b : Bool). if b then Some t else rest) is) ∙ sym (ap (find p) (from_one t n within)) ∙ so_far

pub sought_next : (p : ℕ → Bool) (all : Option ℕ) (t n : ℕ) → t < n → p t ≡ false → find p (range_with_len t (n - t)) ≡ all
    → find p (range_with_len (t + 1) (n - (t + 1))) ≡ all
sought_next p all t n within is so_far =
    let rest = find p (range_with_len (t + 1) (n - (t + 1))) in
    sym (ap (λ (b : Bool). if b then Some t else rest) is) ∙ sym (ap (find p) (from_one t n within)) ∙ so_far

pub none_found : (p : ℕ → Bool) (all : Option ℕ) (t n : ℕ) → n ≤ t → find p (range_with_len t (n - t)) ≡ all → None ≡ all
none_found p all t n past so_far = sym (ap (find p) (none_left t n past)) ∙ so_far

-- ---- whether one passes a test

pub any_here : (p : ℕ → Bool) (all : Bool) (t n : ℕ) → t < n → p t ≡ true → list_any p (range_with_len t (n - t)) ≡ all → true ≡ all
any_here p all t n within is so_far =
    let rest = list_any p (range_with_len (t + 1) (n - (t + 1))) in
    sym (ap (λ b. b || rest) is) ∙ sym (ap (list_any p) (from_one t n within)) ∙ so_far

pub any_later : (p : ℕ → Bool) (all : Bool) (t n : ℕ) → t < n → p t ≡ false → list_any p (range_with_len t (n - t)) ≡ all
    → list_any p (range_with_len (t + 1) (n - (t + 1))) ≡ all
any_later p all t n within is so_far =
    let rest = list_any p (range_with_len (t + 1) (n - (t + 1))) in
    sym (ap (λ b. b || rest) is) ∙ sym (ap (list_any p) (from_one t n within)) ∙ so_far

pub none_anywhere : (p : ℕ → Bool) (all : Bool) (t n : ℕ) → n ≤ t → list_any p (range_with_len t (n - t)) ≡ all → false ≡ all
none_anywhere p all t n past so_far = sym (ap (list_any p) (none_left t n past)) ∙ so_far
