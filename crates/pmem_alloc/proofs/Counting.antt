-- How many numbers of a set stand below a bound.
use Rattle.std.proofs.Common.{◌≡◌, ℕ, zero, suc, ◌+◌, ◌≤◌, ◌<◌, Bool, true, false, cond, eqb, refl, ap, ◌∙◌, arith, inl, inr, add-one}
use Rattle.std.proofs.lemmas.Bool.{cases_lt}
use Rattle.std.proofs.lemmas.Bool.Decides.{nat_tests}
use Rattle.pmem_alloc.specs.Sets.{Set, set_to, count_below}

pub count_more : (s : Set) (n : ℕ) → count_below s (n + 1) ≡ count_below s n + cond (s n) 1 0
unfolding count_below
count_more s n = rw add-one refl

pub count_zero : (s : Set) → count_below s 0 ≡ 0
unfolding count_below
count_zero s = refl

pub count_yes : (s : Set) (n count : ℕ) → count ≡ count_below s n → s n ≡ true → count + 1 ≡ count_below s (n + 1)
count_yes s n count so_far is = let e = count_more s n in let one : cond {A = ℕ} (s n) 1 0 ≡ 1 = ap (λ (t : Bool). cond {A = ℕ} t 1 0) is in omega (arith, e, one)

pub count_no : (s : Set) (n count : ℕ) → count ≡ count_below s n → s n ≡ false → count ≡ count_below s (n + 1)
count_no s n count so_far is = let e = count_more s n in let none : cond {A = ℕ} (s n) 1 0 ≡ 0 = ap (λ (t : Bool). cond {A = ℕ} t 1 0) is in omega (arith, e, none)

pub count_none : (s : Set) (n : ℕ) → ((q : ℕ) → q < n → s q ≡ false) → count_below s n ≡ 0
unfolding count_below
count_none s zero none = refl
count_none s (suc n) none =
    let here = none n (omega arith) in
    let rest = count_none s n (λ q below. none q (omega arith)) in
    rw (here, rest) refl

pub count_most : (s : Set) (n : ℕ) → count_below s n ≤ n
unfolding count_below
count_most s zero = omega arith
count_most s (suc n) =
    let rest = count_most s n in
    elim (s n) as (λ b. count_below s n + cond b 1 0 ≤ suc n) [ true ↦ omega arith | false ↦ omega arith ]

pub set_here : (s : Set) (b : ℕ) (is : Bool) → set_to s b is b ≡ is
unfolding set_to
set_here s b is = let e : eqb b b ≡ true = grind (arith, nat_tests) in rw e refl

pub set_other : (s : Set) (b q : ℕ) (is : Bool) → (q ≡ b → ⊥) → set_to s b is q ≡ s q
unfolding set_to
set_other s b q is ne = let e : eqb q b ≡ false = grind (arith, nat_tests) in rw e refl

count_same : (s : Set) (b n : ℕ) (is : Bool) → n ≤ b → count_below (set_to s b is) n ≡ count_below s n
unfolding count_below
count_same s b zero is le = refl
count_same s b (suc n) is le =
    let rest = count_same s b n is (omega arith) in
    let here = set_other s b n is (λ e. omega arith) in
    rw (rest, here) refl

abbrev as_number : Bool → ℕ
as_number t = cond t 1 0

-- one number put in that was not in it, or the other way round
pub count_set : (s : Set) (b n : ℕ) (is : Bool) → b < n → count_below (set_to s b is) n + as_number (s b) ≡ count_below s n + as_number is
unfolding count_below
count_set s b zero is low = absurd (omega arith)
count_set s b (suc n) is low =
    elim (cases_lt b n) [
      | inl below ↦
          let rest = count_set s b n is below in
          let here : as_number (set_to s b is n) ≡ as_number (s n) = ap as_number (set_other s b n is (λ e. omega arith)) in
          omega (arith, rest, here)
      | inr from ↦
          let at : n ≡ b = omega arith in
          let rest = count_same s b n is (omega arith) in
          let here : as_number (set_to s b is n) ≡ as_number is = ap (λ (q : ℕ). as_number (set_to s b is q)) at ∙ ap as_number (set_here s b is) in
          let there : as_number (s n) ≡ as_number (s b) = ap (λ (q : ℕ). as_number (s q)) at in
          omega (arith, rest, here, there)
    ]

pub count_out : (s : Set) (b n : ℕ) → b < n → s b ≡ true → count_below (set_to s b false) n + 1 ≡ count_below s n
count_out s b n low is = let e = count_set s b n false low in let one = ap as_number is in omega (arith, e, one)

pub count_in : (s : Set) (b n : ℕ) → b < n → s b ≡ false → count_below (set_to s b true) n ≡ count_below s n + 1
count_in s b n low is = let e = count_set s b n true low in let one = ap as_number is in omega (arith, e, one)
