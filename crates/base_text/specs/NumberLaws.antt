-- A word spells a number exactly where it is what that number is written as.
use Rattle.std.proofs.Common.{◌≡◌, ℕ, ◌+◌, ◌-◌, ◌*◌, ◌^◌, ◌<◌, ◌≤◌, Bool, true, false, cond, ◌&&◌, leb, List, [], ◌∷◌, length, get_or, Option, Some, None, refl, sym, ap, ◌∙◌, arith, rules, inl, inr, ◌⊎◌}
use Rattle.std.specs.Option.{option_and_then}
use Rattle.std.specs.Fmt.{decimal}
use Rattle.std.specs.Str.{all_ascii_digits}
use Rattle.std.proofs.lemmas.Bool.{cases_lt}
use Rattle.std.proofs.lemmas.Bool.Decides.{nat_tests}
use Rattle.std.proofs.lemmas.Str.Parse.{IsNumeralModel, numerals_by_fold}
use Rattle.std.proofs.lemmas.Fmt.{decimal_digit, decimal_nonempty, first_decimal, digits_decimal, digits_value-decimal, decimal-digits_value}
use Rattle.base_text.specs.Number.{is_digit, number_from, is_canonical, number_in, NumbersAreDecimals}

-- the number after n and these digits, however large
abbrev value_after : ℕ → List ℕ → ℕ
value_after n [] = n
value_after n (c ∷ cs) = value_after (n * 10 + (c - 48)) cs

digits_model : IsNumeralModel (λ ds. all_ascii_digits ds ≡ true) (value_after 0)
digits_model = numerals_by_fold _ (search rules) value_after (search rules)

-- a test that was passed
tested : {A B : Type 0} (b : Bool) (x : A) (f : A → Option B) (y : B) → option_and_then f (cond b (Some x) None) ≡ Some y → (b ≡ true) × (f x ≡ Some y)
tested true x f y e = (refl, e)
tested false x f y e = absurd cc

chosen : {A : Type 0} (b : Bool) (x : Option A) (y : A) → cond b x None ≡ Some y → (b ≡ true) × (x ≡ Some y)
chosen true x y e = (refl, e)
chosen false x y e = absurd cc

step_spelled : (most n c : ℕ) → (is_digit c && leb (n * 10 + (c - 48)) most) ≡ true → (48 ≤ c) × (c ≤ 57) × (n * 10 + (c - 48) ≤ most)
step_spelled most n c e = (grind (arith, nat_tests), grind (arith, nat_tests), grind (arith, nat_tests))

digit_more : (c : ℕ) (cs : List ℕ) → 48 ≤ c → c ≤ 57 → all_ascii_digits cs ≡ true → all_ascii_digits (c ∷ cs) ≡ true
digit_more c cs lo hi e = grind (arith, nat_tests)

spelled_from : (most n m : ℕ) (w : List ℕ) → n ≤ most → number_from most n w ≡ Some m → (all_ascii_digits w ≡ true) × (value_after n w ≡ m) × (m ≤ most)
spelled_from most n m [] le e = let same : n ≡ m = cc in (refl, same, omega arith)
spelled_from most n m (c ∷ cs) le e =
    let g = tested (is_digit c && leb (n * 10 + (c - 48)) most) (n * 10 + (c - 48)) (λ k. number_from most k cs) m e in
    let s = step_spelled most n c g.0 in
    let rest = spelled_from most (n * 10 + (c - 48)) m cs s.2 g.1 in
    (digit_more c cs s.0 s.1 rest.0, rest.1, rest.2)

grows : (n : ℕ) (w : List ℕ) → n ≤ value_after n w
grows n [] = omega arith
grows n (c ∷ cs) = omega (arith, grows (n * 10 + (c - 48)) cs)

digit_parts : (c : ℕ) (cs : List ℕ) → all_ascii_digits (c ∷ cs) ≡ true → (48 ≤ c) × (c ≤ 57) × (all_ascii_digits cs ≡ true)
digit_parts c cs e = (grind (arith, nat_tests), grind (arith, nat_tests), grind (arith, nat_tests))

step_read : (most n c : ℕ) → 48 ≤ c → c ≤ 57 → n * 10 + (c - 48) ≤ most → (is_digit c && leb (n * 10 + (c - 48)) most) ≡ true
step_read most n c lo hi le = grind (arith, nat_tests)

read_from : (most n : ℕ) (w : List ℕ) → all_ascii_digits w ≡ true → value_after n w ≤ most → number_from most n w ≡ Some (value_after n w)
read_from most n [] e le = refl
read_from most n (c ∷ cs) e le =
    let p = digit_parts c cs e in
    rw (step_read most n c p.0 p.1 (omega (arith, grows (n * 10 + (c - 48)) cs))) (read_from most (n * 10 + (c - 48)) cs p.2 le)

begins_spelled : (w : List ℕ) → is_canonical w ≡ true → (0 < length w) × (get_or w 0 0 ≡ 48 → length w ≡ 1)
begins_spelled w e = (grind (arith, nat_tests), grind (arith, nat_tests))

begins_from : (w : List ℕ) → 0 < length w → (length w ≡ 1) ⊎ (48 < get_or w 0 0) → is_canonical w ≡ true
begins_from w some (inl one) = grind (arith, nat_tests)
begins_from w some (inr high) = grind (arith, nat_tests)

decimal_begins : (n : ℕ) → n < 2 ^ 64 → is_canonical (decimal n) ≡ true
decimal_begins n lt =
    elim (cases_lt 0 n) [
      | inl pos ↦ begins_from (decimal n) (decimal_nonempty n lt) (inr (first_decimal n pos lt))
      | inr le ↦ begins_from (decimal n) (decimal_nonempty n lt) (inl (ap length (decimal_digit n (omega arith))))
    ]

within : (lo n : ℕ) (o : Option ℕ) → option_and_then (λ (m : ℕ). cond (leb lo m) (Some m) None) o ≡ Some n → (o ≡ Some n) × (lo ≤ n)
within lo n None e = absurd cc
within lo n (Some m) e = let c = chosen (leb lo m) (Some m) n e in (c.1, grind (arith, nat_tests))

is_spelled : (lo hi n : ℕ) (w : List ℕ) → hi < 2 ^ 64 → number_in lo hi w ≡ Some n → (w ≡ decimal n) × (lo ≤ n) × (n ≤ hi)
unfolding number_in
is_spelled lo hi n w small e =
    let g = chosen (is_canonical w) (option_and_then (λ (m : ℕ). cond (leb lo m) (Some m) None) (number_from hi 0 w)) n e in
    let b = begins_spelled w g.0 in
    let v = within lo n (number_from hi 0 w) g.1 in
    let s = spelled_from hi 0 n w (omega arith) v.0 in
    (sym (decimal-digits_value digits_model w s.0 b.0 b.1 (omega arith)) ∙ ap decimal s.1, v.1, s.2)

is_read : (lo hi n : ℕ) → hi < 2 ^ 64 → lo ≤ n → n ≤ hi → number_in lo hi (decimal n) ≡ Some n
unfolding number_in
is_read lo hi n small le ge =
    let v = digits_value-decimal digits_model n (omega arith) in
    let r : number_from hi 0 (decimal n) ≡ Some n = read_from hi 0 (decimal n) (digits_decimal digits_model n (omega arith)) (omega arith) ∙ ap Some v in
    let t : leb lo n ≡ true = grind (arith, nat_tests) in
    rw (decimal_begins n (omega arith), r, t) refl

pub numbers_are_decimals : NumbersAreDecimals
numbers_are_decimals = record { spelled = is_spelled; read = is_read }
