-- Lists of bytes lie to each other as the numbers that they say.
use Rattle.std.proofs.Common.{◌≡◌, ℕ, zero, suc, ◌+◌, ◌*◌, ◌≤◌, ◌<◌, ◌^◌, List, [], ◌∷◌, ◌++◌, length, take, drop, get_or, refl, sym, ap, ◌∙◌, arith, inl, inr, length-take-le}
use Rattle.std.proofs.lemmas.Bool.{cases_lt}
use Rattle.std.proofs.lemmas.Bool.Decides.{nat_tests}
use Rattle.std.proofs.lemmas.List.{take-append-drop}
use Rattle.std.proofs.Math.Nat.{mul-le-mul_right}
use Rattle.std.specs.Ordering.{nat_cmp, ordering_then}
use Rattle.std.specs.Cmp.Lexicographic.{slice_cmp}
use Rattle.std.specs.declared.cmp.Ordering.{Ordering}
use Rattle.std.specs.declared.cmp.Ordering.TheVariants.{Less, Equal, Greater}
use Rattle.byteorder.specs.Endian.{big_from, big_number}
use Rattle.byteorder.specs.Numbers.{big_from-cons, big_from-lt, big_from-take}

-- numbers of two digits, the high one first
pub digits_cmp : (p x y a b : ℕ) → a < p → b < p → nat_cmp (x * p + a) (y * p + b) ≡ ordering_then (nat_cmp x y) (nat_cmp a b)
digits_cmp p x y a b ha hb =
    elim (cases_lt x y) [
      | inl less ↦ let k : (x + 1) * p ≤ y * p = mul-le-mul_right p (omega arith) in let e : (x + 1) * p ≡ x * p + p = omega arith in grind (arith, nat_tests)
      | inr other ↦ elim (cases_lt y x) [
        | inl more ↦ let k : (y + 1) * p ≤ x * p = mul-le-mul_right p (omega arith) in let e : (y + 1) * p ≡ y * p + p = omega arith in grind (arith, nat_tests)
        | inr same ↦ let e : x ≡ y = omega arith in rw e (grind (arith, nat_tests))
      ]
    ]

-- lists of bytes of one length
pub cmp_numbers : (n : ℕ) (xs ys : List ℕ) → length xs ≡ n → length ys ≡ n → ((i : ℕ) → get_or xs i 0 < 256) → ((i : ℕ) → get_or ys i 0 < 256) → slice_cmp nat_cmp xs ys ≡ nat_cmp (big_from 0 n xs) (big_from 0 n ys)
cmp_numbers zero [] [] lx ly hx hy = refl
cmp_numbers zero (x ∷ xs) ys lx ly hx hy = absurd (omega arith)
cmp_numbers zero [] (y ∷ ys) lx ly hx hy = absurd (omega arith)
cmp_numbers (suc n) [] ys lx ly hx hy = absurd (omega arith)
cmp_numbers (suc n) (x ∷ xs) [] lx ly hx hy = absurd (omega arith)
cmp_numbers (suc n) (x ∷ xs) (y ∷ ys) lx ly hx hy =
    let a = big_from-lt 0 n xs (λ i. hx (suc i)) in
    let b = big_from-lt 0 n ys (λ i. hy (suc i)) in
    let rest = cmp_numbers n xs ys (omega arith) (omega arith) (λ i. hx (suc i)) (λ i. hy (suc i)) in
    rw (big_from-cons 0 n x xs, big_from-cons 0 n y ys, rest) (sym (digits_cmp (256 ^ n) x y (big_from 0 n xs) (big_from 0 n ys) a b))

-- behind fronts of one length
pub append_cmp : (xs ys us vs : List ℕ) → length xs ≡ length ys → slice_cmp nat_cmp (xs ++ us) (ys ++ vs) ≡ ordering_then (slice_cmp nat_cmp xs ys) (slice_cmp nat_cmp us vs)
append_cmp [] [] us vs l = refl
append_cmp [] (y ∷ ys) us vs l = absurd (omega arith)
append_cmp (x ∷ xs) [] us vs l = absurd (omega arith)
append_cmp (x ∷ xs) (y ∷ ys) us vs l = ap (ordering_then (nat_cmp x y)) (append_cmp xs ys us vs (omega arith)) ∙ sym (then_assoc (nat_cmp x y) (slice_cmp nat_cmp xs ys) (slice_cmp nat_cmp us vs))
  where
    then_assoc : (o p q : Ordering) → ordering_then (ordering_then o p) q ≡ ordering_then o (ordering_then p q)
    then_assoc Less p q = refl
    then_assoc Equal p q = refl
    then_assoc Greater p q = refl

-- the first bytes of bytes are bytes
pub take_bytes : (n : ℕ) (bs : List ℕ) → ((i : ℕ) → get_or bs i 0 < 256) → (i : ℕ) → get_or (take n bs) i 0 < 256
take_bytes zero bs h i = omega arith
take_bytes (suc n) [] h i = h i
take_bytes (suc n) (b ∷ bs) h zero = h zero
take_bytes (suc n) (b ∷ bs) h (suc i) = take_bytes n bs (λ j. h (suc j)) i

-- the first n bytes of two lists lie to each other as the numbers that they say
pub heads_cmp : (n : ℕ) (xs ys : List ℕ) → n ≤ length xs → n ≤ length ys → ((i : ℕ) → get_or xs i 0 < 256) → ((i : ℕ) → get_or ys i 0 < 256) → slice_cmp nat_cmp (take n xs) (take n ys) ≡ nat_cmp (big_number n xs) (big_number n ys)
heads_cmp n xs ys lx ly hx hy =
    let a : big_from 0 n (take n xs) ≡ big_number n xs = big_from-take 0 n n xs (omega arith) in
    let b : big_from 0 n (take n ys) ≡ big_number n ys = big_from-take 0 n n ys (omega arith) in
    cmp_numbers n (take n xs) (take n ys) (length-take-le n xs lx) (length-take-le n ys ly) (take_bytes n xs hx) (take_bytes n ys hy) ∙ (ap (λ z. nat_cmp z (big_from 0 n (take n ys))) a ∙ ap (nat_cmp (big_number n xs)) b)

-- the first n of the first m are the first n
pub take_of_take : (n m : ℕ) (xs : List ℕ) → n ≤ m → take n (take m xs) ≡ take n xs
take_of_take zero m xs h = refl
take_of_take (suc n) zero xs h = absurd (omega arith)
take_of_take (suc n) (suc m) [] h = refl
take_of_take (suc n) (suc m) (x ∷ xs) h = ap (λ z. x ∷ z) (take_of_take n m xs (omega arith))

-- the first m of two lists lie to each other as their first n, and those behind them
pub takes_cmp : (n i j : ℕ) (xs ys : List ℕ) → n ≤ i → n ≤ j → n ≤ length xs → n ≤ length ys → slice_cmp nat_cmp (take i xs) (take j ys) ≡ ordering_then (slice_cmp nat_cmp (take n xs) (take n ys)) (slice_cmp nat_cmp (drop n (take i xs)) (drop n (take j ys)))
takes_cmp n i j xs ys hi hj lx ly =
    let a : take n (take i xs) ≡ take n xs = take_of_take n i xs hi in
    let b : take n (take j ys) ≡ take n ys = take_of_take n j ys hj in
    let x : take n xs ++ drop n (take i xs) ≡ take i xs = ap (λ z. z ++ drop n (take i xs)) (sym a) ∙ take-append-drop n (take i xs) in
    let y : take n ys ++ drop n (take j ys) ≡ take j ys = ap (λ z. z ++ drop n (take j ys)) (sym b) ∙ take-append-drop n (take j ys) in
    let w = append_cmp (take n xs) (take n ys) (drop n (take i xs)) (drop n (take j ys)) (length-take-le n xs lx ∙ sym (length-take-le n ys ly)) in
    ap (λ z. slice_cmp nat_cmp z (take j ys)) (sym x) ∙ (ap (slice_cmp nat_cmp (take n xs ++ drop n (take i xs))) (sym y) ∙ w)

-- where the first n differ, they decide
pub decided : (n i j : ℕ) (xs ys : List ℕ) (o : Ordering) → ((p : Ordering) → ordering_then o p ≡ o) → slice_cmp nat_cmp (take n xs) (take n ys) ≡ o → n ≤ i → n ≤ j → n ≤ length xs → n ≤ length ys → o ≡ slice_cmp nat_cmp (take i xs) (take j ys)
decided n i j xs ys o first is hi hj lx ly =
    let rest = slice_cmp nat_cmp (drop n (take i xs)) (drop n (take j ys)) in
    sym (first rest) ∙ (ap (λ z. ordering_then z rest) (sym is) ∙ sym (takes_cmp n i j xs ys hi hj lx ly))
