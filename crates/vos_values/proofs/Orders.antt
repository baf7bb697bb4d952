-- Bytes of one number lie to those of another as the numbers do.
use Rattle.std.proofs.Common.{◌≡◌, ℕ, zero, suc, ◌/◌, ◌≤◌, ◌<◌, ◌^◌, List, [], ◌∷◌, ◌++◌, length, take, drop, refl, sym, ap, ◌∙◌, subst, arith, length-take-le}
use Rattle.std.proofs.lemmas.Bool.Decides.{nat_tests}
use Rattle.std.proofs.lemmas.Cmp.{ranked}
use Rattle.std.proofs.lemmas.List.{append-nil}
use Rattle.std.proofs.Math.Nat.{mod-lt}
use Rattle.std.specs.Int.{byte_at, bytes_high_first}
use Rattle.std.specs.Ordering.{MatchOrdering, nat_cmp, ordering_then}
use Rattle.std.specs.Cmp.Lexicographic.{slice_cmp}
use Rattle.std.specs.declared.cmp.Ordering.{Ordering}
use Rattle.std.specs.declared.cmp.Ordering.TheVariants.{Less, Equal, Greater}
use Rattle.byteorder.specs.Endian.{big_bytes, big_number, big_from}
use Rattle.byteorder.specs.Numbers.{big_from-lt, big_from-take, big_number-reads_back, length-bytes_high_first}
use Rattle.pmem_pages.proofs.Compared.{cmp_numbers, append_cmp, take_bytes}
use Rattle.vos_values.specs.Fields.{Fields, packed, numbers_of, AllFit, AreAlike, AreBytes}

byte_low : (n x : ℕ) → byte_at n x < 256
byte_low zero x = mod-lt x (omega arith)
byte_low (suc n) x = mod-lt (x / 256 ^ suc n) (omega arith)

-- bytes of a number are bytes
pub number_bytes : (n x : ℕ) → AreBytes (bytes_high_first n x)
number_bytes zero x i = omega arith
number_bytes (suc n) x zero = byte_low n x
number_bytes (suc n) x (suc i) = number_bytes n x i

pub drop_bytes : (n : ℕ) (bs : List ℕ) → AreBytes bs → AreBytes (drop n bs)
drop_bytes zero bs h i = h i
drop_bytes (suc n) [] h i = h i
drop_bytes (suc n) (b ∷ bs) h i = drop_bytes n bs (λ j. h (suc j)) i

number_again : (w x : ℕ) → x < 256 ^ w → big_from 0 w (bytes_high_first w x) ≡ x
number_again w x h = ap (big_from 0 w) (sym (append-nil (bytes_high_first w x))) ∙ big_number-reads_back w x [] h

-- ---- lists that are level are the same

level_numbers : (x y : ℕ) → nat_cmp x y ≡ Equal → x ≡ y
level_numbers x y h = subst (λ o. MatchOrdering o (x < y) (x ≡ y) (y < x)) h (ranked x y (nat_cmp x y) refl)

first_level : (o p : Ordering) → ordering_then o p ≡ Equal → o ≡ Equal
first_level Less p h = absurd (cc)
first_level Equal p h = refl
first_level Greater p h = absurd (cc)

then_level : (o p : Ordering) → ordering_then o p ≡ Equal → p ≡ Equal
then_level Less p h = absurd (cc)
then_level Equal p h = h
then_level Greater p h = absurd (cc)

level_lists : (xs ys : List ℕ) → slice_cmp nat_cmp xs ys ≡ Equal → xs ≡ ys
level_lists [] [] h = refl
level_lists [] (y ∷ ys) h = absurd (cc)
level_lists (x ∷ xs) [] h = absurd (cc)
level_lists (x ∷ xs) (y ∷ ys) h =
    let a = level_numbers x y (first_level (nat_cmp x y) (slice_cmp nat_cmp xs ys) h) in
    let b = level_lists xs ys (then_level (nat_cmp x y) (slice_cmp nat_cmp xs ys) h) in
    cc

nat_level : (x : ℕ) → nat_cmp x x ≡ Equal
nat_level x = grind (arith, nat_tests)

-- the bytes of the number in bytes are these
pub number_back : (n : ℕ) (xs : List ℕ) → AreBytes xs → n ≤ length xs → big_bytes n (big_number n xs) ≡ take n xs
number_back n xs h l =
    let x = big_from 0 n xs in
    let fits : x < 256 ^ n = big_from-lt 0 n xs h in
    let same : big_from 0 n (take n xs) ≡ x = big_from-take 0 n n xs (omega arith) in
    let c = cmp_numbers n (bytes_high_first n x) (take n xs) (length-bytes_high_first n x) (length-take-le n xs l) (number_bytes n x) (take_bytes n xs h) in
    level_lists (bytes_high_first n x) (take n xs) (c ∙ (ap (λ z. nat_cmp z (big_from 0 n (take n xs))) (number_again n x fits) ∙ (ap (nat_cmp x) same ∙ nat_level x)))

-- ---- fields

before_some : (w x : ℕ) (rest : List ℕ) → 0 < w → slice_cmp nat_cmp [] (bytes_high_first w x ++ rest) ≡ Less
before_some zero x rest h = absurd (omega arith)
before_some (suc w) x rest h = refl

after_none : (w x : ℕ) (rest : List ℕ) → 0 < w → slice_cmp nat_cmp (bytes_high_first w x ++ rest) [] ≡ Greater
after_none zero x rest h = absurd (omega arith)
after_none (suc w) x rest h = refl

pub packed_cmp : (fs gs : Fields) → AllFit fs → AllFit gs → AreAlike fs gs → slice_cmp nat_cmp (packed fs) (packed gs) ≡ slice_cmp nat_cmp (numbers_of fs) (numbers_of gs)
packed_cmp [] [] hf hg a = refl
packed_cmp [] (g ∷ gs) hf hg a = before_some g.0 g.1 (packed gs) hg.0
packed_cmp (f ∷ fs) [] hf hg a = after_none f.0 f.1 (packed fs) hf.0
packed_cmp (f ∷ fs) (g ∷ gs) hf hg a =
    let w = f.0 in
    let b : bytes_high_first g.0 g.1 ≡ bytes_high_first w g.1 = ap (λ j. bytes_high_first j g.1) (sym a.0) in
    let fits : g.1 < 256 ^ w = subst (λ j. g.1 < 256 ^ j) (sym a.0) hg.1 in
    let parts = append_cmp (bytes_high_first w f.1) (bytes_high_first w g.1) (packed fs) (packed gs) (length-bytes_high_first w f.1 ∙ sym (length-bytes_high_first w g.1)) in
    let first : slice_cmp nat_cmp (bytes_high_first w f.1) (bytes_high_first w g.1) ≡ nat_cmp f.1 g.1 =
    cmp_numbers w (bytes_high_first w f.1) (bytes_high_first w g.1) (length-bytes_high_first w f.1) (length-bytes_high_first w g.1) (number_bytes w f.1) (number_bytes w g.1)
    ∙ (ap (λ z. nat_cmp z (big_from 0 w (bytes_high_first w g.1))) (number_again w f.1 hf.1) ∙ ap (nat_cmp f.1) (number_again w g.1 fits)) in
    ap (λ z. slice_cmp nat_cmp (bytes_high_first w f.1 ++ packed fs) (z ++ packed gs)) b
    ∙ (parts ∙ (ap (λ o. ordering_then o (slice_cmp nat_cmp (packed fs) (packed gs))) first ∙ ap (ordering_then (nat_cmp f.1 g.1)) (packed_cmp fs gs hf.2 hg.2 a.1)))
