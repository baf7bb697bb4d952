-- A log body that was written is read again.
use Rattle.std.proofs.Common.{◌≡◌, ℕ, suc, ◌+◌, ◌-◌, ◌*◌, ◌^◌, ◌≤◌, ◌<◌, true, false, cond, ◌&&◌, leb, List, [], ◌∷◌, ◌++◌, length, take, drop, get_or, Some, None, refl, sym, ap, ◌∙◌, arith, inl, inr, append_assoc, append-nil, subst}
use Rattle.std.proofs.lemmas.Bool.{cases_lt}
use Rattle.std.proofs.lemmas.Bool.Decides.{nat_tests}
use Rattle.std.proofs.lemmas.List.{length-append, take-append-le}
use Rattle.std.proofs.Math.Seq.{drop-append_seam, take-length}
use Rattle.byteorder.specs.Numbers.{big_number-reads_back, length-bytes_high_first}
use Rattle.base_outside.specs.Images.{Image, Range, bytes_at}
use Rattle.base_outside.specs.ImageLaws.{part_at, same_bytes_at}
use Rattle.pmem_undo.specs.Layout.{IsContent, are_content, log_place, log_end, most_ranges, most_bytes}
use Rattle.pmem_undo.specs.Log.{number_bytes, number_in, range_bytes, ranges_bytes, log_bytes, ranges_in, logged_count, logged_length, log_in}

pub length-number : (n : ℕ) → length (number_bytes n) ≡ 4
unfolding number_bytes
length-number n = length-bytes_high_first 4 n

pub number_read : (n : ℕ) (rest : List ℕ) → n < 2 ^ 32 → number_in (number_bytes n ++ rest) ≡ n
unfolding number_bytes number_in
number_read n rest small = big_number-reads_back 4 n rest small

-- a number that nothing follows
pub number_alone : (n : ℕ) → n < 2 ^ 32 → number_in (number_bytes n) ≡ n
number_alone n small = ap number_in (sym (append-nil (number_bytes n))) ∙ number_read n [] small

none_read : (size : ℕ) → ranges_in size 0 [] ≡ Some []
unfolding ranges_in
none_read size = refl

are-content : (size place n : ℕ) → IsContent size place n → are_content size place n ≡ true
are-content size place n c =
    let inside = c.inside in let outside = c.outside in grind (arith, nat_tests)

head_cut : (xs ys : List ℕ) (n : ℕ) → length xs ≡ n → take n (xs ++ ys) ≡ xs
head_cut xs ys n e =
    let fits : n ≤ length xs = omega arith in
    take-append-le n xs ys fits ∙ (ap (λ (k : ℕ). take k xs) (sym e) ∙ take-length xs)

tail_cut : (xs ys : List ℕ) (n : ℕ) → length xs ≡ n → drop n (xs ++ ys) ≡ ys
tail_cut xs ys n e = subst (λ (k : ℕ). drop k (xs ++ ys) ≡ ys) e (drop-append_seam xs ys)

-- one range is read where its numbers and its bytes stand at the front
range_read : (size n : ℕ) (whole bytes rest : List ℕ) (place : ℕ) (rs : List Range) → number_in whole ≡ place → number_in (drop 4 whole) ≡ length bytes → drop 8 whole ≡ bytes ++ rest → length whole ≡ 8 + (length bytes + length rest) → are_content size place (length bytes) ≡ true → ranges_in size n rest ≡ Some rs → ranges_in size (suc n) whole ≡ Some (record { place = place; bytes = bytes } ∷ rs)
unfolding ranges_in
range_read size n whole bytes rest place rs first second tail long content read =
    let header : leb 8 (length whole) ≡ true = grind (arith, nat_tests) in
    let room : leb (number_in (drop 4 whole)) (length whole - 8) ≡ true = grind (arith, nat_tests) in
    let kept : are_content size (number_in whole) (number_in (drop 4 whole)) ≡ true = rw (first, second) content in
    let part : take (number_in (drop 4 whole)) (drop 8 whole) ≡ bytes = rw (second, tail) (head_cut bytes rest (length bytes) refl) in
    let left : drop (number_in (drop 4 whole)) (drop 8 whole) ≡ rest = rw (second, tail) (tail_cut bytes rest (length bytes) refl) in
    rw (header, room, kept, part, left, read, first) refl

one_range : (size n : ℕ) (r : Range) (rs : List Range) (rest : List ℕ) → size ≤ 2 ^ 32 → length r.bytes < 2 ^ 32 → r.place < 2 ^ 32 → IsContent size r.place (length r.bytes) → ranges_in size n rest ≡ Some rs → ranges_in size (suc n) (range_bytes r ++ rest) ≡ Some (r ∷ rs)
unfolding range_bytes
one_range size n r rs rest small short low content read =
    let p = number_bytes r.place in
    let l = number_bytes (length r.bytes) in
    let whole = (p ++ (l ++ r.bytes)) ++ rest in
    let four = length-number r.place in
    let four' = length-number (length r.bytes) in
    let split : (p ++ (l ++ r.bytes)) ++ rest ≡ p ++ (l ++ (r.bytes ++ rest)) = append_assoc p (l ++ r.bytes) rest ∙ ap (λ (z : List ℕ). p ++ z) (append_assoc l r.bytes rest) in
    let split' : (p ++ (l ++ r.bytes)) ++ rest ≡ (p ++ l) ++ (r.bytes ++ rest) = split ∙ sym (append_assoc p l (r.bytes ++ rest)) in
    let first : number_in whole ≡ r.place = ap number_in split ∙ number_read r.place (l ++ (r.bytes ++ rest)) low in
    let behind : drop 4 whole ≡ l ++ (r.bytes ++ rest) = ap (λ (z : List ℕ). drop 4 z) split ∙ tail_cut p (l ++ (r.bytes ++ rest)) 4 four in
    let second : number_in (drop 4 whole) ≡ length r.bytes = ap number_in behind ∙ number_read (length r.bytes) (r.bytes ++ rest) short in
    let eight : length (p ++ l) ≡ 8 = length-append p l ∙ omega arith in
    let tail : drop 8 whole ≡ r.bytes ++ rest = ap (λ (z : List ℕ). drop 8 z) split' ∙ tail_cut (p ++ l) (r.bytes ++ rest) 8 eight in
    let long : length whole ≡ 8 + (length r.bytes + length rest) = ap (λ (z : List ℕ). length z) split' ∙ (length-append (p ++ l) (r.bytes ++ rest) ∙ omega (arith, eight, length-append r.bytes rest)) in
    range_read size n whole r.bytes rest r.place rs first second tail long (are-content size r.place (length r.bytes) content) read

-- the ranges that a log may have in a region of that size
pub record IsLogged (size : ℕ) (r : Range) : Type 0 where
  pub content : IsContent size r.place (length r.bytes)
  pub low : r.place < 2 ^ 32
  pub short : length r.bytes < 2 ^ 32

abbrev pub AreLogged : ℕ → List Range → Type 0
AreLogged size [] = Unit {0}
AreLogged size (r ∷ rs) = IsLogged size r × AreLogged size rs

ranges_read : (size : ℕ) (rs : List Range) → size ≤ 2 ^ 32 → AreLogged size rs → ranges_in size (length rs) (ranges_bytes rs) ≡ Some rs
ranges_read size [] small logged = none_read size
ranges_read size (r ∷ rs) small logged =
    one_range size (length rs) r rs (ranges_bytes rs) small logged.0.short logged.0.low logged.0.content (ranges_read size rs small logged.1)

body_read : (size : ℕ) (c : Image) (rs : List Range) → logged_count c ≡ length rs → logged_length c ≡ length (ranges_bytes rs) → bytes_at c (log_place + 8) (length (ranges_bytes rs)) ≡ ranges_bytes rs → length rs ≤ most_ranges → length (ranges_bytes rs) ≤ 8 * length rs + most_bytes → ranges_in size (length rs) (ranges_bytes rs) ≡ Some rs → log_in size c ≡ Some rs
unfolding log_in
body_read size c rs count long body few short read =
    let few' : leb (logged_count c) 1024 ≡ true = grind (arith, nat_tests) in
    let short' : leb (logged_length c) (8 * logged_count c + 256000) ≡ true = grind (arith, nat_tests) in
    rw (few', short', count, long, body, read) refl

-- Where an image has the bytes of a log, these ranges are read from it.
pub log_read : (size : ℕ) (c : Image) (rs : List Range) → size ≤ 2 ^ 32 → AreLogged size rs → length rs ≤ most_ranges → length (ranges_bytes rs) ≤ 8 * length rs + most_bytes → ((k : ℕ) → k < length (log_bytes rs) → c (log_place + k) ≡ get_or (log_bytes rs) k 0) → log_in size c ≡ Some rs
unfolding log_bytes logged_count logged_length
log_read size c rs small logged few short known =
    let n = number_bytes (length rs) in
    let l = number_bytes (length (ranges_bytes rs)) in
    let body = ranges_bytes rs in
    let four = length-number (length rs) in
    let four' = length-number (length (ranges_bytes rs)) in
    let long : length (n ++ (l ++ body)) ≡ 8 + length body = length-append n (l ++ body) ∙ omega (arith, length-append l body) in
    let first : bytes_at c log_place 4 ≡ n = part_at c log_place (n ++ (l ++ body)) known 0 4 (omega arith) ∙ head_cut n (l ++ body) 4 four in
    let behind : drop 4 (n ++ (l ++ body)) ≡ l ++ body = tail_cut n (l ++ body) 4 four in
    let second : bytes_at c (log_place + 4) 4 ≡ l = part_at c log_place (n ++ (l ++ body)) known 4 4 (omega arith) ∙ (ap (λ (z : List ℕ). take 4 z) behind ∙ head_cut l body 4 four') in
    let joined : n ++ (l ++ body) ≡ (n ++ l) ++ body = sym (append_assoc n l body) in
    let eight : length (n ++ l) ≡ 8 = length-append n l ∙ omega arith in
    let past : drop 8 (n ++ (l ++ body)) ≡ body = ap (λ (z : List ℕ). drop 8 z) joined ∙ tail_cut (n ++ l) body 8 eight in
    let third : bytes_at c (log_place + 8) (length body) ≡ body = part_at c log_place (n ++ (l ++ body)) known 8 (length body) (omega arith) ∙ (ap (λ (z : List ℕ). take (length body) z) past ∙ take-length body) in
    let count : number_in (bytes_at c log_place 4) ≡ length rs = ap number_in first ∙ number_alone (length rs) (omega arith) in
    let size_of : number_in (bytes_at c (log_place + 4) 4) ≡ length body = ap number_in second ∙ number_alone (length body) (omega arith) in
    body_read size c rs count size_of third few short (ranges_read size rs small logged)

same_ranges : (size count long : ℕ) (f c : Image) → ((i : ℕ) → log_place ≤ i → i < log_end → c i ≡ f i) →
    cond (leb count most_ranges && leb long (8 * count + most_bytes)) (ranges_in size count (bytes_at c (log_place + 8) long)) None
    ≡ cond (leb count most_ranges && leb long (8 * count + most_bytes)) (ranges_in size count (bytes_at f (log_place + 8) long)) None
same_ranges size count long f c same =
    elim (cases_lt 264192 long) [
      | inl far ↦ let no : leb count most_ranges && leb long (8 * count + most_bytes) ≡ false = grind (arith, nat_tests) in rw no refl
      | inr close ↦ let e = same_bytes_at f c (log_place + 8) long (λ i low high. same i (omega arith) (omega arith)) in rw e refl
    ]

-- the log of an image depends on the log body alone
pub same_log : (size : ℕ) (f c : Image) → ((i : ℕ) → log_place ≤ i → i < log_end → c i ≡ f i) → log_in size c ≡ log_in size f
unfolding log_in logged_count logged_length
same_log size f c same =
    let first = same_bytes_at f c log_place 4 (λ i low high. same i (omega arith) (omega arith)) in
    let second = same_bytes_at f c (log_place + 4) 4 (λ i low high. same i (omega arith) (omega arith)) in
    rw (first, second) (same_ranges size (number_in (bytes_at f log_place 4)) (number_in (bytes_at f (log_place + 4) 4)) f c same)
