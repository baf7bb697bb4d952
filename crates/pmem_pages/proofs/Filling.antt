-- A block that is written part by part.
use Rattle.std.proofs.Common.{◌≡◌, ℕ, ◌+◌, ◌≤◌, List, [], ◌++◌, length, take, refl, sym, ap, ◌∙◌, arith, rules, append_assoc}
use borrow.Rule.Slice.PartMut.{put_mid}
use Rattle.std.proofs.lemmas.Slice.{take-put_mid}
use Rattle.std.proofs.lemmas.List.{places, take_all}

-- after a write behind a front, the front is longer by what was written
pub filled : (a k : ℕ) (xs ys front : List ℕ) (n : ℕ) → take a xs ≡ front → length ys ≡ k → a ≤ length xs → n ≡ a + k → take n (put_mid a k xs ys) ≡ front ++ ys
filled a k xs ys front n e l h m = take-put_mid a k xs ys n (m ∙ ap (λ j. a + j) (sym l)) h ∙ ap (λ f. f ++ ys) e

-- and the whole is as long as before
pub length_filled : (a k : ℕ) (xs ys : List ℕ) → length ys ≡ k → a + k ≤ length xs → length (put_mid a k xs ys) ≡ length xs
length_filled a k xs ys l h = search (rules, places)

-- six parts that fill a block
pub block_filled : (s head len left right key value : List ℕ) → length s ≡ 256 → length head ≡ 2 → length len ≡ 2 → length left ≡ 4 → length right ≡ 4 → length key ≡ 64 → length value ≡ 180 → put_mid 76 180 (put_mid 12 64 (put_mid 8 4 (put_mid 4 4 (put_mid 2 2 (put_mid 0 2 s head) len) left) right) key) value ≡ head ++ (len ++ (left ++ (right ++ (key ++ value))))
block_filled s head len left right key value ls lh ln ll lr lk lv =
    let s1 = put_mid 0 2 s head in
    let s2 = put_mid 2 2 s1 len in
    let s3 = put_mid 4 4 s2 left in
    let s4 = put_mid 8 4 s3 right in
    let s5 = put_mid 12 64 s4 key in
    let s6 = put_mid 76 180 s5 value in
    let n1 : length s1 ≡ 256 = length_filled 0 2 s head lh (omega arith) ∙ ls in
    let n2 : length s2 ≡ 256 = length_filled 2 2 s1 len ln (omega arith) ∙ n1 in
    let n3 : length s3 ≡ 256 = length_filled 4 4 s2 left ll (omega arith) ∙ n2 in
    let n4 : length s4 ≡ 256 = length_filled 8 4 s3 right lr (omega arith) ∙ n3 in
    let n5 : length s5 ≡ 256 = length_filled 12 64 s4 key lk (omega arith) ∙ n4 in
    let n6 : length s6 ≡ 256 = length_filled 76 180 s5 value lv (omega arith) ∙ n5 in
    let f1 : take 2 s1 ≡ head = filled 0 2 s head [] 2 refl lh (omega arith) refl in
    let f2 : take 4 s2 ≡ head ++ len = filled 2 2 s1 len _ 4 f1 ln (omega arith) refl in
    let f3 : take 8 s3 ≡ (head ++ len) ++ left = filled 4 4 s2 left _ 8 f2 ll (omega arith) refl in
    let f4 : take 12 s4 ≡ ((head ++ len) ++ left) ++ right = filled 8 4 s3 right _ 12 f3 lr (omega arith) refl in
    let f5 : take 76 s5 ≡ (((head ++ len) ++ left) ++ right) ++ key = filled 12 64 s4 key _ 76 f4 lk (omega arith) refl in
    let f6 : take 256 s6 ≡ ((((head ++ len) ++ left) ++ right) ++ key) ++ value = filled 76 180 s5 value _ 256 f5 lv (omega arith) refl in
    sym (take_all 256 s6 (omega arith)) ∙ (f6 ∙ simp append_assoc)
