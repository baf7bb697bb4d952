-- A block that is written part by part.
use Rattle.std.proofs.Common.{◌≡◌, ℕ, ◌+◌, ◌≤◌, List, [], ◌++◌, length, take, refl, sym, ap, ◌∙◌, arith, rules, append_assoc}
use borrow.Rule.Slice.PartMut.{put_mid}
use Rattle.std.proofs.lemmas.Slice.{take-put_mid}
use Rattle.std.proofs.lemmas.List.{places, take_all}

-- after a write behind a front, the front is longer by what was written
filled : (a k : ℕ) (xs ys front : List ℕ) (n : ℕ) → take a xs ≡ front → length ys ≡ k → a ≤ length xs → n ≡ a + k → take n (put_mid a k xs ys) ≡ front ++ ys
filled a k xs ys front n e l h m = take-put_mid a k xs ys n (m ∙ ap (λ j. a + j) (sym l)) h ∙ ap (λ f. f ++ ys) e

-- and the whole is as long as before
length_filled : (a k : ℕ) (xs ys : List ℕ) → length ys ≡ k → a + k ≤ length xs → length (put_mid a k xs ys) ≡ length xs
length_filled a k xs ys l h = search (rules, places)

pub link_filled : (s head next tail : List ℕ) → length s ≡ 256 → length head ≡ 4 → length next ≡ 4 → length tail ≡ 248 → put_mid 8 248 (put_mid 4 4 (put_mid 0 4 s head) next) tail ≡ head ++ (next ++ tail)
link_filled s head next tail ls lh ln lt =
    let s1 = put_mid 0 4 s head in
    let s2 = put_mid 4 4 s1 next in
    let s3 = put_mid 8 248 s2 tail in
    let n1 : length s1 ≡ 256 = length_filled 0 4 s head lh (omega arith) ∙ ls in
    let n2 : length s2 ≡ 256 = length_filled 4 4 s1 next ln (omega arith) ∙ n1 in
    let n3 : length s3 ≡ 256 = length_filled 8 248 s2 tail lt (omega arith) ∙ n2 in
    let f1 : take 4 s1 ≡ head = filled 0 4 s head [] 4 refl lh (omega arith) refl in
    let f2 : take 8 s2 ≡ head ++ next = filled 4 4 s1 next _ 8 f1 ln (omega arith) refl in
    let f3 : take 256 s3 ≡ (head ++ next) ++ tail = filled 8 248 s2 tail _ 256 f2 lt (omega arith) refl in
    sym (take_all 256 s3 (omega arith)) ∙ (f3 ∙ append_assoc head next tail)
