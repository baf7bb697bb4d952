-- Blocks of chains are read back exactly.
use Rattle.std.proofs.Common.{◌≡◌, ℕ, zero, suc, ◌+◌, ◌-◌, ◌<◌, ◌≤◌, ◌^◌, ◌==◌, ◌&&◌, true, List, [], ◌∷◌, ◌++◌, Some, length, take, drop, replicate, slice_index, refl, sym, ap, ◌∙◌, arith, length-drop}
use Rattle.std.specs.List.{list_all}
use Rattle.std.proofs.lemmas.List.{drop-drop, drop_at, take-append-drop, take_at}
use Rattle.byteorder.specs.Endian.{big_bytes, big_number}
use Rattle.byteorder.specs.Numbers.{big_number-reads_back, length-bytes_high_first}
use Rattle.pmem_pages.specs.Node.{ZeroFrom}
use Rattle.vos_values.specs.Fields.{AreBytes, padded}
use Rattle.vos_values.specs.Links.{is_zero, link_bytes, next_in, part_in}
use Rattle.vos_values.proofs.Orders.{drop_bytes, number_back}
use Rattle.vos_values.proofs.Reading.{chosen_again, chosen_is, chosen_test, first_holds, padded_back, then_holds}
use Rattle.vos_values.proofs.KeyLaws.{same_true}

zeros_all : (k : ℕ) → list_all is_zero (replicate k 0) ≡ true
zeros_all zero = refl
zeros_all (suc k) = zeros_all k

zero_at : (xs : List ℕ) (i : ℕ) → list_all is_zero xs ≡ true → slice_index xs i ≡ 0
zero_at [] i h = refl
zero_at (x ∷ xs) zero h = same_true x 0 (first_holds (is_zero x) (list_all is_zero xs) h)
zero_at (x ∷ xs) (suc i) h = zero_at xs i (then_holds (is_zero x) (list_all is_zero xs) h)

index_behind : (n : ℕ) (xs : List ℕ) (i : ℕ) → n ≤ i → slice_index xs i ≡ slice_index (drop n xs) (i - n)
index_behind zero xs i h = let e : i ≡ i - 0 = omega arith in ap (slice_index xs) e
index_behind (suc n) [] i h = refl
index_behind (suc n) (x ∷ xs) zero h = absurd (omega arith)
index_behind (suc n) (x ∷ xs) (suc i) h = let e : i - n ≡ suc i - suc n = omega arith in index_behind n xs i (omega arith) ∙ ap (slice_index (drop n xs)) e

behind_eight : (next : ℕ) (part : List ℕ) → drop 8 (link_bytes next part) ≡ padded 248 part
unfolding link_bytes
behind_eight next part = drop_at (big_bytes 4 next) (padded 248 part) 4 (length-bytes_high_first 4 next)

pub part_again : (next : ℕ) (part : List ℕ) → part_in (length part) (link_bytes next part) ≡ part
part_again next part = ap (take (length part)) (behind_eight next part) ∙ take_at part _ (length part) refl

pub link_again : (next : ℕ) (part : List ℕ) → next < 2 ^ 32 → length part ≤ 248 → next_in (length part) (link_bytes next part) ≡ Some next
unfolding next_in link_bytes
link_again next part h l =
    let n = length part in
    let bs = (8 ∷ 0 ∷ 0 ∷ 0 ∷ []) ++ (big_bytes 4 next ++ padded 248 part) in
    let zeros : drop (8 + n) bs ≡ replicate (248 - n) 0 = sym (drop-drop n 8 bs) ∙ (ap (drop n) (behind_eight next part) ∙ drop_at part (replicate (248 - n) 0) n refl) in
    chosen_again (list_all is_zero (drop (8 + n) bs)) (big_number 4 (big_bytes 4 next ++ padded 248 part)) next (ap (list_all is_zero) zeros ∙ zeros_all (248 - n)) (big_number-reads_back 4 next (padded 248 part) h)

-- a kind of 8 and three zeros in front
four_parts : (bs : List ℕ) → length bs ≡ 256 → big_number 1 bs ≡ 8 → list_all is_zero (take 3 (drop 1 bs)) ≡ true → bs ≡ 8 ∷ 0 ∷ 0 ∷ 0 ∷ drop 4 bs
four_parts [] l e h = absurd (omega arith)
four_parts (a ∷ []) l e h = absurd (omega arith)
four_parts (a ∷ b ∷ []) l e h = absurd (omega arith)
four_parts (a ∷ b ∷ c ∷ []) l e h = absurd (omega arith)
four_parts (a ∷ b ∷ c ∷ d ∷ bs) l e h =
    let first : a ≡ 8 = omega (arith, e) in
    let second : b ≡ 0 = zero_at (b ∷ c ∷ d ∷ []) 0 h in
    let third : c ≡ 0 = zero_at (b ∷ c ∷ d ∷ []) 1 h in
    let fourth : d ≡ 0 = zero_at (b ∷ c ∷ d ∷ []) 2 h in
    λ i. first i ∷ second i ∷ third i ∷ fourth i ∷ bs

pub link_back : (count next : ℕ) (bs : List ℕ) → length bs ≡ 256 → AreBytes bs → count ≤ 248 → next_in count bs ≡ Some next → link_bytes next (part_in count bs) ≡ bs
unfolding next_in link_bytes
link_back n next bs l h few e =
    let kind = big_number 1 bs == 8 in
    let three = list_all is_zero (take 3 (drop 1 bs)) in
    let rest = list_all is_zero (drop (8 + n) bs) in
    let test = chosen_test ((kind && three) && rest) _ next e in
    let is = chosen_is ((kind && three) && rest) _ next e in
    let front = first_holds (kind && three) rest test in
    let zeros = then_holds (kind && three) rest test in
    let head = four_parts bs l (same_true (big_number 1 bs) 8 (first_holds kind three front)) (then_holds kind three front) in
    let number : big_bytes 4 next ≡ take 4 (drop 4 bs) = ap (big_bytes 4) (sym is) ∙ number_back 4 (drop 4 bs) (drop_bytes 4 bs h) (omega (arith, length-drop 4 bs, l)) in
    let zero_after : ZeroFrom n (drop 8 bs) = λ i q. index_behind n (drop 8 bs) i q ∙ (ap (λ z. slice_index z (i - n)) (drop-drop n 8 bs) ∙ zero_at (drop (8 + n) bs) (i - n) zeros) in
    let part : padded 248 (take n (drop 8 bs)) ≡ drop 8 bs = padded_back 248 n (drop 8 bs) (omega (arith, length-drop 8 bs, l)) few zero_after in
    let tail : big_bytes 4 next ++ padded 248 (take n (drop 8 bs)) ≡ drop 4 bs =
    ap (λ z. z ++ padded 248 (take n (drop 8 bs))) number ∙ (ap (λ z. take 4 (drop 4 bs) ++ z) (part ∙ sym (drop-drop 4 4 bs)) ∙ take-append-drop 4 (drop 4 bs)) in
    ap (λ z. 8 ∷ 0 ∷ 0 ∷ 0 ∷ z) tail ∙ sym head
