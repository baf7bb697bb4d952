-- Bytes laid over others, place by place.
use Rattle.std.proofs.Common.{◌≡◌, ℕ, ◌+◌, ◌-◌, ◌≤◌, ◌<◌, ◌⊎◌, true, false, List, ◌++◌, length, take, drop, get_or, refl, sym, ap, ◌∙◌, arith, inl, inr}
use Rattle.std.proofs.lemmas.Bool.{cases_lt}
use Rattle.std.proofs.lemmas.Bool.Decides.{nat_tests}
use Rattle.std.proofs.lemmas.List.{length-take-le, length-drop, length-append, get_or-take, get_or-drop}
use Rattle.base_outside.specs.Images.{Image, Range, lies_in, over, bytes_at, image_of}
use Rattle.base_outside.specs.ImageLaws.{over_outside, over_inside, image_written, known_bytes_at, get_or-bytes_at}

image_at : (xs : List ℕ) (k : ℕ) → image_of xs k ≡ get_or xs k 0
unfolding image_of
image_at xs k = refl

-- where a range and a buffer don't meet, nothing changes
pub laid_none : (buf bytes : List ℕ) (at place : ℕ) (f : Image) → buf ≡ bytes_at f at (length buf) → ((k : ℕ) → k < length buf → lies_in (at + k) (record { place = place; bytes = bytes }) ≡ false) → buf ≡ bytes_at (over (record { place = place; bytes = bytes }) f) at (length buf)
laid_none buf bytes at place f read apart =
    let r : Range = record { place = place; bytes = bytes } in
    sym (known_bytes_at (over r f) at buf (λ k below.
    over_outside r f (at + k) (apart k below) ∙ (sym (get_or-bytes_at f at (length buf) k below) ∙ ap (λ (z : List ℕ). get_or z k 0) (sym read))))

-- where they meet, the buffer has the part of the range that lies in it
pub laid_part : (buf bytes new part : List ℕ) (at place a x n : ℕ) (f : Image) → buf ≡ bytes_at f at (length buf) → at + a ≡ place + x → a + n ≤ length buf → x + n ≤ length bytes → (a ≡ 0) ⊎ (x ≡ 0) → (a + n ≡ length buf) ⊎ (x + n ≡ length bytes) → part ≡ take n (drop x bytes) → new ≡ take a buf ++ part ++ drop (a + length part) buf → new ≡ bytes_at (over (record { place = place; bytes = bytes }) f) at (length buf)
laid_part buf bytes new part at place a x n f read meet in_buf in_bytes low high cut is =
    let r : Range = record { place = place; bytes = bytes } in
    let d = length-drop x bytes in
    let long : length part ≡ n = ap (λ (z : List ℕ). length z) cut ∙ length-take-le n (drop x bytes) (omega arith) in
    let q : Range = record { place = a; bytes = part } in
    let written = image_written buf part a (omega arith) in
    let size : length new ≡ length buf =
    ap (λ (z : List ℕ). length z) is ∙ (length-append (take a buf ++ part) (drop (a + length part) buf) ∙ omega (arith, length-append (take a buf) part, length-take-le a buf, length-drop (a + length part) buf)) in
    let there : (k : ℕ) → k < length new → over r f (at + k) ≡ get_or new k 0 = λ k below.
    let seen : get_or new k 0 ≡ over q (image_of buf) k = sym (image_at new k) ∙ (ap (λ (z : List ℕ). image_of z k) is ∙ ap (λ (g : Image). g k) written) in
    elim (cases_lt k a) [
      | inl before ↦ outside buf bytes at place f q r k read (omega arith) (grind (arith, nat_tests)) (grind (arith, nat_tests)) ∙ sym seen
      | inr from ↦ elim (cases_lt k (a + n)) [
        | inl inside ↦ within bytes at place a x n f (image_of buf) k meet (omega arith) from inside in_bytes ∙ (ap (λ (z : List ℕ). over (record { place = a; bytes = z }) (image_of buf) k) (sym cut) ∙ sym seen)
        | inr past ↦ outside buf bytes at place f q r k read (omega arith) (grind (arith, nat_tests)) (grind (arith, nat_tests)) ∙ sym seen
      ]
    ] in
    sym (ap (λ (k : ℕ). bytes_at (over r f) at k) (sym size) ∙ known_bytes_at (over r f) at new there)
  where
    outside : (buf bytes : List ℕ) (at place : ℕ) (f : Image) (q r : Range) (k : ℕ) → buf ≡ bytes_at f at (length buf) → k < length buf → lies_in k q ≡ false → lies_in (at + k) r ≡ false → over r f (at + k) ≡ over q (image_of buf) k
    outside buf bytes at place f q r k read below out off =
        over_outside r f (at + k) off ∙ (sym (get_or-bytes_at f at (length buf) k below) ∙ (ap (λ (z : List ℕ). get_or z k 0) (sym read) ∙ (sym (image_at buf k) ∙ sym (over_outside q (image_of buf) k out))))

    within : (bytes : List ℕ) (at place a x n : ℕ) (f g : Image) (k : ℕ) → at + a ≡ place + x → n ≤ length bytes → a ≤ k → k < a + n → x + n ≤ length bytes → over (record { place = place; bytes = bytes }) f (at + k) ≡ over (record { place = a; bytes = take n (drop x bytes) }) g k
    within bytes at place a x n f g k meet short from inside in_bytes =
        let d = length-drop x bytes in
        let long : length (take n (drop x bytes)) ≡ n = length-take-le n (drop x bytes) (omega arith) in
        let one : lies_in (at + k) (record { place = place; bytes = bytes }) ≡ true = grind (arith, nat_tests) in
        let two : lies_in k (record { place = a; bytes = take n (drop x bytes) }) ≡ true = grind (arith, nat_tests) in
        let e : (at + k) - place ≡ x + (k - a) = omega arith in
        over_inside (record { place = place; bytes = bytes }) f (at + k) one
        ∙ (ap (λ (j : ℕ). get_or bytes j 0) e
        ∙ (sym (get_or-drop x bytes (k - a) 0) ∙ (sym (get_or-take n (drop x bytes) (k - a) 0 (omega arith)) ∙ sym (over_inside (record { place = a; bytes = take n (drop x bytes) }) g k two))))
