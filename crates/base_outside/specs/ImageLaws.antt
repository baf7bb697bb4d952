-- Listed bytes and their image.
use Rattle.std.specs.Prelude.{◌≡◌, ℕ, zero, suc, ◌+◌, ◌-◌, ◌≤◌, ◌<◌, true, false, cond, List, [], ◌∷◌, ◌++◌, length, take, drop, slice_range, slice_index, All, refl}
use Rattle.std.proofs.Common.{get_or, sym, ap, ◌∙◌, arith, inl, inr}
use Rattle.std.proofs.lemmas.Bool.{cases_lt}
use Rattle.std.proofs.lemmas.Bool.Decides.{nat_tests}
use Rattle.std.proofs.lemmas.List.{get_or_past, length-take-le, get_or-take, get_or_append_left, get_or-append_right, get_or-drop, length-append, length-drop, ext_get_or}
use Rattle.std.proofs.lemmas.List.Elements.{All-get_or}
use Rattle.std.proofs.Math.Seq.{drop-cons}
use mathlib.Core.Path.{fun_ext}
use Rattle.base_outside.specs.Images.{Image, Range, lies_in, over, all_over, bytes_at, image_of, Torn, Tears}

-- outside a range that is written over it an image stays
pub over_outside : (r : Range) (f : Image) (i : ℕ) → lies_in i r ≡ false → over r f i ≡ f i
unfolding over
over_outside r f i e = rw e refl

-- inside it the image has the bytes written
pub over_inside : (r : Range) (f : Image) (i : ℕ) → lies_in i r ≡ true → over r f i ≡ slice_index r.bytes (i - r.place)
unfolding over
over_inside r f i e = rw e refl

spliced_before : (xs bytes rest : List ℕ) (at i : ℕ) → at ≤ length xs → i < at → get_or (take at xs ++ bytes ++ rest) i 0 ≡ get_or xs i 0
spliced_before xs bytes rest at i fits before =
    let front : length (take at xs) ≡ at = length-take-le at xs fits in
    let joined = length-append (take at xs) bytes in
    get_or_append_left (take at xs ++ bytes) rest 0 i (omega arith) ∙ (get_or_append_left (take at xs) bytes 0 i (omega arith) ∙ get_or-take at xs i 0 before)

spliced_in : (xs bytes rest : List ℕ) (at i : ℕ) → at ≤ length xs → at ≤ i → i < at + length bytes → get_or (take at xs ++ bytes ++ rest) i 0 ≡ get_or bytes (i - at) 0
spliced_in xs bytes rest at i fits low high =
    let front : length (take at xs) ≡ at = length-take-le at xs fits in
    let joined = length-append (take at xs) bytes in
    get_or_append_left (take at xs ++ bytes) rest 0 i (omega arith) ∙ get_or-append_right (take at xs) bytes at i 0 front low

spliced_after : (xs bytes : List ℕ) (at i : ℕ) → at + length bytes ≤ length xs → at + length bytes ≤ i → get_or (take at xs ++ bytes ++ drop (at + length bytes) xs) i 0 ≡ get_or xs i 0
spliced_after xs bytes at i fits past =
    let front : length (take at xs) ≡ at = length-take-le at xs (omega arith) in
    let joined : length (take at xs ++ bytes) ≡ at + length bytes = length-append (take at xs) bytes ∙ ap (λ n. n + length bytes) front in
    get_or-append_right (take at xs ++ bytes) (drop (at + length bytes) xs) (at + length bytes) i 0 joined past ∙ (get_or-drop (at + length bytes) xs (i - (at + length bytes)) 0 ∙ ap (λ k. get_or xs k 0) (omega arith))

written_at : (xs bytes : List ℕ) (at i : ℕ) → at + length bytes ≤ length xs → image_of (take at xs ++ bytes ++ drop (at + length bytes) xs) i ≡ over (record { place = at; bytes = bytes }) (image_of xs) i
unfolding image_of
written_at xs bytes at i fits =
    let r : Range = record { place = at; bytes = bytes } in
    elim (cases_lt i at) [
      | inl before ↦ spliced_before xs bytes (drop (at + length bytes) xs) at i (omega arith) before ∙ sym (over_outside r (image_of xs) i (grind (arith, nat_tests)))
      | inr from ↦ elim (cases_lt i (at + length bytes)) [
        | inl inside ↦ spliced_in xs bytes (drop (at + length bytes) xs) at i (omega arith) from inside ∙ sym (over_inside r (image_of xs) i (grind (arith, nat_tests)))
        | inr past ↦ spliced_after xs bytes at i fits past ∙ sym (over_outside r (image_of xs) i (grind (arith, nat_tests)))
      ]
    ]

-- bytes written into a list are a range written over its image
pub image_written : (xs bytes : List ℕ) (at : ℕ) → at + length bytes ≤ length xs → image_of (take at xs ++ bytes ++ drop (at + length bytes) xs) ≡ over (record { place = at; bytes = bytes }) (image_of xs)
image_written xs bytes at fits = fun_ext (λ i. written_at xs bytes at i fits)

byte_there : (xs : List ℕ) (at : ℕ) → get_or xs at 0 ≡ image_of xs at
unfolding image_of
byte_there xs at = refl

part_read : (xs : List ℕ) (at n : ℕ) → at + n ≤ length xs → take n (drop at xs) ≡ bytes_at (image_of xs) at n
unfolding bytes_at
part_read xs at zero fits = refl
part_read xs at (suc n) fits =
    let here : at < length xs = omega arith in
    let rest = part_read xs (at + 1) n (omega arith) in
    let step : suc at ≡ at + 1 = omega arith in
    let next = ap (λ (k : ℕ). drop k xs) step in
    let tail : take n (drop (suc at) xs) ≡ bytes_at (image_of xs) (at + 1) n = ap (λ (ys : List ℕ). take n ys) next ∙ rest in
    let head = byte_there xs at in
    rw (drop-cons xs at 0 here) (cc)

-- a part of a list is read from its image
pub part_is_read : (xs : List ℕ) (at n : ℕ) → at + n ≤ length xs → slice_range xs at (at + n) ≡ bytes_at (image_of xs) at n
part_is_read xs at n fits = let e : (at + n) - at ≡ n = omega arith in ap (λ k. take k (drop at xs)) e ∙ part_read xs at n fits

-- the image of bytes is of bytes
pub image_is_bytes : (xs : List ℕ) → All (λ b. b < 256) xs → (i : ℕ) → image_of xs i < 256
unfolding image_of
image_is_bytes xs all i =
    elim (cases_lt i (length xs)) [
      | inl here ↦ All-get_or (λ b. b < 256) xs i 0 here all
      | inr past ↦ let none = get_or_past xs i 0 past in omega arith
    ]

-- an image may be left of itself
pub torn_none : (rs : List Range) (f : Image) → Torn rs f f
torn_none rs f i outside = refl

-- what a write leaves of the image before it
pub torn_by_write : (r : Range) (f : Image) → Torn (r ∷ []) f (over r f)
torn_by_write r f i outside =
    elim (lies_in i r) as (λ b. lies_in i r ≡ b → cond b true false ≡ false → over r f i ≡ f i) [
      | true ↦ λ e no. absurd (cc)
      | false ↦ λ e no. over_outside r f i e
    ] refl outside

-- where writes are made at once, a crash leaves what is written
pub tears_at_once : (r : Range) (f g : Image) → g ≡ over r f → Tears (r ∷ []) (λ c. c ≡ f) (λ c. c ≡ g)
tears_at_once r f g is c now = (f, (refl, λ i outside. ap (λ (h : Image). h i) (now ∙ is) ∙ torn_by_write r f i outside))

pub length-bytes_at : (f : Image) (at n : ℕ) → length (bytes_at f at n) ≡ n
unfolding bytes_at
length-bytes_at f at zero = refl
length-bytes_at f at (suc n) = ap suc (length-bytes_at f (at + 1) n)

pub get_or-bytes_at : (f : Image) (at n k : ℕ) → k < n → get_or (bytes_at f at n) k 0 ≡ f (at + k)
unfolding bytes_at
get_or-bytes_at f at zero k below = absurd (omega arith)
get_or-bytes_at f at (suc n) zero below = let e : at ≡ at + 0 = omega arith in ap f e
get_or-bytes_at f at (suc n) (suc k) below = let e : (at + 1) + k ≡ at + suc k = omega arith in get_or-bytes_at f (at + 1) n k (omega arith) ∙ ap f e

-- the bytes at some places depend on these places alone
pub same_bytes_at : (f g : Image) (at n : ℕ) → ((i : ℕ) → at ≤ i → i < at + n → g i ≡ f i) → bytes_at g at n ≡ bytes_at f at n
unfolding bytes_at
same_bytes_at f g at zero same = refl
same_bytes_at f g at (suc n) same =
    let head : g at ≡ f at = same at (omega arith) (omega arith) in
    let tail = same_bytes_at f g (at + 1) n (λ i low high. same i (omega arith) (omega arith)) in
    cc

-- bytes that are known by their places
pub known_bytes_at : (f : Image) (at : ℕ) (bytes : List ℕ) → ((k : ℕ) → k < length bytes → f (at + k) ≡ get_or bytes k 0) → bytes_at f at (length bytes) ≡ bytes
known_bytes_at f at bytes known =
    ext_get_or 0 (bytes_at f at (length bytes)) bytes (length-bytes_at f at (length bytes))
    (λ k below. let below : k < length bytes = omega (arith, length-bytes_at f at (length bytes)) in get_or-bytes_at f at (length bytes) k below ∙ known k below)

-- a part of bytes that are known by their places
pub part_at : (f : Image) (at : ℕ) (bytes : List ℕ) → ((k : ℕ) → k < length bytes → f (at + k) ≡ get_or bytes k 0) → (m n : ℕ) → m + n ≤ length bytes → bytes_at f (at + m) n ≡ take n (drop m bytes)
part_at f at bytes known m n fits =
    let long = length-drop m bytes in
    let size : length (take n (drop m bytes)) ≡ n = length-take-le n (drop m bytes) (omega arith) in
    ext_get_or 0 (bytes_at f (at + m) n) (take n (drop m bytes)) (length-bytes_at f (at + m) n ∙ sym size)
    (λ k below.
    let below : k < n = omega (arith, length-bytes_at f (at + m) n) in
    let place : (at + m) + k ≡ at + (m + k) = omega arith in
    get_or-bytes_at f (at + m) n k below ∙ (ap f place ∙ (known (m + k) (omega arith) ∙ (sym (get_or-drop m bytes k 0) ∙ sym (get_or-take n (drop m bytes) k 0 below)))))

-- one range more is written over an image last
pub all_over-push : (rs : List Range) (r : Range) (f : Image) → all_over (rs ++ r ∷ []) f ≡ over r (all_over rs f)
all_over-push [] r f = refl
all_over-push (q ∷ rs) r f = all_over-push rs r (over q f)
