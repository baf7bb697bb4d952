-- Bytes of a content, piece by piece.
use Rattle.std.proofs.Common.{◌≡◌, ℕ, ◌+◌, ◌-◌, ◌<◌, ◌≤◌, ◌&&◌, ◌||◌, min, max, cond, Bool, true, false, List, ◌++◌, length, take, drop, Result, Ok, Err, refl, sym, ap, ◌∙◌, arith, inl, inr}
use Rattle.std.specs.Prelude.{OnOk, is_err, nat_le, nat_lt, slice_index}
use borrow.Rule.Slice.PartMut.{put_mid}
use Rattle.std.proofs.lemmas.List.{get_or-append_right, get_or-drop, get_or-take, get_or_append_left, length-take-le}
use Rattle.std.proofs.lemmas.Bool.{cases_lt}
use Rattle.std.proofs.lemmas.Bool.Decides.{nat_tests}
use Rattle.base_outside.specs.Images.{Image, bytes_at}
use Rattle.base_outside.specs.ImageLaws.{get_or-bytes_at, known_bytes_at, length-bytes_at}
use Rattle.pmem_pages.specs.Blocks.{Stops}
use Rattle.pmem_undo.specs.Layout.{IsContent, is_content}
use Rattle.vos_commits.specs.Kept.{content_of}
use Rattle.vos_check_base.specs.Health.{Fares}
use Rattle.vos_check_content.specs.Region.{IsPieceRead, region_content}

-- ---- a piece

pub piece_none : (f : Image) (at low high : ℕ) (buf : List ℕ) → min (at + length buf) high ≤ max at low → IsPieceRead f at low high buf buf
piece_none f at low high buf none i inside =
    let t : (nat_le low (at + i) && nat_lt (at + i) high) ≡ false = grind (arith, nat_tests) in
    sym (rw t refl)

-- a part of a piece is content
pub part_content : (size low high from to : ℕ) → low ≤ high → IsContent size low (high - low) → low ≤ from → from < to → to ≤ high → IsContent size from (to - from)
part_content size low high from to order c a b e = record {
  inside = let h = c.inside in omega (arith, h, order, a, b, e);
  outside = elim c.outside [
    | inl h ↦ inl (omega (arith, h, order, a, b, e))
    | inr (inl h) ↦ inr (inl (omega (arith, h.0, a), let k = h.1 in omega (arith, k, order, a, b, e)))
    | inr (inr h) ↦ inr (inr (omega (arith, h, a)))
  ];
}

-- an element of a list of which a part was written
put_below : (a k i : ℕ) (xs ys : List ℕ) → i < a → a ≤ length xs → slice_index (put_mid a k xs ys) i ≡ slice_index xs i
put_below a k i xs ys low fits =
    get_or_append_left (take a xs) (ys ++ drop k (drop a xs)) 0 i (omega (arith, low, length-take-le a xs fits)) ∙ get_or-take a xs i 0 low

put_inside : (a k i : ℕ) (xs ys : List ℕ) → a ≤ i → i < a + k → a ≤ length xs → length ys ≡ k → slice_index (put_mid a k xs ys) i ≡ slice_index ys (i - a)
put_inside a k i xs ys low high fits long =
    get_or-append_right (take a xs) (ys ++ drop k (drop a xs)) a i 0 (length-take-le a xs fits) low ∙ get_or_append_left ys (drop k (drop a xs)) 0 (i - a) (omega (arith, low, high, long))

put_above : (a k i : ℕ) (xs ys : List ℕ) → a + k ≤ i → a ≤ length xs → length ys ≡ k → slice_index (put_mid a k xs ys) i ≡ slice_index xs i
put_above a k i xs ys high fits long =
    let at : a + (k + (i - a - k)) ≡ i = omega (arith, high) in
    get_or-append_right (take a xs) (ys ++ drop k (drop a xs)) a i 0 (length-take-le a xs fits) (omega (arith, high))
    ∙ (get_or-append_right ys (drop k (drop a xs)) k (i - a) 0 long (omega (arith, high))
    ∙ (get_or-drop k (drop a xs) (i - a - k) 0 ∙ (get_or-drop a xs (k + (i - a - k)) 0 ∙ ap (λ n. slice_index xs n) at)))

pub piece_some : (f : Image) (at low high from to k : ℕ) (buf part : List ℕ) → from ≡ max at low → to ≡ min (at + length buf) high → from < to → k ≡ to - from → part ≡ bytes_at f from k
    → IsPieceRead f at low high buf (put_mid (from - at) k buf part)
piece_some f at low high from to k buf part is end some many bytes i inside =
    let long : length part ≡ k = ap length bytes ∙ length-bytes_at f from k in
    elim (cases_lt (at + i) from) [
      | inl below ↦
          let t : (nat_le low (at + i) && nat_lt (at + i) high) ≡ false = grind (arith, nat_tests) in
          put_below (from - at) k i buf part (omega (arith, below, is)) (omega (arith, is, end, some)) ∙ sym (rw t refl)
      | inr above ↦ elim (cases_lt (at + i) to) [
        | inl within ↦
            let t : (nat_le low (at + i) && nat_lt (at + i) high) ≡ true = grind (arith, nat_tests) in
            let place : from + (i - (from - at)) ≡ at + i = omega (arith, above, is) in
            put_inside (from - at) k i buf part (omega (arith, above, is)) (omega (arith, within, above, is, many, some)) (omega (arith, is, end, some)) long
            ∙ (ap (λ z. slice_index z (i - (from - at))) bytes ∙ (get_or-bytes_at f from k (i - (from - at)) (omega (arith, within, above, is, many, some)) ∙ (ap f place ∙ sym (rw t refl))))
        | inr past ↦
            let t : (nat_le low (at + i) && nat_lt (at + i) high) ≡ false = grind (arith, nat_tests) in
            put_above (from - at) k i buf part (omega (arith, past, is, many, some)) (omega (arith, is, end, some)) long ∙ sym (rw t refl)
      ]
    ]

pub on_ok : {T E : Type 0} {P Q : Type 0} (r : Result T E) → OnOk r P → (P → Q) → OnOk r Q
on_ok (Ok x) h f = f h
on_ok (Err e) h f = tt

-- ---- all pieces

between : (low high j : ℕ) → low ≤ j → j < high → (nat_le low j && nat_lt j high) ≡ true
between low high j a b = grind (arith, nat_tests)

before : (low high j : ℕ) → j < low → (nat_le low j && nat_lt j high) ≡ false
before low high j a = grind (arith, nat_tests)

beyond : (low high j : ℕ) → high ≤ j → (nat_le low j && nat_lt j high) ≡ false
beyond low high j a = grind (arith, nat_tests)

in_content : (size : ℕ) (f : Image) (j : ℕ) → j < size → is_content j ≡ true → region_content size f j ≡ f j
unfolding region_content content_of
in_content size f j low is = let t : nat_lt j size ≡ true = grind (arith, nat_tests) in rw (t, is) refl

not_content : (size : ℕ) (f : Image) (j : ℕ) → is_content j ≡ false → region_content size f j ≡ 0
unfolding region_content content_of
not_content size f j is = by (nat_lt j size)
  where
    by : (t : Bool) → cond t (cond (is_content j) (f j) 0) 0 ≡ 0
    by true = rw is refl
    by false = refl

past : (size : ℕ) (f : Image) (j : ℕ) → size ≤ j → region_content size f j ≡ 0
unfolding region_content
past size f j high = let t : nat_lt j size ≡ false = grind (arith, nat_tests) in rw t refl

abbrev pieced : ℕ → Image → ℕ → ℕ → ℕ
pieced size f j old = cond (nat_le 307200 j && nat_lt j size) (f j) (cond (nat_le 32769 j && nat_lt j 36864) (f j) (cond (nat_le 0 j && nat_lt j 32768) (f j) old))

pieced_is : (size : ℕ) (f : Image) (j old : ℕ) → 323584 ≤ size → old ≡ 0 → region_content size f j ≡ pieced size f j old
pieced_is size f j old big none = elim (cases_lt j 32768) [
  | inl low ↦ in_content size f j (omega (arith, low, big)) (grind (arith, nat_tests)) ∙ sym (rw (before 307200 size j (omega (arith, low)), before 32769 36864 j (omega (arith, low)), between 0 32768 j (omega arith) low) refl)
  | inr gate ↦ elim (cases_lt 32768 j) [
    | inr at ↦ not_content size f j (grind (arith, nat_tests)) ∙ sym (rw (before 307200 size j (omega (arith, at)), before 32769 36864 j (omega (arith, at)), beyond 0 32768 j (omega (arith, gate))) none)
    | inl above ↦ elim (cases_lt j 36864) [
      | inl low ↦ in_content size f j (omega (arith, low, big)) (grind (arith, nat_tests)) ∙ sym (rw (before 307200 size j (omega (arith, low)), between 32769 36864 j (omega (arith, above)) low) refl)
      | inr log ↦ elim (cases_lt j 307200) [
        | inl low ↦ not_content size f j (grind (arith, nat_tests)) ∙ sym (rw (before 307200 size j low, beyond 32769 36864 j log, beyond 0 32768 j (omega (arith, gate))) none)
        | inr map ↦ elim (cases_lt j size) [
          | inl in_it ↦ in_content size f j in_it (grind (arith, nat_tests)) ∙ sym (rw (between 307200 size j map in_it) refl)
          | inr end ↦ past size f j end ∙ sym (rw (beyond 307200 size j end, beyond 32769 36864 j (omega (arith, map)), beyond 0 32768 j (omega (arith, map))) none)
        ]
      ]
    ]
  ]
]

pub pieces_read : (size at : ℕ) (f : Image) (zeros b1 b2 b3 : List ℕ) → 323584 ≤ size → length b1 ≡ length zeros → length b2 ≡ length zeros → length b3 ≡ length zeros → ((i : ℕ) → i < length zeros → slice_index zeros i ≡ 0)
    → IsPieceRead f at 0 32768 zeros b1 → IsPieceRead f at 32769 36864 b1 b2 → IsPieceRead f at 307200 size b2 b3 → b3 ≡ bytes_at (region_content size f) at (length zeros)
pieces_read size at f zeros b1 b2 b3 big l1 l2 l3 none one two three =
    sym (known_bytes_at (region_content size f) at b3 (λ k low.
    let j = at + k in
    let here : k < length zeros = omega (arith, low, l3) in
    pieced_is size f j (slice_index zeros k) big (none k here)
    ∙ (ap (λ z. cond (nat_le 307200 j && nat_lt j size) (f j) (cond (nat_le 32769 j && nat_lt j 36864) (f j) z)) (sym (one k here))
    ∙ (ap (λ z. cond (nat_le 307200 j && nat_lt j size) (f j) z) (sym (two k (omega (arith, here, l1)))) ∙ sym (three k (omega (arith, here, l2)))))))
    ∙ ap (bytes_at (region_content size f) at) l3

-- ---- health

or_none : (b : Bool) → b ≡ (b || false)
or_none true = refl
or_none false = refl

or_some : (b : Bool) → true ≡ (b || true)
or_some true = refl
or_some false = refl

pub fares_by : {T E : Type 0} (was is : Bool) (f0 f1 b0 b1 : ℕ) (r : Result T E) → Stops was is f0 f1 b0 b1 r → Fares (record { stopped = was; faults = f0; burns = b0 }) (record { stopped = is; faults = f1; burns = b1 }) (is_err r)
fares_by was is f0 f1 b0 b1 (Ok x) s = record { later_faults = s.later_faults; later_burns = s.later_burns; stopped = sym s.went_on ∙ or_none was; cause = λ h. absurd (let no : ⊥ = cc in no) }
fares_by was is f0 f1 b0 b1 (Err e) s = record { later_faults = s.later_faults; later_burns = s.later_burns; stopped = s.stopped ∙ or_some was; cause = λ h. s.cause }
