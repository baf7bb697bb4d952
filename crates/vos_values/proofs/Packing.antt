-- Fields are read back from their bytes, and bytes from their fields; their order is that of the numbers.
use Rattle.std.proofs.Common.{◌≡◌, ℕ, zero, suc, ◌+◌, ◌-◌, ◌≤◌, ◌<◌, List, [], ◌∷◌, ◌++◌, length, take, drop, replicate, get_or, sym, ap, ◌∙◌, arith, append_assoc, append-nil, length-append}
use Rattle.std.proofs.lemmas.List.{take_at, drop_at, drop-replicate}
use Rattle.std.specs.Int.{bytes_high_first}
use borrow.Rule.Slice.PartMut.{put_mid}
use Rattle.byteorder.specs.Numbers.{length-bytes_high_first}
use Rattle.byteorder.specs.Endian.{big_bytes}
use Rattle.vos_values.specs.Fields.{Fields, packed, padded, AreNarrow}

-- the last bytes of a number are those of a narrower one
pub last_bytes : (k w n : ℕ) → drop k (bytes_high_first (k + w) n) ≡ bytes_high_first w n
last_bytes zero w n = let e : 0 + w ≡ w = omega arith in ap (λ j. bytes_high_first j n) e
last_bytes (suc k) w n = let e : suc k + w ≡ suc (k + w) = omega arith in ap (λ j. drop (suc k) (bytes_high_first j n)) e ∙ last_bytes k w n

pub last_of_sixteen : (w n : ℕ) → w ≤ 16 → drop (16 - w) (bytes_high_first 16 n) ≡ bytes_high_first w n
last_of_sixteen w n h = let e : 16 ≡ (16 - w) + w = omega arith in ap (λ j. drop (16 - w) (bytes_high_first j n)) e ∙ last_bytes (16 - w) w n

-- bytes written behind a text, over zeros
pub padded_more : (n at w : ℕ) (xs text part : List ℕ) → length text ≡ at → length part ≡ w → at + w ≤ n → xs ≡ padded n text → put_mid at w xs part ≡ padded n (text ++ part)
padded_more n at w xs text part lt lp room is =
    let zeros = replicate (n - length text) 0 in
    let front : take at xs ≡ text = ap (take at) is ∙ take_at text zeros at lt in
    let behind : drop at xs ≡ zeros = ap (drop at) is ∙ drop_at text zeros at lt in
    let fewer : n - length text - w ≡ n - length (text ++ part) = omega (arith, length-append text part, lt, lp, room) in
    let back : drop w (drop at xs) ≡ replicate (n - length (text ++ part)) 0 = ap (drop w) behind ∙ (drop-replicate w (n - length text) 0 ∙ ap (λ j. replicate j 0) fewer) in
    ap (λ z. z ++ (part ++ drop w (drop at xs))) front ∙ (ap (λ z. text ++ (part ++ z)) back ∙ sym (append_assoc text part (replicate (n - length (text ++ part)) 0)))

-- the field at a place
abbrev field_at : Fields → ℕ → ℕ × ℕ
field_at fs i = get_or fs i (0, 0)

-- so many fields from the front
pub packed_more : (i : ℕ) (fs : Fields) → i < length fs → packed (take (suc i) fs) ≡ packed (take i fs) ++ big_bytes (get_or fs i (0, 0)).0 (get_or fs i (0, 0)).1
packed_more i [] h = absurd (omega arith)
packed_more zero (g ∷ fs) h = append-nil (big_bytes g.0 g.1)
packed_more (suc i) (g ∷ fs) h = ap (λ z. big_bytes g.0 g.1 ++ z) (packed_more i fs (omega arith)) ∙ sym (append_assoc (big_bytes g.0 g.1) _ _)

pub first_length : (i : ℕ) (fs : Fields) → i < length fs → length (packed (take (suc i) fs)) ≡ length (packed (take i fs)) + (get_or fs i (0, 0)).0
first_length i fs h =
    let f = get_or fs i (0, 0) in
    omega (arith, ap length (packed_more i fs h), length-append (packed (take i fs)) (big_bytes f.0 f.1), length-bytes_high_first f.0 f.1)

-- their bytes are the first of all
pub packed_first : (i : ℕ) (fs : Fields) → length (packed (take i fs)) ≤ length (packed fs)
packed_first zero fs = omega arith
packed_first (suc i) [] = omega arith
packed_first (suc i) (f ∷ fs) = omega (arith, packed_first i fs, length-append (big_bytes f.0 f.1) (packed (take i fs)), length-append (big_bytes f.0 f.1) (packed fs))

pub narrow_at : (i : ℕ) (fs : Fields) → AreNarrow fs → i < length fs → (get_or fs i (0, 0)).0 ≤ 16
narrow_at i [] n h = absurd (omega arith)
narrow_at zero (g ∷ fs) n h = n.0
narrow_at (suc i) (g ∷ fs) n h = narrow_at i fs n.1 (omega arith)
