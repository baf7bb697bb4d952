-- Lower-case hexadecimal digits are what their bytes are written as.
use Rattle.std.proofs.Common.{◌≡◌, ℕ, zero, suc, ◌+◌, ◌*◌, ◌/◌, ◌%◌, ◌<◌, ◌==◌, Bool, true, false, cond, eqb, not, ◌&&◌, ◌||◌, inl, inr, List, [], ◌∷◌, length, slice_index, Option, Some, None, unwrap_or, Result, Ok, Err, refl, sym, ap, ◌∙◌, arith}
use Rattle.std.specs.List.{list_all}
use Rattle.std.proofs.lemmas.Bool.{and_parts, cases_lt, eqb-true}
use Rattle.std.proofs.lemmas.Bool.Decides.{nat_tests}
use Rattle.hex.specs.Hex.{IsBytes, decode_of, decode_pairs, digit_or_error, encode_lower, encode_with, hex_digit_value, lower_digits, pair_value, value_at, ◌>>=◌}
use Rattle.hex.specs.declared.error.FromHexError.{FromHexError}
use Rattle.hex.specs.declared.error.FromHexError.TheVariants.{OddLength}
use Rattle.script_words.specs.Values.{is_lower_digit}

-- ---- digits

-- a lower-case digit is the one that its value is written as
abbrev writes_back : ℕ → Bool
writes_back a = not (is_lower_digit a) || (slice_index lower_digits (unwrap_or (hex_digit_value a) 99) == a)

abbrev all_write_back : ℕ → Bool
all_write_back zero = true
all_write_back (suc n) = writes_back n && all_write_back n

all_write_back-at : (n k : ℕ) → all_write_back n ≡ true → k < n → writes_back k ≡ true
all_write_back-at zero k h lt = absurd (omega arith)
all_write_back-at (suc n) k h lt =
    let parts = and_parts (writes_back n) (all_write_back n) h in
    elim (cases_lt k n) [
      | inl below ↦ all_write_back-at n k parts.1 below
      | inr top ↦ let e : k ≡ n = omega arith in rw e parts.0
    ]

low : (a : ℕ) → is_lower_digit a ≡ true → a < 103
low a h = grind (arith, nat_tests)

implied : (a b : Bool) → a ≡ true → (not a || b) ≡ true → b ≡ true
implied true b h e = e
implied false b h e = absurd cc

written : (a d : ℕ) → is_lower_digit a ≡ true → hex_digit_value a ≡ Some d → slice_index lower_digits d ≡ a
written a d h e =
    let back = all_write_back-at 103 a refl (low a h) in
    let same : eqb (slice_index lower_digits (unwrap_or (hex_digit_value a) 99)) a ≡ true = implied (is_lower_digit a) (eqb (slice_index lower_digits (unwrap_or (hex_digit_value a) 99)) a) h back in
    ap (λ o. slice_index lower_digits (unwrap_or o 99)) (sym e) ∙ eqb-true (slice_index lower_digits (unwrap_or (hex_digit_value a) 99)) a same

small : (a d : ℕ) → hex_digit_value a ≡ Some d → d < 16
small a d h = grind (arith)

-- ---- pairs of digits

bind_ok : {A B : Type 0} (r : Result A FromHexError) (f : A → Result B FromHexError) (y : B) → (r >>= f) ≡ Ok y → (x : A) × (r ≡ Ok x) × (f x ≡ Ok y)
bind_ok (Ok x) f y e = (x, refl, e)
bind_ok (Err d) f y e = absurd cc

abbrev done : {A : Type 0} → A → Result A FromHexError
done x = Ok x

ok_is : {A : Type 0} (x y : A) → done x ≡ done y → x ≡ y
ok_is x y e = cc

digit_read : (c i : ℕ) (o : Option ℕ) (v : ℕ) → digit_or_error c i o ≡ Ok v → o ≡ Some v
digit_read c i (Some w) v h = ap Some (ok_is w v h)
digit_read c i None v h = absurd cc

-- pairs of lower-case digits are what their bytes are written as
pairs_written : (i : ℕ) (s v : List ℕ) → list_all is_lower_digit s ≡ true → decode_pairs i s ≡ Ok v → s ≡ encode_with lower_digits v
unfolding decode_pairs encode_with
pairs_written i [] v l e = ap (λ bytes. encode_with lower_digits bytes) (ok_is [] v e)
pairs_written i (a ∷ []) v l e = absurd cc
pairs_written i (a ∷ b ∷ rest) v l e =
    let la = and_parts (is_lower_digit a) (list_all is_lower_digit (b ∷ rest)) l in
    let lb = and_parts (is_lower_digit b) (list_all is_lower_digit rest) la.1 in
    let p = bind_ok (pair_value a b i) (λ byte. decode_pairs (i + 2) rest >>= λ bytes. Ok (byte ∷ bytes)) v e in
    let q = bind_ok (value_at a i) (λ h. value_at b (i + 1) >>= λ l. Ok (h * 16 + l)) p.0 p.1 in
    let r = bind_ok (value_at b (i + 1)) (λ l. Ok (q.0 * 16 + l)) p.0 q.2 in
    let t = bind_ok (decode_pairs (i + 2) rest) (λ bytes. Ok (p.0 ∷ bytes)) v p.2 in
    let ha = digit_read a i (hex_digit_value a) q.0 q.1 in
    let hb = digit_read b (i + 1) (hex_digit_value b) r.0 r.1 in
    let byte : q.0 * 16 + r.0 ≡ p.0 = ok_is (q.0 * 16 + r.0) p.0 r.2 in
    let sa : q.0 < 16 = small a q.0 ha in
    let sb : r.0 < 16 = small b r.0 hb in
    let high : q.0 ≡ p.0 / 16 = omega arith in
    let low : r.0 ≡ p.0 % 16 = omega arith in
    let wa : a ≡ slice_index lower_digits (p.0 / 16) = sym (written a q.0 la.0 ha) ∙ ap (slice_index lower_digits) high in
    let wb : b ≡ slice_index lower_digits (p.0 % 16) = sym (written b r.0 lb.0 hb) ∙ ap (slice_index lower_digits) low in
    let wr : rest ≡ encode_with lower_digits t.0 = pairs_written (i + 2) rest t.0 lb.1 t.1 in
    ap (λ x. x ∷ b ∷ rest) wa ∙ ap (λ x. slice_index lower_digits (p.0 / 16) ∷ x ∷ rest) wb ∙ ap (λ x. slice_index lower_digits (p.0 / 16) ∷ slice_index lower_digits (p.0 % 16) ∷ x) wr
    ∙ ap (λ bytes. encode_with lower_digits bytes) (ok_is (p.0 ∷ t.0) v t.2)

pub of_written : (s v : List ℕ) → list_all is_lower_digit s ≡ true → decode_of s ≡ Ok v → s ≡ encode_lower v
of_written s v l e = go (eqb (length s % 2) 1) e
  where
    go : (b : Bool) → cond b (Err OddLength) (decode_pairs 0 s) ≡ Ok v → s ≡ encode_lower v
    go true e = absurd cc
    go false e = pairs_written 0 s v l e

-- digits of bytes are lower-case ones
lower_of : (d : ℕ) → d < 16 → is_lower_digit (slice_index lower_digits d) ≡ true
lower_of d lt = at 16 d refl lt
  where
    all_lower : ℕ → Bool
    all_lower zero = true
    all_lower (suc n) = is_lower_digit (slice_index lower_digits n) && all_lower n

    at : (n k : ℕ) → all_lower n ≡ true → k < n → is_lower_digit (slice_index lower_digits k) ≡ true
    at zero k h lt = absurd (omega arith)
    at (suc n) k h lt =
        let parts = and_parts (is_lower_digit (slice_index lower_digits n)) (all_lower n) h in
        elim (cases_lt k n) [
          | inl below ↦ at n k parts.1 below
          | inr top ↦ let e : k ≡ n = omega arith in rw e parts.0
        ]

both : (a b : Bool) → a ≡ true → b ≡ true → (a && b) ≡ true
both true true e f = refl
both true false e f = absurd cc
both false b e f = absurd cc

pub encoded_lower : (v : List ℕ) → IsBytes v → list_all is_lower_digit (encode_lower v) ≡ true
unfolding encode_with
encoded_lower [] h = refl
encoded_lower (b ∷ rest) h =
    let fits : b < 256 = h 0 in
    both (is_lower_digit (slice_index lower_digits (b / 16))) _ (lower_of (b / 16) (omega arith)) (both (is_lower_digit (slice_index lower_digits (b % 16))) _ (lower_of (b % 16) (omega arith)) (encoded_lower rest (λ k. h (suc k))))
