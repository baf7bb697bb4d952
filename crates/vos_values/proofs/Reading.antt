-- Fields are read back from their bytes, and bytes from their fields.
use Rattle.std.proofs.Common.{◌≡◌, ℕ, zero, suc, ◌+◌, ◌-◌, ◌≤◌, ◌<◌, ◌^◌, ◌&&◌, Bool, true, false, List, [], ◌∷◌, ◌++◌, Some, None, length, take, drop, replicate, get_or, slice_index, refl, sym, ap, ◌∙◌, arith, append_assoc, length-append, length-take-le}
use Rattle.std.specs.Prelude.{if◌then◌else◌}
use Rattle.std.proofs.lemmas.List.{length-replicate, drop_at, drop-drop}
use Rattle.byteorder.specs.Endian.{big_bytes, big_number}
use Rattle.byteorder.specs.Numbers.{big_number-reads_back, big_from-lt, length-bytes_high_first}
use Rattle.pmem_pages.specs.declared.node.TreeKey.{TreeKey}
use Rattle.pmem_pages.specs.declared.node.Value.{Value}
use Rattle.pmem_pages.specs.Node.{IsKey, IsValue, ZeroFrom, value_len}
use Rattle.vos_values.specs.Fields.{Fields, packed, padded, total, widths_of, fields_at, AllFit, AreBytes, key_of, value_of}
use Rattle.vos_values.proofs.Orders.{number_back, drop_bytes}

pub length_packed : (fs : Fields) → length (packed fs) ≡ total (widths_of fs)
length_packed [] = refl
length_packed (f ∷ fs) = omega (arith, length-append (big_bytes f.0 f.1) (packed fs), length-bytes_high_first f.0 f.1, length_packed fs)

fields_behind : (fs : Fields) (at : ℕ) (bs front rest : List ℕ) → AllFit fs → length front ≡ at → bs ≡ front ++ (packed fs ++ rest) → fields_at at (widths_of fs) bs ≡ fs
fields_behind [] at bs front rest h l is = refl
fields_behind (f ∷ fs) at bs front rest h l is =
    let here : drop at bs ≡ big_bytes f.0 f.1 ++ (packed fs ++ rest) = ap (drop at) is ∙ (drop_at front ((big_bytes f.0 f.1 ++ packed fs) ++ rest) at l ∙ append_assoc (big_bytes f.0 f.1) (packed fs) rest) in
    let number : big_number f.0 (drop at bs) ≡ f.1 = ap (big_number f.0) here ∙ big_number-reads_back f.0 f.1 (packed fs ++ rest) h.1 in
    let whole : bs ≡ (front ++ big_bytes f.0 f.1) ++ (packed fs ++ rest) =
    is ∙ (ap (λ z. front ++ z) (append_assoc (big_bytes f.0 f.1) (packed fs) rest) ∙ sym (append_assoc front (big_bytes f.0 f.1) (packed fs ++ rest))) in
    let others = fields_behind fs (at + f.0) bs (front ++ big_bytes f.0 f.1) rest h.2 (omega (arith, length-append front (big_bytes f.0 f.1), length-bytes_high_first f.0 f.1, l)) whole in
    ap (λ n. (f.0, n) ∷ fields_at (at + f.0) (widths_of fs) bs) number ∙ ap (λ z. f ∷ z) others

-- what was written is read
pub fields_again : (n : ℕ) (fs : Fields) → AllFit fs → fields_at 0 (widths_of fs) (padded n (packed fs)) ≡ fs
fields_again n fs h = fields_behind fs 0 (padded n (packed fs)) [] (replicate (n - length (packed fs)) 0) h refl refl

take_two : (w n : ℕ) (bs : List ℕ) → w + n ≤ length bs → take w bs ++ take n (drop w bs) ≡ take (w + n) bs
take_two zero n bs l = let e : 0 + n ≡ n = omega arith in ap (λ j. take j bs) (sym e)
take_two (suc w) n [] l = absurd (omega arith)
take_two (suc w) n (b ∷ bs) l = let e : suc (w + n) ≡ suc w + n = omega arith in ap (λ z. b ∷ z) (take_two w n bs (omega arith)) ∙ ap (λ j. take j (b ∷ bs)) e

-- what was read is written again
pub packed_back : (ws : List ℕ) (at : ℕ) (bs : List ℕ) → AreBytes bs → at + total ws ≤ length bs → packed (fields_at at ws bs) ≡ take (total ws) (drop at bs)
packed_back [] at bs h l = refl
packed_back (w ∷ ws) at bs h l =
    let room : w + total ws ≤ length (drop at bs) = omega (arith, length_dropped at bs) in
    let first = number_back w (drop at bs) (drop_bytes at bs h) (omega arith) in
    let others = packed_back ws (at + w) bs h (omega arith) in
    let behind : drop (at + w) bs ≡ drop w (drop at bs) = sym (drop-drop w at bs) in
    ap (λ z. z ++ packed (fields_at (at + w) ws bs)) first
    ∙ (ap (λ z. take w (drop at bs) ++ z) (others ∙ ap (take (total ws)) behind)
    ∙ take_two w (total ws) (drop at bs) room)
  where
    length_dropped : (n : ℕ) (xs : List ℕ) → length xs ≤ length (drop n xs) + n
    length_dropped zero xs = omega arith
    length_dropped (suc n) [] = omega arith
    length_dropped (suc n) (x ∷ xs) = omega (arith, length_dropped n xs)

-- a number in bytes fits
pub fits_in : (n at : ℕ) (bs : List ℕ) → AreBytes bs → big_number n (drop at bs) < 256 ^ n
fits_in n at bs h = big_from-lt 0 n (drop at bs) (drop_bytes at bs h)

-- ---- keys and values of bytes

zeros_only : (k i : ℕ) → slice_index (replicate k 0) i ≡ 0
zeros_only zero i = refl
zeros_only (suc k) zero = refl
zeros_only (suc k) (suc i) = zeros_only k i

pub zero_behind : (text : List ℕ) (k : ℕ) → ZeroFrom (length text) (text ++ replicate k 0)
zero_behind [] k i h = zeros_only k i
zero_behind (x ∷ text) k zero h = absurd (omega arith)
zero_behind (x ∷ text) k (suc i) h = zero_behind text k i (omega arith)

pub length_padded : (n : ℕ) (text : List ℕ) → length text ≤ n → length (padded n text) ≡ n
length_padded n text h = omega (arith, length-append text (replicate (n - length text) 0), length-replicate {A = ℕ} (n - length text) 0)

pub key_of_is : (text : List ℕ) → length text ≤ 64 → IsKey (key_of text)
unfolding key_of
key_of_is text h = record { fits = h; room = length_padded 64 text h; rest = zero_behind text (64 - length text) }

pub value_of_is : (kind : ℕ) (text : List ℕ) → length text ≡ value_len kind → value_len kind ≤ 180 → IsValue kind (value_of text)
unfolding value_of
value_of_is kind text l h = record { fits = l; room = length_padded 180 text (omega arith); rest = zero_behind text (180 - length text) }

all_zero : (bs : List ℕ) → ((i : ℕ) → get_or bs i 0 ≡ 0) → bs ≡ replicate (length bs) 0
all_zero [] h = refl
all_zero (b ∷ bs) h = let e : b ≡ 0 = h 0 in let r = all_zero bs (λ i. h (suc i)) in ap (λ x. x ∷ bs) e ∙ ap (λ z. 0 ∷ z) r

pub padded_back : (n len : ℕ) (bs : List ℕ) → length bs ≡ n → len ≤ n → ZeroFrom len bs → padded n (take len bs) ≡ bs
padded_back n zero bs l h z = let e = all_zero bs (λ i. z i (omega arith)) in let k : n - 0 ≡ length bs = omega arith in ap (λ j. replicate j 0) k ∙ sym e
padded_back n (suc len) [] l h z = absurd (omega arith)
padded_back n (suc len) (b ∷ bs) l h z =
    let k : n - suc (length (take len bs)) ≡ (n - 1) - length (take len bs) = omega arith in
    ap (λ j. b ∷ (take len bs ++ replicate j 0)) k ∙ ap (λ y. b ∷ y) (padded_back (n - 1) len bs (omega arith) (omega arith) (λ i q. z (suc i) (omega arith)))

pub key_back : (k : TreeKey) (text : List ℕ) (n : ℕ) → IsKey k → k.len ≡ n → text ≡ take n k.bytes → key_of text ≡ k
unfolding key_of
key_back k text n h l is =
    let fits : n ≤ 64 = omega (arith, h.fits, l) in
    let long : length text ≡ k.len = ap length is ∙ (length-take-le n k.bytes (omega (arith, h.room, fits)) ∙ sym l) in
    let same : take n k.bytes ≡ take k.len k.bytes = ap (λ j. take j k.bytes) (sym l) in
    let bytes : padded 64 text ≡ k.bytes = ap (padded 64) (is ∙ same) ∙ padded_back 64 k.len k.bytes h.room h.fits h.rest in
    λ i. record { len = long i; bytes = bytes i }

pub value_back : (kind : ℕ) (v : Value) (text : List ℕ) (n : ℕ) → IsValue kind v → n ≤ 180 → v.len ≡ n → text ≡ take n v.bytes → value_of text ≡ v
unfolding value_of
value_back kind v text n h fits l is =
    let long : length text ≡ v.len = ap length is ∙ (length-take-le n v.bytes (omega (arith, h.room, fits)) ∙ sym l) in
    let same : take n v.bytes ≡ take v.len v.bytes = ap (λ j. take j v.bytes) (sym l) in
    let bytes : padded 180 text ≡ v.bytes = ap (padded 180) (is ∙ same) ∙ padded_back 180 v.len v.bytes h.room (omega (arith, l, fits)) h.rest in
    λ i. record { len = long i; bytes = bytes i }

-- ---- tests

pub chosen_again : {A : Type 0} (t : Bool) (x y : A) → t ≡ true → x ≡ y → (if t then Some x else None) ≡ Some y
chosen_again t x y h e = rw h (ap (λ z. Some z) e)

pub chosen_test : {A : Type 0} (t : Bool) (x y : A) → (if t then Some x else None) ≡ Some y → t ≡ true
chosen_test true x y h = refl
chosen_test false x y h = absurd (cc)

pub chosen_is : {A : Type 0} (t : Bool) (x y : A) → (if t then Some x else None) ≡ Some y → x ≡ y
chosen_is true x y h = cc
chosen_is false x y h = absurd (cc)

pub first_holds : (a b : Bool) → (a && b) ≡ true → a ≡ true
first_holds true b h = refl
first_holds false b h = h

pub then_holds : (a b : Bool) → (a && b) ≡ true → b ≡ true
then_holds true b h = h
then_holds false b h = absurd (cc)

-- the number at a place of fields
abbrev pub number_no : ℕ → Fields → ℕ
number_no i fs = (get_or fs i (0, 0)).1
