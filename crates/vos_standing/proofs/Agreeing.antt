-- The blocks of a content are those that are shown by the map that is read of it.
use Rattle.std.proofs.Common.{◌≡◌, ℕ, ◌+◌, ◌-◌, ◌*◌, ◌/◌, ◌%◌, ◌^◌, ◌≤◌, ◌<◌, Bool, true, false, cond, min, ◌==◌, ◌&&◌, not, leb, ltb, nat_le, nat_lt, List, [], ◌∷◌, Some, None, refl, sym, ap, ◌∙◌, arith, inl, inr}
use Rattle.std.specs.Prelude.{slice_index}
use Rattle.std.specs.Int.{bit_at}
use Rattle.std.proofs.lemmas.Bool.{cases_lt}
use Rattle.std.proofs.lemmas.Bool.Decides.{nat_tests}
use Rattle.base_outside.specs.Images.{Image, bytes_at}
use Rattle.base_outside.specs.ImageLaws.{same_bytes_at}
use Rattle.pmem_pages.specs.Blocks.{IsTaken}
use Rattle.pmem_pages.specs.Owners.{Holds, Owner, times}
use Rattle.pmem_undo.specs.Layout.{is_content}
use Rattle.pmem_alloc.specs.Map.{MapState, beside, blocks_end, blocks_of, free_in, free_of, is_free, map_bit, shown_in}
use Rattle.vos_commits.specs.Kept.{content_of as bytes_of}
use Rattle.vos_places.specs.vos_image.Content.{Content, block, is_taken, shown}
use Rattle.vos_standing.specs.Standing.{IsReadOf, content}

-- ---- bytes of a content

-- those from the map on, and those before the gate byte, are the image's
pub byte_beyond : (f : Image) (i : ℕ) → 307200 ≤ i → bytes_of f i ≡ f i
unfolding bytes_of
byte_beyond f i high = let is : is_content i ≡ true = grind (arith, nat_tests) in rw is refl

pub byte_below : (f : Image) (i : ℕ) → i < 32768 → bytes_of f i ≡ f i
unfolding bytes_of
byte_below f i low = let is : is_content i ≡ true = grind (arith, nat_tests) in rw is refl

-- ---- a block

agree : (l h z y : Bool) (a b : List ℕ) → (l ≡ true → a ≡ b) → (h ≡ true → z ≡ y) → cond (l && (h && not (l && (h && z)))) (Some a) None ≡ cond (l && (h && not y)) (Some b) None
agree true true z y a b bytes bit = let e = bit refl in let g = bytes refl in rw (e, g) refl
agree true false z y a b bytes bit = refl
agree false h z y a b bytes bit = refl

bit_read : (size : ℕ) (f : Image) (m : MapState) (q : ℕ) → IsReadOf size f m → q < 131072 → slice_index m.bytes (q / 8) ≡ bytes_of f (307200 + q / 8)
bit_read size f m q k low = k.bytes (q / 8) (omega arith) ∙ sym (byte_beyond f (307200 + q / 8) (omega arith))

-- the bit of a block in a map that is read
pub map_bit_read : (size : ℕ) (f : Image) (m : MapState) (q : ℕ) → IsReadOf size f m → q < 131072 → map_bit m q ≡ bit_at (bytes_of f (307200 + q / 8)) (q % 8)
map_bit_read size f m q k low = ap (λ (x : ℕ). bit_at x (q % 8)) (bit_read size f m q k low)

end_is : (size : ℕ) (f : Image) (m : MapState) → IsReadOf size f m → m.end ≡ min (size / 256) 131072
unfolding blocks_end
end_is size f m k = k.end

blocks_agree : (size : ℕ) (f : Image) (m : MapState) (q : ℕ) → IsReadOf size f m → blocks_of m.end (free_of m) f q ≡ shown (content size f) q
unfolding blocks_of free_in is_free shown is_taken block
blocks_agree size f m q k =
    let end = end_is size f m k in
    ap (λ (n : ℕ). cond (leb 1264 q && (ltb q n && not (leb 1264 q && (ltb q n && (bit_at (slice_index m.bytes (q / 8)) (q % 8) == 0))))) (Some (bytes_at f (256 * q) 256)) None) end
    ∙ agree (leb 1264 q) (ltb q (min (size / 256) 131072)) (bit_at (slice_index m.bytes (q / 8)) (q % 8) == 0) (bit_at (bytes_of f (307200 + q / 8)) (q % 8) == 0) (bytes_at f (256 * q) 256) (bytes_at (bytes_of f) (256 * q) 256)
    (λ low. let from : 1264 ≤ q = grind (arith, nat_tests) in same_bytes_at (bytes_of f) f (256 * q) 256 (λ i at below. sym (byte_beyond f i (omega arith))))
    (λ high. let below : q < min (size / 256) 131072 = grind (arith, nat_tests) in ap (λ (x : ℕ). bit_at x (q % 8) == 0) (bit_read size f m q k (omega arith)))

pub named_agree : (size : ℕ) (f : Image) (m : MapState) (q : ℕ) → IsReadOf size f m → q < 2 ^ 32 → shown_in m f q ≡ shown (content size f) q
unfolding shown_in
named_agree size f m q k low = let l : ltb q 4294967296 ≡ true = grind (arith, nat_tests) in rw l (blocks_agree size f m q k)

-- what is shown past the names of blocks
pub past_shown : (m : MapState) (f : Image) (i : ℕ) → shown_in m f (4294967296 + i) ≡ Some (beside m f i ∷ [])
unfolding shown_in
past_shown m f i =
    let l : ltb (4294967296 + i) 4294967296 ≡ false = grind (arith, nat_tests) in
    let at : (4294967296 + i) - 4294967296 ≡ i = omega arith in
    rw (l, at) refl

-- no block of a content has so great a number
pub none_past : (c : Content) (q : ℕ) → 131072 ≤ q → shown c q ≡ None
unfolding shown is_taken
none_past c q high =
    let h : nat_lt q (min (c.size / 256) 131072) ≡ false = grind (arith, nat_tests) in
    elim (nat_le 1264 q) as (λ l. cond (l && (nat_lt q (min (c.size / 256) 131072) && not (bit_at (c.bytes (307200 + q / 8)) (q % 8) == 0))) (Some (block c q)) None ≡ None) [ true ↦ rw h refl | false ↦ refl ]

pub some_is_low : (c : Content) (q : ℕ) → IsTaken (shown c) q → q < 131072
some_is_low c q taken = elim (cases_lt q 131072) [
  | inl low ↦ low
  | inr high ↦ (let no : None ≡ Some taken.bytes = sym (none_past c q high) ∙ taken.holds in absurd (cc))
]

-- so whatever stands in a content has blocks of lower numbers
pub owned_low : {G : Type 0} (O : Owner G) (c : Content) (x : G) → Holds O (shown c) x → (q : ℕ) → 0 < times q (O.owned x) → q < 131072
owned_low O c x h q some = some_is_low c q (O.is_taken (shown c) x h.here q some)
