-- The map of blocks is right, and the roots are taken, beyond the fixed places.
use Rattle.std.proofs.Common.{◌≡◌, ◌≢◌, ℕ, zero, suc, ◌+◌, ◌*◌, ◌/◌, ◌%◌, ◌≤◌, ◌<◌, Bool, true, false, min, ◌==◌, ◌&&◌, ◌||◌, nat_le, nat_lt, List, [], ◌∷◌, Ok, Err, refl, sym, ap, ◌∙◌, subst, arith}
use Rattle.std.specs.Int.{bit_at}
use Rattle.base_outside.specs.Images.{Image}
use Rattle.pmem_pages.specs.Counts.{times_one, times_own}
use Rattle.pmem_pages.specs.Owned.{blocks-append}
use Rattle.pmem_pages.specs.Owners.{Holds, owned_each, times, times-append}
use Rattle.pmem_pages.specs.Shape.{Fork, Leaf, Shape, blocks_of, entries, root_of}
use Rattle.pmem_alloc.specs.Map.{MapState, blocks_end, is_block}
use Rattle.vos_commits.specs.Kept.{content_of as bytes_of}
use Rattle.vos_places.specs.vos_image.Content.{Content, shown}
use Rattle.vos_places.specs.vos_image.Kept.{Stored, stored_owner}
use Rattle.vos_places.specs.vos_image.Places.{are_bits_right, is_bit_right, read_map}
use Rattle.vos_places.specs.vos_image.Steps.{◌>>=◌, rule}
use Rattle.vos_places.proofs.vos_image.Levels.{first_holds, root_taken, second_holds}
use Rattle.vos_places.specs.vos_entries.Entries.{entries_owner, entry_level}
use Rattle.vos_levels.specs.Levels.{Hung, Level, hung, hung_root}
use Rattle.vos_places.specs.vos_path.Objects.{object_level, objects_owner}
use Rattle.vos_places.specs.Tables.{AreRoots}
use Rattle.vos_standing.specs.Standing.{IsReadOf, StaysBeside, content}
use Rattle.vos_standing.proofs.Agreeing.{map_bit_read}

-- ---- the map

both_true : (a b : Bool) → (a && b) ≡ true → (a ≡ true) × (b ≡ true)
both_true true b h = (refl, h)
both_true false b h = absurd (cc)

-- a bit of the map that is right in one content is so in another
abbrev pub BitsStayRight : Content → Content → Type 0
BitsStayRight c d = (q : ℕ) → q < 131072 → is_bit_right c q ≡ true → is_bit_right d q ≡ true

bits_on : (c d : Content) (b k : ℕ) → b + k ≤ 131072 → BitsStayRight c d → are_bits_right c b k ≡ true → are_bits_right d b k ≡ true
bits_on c d b zero low on h = refl
bits_on c d b (suc k) low on h =
    let parts = both_true (is_bit_right c b) (are_bits_right c (b + 1) k) h in
    let one = on b (omega arith) parts.0 in
    let more = bits_on c d (b + 1) k (omega arith) on parts.1 in
    rw (one, more) refl

not_both : (at : ℕ) (x : Unit {0} × List ℕ) → Err at ≡ Ok x → ⊥
not_both at x e = cc

-- a reading of the map that goes on past a byte read it as right
pub map_on : (c d : Content) (j k : ℕ) → j + k ≤ 16384 → BitsStayRight c d → read_map c j k [] ≡ Ok (tt, []) → read_map d j k [] ≡ Ok (tt, [])
unfolding ◌>>=◌ rule
map_on c d j zero low on h = refl
map_on c d j (suc k) low on h = by (are_bits_right c (8 * j) 8) refl (map_on c d (j + 1) k (omega arith) on)
  where
    by : (t : Bool) → are_bits_right c (8 * j) 8 ≡ t → (read_map c (j + 1) k [] ≡ Ok (tt, []) → read_map d (j + 1) k [] ≡ Ok (tt, [])) → read_map d j (suc k) [] ≡ Ok (tt, [])
    by true is onward =
        let rest : read_map c (j + 1) k [] ≡ Ok (tt, []) = sym (rw is refl) ∙ h in
        let right = bits_on c d (8 * j) 8 (omega arith) on is in
        rw right (onward rest)
    by false is onward = absurd (not_both (307200 + j) (tt, []) (sym (rw is refl) ∙ h))

bit_or : (x y z : Bool) → (x ≡ false → y ≡ true → z ≡ true) → (x || y) ≡ true → (x || z) ≡ true
bit_or true y z on h = refl
bit_or false y z on h = on refl h

is_one : (n k : ℕ) → n ≡ k → (k == 1) ≡ true → (n == 1) ≡ true
is_one n k same h = ap (λ (x : ℕ). x == 1) same ∙ h

-- what stands beside the blocks has the bits of the map that are looked at
pub bits_stay : (size : ℕ) (f g : Image) (m n : MapState) → IsReadOf size f m → IsReadOf size g n → StaysBeside m f n g → BitsStayRight (content size f) (content size g)
unfolding blocks_end
bits_stay size f g m n k l s q low =
    bit_or (nat_le 1264 q && nat_lt q (min (size / 256) 131072)) (bit_at (bytes_of f (307200 + q / 8)) (q % 8) == 1) (bit_at (bytes_of g (307200 + q / 8)) (q % 8) == 1)
    (λ out one.
    is_one (bit_at (bytes_of g (307200 + q / 8)) (q % 8)) (bit_at (bytes_of f (307200 + q / 8)) (q % 8))
    (sym (map_bit_read size g n q l low) ∙ (s.map.bits q (ap (λ (e : ℕ). is_block e q) k.end ∙ out) ∙ map_bit_read size f m q k low)) one)

-- ---- the roots

root_in_tree : (t : Shape) → root_of t ≢ 0 → 1 ≤ times (root_of t) (blocks_of (entries t))
root_in_tree Leaf some = absurd (some refl)
root_in_tree (Fork l e r) some =
    let split = ap (times e.block) (blocks-append (entries l) (e ∷ entries r)) in
    omega (arith, split, times-append e.block (blocks_of (entries l)) (e.block ∷ blocks_of (entries r)), times_one e.block e.block (blocks_of (entries r)), times_own e.block)

root_in : {A : Type 0} (L : Level A) (x : Hung A) → hung_root x ≢ 0 → 1 ≤ times (hung_root x) ((hung L).owned x)
root_in L x some = omega (arith, root_in_tree x.0 some, times-append (hung_root x) (blocks_of (entries x.0)) (owned_each L.owner x.1))

-- the roots of what stands in blocks are taken, and not the same
pub roots_taken : (c : Content) (x : Stored) → Holds stored_owner (shown c) x → AreRoots c (hung_root x.0) (hung_root x.1)
roots_taken c x h = record {
  first = root_taken object_level c x.0 (first_holds objects_owner entries_owner c x h);
  second = root_taken entry_level c x.1 (second_holds objects_owner entries_owner c x h);
  apart = λ some same.
      let there : hung_root x.1 ≢ 0 = λ zero_root. some (sym same ∙ zero_root) in
      let one = root_in object_level x.0 some in
      let two = subst (λ (r : ℕ). 1 ≤ times r (entries_owner.owned x.1)) same (root_in entry_level x.1 there) in
      let most = h.apart (hung_root x.0) in
      omega (arith, one, two, most, times-append (hung_root x.0) (objects_owner.owned x.0) (entries_owner.owned x.1));
}
