-- Blocks as the trees above see them, from call to call.
use Rattle.std.proofs.Common.{◌≡◌, ◌⊎◌, ℕ, ◌+◌, ◌-◌, ◌*◌, ◌≤◌, ◌<◌, Bool, true, false, cond, leb, ltb, eqb, not, ◌&&◌, List, length, get_or, Option, Some, None, refl, sym, ap, ◌∙◌, arith, inl, inr}
use mathlib.Core.Path.{fun_ext}
use Rattle.std.proofs.lemmas.Bool.Decides.{nat_tests, eqb_tells}
use Rattle.base_outside.specs.Images.{Image, Range, lies_in, over, bytes_at}
use Rattle.base_outside.specs.ImageLaws.{over_outside, over_inside, same_bytes_at, known_bytes_at}
use Rattle.pmem_pages.specs.Blocks.{Blocks, put, IsTaken}
use Rattle.pmem_undo.specs.Layout.{IsContent}
use Rattle.pmem_alloc.specs.Sets.{Set, set_to}
use Rattle.pmem_alloc.specs.Map.{map_place, map_end, blocks_end, blocks_of}
use Rattle.pmem_alloc.proofs.Counting.{set_here, set_other}

put_here : (m : Blocks) (b : ℕ) (x : Option (List ℕ)) → put m b x b ≡ x
unfolding put
put_here m b x = let e : eqb b b ≡ true = grind (arith, nat_tests) in rw e refl

put_other : (m : Blocks) (b q : ℕ) (x : Option (List ℕ)) → (q ≡ b → ⊥) → put m b x q ≡ m q
unfolding put
put_other m b q x ne = let e : eqb q b ≡ false = grind (arith, nat_tests) in rw e refl

shown_by : (free : Bool) (low high : Bool) (x bytes : List ℕ) → cond (low && (high && not free)) (Some bytes) None ≡ Some x → (low ≡ true) × ((high ≡ true) × (free ≡ false))
shown_by free false high x bytes is = absurd (cc)
shown_by free true false x bytes is = absurd (cc)
shown_by true true true x bytes is = absurd (cc)
shown_by false true true x bytes is = (refl, (refl, refl))

-- a block that has bytes is taken
pub block_taken : (end : ℕ) (free : Set) (f : Image) (b : ℕ) → IsTaken (blocks_of end free f) b → (1264 ≤ b) × ((b < end) × (free b ≡ false))
unfolding blocks_of
block_taken end free f b taken =
    let parts = shown_by (free b) (leb 1264 b) (ltb b end) taken.bytes (bytes_at f (256 * b) 256) taken.holds in
    let low = parts.0 in
    let high = parts.1.0 in
    (grind (arith, nat_tests), (grind (arith, nat_tests), parts.1.1))

pub block_bytes : (end : ℕ) (free : Set) (f : Image) (b : ℕ) → 1264 ≤ b → b < end → free b ≡ false → blocks_of end free f b ≡ Some (bytes_at f (256 * b) 256)
unfolding blocks_of
block_bytes end free f b low high taken =
    let l : leb 1264 b ≡ true = grind (arith, nat_tests) in
    let h : ltb b end ≡ true = grind (arith, nat_tests) in
    rw (l, h, taken) refl

pub block_free : (end : ℕ) (free : Set) (f : Image) (b : ℕ) → free b ≡ true → blocks_of end free f b ≡ None
unfolding blocks_of
block_free end free f b is =
    elim (leb 1264 b) as (λ l. cond (l && (ltb b end && not (free b))) (Some (bytes_at f (256 * b) 256)) None ≡ None) [
      | true ↦ elim (ltb b end) as (λ h. cond (h && not (free b)) (Some (bytes_at f (256 * b) 256)) None ≡ None) [ true ↦ rw is refl | false ↦ refl ]
      | false ↦ refl
    ]

-- a block depends on whether it is free and on its bytes, where it stands behind the map
block_same : (end : ℕ) (free free' : Set) (f f' : Image) (q : ℕ) → free' q ≡ free q → (1264 ≤ q → bytes_at f' (256 * q) 256 ≡ bytes_at f (256 * q) 256) → blocks_of end free' f' q ≡ blocks_of end free f q
unfolding blocks_of
block_same end free free' f f' q is same =
    elim (leb 1264 q) as (λ l. (l ≡ true → 1264 ≤ q) → cond (l && (ltb q end && not (free' q))) (Some (bytes_at f' (256 * q) 256)) None ≡ cond (l && (ltb q end && not (free q))) (Some (bytes_at f (256 * q) 256)) None) [
      | true ↦ λ low. rw (is, same (low refl)) refl
      | false ↦ λ low. refl
    ] (λ e. grind (arith, nat_tests))

block_written : (f : Image) (b : ℕ) (bytes : List ℕ) → length bytes ≡ 256 → bytes_at (over (record { place = 256 * b; bytes = bytes }) f) (256 * b) 256 ≡ bytes
block_written f b bytes long =
    let r : Range = record { place = 256 * b; bytes = bytes } in
    ap (bytes_at (over r f) (256 * b)) (sym long)
    ∙ known_bytes_at (over r f) (256 * b) bytes (λ k below.
    let inside : lies_in (256 * b + k) r ≡ true = grind (arith, nat_tests) in
    let e : (256 * b + k) - 256 * b ≡ k = omega arith in
    over_inside r f (256 * b + k) inside ∙ ap (λ (j : ℕ). get_or bytes j 0) e)

block_apart : (f : Image) (b q : ℕ) (bytes : List ℕ) → length bytes ≡ 256 → (q ≡ b → ⊥) → bytes_at (over (record { place = 256 * b; bytes = bytes }) f) (256 * q) 256 ≡ bytes_at f (256 * q) 256
block_apart f b q bytes long ne =
    let r : Range = record { place = 256 * b; bytes = bytes } in
    same_bytes_at f (over r f) (256 * q) 256 (λ i low high. let out : lies_in i r ≡ false = grind (arith, nat_tests) in over_outside r f i out)

-- the bytes of a block are staged
pub block_staged : (end : ℕ) (free : Set) (f : Image) (b : ℕ) (bytes : List ℕ) → length bytes ≡ 256 → 1264 ≤ b → b < end → free b ≡ false → blocks_of end free (over (record { place = 256 * b; bytes = bytes }) f) ≡ put (blocks_of end free f) b (Some bytes)
block_staged end free f b bytes long low high taken =
    let g = over (record { place = 256 * b; bytes = bytes }) f in
    fun_ext (λ q. elim (eqb_tells q b) [
      | inl same ↦
          let e : q ≡ b = same.1 in
          ap (blocks_of end free g) e ∙ (block_bytes end free g b low high taken ∙ (ap Some (block_written f b bytes long) ∙ (sym (put_here (blocks_of end free f) b (Some bytes)) ∙ ap (put (blocks_of end free f) b (Some bytes)) (sym e))))
      | inr apart ↦
          block_same end free free f g q refl (λ from. block_apart f b q bytes long apart.1) ∙ sym (put_other (blocks_of end free f) b q (Some bytes) apart.1)
    ])

block_behind : (f f' : Image) (q : ℕ) → ((i : ℕ) → (i < map_place) ⊎ (map_end ≤ i) → f' i ≡ f i) → 1264 ≤ q → bytes_at f' (256 * q) 256 ≡ bytes_at f (256 * q) 256
block_behind f f' q elsewhere low = same_bytes_at f f' (256 * q) 256 (λ i from below. elsewhere i (inr (omega arith)))

-- a free block is taken, with what stood in it
pub block_taken_now : (end : ℕ) (free free' : Set) (f f' : Image) (b : ℕ) → free' ≡ set_to free b false → ((i : ℕ) → (i < map_place) ⊎ (map_end ≤ i) → f' i ≡ f i) → 1264 ≤ b → b < end → blocks_of end free' f' ≡ put (blocks_of end free f) b (Some (bytes_at f' (256 * b) 256))
block_taken_now end free free' f f' b is elsewhere low high =
    let x = Some (bytes_at f' (256 * b) 256) in
    fun_ext (λ q. elim (eqb_tells q b) [
      | inl same ↦
          let e : q ≡ b = same.1 in
          ap (blocks_of end free' f') e ∙ (block_bytes end free' f' b low high (ap (λ (s : Set). s b) is ∙ set_here free b false) ∙ (sym (put_here (blocks_of end free f) b x) ∙ ap (put (blocks_of end free f) b x) (sym e)))
      | inr apart ↦
          block_same end free free' f f' q (ap (λ (s : Set). s q) is ∙ set_other free b q false apart.1) (block_behind f f' q elsewhere) ∙ sym (put_other (blocks_of end free f) b q x apart.1)
    ])

-- a block is given back
pub block_given : (end : ℕ) (free free' : Set) (f f' : Image) (b : ℕ) → free' ≡ set_to free b true → ((i : ℕ) → (i < map_place) ⊎ (map_end ≤ i) → f' i ≡ f i) → blocks_of end free' f' ≡ put (blocks_of end free f) b None
block_given end free free' f f' b is elsewhere =
    fun_ext (λ q. elim (eqb_tells q b) [
      | inl same ↦
          let e : q ≡ b = same.1 in
          ap (blocks_of end free' f') e ∙ (block_free end free' f' b (ap (λ (s : Set). s b) is ∙ set_here free b true) ∙ (sym (put_here (blocks_of end free f) b None) ∙ ap (put (blocks_of end free f) b None) (sym e)))
      | inr apart ↦
          block_same end free free' f f' q (ap (λ (s : Set). s q) is ∙ set_other free b q true apart.1) (block_behind f f' q elsewhere) ∙ sym (put_other (blocks_of end free f) b q None apart.1)
    ])

-- a block that is one lies in the region, behind the map
pub block_is_content : (size b place : ℕ) → place ≡ 256 * b → 1264 ≤ b → b < blocks_end size → IsContent size place 256
unfolding blocks_end
block_is_content size b place is low high = record { inside = omega arith; outside = inr (inr (omega arith)) }

pub start_is_content : (size : ℕ) → 323584 ≤ size → IsContent size 0 256
start_is_content size big = record { inside = omega arith; outside = inl (omega arith) }
