-- What the calls of an allocator do to the blocks that are shown, and to what is left to stage.
use Rattle.std.proofs.Common.{◌≡◌, ◌⊎◌, ℕ, ◌+◌, ◌-◌, ◌*◌, ◌^◌, ◌≤◌, ◌<◌, true, false, cond, eqb, ltb, List, [], ◌∷◌, ◌++◌, length, Option, Some, None, refl, sym, ap, ◌∙◌, subst, arith, inl, inr, length-append}
use mathlib.Core.Path.{fun_ext}
use Rattle.std.proofs.lemmas.Bool.{cases_Bool, cases_lt}
use Rattle.std.proofs.lemmas.Bool.Decides.{nat_tests}
use Rattle.base_outside.specs.Images.{Image, Range, over, all_over, bytes_at}
use Rattle.pmem_pages.specs.Blocks.{Blocks, put, IsSpent, IsTaken}
use Rattle.pmem_undo.specs.Layout.{total_bytes}
use Rattle.base_outside.specs.ImageLaws.{all_over-push, over_outside}
use Rattle.pmem_alloc.specs.Sets.{Set, set_to, IsLeast, count_below}
use Rattle.pmem_alloc.specs.Map.{MapState, SameBeside, beside, blocks_of, free_of, is_block, map_bit, map_end, map_place, shown_in}
use Rattle.pmem_alloc.specs.Blocks.{BlocksState, free_now, free_count, StagesMap}
use Rattle.pmem_alloc.specs.Pages.{shown, left}
use Rattle.pmem_alloc.proofs.Counting.{count_in, count_out}
use Rattle.pmem_alloc.specs.Laws.{free_in_within}
use Rattle.pmem_alloc.proofs.Staging.{total-push}
use Rattle.pmem_alloc.proofs.Paging.{block_staged, block_taken_now, block_given, block_free}

-- ---- what is shown

-- of a block that a call names
shown_named : (m : MapState) (f : Image) (q : ℕ) → q < 2 ^ 32 → shown_in m f q ≡ blocks_of m.end (free_of m) f q
unfolding shown_in
shown_named m f q low = let l : ltb q 4294967296 ≡ true = grind (arith, nat_tests) in rw l refl

pub taken_named : (m : MapState) (f : Image) (q : ℕ) → q < 2 ^ 32 → IsTaken (shown_in m f) q → IsTaken (blocks_of m.end (free_of m) f) q
taken_named m f q low taken = record { bytes = taken.bytes; holds = sym (shown_named m f q low) ∙ taken.holds }

pub bytes_named : (m : MapState) (f : Image) (q : ℕ) (x : Option (List ℕ)) → q < 2 ^ 32 → blocks_of m.end (free_of m) f q ≡ x → shown_in m f q ≡ x
bytes_named m f q x low is = shown_named m f q low ∙ is

-- one block changed, and what stands beside the blocks stays
shown_put : (m n : MapState) (f g : Image) (b : ℕ) (x : Option (List ℕ)) → b < 2 ^ 32 → blocks_of n.end (free_of n) g ≡ put (blocks_of m.end (free_of m) f) b x → ((i : ℕ) → beside n g i ≡ beside m f i) → shown_in n g ≡ put (shown_in m f) b x
unfolding shown_in put
shown_put m n f g b x low blocks stays = fun_ext (λ q. elim (cases_lt q 4294967296) [
  | inl named ↦ let l : ltb q 4294967296 ≡ true = grind (arith, nat_tests) in rw l (ap (λ (s : Blocks). s q) blocks)
  | inr high ↦
      let l : ltb q 4294967296 ≡ false = grind (arith, nat_tests) in
      let ne : eqb q b ≡ false = grind (arith, nat_tests) in
      rw (l, ne) (ap (λ (i : ℕ). Some (i ∷ [])) (stays (q - 4294967296)))
])

-- what stands beside the blocks goes by the bytes before the map and the bits of what aren't blocks
beside_same : (m n : MapState) (f g : Image) → SameBeside m n → ((i : ℕ) → i < map_place → g i ≡ f i) → (i : ℕ) → beside n g i ≡ beside m f i
unfolding beside
beside_same m n f g same before i =
    elim (cases_lt i 307200) [
      | inl low ↦ let l : ltb i 307200 ≡ true = grind (arith, nat_tests) in rw l (before i low)
      | inr high ↦
          let l : ltb i 307200 ≡ false = grind (arith, nat_tests) in
          rw l (ap (λ (e : ℕ). cond (is_block e (i - 307200)) 0 (map_bit n (i - 307200))) same.end
          ∙ elim (cases_Bool (is_block m.end (i - 307200))) [
            | inl is ↦ rw is refl
            | inr out ↦ rw out (same.bits (i - 307200) out)
          ])
    ]

-- a block was given back
pub given_shown : {R : Type 0} (image : R → Image) (old new : BlocksState R) (b : ℕ) → b < 2 ^ 32 → free_now new ≡ set_to (free_now old) b true → SameBeside old.map new.map → new.undo.region ≡ old.undo.region → StagesMap 1 old.undo.staged new.undo.staged → shown image new ≡ put (shown image old) b None
given_shown image old new b named given stays same staged =
    let f = all_over old.undo.staged (image old.undo.region) in
    let f' = all_over new.undo.staged (image new.undo.region) in
    let apart = λ (i : ℕ) (out : (i < map_place) ⊎ (map_end ≤ i)). ap (λ r. all_over new.undo.staged (image r) i) same ∙ staged.elsewhere (image old.undo.region) i out in
    shown_put old.map new.map f f' b None named (ap (λ (n : ℕ). blocks_of n (free_of new.map) f') stays.end ∙ block_given old.map.end (free_of old.map) (free_of new.map) f f' b given apart)
    (beside_same old.map new.map f f' stays (λ i low. apart i (inl low)))

pub given_count : {R : Type 0} (old new : BlocksState R) (b : ℕ) → free_now new ≡ set_to (free_now old) b true → new.map.end ≡ old.map.end → b < old.map.end → free_now old b ≡ false → free_count new ≡ free_count old + 1
given_count old new b given end low taken =
    ap (λ (n : ℕ). count_below (free_of new.map) n) end ∙ (ap (λ (s : Set). count_below s old.map.end) given ∙ count_in (free_of old.map) b old.map.end low taken)

-- a free block was taken
pub taken_shown : {R : Type 0} (image : R → Image) (old new : BlocksState R) (b : ℕ) → b < 2 ^ 32 → IsLeast (free_now old) b → free_now new ≡ set_to (free_now old) b false → SameBeside old.map new.map → new.undo.region ≡ old.undo.region → StagesMap 1 old.undo.staged new.undo.staged → (bytes : List ℕ) × (shown image new ≡ put (shown image old) b (Some bytes))
taken_shown image old new b named least taken stays same staged =
    let f = all_over old.undo.staged (image old.undo.region) in
    let f' = all_over new.undo.staged (image new.undo.region) in
    let within = free_in_within old.map.end old.map.bytes b least.is_in in
    let apart = λ (i : ℕ) (out : (i < map_place) ⊎ (map_end ≤ i)). ap (λ r. all_over new.undo.staged (image r) i) same ∙ staged.elsewhere (image old.undo.region) i out in (
      bytes_at f' (256 * b) 256,
      shown_put old.map new.map f f' b (Some (bytes_at f' (256 * b) 256)) named
          (ap (λ (n : ℕ). blocks_of n (free_of new.map) f') stays.end ∙ block_taken_now old.map.end (free_of old.map) (free_of new.map) f f' b taken apart within.0 within.1)
          (beside_same old.map new.map f f' stays (λ i low. apart i (inl low))),
    )

pub taken_count : {R : Type 0} (old new : BlocksState R) (b : ℕ) → IsLeast (free_now old) b → free_now new ≡ set_to (free_now old) b false → new.map.end ≡ old.map.end → free_count new + 1 ≡ free_count old
taken_count old new b least taken end =
    let within = free_in_within old.map.end old.map.bytes b least.is_in in
    ap (λ (n : ℕ). count_below (free_of new.map) n + 1) end ∙ (ap (λ (s : Set). count_below s old.map.end + 1) taken ∙ count_out (free_of old.map) b old.map.end within.1 least.is_in)

pub least_shown : {R : Type 0} (image : R → Image) (old : BlocksState R) (b : ℕ) → b < 2 ^ 32 → IsLeast (free_now old) b → shown image old b ≡ None
least_shown image old b named least = bytes_named old.map (all_over old.undo.staged (image old.undo.region)) b None named (block_free old.map.end (free_of old.map) (all_over old.undo.staged (image old.undo.region)) b least.is_in)

-- the bytes of a block were staged
abbrev pub with_range : {R : Type 0} → BlocksState R → ℕ → List ℕ → BlocksState R
with_range b place bytes = record { undo = record { region = b.undo.region; staged = b.undo.staged ++ record { place = place; bytes = bytes } ∷ []; stopped = b.undo.stopped }; map = b.map; lasting = b.lasting; last = b.last }

pub staged_shown : {R : Type 0} (image : R → Image) (old new : BlocksState R) (b place : ℕ) (bytes : List ℕ) → new ≡ with_range old place bytes → place ≡ 256 * b → length bytes ≡ 256 → b < 2 ^ 32 → 1264 ≤ b → b < old.map.end → free_now old b ≡ false → shown image new ≡ put (shown image old) b (Some bytes)
staged_shown {R = R} image old new b place bytes is at long named low high taken =
    let f = all_over old.undo.staged (image old.undo.region) in
    let r : Range = record { place = place; bytes = bytes } in
    ap (λ (s : BlocksState R). shown image s) is
    ∙ (ap (shown_in old.map) (all_over-push old.undo.staged r (image old.undo.region))
    ∙ (ap (λ (n : ℕ). shown_in old.map (over (record { place = n; bytes = bytes }) f)) at
    ∙ shown_put old.map old.map f (over (record { place = 256 * b; bytes = bytes }) f) b (Some bytes) named (block_staged old.map.end (free_of old.map) f b bytes long low high taken)
    (beside_same old.map old.map f (over (record { place = 256 * b; bytes = bytes }) f) (record { end = refl; bits = λ q out. refl })
    (λ i before. over_outside (record { place = 256 * b; bytes = bytes }) f i (grind (arith, nat_tests))))))

pub staged_spent : {R : Type 0} (old new : BlocksState R) (place : ℕ) (bytes : List ℕ) → new ≡ with_range old place bytes → length bytes ≡ 256 → IsSpent 1 256 (left old) (left new)
staged_spent {R = R} old new place bytes is long =
    let r : Range = record { place = place; bytes = bytes } in
    let ranges : length new.undo.staged ≡ length old.undo.staged + 1 = ap (λ (s : BlocksState R). length s.undo.staged) is ∙ length-append old.undo.staged (r ∷ []) in
    let total : total_bytes new.undo.staged ≡ total_bytes old.undo.staged + length bytes = ap (λ (s : BlocksState R). total_bytes s.undo.staged) is ∙ total-push old.undo.staged r in
    record { ranges_most = omega arith; ranges_least = omega arith; bytes_most = omega arith; bytes_least = omega arith }

pub kept_spent : {R : Type 0} (ranges bytes : ℕ) (old new : BlocksState R) → new ≡ old → IsSpent ranges bytes (left old) (left new)
kept_spent {R = R} ranges bytes old new is = subst (λ (s : BlocksState R). IsSpent ranges bytes (left old) (left s)) (sym is) (record { ranges_most = omega arith; ranges_least = omega arith; bytes_most = omega arith; bytes_least = omega arith })
