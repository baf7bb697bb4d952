-- What stands in the blocks of a region has small trees.
use Rattle.std.proofs.Common.{◌≡◌, ℕ, ◌+◌, ◌*◌, ◌/◌, ◌%◌, ◌≤◌, ◌==◌, true, false, cond, ◌&&◌, not, min, nat_le, nat_lt, List, [], ◌∷◌, length, Some, None, ap, sym, ◌∙◌, arith, refl, inl, inr}
use Rattle.std.specs.Prelude.{All, if◌then◌else◌}
use Rattle.std.proofs.lemmas.Bool.{cases_lt}
use Rattle.std.proofs.lemmas.Bool.Decides.{nat_tests}
use Rattle.std.proofs.lemmas.List.Elements.{All-cons, All-head, All-nil, All-tail}
use Rattle.std.specs.Int.{bit_at}
use Rattle.base_outside.specs.Images.{Image, bytes_at}
use Rattle.base_types.specs.declared.id.AttemptId.{AttemptId}
use Rattle.pmem_alloc.specs.Map.{blocks_end, blocks_of as blocks_in, free_of, shown_in}
use Rattle.pmem_alloc.specs.Sets.{Set}
use Rattle.pmem_pages.specs.Blocks.{Blocks}
use Rattle.pmem_pages.specs.Owned.{tree_owner}
use Rattle.pmem_pages.specs.Owners.{Holds, Owner, both, each, owned_each, times-append}
use Rattle.vos_chain.specs.Chains.{Links}
use Rattle.vos_entries.specs.Entries.{Stored as StoredEntry, entries_owner, entry_level, is_at, list_blocks_at, list_bytes}
use Rattle.vos_image.specs.vos_extent.Extents.{extent_level}
use Rattle.vos_settle.specs.vos_ilog.Logs.{log_level, log_owner}
use Rattle.vos_image.specs.Content.{block, is_taken, shown}
use Rattle.vos_levels.specs.Levels.{Hung, Level, hung, in_part, things}
use Rattle.vos_image.specs.vos_path.Objects.{Akey, Dkey, Object, Objects, Values, akey_level, below_owner, dkey_level, held_below, held_values, object_level, objects_owner, values_owner}
use Rattle.vos_image.specs.vos_path.Writes.{AkeyIsSmall, AkeysAreSmall, DkeyIsSmall, DkeysAreSmall, IsSmall, ObjectIsSmall, ObjectsAreSmall, ValuesAreSmall}
use Rattle.vos_image.specs.vos_single.Singles.{single_level}
use Rattle.vos_small.specs.Small.{AreOfRegion, ContentsAreOfRegions, EntriesInRegionsAreSmall, MapsAreOfRegions, ObjectsInRegionsAreSmall, StoredInRegionsAreSmall, UnlistedTakeNone}
use Rattle.vos_small.proofs.Counting.{small_tree}

-- ---- blocks of a region

some_none : {A : Type 0} (a : A) → None ≡ Some a → ⊥
some_none a e = cc

pub contents_are_of_regions : ContentsAreOfRegions
unfolding shown is_taken
contents_are_of_regions c q low taken = elim (cases_lt q 131072) [
  | inl less ↦ less
  | inr high ↦
      (let out : nat_lt q (min (c.size / 256) 131072) ≡ false = grind (arith, nat_tests) in
      let none : shown c q ≡ None = elim (nat_le 1264 q) as (λ l. cond (l && (nat_lt q (min (c.size / 256) 131072) && not (bit_at (c.bytes (307200 + q / 8)) (q % 8) == 0))) (Some (block c q)) None ≡ None) [ true ↦ rw out refl | false ↦ refl ] in
      absurd (some_none taken.bytes (sym none ∙ taken.holds)))
]

none_beyond : (end : ℕ) (free : Set) (f : Image) (q : ℕ) → end ≤ q → blocks_in end free f q ≡ None
unfolding blocks_in
none_beyond end free f q high =
    let out : nat_lt q end ≡ false = grind (arith, nat_tests) in
    elim (nat_le 1264 q) as (λ l. cond (l && (nat_lt q end && not (free q))) (Some (bytes_at f (256 * q) 256)) None ≡ None) [ true ↦ rw out refl | false ↦ refl ]

pub maps_are_of_regions : MapsAreOfRegions
unfolding shown_in blocks_end
maps_are_of_regions size m f end q low taken = elim (cases_lt q 131072) [
  | inl less ↦ less
  | inr high ↦
      (let named : nat_lt q 4294967296 ≡ true = grind (arith, nat_tests) in
      let none : shown_in m f q ≡ None = rw named (none_beyond m.end (free_of m) f q (omega (arith, end, high))) in
      absurd (some_none taken.bytes (sym none ∙ taken.holds)))
]

-- ---- parts

first : {A B : Type 0} (O : Owner A) (P : Owner B) (m : Blocks) (x : A × B) → Holds (both O P) m x → Holds O m x.0
first O P m x h = record { here = h.here.0; apart = λ q. omega (arith, h.apart q, times-append q (O.owned x.0) (P.owned x.1)) }

second : {A B : Type 0} (O : Owner A) (P : Owner B) (m : Blocks) (x : A × B) → Holds (both O P) m x → Holds P m x.1
second O P m x h = record { here = h.here.1; apart = λ q. omega (arith, h.apart q, times-append q (O.owned x.0) (P.owned x.1)) }

part : {A B : Type 0} (f : A → B) (O : Owner B) (m : Blocks) (a : A) → Holds (in_part f O) m a → Holds O m (f a)
part f O m a h = record { here = h.here; apart = h.apart }

hung_tree : {A : Type 0} (L : Level A) (m : Blocks) (g : Hung A) → Holds (hung L) m g → Holds (both (tree_owner L.kind) (each L.owner)) m g
hung_tree L m g h = record { here = h.here.0; apart = h.apart }

hung_things : {A : Type 0} (L : Level A) (m : Blocks) (g : Hung A) → Holds (hung L) m g → Holds (each L.owner) m (things g)
hung_things L m g h = second (tree_owner L.kind) (each L.owner) m g (hung_tree L m g h)

all_hold : {A : Type 0} (O : Owner A) (m : Blocks) (P : A → Type 0) → ((a : A) → Holds O m a → P a) → (xs : List A) → Holds (each O) m xs → All P xs
all_hold O m P so [] h = All-nil P
all_hold O m P so (a ∷ xs) h =
    All-cons P a xs (so a (record { here = h.here.0; apart = λ q. omega (arith, h.apart q, times-append q (O.owned a) (owned_each O xs)) }))
    (all_hold O m P so xs (record { here = h.here.1; apart = λ q. omega (arith, h.apart q, times-append q (O.owned a) (owned_each O xs)) }))

-- ---- small trees

module _ (m : Blocks) (of_region : AreOfRegion m) where
  hung_small : {A : Type 0} (L : Level A) (g : Hung A) → Holds (hung L) m g → IsSmall 17 g
  hung_small L g h =
      let tree = first (tree_owner L.kind) (each L.owner) m g (hung_tree L m g h) in
      small_tree m L.kind g.0 of_region tree.here tree.apart

  values_small : (a : Values) → Holds values_owner m a → ValuesAreSmall 17 a
  values_small a h =
      let rest = second log_owner (both (hung single_level) (hung extent_level)) m a h in (
        hung_small log_level a.0 (first log_owner (both (hung single_level) (hung extent_level)) m a h),
        (
          hung_small single_level a.1.0 (first (hung single_level) (hung extent_level) m a.1 rest),
          hung_small extent_level a.1.1 (second (hung single_level) (hung extent_level) m a.1 rest),
        ),
      )

  akey_small : (a : Akey) → Holds akey_level.owner m a → AkeyIsSmall 17 a
  akey_small a h = values_small a.holds (part held_values values_owner m a h)

  akeys_small : (g : Hung Akey) → Holds (hung akey_level) m g → AkeysAreSmall 17 g
  akeys_small g h = (hung_small akey_level g h, all_hold akey_level.owner m (AkeyIsSmall 17) akey_small (things g) (hung_things akey_level m g h))

  dkey_small : (k : Dkey) → Holds dkey_level.owner m k → DkeyIsSmall 17 k
  dkey_small k h =
      let below = part held_below (below_owner akey_level) m k h in
      (hung_small log_level k.holds.0 (first log_owner (hung akey_level) m k.holds below), akeys_small k.holds.1 (second log_owner (hung akey_level) m k.holds below))

  dkeys_small : (g : Hung Dkey) → Holds (hung dkey_level) m g → DkeysAreSmall 17 g
  dkeys_small g h = (hung_small dkey_level g h, all_hold dkey_level.owner m (DkeyIsSmall 17) dkey_small (things g) (hung_things dkey_level m g h))

  object_small : (o : Object) → Holds object_level.owner m o → ObjectIsSmall 17 o
  object_small o h =
      let below = part held_below (below_owner dkey_level) m o h in
      (hung_small log_level o.holds.0 (first log_owner (hung dkey_level) m o.holds below), dkeys_small o.holds.1 (second log_owner (hung dkey_level) m o.holds below))

  all_objects_small : (g : Objects) → Holds objects_owner m g → ObjectsAreSmall 17 g
  all_objects_small g h = (hung_small object_level g h, all_hold object_level.owner m (ObjectIsSmall 17) object_small (things g) (hung_things object_level m g h))

pub objects_in_regions_are_small : ObjectsInRegionsAreSmall
objects_in_regions_are_small m g of_region h = all_objects_small m of_region g h

pub entries_in_regions_are_small : EntriesInRegionsAreSmall
entries_in_regions_are_small m g of_region h = hung_small m of_region entry_level g h

pub stored_in_regions_are_small : StoredInRegionsAreSmall
stored_in_regions_are_small m x of_region h = record {
  objects = all_objects_small m of_region x.0 (first objects_owner entries_owner m x h);
  entries = hung_small m of_region entry_level x.1 (second objects_owner entries_owner m x h);
}

-- ---- lists of nothing

empty : (m : Blocks) (bs ns : List ℕ) → ns ≡ [] → Links m bs (list_bytes ns) → length bs ≡ 0
empty m [] ns none s = refl
empty m (b ∷ bs) ns none s =
    let some = s.1.1.0 in
    let long : length (list_bytes ns) ≡ 0 = ap (λ (z : List ℕ). length (list_bytes z)) none in
    absurd (omega (arith, some, long))

record TakesNone (s : StoredEntry) : Type 0 where
  blocks : length s.blocks ≡ 0

none_at : (a : AttemptId) (xs : List StoredEntry) → All TakesNone xs → list_blocks_at a xs ≡ 0
none_at a [] all = refl
none_at a (s ∷ xs) all =
    let here = (All-head TakesNone s xs all).blocks in
    let rest = none_at a xs (All-tail TakesNone s xs all) in
    elim (is_at a s) as (λ t. (if t then length s.blocks else 0) + list_blocks_at a xs ≡ 0) [ true ↦ omega (arith, here, rest) | false ↦ omega (arith, rest) ]

both_all : {A : Type 0} (P Q R : A → Type 0) → ((a : A) → P a → Q a → R a) → (xs : List A) → All P xs → All Q xs → All R xs
both_all P Q R so [] p q = All-nil R
both_all P Q R so (x ∷ xs) p q = All-cons R x xs (so x (All-head P x xs p) (All-head Q x xs q)) (both_all P Q R so xs (All-tail P x xs p) (All-tail Q x xs q))

pub unlisted_take_none : UnlistedTakeNone
unlisted_take_none m g a h unlisted =
    let stand = all_hold entry_level.owner m (λ s. Holds entry_level.owner m s) (λ s held. held) (things g) (hung_things entry_level m g h) in
    none_at a (things g) (both_all (λ s. Holds entry_level.owner m s) (λ s. s.nodes ≡ []) TakesNone (λ s held none. record { blocks = empty m s.blocks s.nodes none held.here }) (things g) stand unlisted)
