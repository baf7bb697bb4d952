-- Extents of an array, in the order of their first indexes and then of their moments, each with the chain of its bytes.
use Rattle.std.specs.Prelude.{◌≡◌, ◌==◌, ◌&&◌, ◌||◌, ◌+◌, ℕ, Bool, true, false, nat_lt, List, [], ◌∷◌, length, map, Option, Some, None}
use Rattle.std.specs.List.{list_any}
use Rattle.base_types.specs.declared.id.AttemptId.{AttemptId}
use Rattle.pmem_pages.specs.Owners.{Owner}
use Rattle.pmem_pages.specs.declared.node.Pair.{Pair}
use Rattle.pmem_pages.specs.declared.node.TreeKey.{TreeKey}
use Rattle.pmem_pages.specs.declared.node.Value.{Value}
use Rattle.vos_values.specs.declared.keys.ExtentKey.{ExtentKey}
use Rattle.vos_values.specs.declared.values.VersionMark.{VersionMark}
use Rattle.vos_values.specs.Keys.{IsExtentKey, extent_in, extent_key}
use Rattle.vos_values.specs.Values.{IsVersionMark, version_in, version_value}
use Rattle.vos_moments.specs.vos_levels.declared.change.Change.{Change}
use Rattle.vos_moments.specs.vos_levels.Changes.{changed_by, freed_by, keeps, takes}
use Rattle.vos_moments.specs.vos_levels.Levels.{Hung, Level, hung, in_part, things}
use Rattle.vos_versions.specs.vos_chain.Chains.{Chain, chain_owner, first_of}
use Rattle.vos_versions.specs.vos_chain.Made.{chain_blocks}
use Rattle.vos_extent.specs.declared.extent.ExtentVersion.{ExtentVersion}
use Rattle.vos_extent.specs.declared.pieces.Placed.{Placed}

-- an extent, and the blocks of its bytes
pub record Stored : Type 0 where
  pub extent : ExtentVersion
  pub blocks : List ℕ

abbrev pub chain_of : Stored → Chain
chain_of s = record { blocks = s.blocks; bytes = s.extent.bytes }

-- where an extent begins, and when it was written
abbrev pub place_of : ExtentVersion → ExtentKey
place_of v = record { low = v.low; epoch = v.epoch; minor = v.minor }

abbrev pub mark_of : Stored → VersionMark
mark_of s = record { done = s.extent.done; by = s.extent.by; length = length s.extent.bytes; chain = first_of s.blocks }

abbrev pub key_of_stored : Stored → TreeKey
key_of_stored s = extent_key (place_of s.extent)

abbrev pub value_of_stored : Stored → Value
value_of_stored s = version_value (mark_of s)

pub record IsStored (s : Stored) : Type 0 where
  pub place : IsExtentKey (place_of s.extent)
  pub mark : IsVersionMark (mark_of s)

abbrev pub extent_level : Level Stored
extent_level = record { kind = 6; owner = in_part chain_of chain_owner; key = key_of_stored; value = value_of_stored; Good = IsStored }

abbrev pub Extents : Type 0
Extents = Hung Stored

abbrev pub extent_owner : Owner Extents
extent_owner = hung extent_level

abbrev pub extent_of : Stored → ExtentVersion
extent_of s = s.extent

-- the extents that stand there
abbrev pub extents : Extents → List ExtentVersion
extents g = map extent_of (things g)

-- ---- places

abbrev pub same_place : ExtentKey → ExtentKey → Bool
same_place a b = (a.low == b.low) && (a.epoch.0 == b.epoch.0) && (a.minor == b.minor)

-- by the first index, then by epoch and number
abbrev pub is_before : ExtentKey → ExtentKey → Bool
is_before a b = nat_lt a.low b.low || ((a.low == b.low) && (nat_lt a.epoch.0 b.epoch.0 || ((a.epoch.0 == b.epoch.0) && nat_lt a.minor b.minor)))

-- extents stand in the order of their places, of which no two are the same
abbrev pub AllBehind : ExtentKey → List Stored → Type 0
AllBehind p [] = Unit {0}
AllBehind p (x ∷ xs) = (is_before p (place_of x.extent) ≡ true) × AllBehind p xs

abbrev pub Rise : List Stored → Type 0
Rise [] = Unit {0}
Rise (x ∷ xs) = AllBehind (place_of x.extent) xs × Rise xs

-- an extent of a place
abbrev pub is_extent_at : ExtentKey → ExtentVersion → Bool
is_extent_at p v = same_place (place_of v) p

abbrev pub is_at : ExtentKey → Stored → Bool
is_at p s = is_extent_at p s.extent

abbrev pub has_extent_at : ExtentKey → List Stored → Bool
has_extent_at p xs = list_any (is_at p) xs

-- an extent that was just written
abbrev pub new_extent : ExtentKey → AttemptId → List ℕ → ExtentVersion
new_extent p by bytes = record { low = p.low; epoch = p.epoch; minor = p.minor; by = by; done = false; bytes = bytes }

-- ---- settled and pruned

abbrev pub done_extent : ExtentVersion → ExtentVersion
done_extent v = record { low = v.low; epoch = v.epoch; minor = v.minor; by = v.by; done = true; bytes = v.bytes }

abbrev pub done_stored : Stored → Stored
done_stored s = record { extent = done_extent s.extent; blocks = s.blocks }

-- a change takes the extent of a place
abbrev pub is_taken : Change → ExtentKey → ExtentVersion → Bool
is_taken c p v = is_extent_at p v && takes c v.by v.done

-- the extents after a change of that of one place
abbrev pub IsChangedAt : Change → ExtentKey → List ExtentVersion → List ExtentVersion → Type 0
IsChangedAt c p vs ws = ws ≡ changed_by (keeps c) (is_taken c p) done_extent vs

-- the blocks of an extent: those of its bytes, and its pair's
abbrev pub blocks_of_extent : ExtentVersion → ℕ
blocks_of_extent v = chain_blocks (length v.bytes) + 1

-- the blocks that the change gives back
abbrev pub freed_at : Change → ExtentKey → List ExtentVersion → ℕ
freed_at c p vs = freed_by (keeps c) (is_taken c p) blocks_of_extent vs

-- ---- what a key and a value say

abbrev pub placed_of : Stored → Placed
placed_of s = record { at = place_of s.extent; mark = mark_of s }

abbrev pub placed_with : ExtentKey → Option VersionMark → Option Placed
placed_with p None = None
placed_with p (Some k) = Some (record { at = p; mark = k })

abbrev pub placed_when : Value → Option ExtentKey → Option Placed
placed_when v None = None
placed_when v (Some p) = placed_with p (version_in v)

abbrev pub placed_in_pair : Pair → Option Placed
placed_in_pair p = placed_when p.value (extent_in p.key)
