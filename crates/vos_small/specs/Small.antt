-- Trees that stand in the blocks of a region have fewer than 2^17 pairs.
use Rattle.std.specs.Prelude.{◌≡◌, ◌<◌, ◌^◌, ℕ, All, []}
use Rattle.base_outside.specs.Images.{Image}
use Rattle.base_types.specs.declared.id.AttemptId.{AttemptId}
use Rattle.pmem_alloc.specs.Map.{MapState, blocks_end, shown_in}
use Rattle.pmem_pages.specs.Blocks.{Blocks, IsTaken}
use Rattle.pmem_pages.specs.Owners.{Holds}
use Rattle.vos_entries.specs.Entries.{Entries, entries_owner, list_blocks_at}
use Rattle.vos_image.specs.Content.{Content, shown}
use Rattle.vos_image.specs.Kept.{Stored, stored_owner}
use Rattle.vos_levels.specs.Levels.{things}
use Rattle.vos_image.specs.vos_path.Objects.{Objects, objects_owner}
use Rattle.vos_image.specs.vos_path.Writes.{IsSmall, ObjectsAreSmall}

-- the number of pairs of each tree in a region has at most so many binary digits
abbrev pub most_digits : ℕ
most_digits = 17

-- of the numbers that a tree can name, those alone are taken that blocks of a region have
abbrev pub AreOfRegion : Blocks → Type 0
AreOfRegion m = (q : ℕ) → q < 2 ^ 32 → IsTaken m q → q < 131072

-- so it is of the blocks of a content, and of those that a map and an image show
abbrev pub ContentsAreOfRegions : Type 0
ContentsAreOfRegions = (c : Content) → AreOfRegion (shown c)

abbrev pub MapsAreOfRegions : Type 0
MapsAreOfRegions = (size : ℕ) (m : MapState) (f : Image) → m.end ≡ blocks_end size → AreOfRegion (shown_in m f)

-- Each pair stands in a block of its own, so no tree has 2^17 pairs.
abbrev pub ObjectsInRegionsAreSmall : Type 0
ObjectsInRegionsAreSmall = (m : Blocks) (g : Objects) → AreOfRegion m → Holds objects_owner m g → ObjectsAreSmall most_digits g

abbrev pub EntriesInRegionsAreSmall : Type 0
EntriesInRegionsAreSmall = (m : Blocks) (g : Entries) → AreOfRegion m → Holds entries_owner m g → IsSmall most_digits g

pub record AllSmall (x : Stored) : Type 0 where
  pub objects : ObjectsAreSmall most_digits x.0
  pub entries : IsSmall most_digits x.1

abbrev pub StoredInRegionsAreSmall : Type 0
StoredInRegionsAreSmall = (m : Blocks) (x : Stored) → AreOfRegion m → Holds stored_owner m x → AllSmall x

-- a list of nothing stands in no block
abbrev pub UnlistedTakeNone : Type 0
UnlistedTakeNone = (m : Blocks) (g : Entries) (a : AttemptId) → Holds entries_owner m g → All (λ s. s.nodes ≡ []) (things g) → list_blocks_at a (things g) ≡ 0
