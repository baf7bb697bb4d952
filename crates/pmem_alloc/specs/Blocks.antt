-- What the blocks of a region show.
use Rattle.std.specs.Prelude.{◌≡◌, ◌⊎◌, ℕ, ◌+◌, ◌<◌, ◌≤◌, Bool, true, false, IsTrue, List, [], length}
use Rattle.base_outside.specs.Causes.{Rose}
use Rattle.base_outside.specs.Images.{Image, Range, all_over}
use Rattle.pmem_undo.specs.Layout.{most_ranges, most_bytes, total_bytes}
use Rattle.pmem_undo.specs.Undo.{UndoState}
use Rattle.pmem_alloc.specs.Sets.{Set, count_below}
use Rattle.pmem_alloc.specs.Map.{map_place, map_end, MapState, blocks_end, free_of, free_blocks, StandsIn}

-- the undo region below, the map of blocks, the map at the last commit, and the blocks of the last take
-- that went well, the least first
pub record BlocksState (R : Type 0) : Type 0 where
  pub undo : UndoState R
  pub map : MapState
  pub lasting : MapState
  pub last : List ℕ

-- the blocks that are free, and how many they are
abbrev pub free_now : {R : Type 0} → BlocksState R → Set
free_now b = free_of b.map

abbrev pub free_count : {R : Type 0} → BlocksState R → ℕ
free_count b = count_below (free_of b.map) b.map.end

-- What holds of every allocator. Free are blocks behind the map and below the end. Where the region tells
-- its bytes, and unless it stopped, those are free that the map says that is read with what is staged
-- over it, and at the last commit those were that the map says without that; and the map in memory is the one that is read so.
pub record IsBlocks (size : ℕ) (tells : Bool) (image : Image) (staged : List Range) (stopped : Bool) (map lasting : MapState) : Type 0 where
  pub end : map.end ≡ blocks_end size
  pub lasting_end : lasting.end ≡ blocks_end size
  pub stored : IsTrue tells → stopped ≡ false → free_of map ≡ free_blocks size (all_over staged image)
  pub lasting_stored : IsTrue tells → stopped ≡ false → free_of lasting ≡ free_blocks size image
  pub read : IsTrue tells → stopped ≡ false → StandsIn map.bytes (all_over staged image)

-- there is room for so many ranges of one byte each
abbrev pub HasRooms : List Range → ℕ → Type 0
HasRooms staged n = (length staged + n ≤ most_ranges) × (total_bytes staged + n ≤ most_bytes)

-- a range of n bytes from a place on lies outside the map
abbrev pub IsOutsideMap : ℕ → ℕ → Type 0
IsOutsideMap place n = (place + n ≤ map_place) ⊎ (map_end ≤ place)

-- so many ranges more are staged, each of one byte of the map
pub record StagesMap (n : ℕ) (old new : List Range) : Type 0 where
  pub ranges : length new ≡ length old + n
  pub bytes : total_bytes new ≡ total_bytes old + n
  pub elsewhere : (f : Image) (i : ℕ) → (i < map_place) ⊎ (map_end ≤ i) → all_over new f i ≡ all_over old f i

-- what the arrays of an allocator hold
pub record HoldsBlocks (size : ℕ) (tells : Bool) (image : Image) (staged : List Range) (stopped : Bool) (now lasting : List ℕ) (now_end old_end many : ℕ) : Type 0 where
  pub end : now_end ≡ blocks_end size
  pub lasting_end : old_end ≡ blocks_end size
  pub stands : IsTrue tells → stopped ≡ false → StandsIn now (all_over staged image)
  pub lasting_stands : IsTrue tells → stopped ≡ false → StandsIn lasting image
  pub few : many ≤ 1024

-- Opening left the undo region as it was, but that nothing is staged, and read the map.
pub record IsOpened {R : Type 0} (extent faults burns : R → ℕ) (old : UndoState R) (blocks : BlocksState R) : Type 0 where
  pub size : extent blocks.undo.region ≡ extent old.region
  pub later_faults : faults old.region ≤ faults blocks.undo.region
  pub later_burns : burns old.region ≤ burns blocks.undo.region
  pub staged : blocks.undo.staged ≡ []
  pub going : (old.stopped ≡ false) × (blocks.undo.stopped ≡ false)
  pub lasting : blocks.lasting ≡ blocks.map
  pub last : blocks.last ≡ []

-- The undo region is handed back, stopped, with nothing staged; it had stopped before or a count rose.
pub record IsHandedBack {R : Type 0} (extent faults burns : R → ℕ) (old back : UndoState R) : Type 0 where
  pub size : extent back.region ≡ extent old.region
  pub later_faults : faults old.region ≤ faults back.region
  pub later_burns : burns old.region ≤ burns back.region
  pub staged : back.staged ≡ []
  pub stopped : back.stopped ≡ true
  pub cause : (old.stopped ≡ true) ⊎ (Rose (faults old.region) (faults back.region) ⊎ Rose (burns old.region) (burns back.region))
