-- The map of blocks: a bit for each block, 1 where it is taken.
use Rattle.std.specs.Prelude.{◌≡◌, ℕ, ◌+◌, ◌-◌, ◌*◌, ◌/◌, ◌%◌, ◌^◌, ◌<◌, ◌≤◌, min, Bool, false, ◌==◌, ◌&&◌, not, nat_lt, nat_le, cond, List, [], ◌∷◌, slice_index, Some, None}
use Rattle.std.specs.Int.{bit_at}
use Rattle.base_outside.specs.Images.{Image, Range, bytes_at}
use Rattle.pmem_pages.specs.Blocks.{Blocks}
use Rattle.pmem_alloc.specs.Sets.{Set, count_below}

-- where the map begins, the first place after it, and how many bytes it has
abbrev pub map_place : ℕ
map_place = 307200

abbrev pub map_end : ℕ
map_end = 323584

abbrev pub map_length : ℕ
map_length = 16384

-- the first block behind the map
abbrev pub first_block : ℕ
first_block = 1264

-- The blocks of a region of that size are those below this number: those that lie in it whole, and of
-- which the map has a bit.
unfoldable pub blocks_end : ℕ → ℕ
blocks_end size = min (size / 256) 131072

-- a block behind the map and below the end is free where its bit of its byte of the map is 0
unfoldable pub is_free : ℕ → ℕ → ℕ → Bool
is_free end byte b = nat_le first_block b && (nat_lt b end && (bit_at byte (b % 8) == 0))

-- the free blocks by the bytes of a map
unfoldable pub free_in : ℕ → List ℕ → Set
free_in end bytes b = is_free end (slice_index bytes (b / 8)) b

-- the free blocks of an image of so many bytes
unfoldable pub free_blocks : ℕ → Image → Set
free_blocks size f b = is_free (blocks_end size) (f (map_place + b / 8)) b

-- the bytes of a map, and the end of its blocks
pub record MapState : Type 0 where
  pub bytes : List ℕ
  pub end : ℕ

abbrev pub free_of : MapState → Set
free_of m = free_in m.end m.bytes

-- What holds of a map in memory: free blocks are counted, and none stands below a bound.
pub record HoldsMap (bytes : List ℕ) (end count low : ℕ) : Type 0 where
  pub small : end ≤ 131072
  pub counted : count ≡ count_below (free_in end bytes) end
  pub none_below : (q : ℕ) → q < low → free_in end bytes q ≡ false

-- the map's byte of a block in its place
abbrev pub map_byte : ℕ → ℕ → Range
map_byte b byte = record { place = map_place + b / 8; bytes = byte ∷ [] }

-- the bytes of a map stand in an image
abbrev pub StandsIn : List ℕ → Image → Type 0
StandsIn bytes f = (k : ℕ) → k < map_length → slice_index bytes k ≡ f (map_place + k)

-- the blocks that are not free, with their bytes
unfoldable pub blocks_of : ℕ → Set → Image → Blocks
blocks_of end free f b = cond (nat_le first_block b && (nat_lt b end && not (free b))) (Some (bytes_at f (256 * b) 256)) None

-- ---- what stands beside the blocks

-- a block behind the map and below the end
abbrev pub is_block : ℕ → ℕ → Bool
is_block end b = nat_le first_block b && nat_lt b end

-- the bit of a block in a map
abbrev pub map_bit : MapState → ℕ → ℕ
map_bit m b = bit_at (slice_index m.bytes (b / 8)) (b % 8)

-- two maps have the same end, and the same bits of all that aren't blocks
pub record SameBeside (m n : MapState) : Type 0 where
  pub end : n.end ≡ m.end
  pub bits : (b : ℕ) → is_block m.end b ≡ false → map_bit n b ≡ map_bit m b

-- What stands beside the blocks, which no call on blocks changes, a number for each place: the bytes before the map, and of the map the bits
-- of all that aren't blocks.
unfoldable pub beside : MapState → Image → ℕ → ℕ
beside m f i = cond (nat_lt i map_place) (f i) (cond (is_block m.end (i - map_place)) 0 (map_bit m (i - map_place)))

-- no call names a block by a number from here on
abbrev pub past_names : ℕ
past_names = 2 ^ 32

-- The blocks that aren't free, with their bytes; and under numbers by which no call names a block what stands beside them, a number each.
-- So whoever changes blocks, whatever the blocks are for, is seen to leave what stands beside them.
unfoldable pub shown_in : MapState → Image → Blocks
shown_in m f q = cond (nat_lt q past_names) (blocks_of m.end (free_of m) f q) (Some (beside m f (q - past_names) ∷ []))
