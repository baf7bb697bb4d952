-- What a pool writes first over a region of zeros, and that it keeps nothing then.
use Rattle.std.specs.Prelude.{◌≡◌, ◌<◌, ◌/◌, ◌%◌, ◌^◌, ℕ, false, ◌&&◌, nat_le, nat_lt, List, [], ◌∷◌, ◌++◌, None, Ok, replicate, if◌then◌else◌}
use Rattle.base_outside.specs.Images.{Image, Range, all_over, bytes_at}
use Rattle.byteorder.specs.Endian.{big_bytes}
use Rattle.daos_model.specs.Durables.{empty_durable}
use Rattle.pmem_pages.specs.Shape.{Leaf}
use Rattle.vos_image.specs.Content.{content_of, is_taken}
use Rattle.vos_image.specs.Kept.{kept, read_content}
use Rattle.vos_image.specs.Places.{Header, magic}
use Rattle.vos_places.specs.Laws.{Keeps}
use Rattle.vos_places.specs.Tables.{Table}

-- DAOSVOS1, layout 2, target, number of targets, the size, and the incarnation 1
unfoldable pub header_bytes : ℕ → ℕ → ℕ → List ℕ
header_bytes size target targets = magic ++ 0 ∷ 0 ∷ 0 ∷ 2 ∷ target ∷ targets ∷ 0 ∷ 0 ∷ [] ++ big_bytes 8 size ++ big_bytes 8 1

-- a byte of the map of blocks: of the blocks from 1264 on those that lie in the region are free, all others taken; a region has
-- whole 2 KiB, the blocks of one byte
abbrev pub map_byte : ℕ → ℕ → ℕ
map_byte size j = if nat_le 158 j && nat_lt j (size / 2048) then 0 else 255

unfoldable pub map_bytes : ℕ → List ℕ
map_bytes size = bytes_at (map_byte size) 0 16384

abbrev pub header_range : ℕ → ℕ → ℕ → Range
header_range size target targets = record { place = 0; bytes = header_bytes size target targets }

abbrev pub map_range : ℕ → Range
map_range size = record { place = 307200; bytes = map_bytes size }

-- what an image says of itself then
abbrev pub fresh_header : ℕ → ℕ → Header
fresh_header target targets = record { layout = 2; target = target; targets = targets; incarnation = 1; lease = 0; objects = 0; entries = 0 }

-- no place is used
abbrev pub fresh_table : ℕ → ℕ → Table
fresh_table target targets = record { header = fresh_header target targets; conts = replicate 256 None; snaps = replicate 256 None }

-- zeros with both ranges over them
abbrev pub IsFresh : ℕ → ℕ → ℕ → Image → Type 0
IsFresh size target targets f = (i : ℕ) → f i ≡ all_over (header_range size target targets ∷ map_range size ∷ []) (λ j. 0) i

-- its places hold an empty table
abbrev pub FreshHolds : Type 0
FreshHolds = (size target targets : ℕ) (f : Image) → size < 2 ^ 64 → IsFresh size target targets f → Keeps target size f (fresh_table target targets)

-- nothing stands in its blocks
abbrev pub FreshIsRead : Type 0
FreshIsRead = (size target targets : ℕ) (f : Image) → size < 2 ^ 64 → IsFresh size target targets f
    → read_content target size f ≡ Ok (record { places = record { header = fresh_header target targets; conts = []; snaps = [] }; stored = ((Leaf, []), (Leaf, [])) })

-- and it keeps nothing, in the first incarnation
abbrev pub FreshIsEmpty : Type 0
FreshIsEmpty = (size target targets : ℕ) (f : Image) → size < 2 ^ 64 → IsFresh size target targets f → kept target size f ≡ empty_durable 1

-- no block is taken, where the region has whole 2 KiB
abbrev pub FreshIsFree : Type 0
FreshIsFree = (size target targets : ℕ) (f : Image) → size % 2048 ≡ 0 → IsFresh size target targets f → (b : ℕ) → is_taken (content_of size f) b ≡ false
