-- What stands in an image of a region, and what is shown of its blocks.
use Rattle.std.specs.Prelude.{◌≡◌, ◌≤◌, ◌<◌, ℕ}
use Rattle.base_outside.specs.Images.{Image}
use Rattle.pmem_alloc.specs.Map.{MapState, SameBeside, StandsIn, blocks_end, map_place}
use Rattle.pmem_pages.specs.Owners.{Holds}
use Rattle.vos_commits.specs.Kept.{content_of as bytes_of}
use Rattle.vos_places.specs.vos_image.Content.{Content, content_of, shown}
use Rattle.vos_places.specs.vos_image.Fits.{AllFit}
use Rattle.vos_places.specs.vos_image.Kept.{Stored, stored_owner}
use Rattle.vos_levels.specs.Levels.{hung_root}
use Rattle.vos_places.specs.Laws.{Keeps}
use Rattle.vos_places.specs.Tables.{Table}

-- the content of an image of so many bytes: its gate byte and its log body count as zero
abbrev pub content : ℕ → Image → Content
content size f = content_of size (bytes_of f)

-- An image has this table in its fixed places, and all this in its blocks, below the two roots and as the layout asks.
pub record Stand (target size : ℕ) (f : Image) (t : Table) (x : Stored) : Type 0 where
  pub table : Keeps target size (bytes_of f) t
  pub holds : Holds stored_owner (shown (content size f)) x
  pub objects : t.header.objects ≡ hung_root x.0
  pub entries : t.header.entries ≡ hung_root x.1
  pub fits : AllFit (content size f) x.0 x.1

-- a map of blocks in memory is the one that is read of an image of so many bytes
pub record IsReadOf (size : ℕ) (f : Image) (m : MapState) : Type 0 where
  pub end : m.end ≡ blocks_end size
  pub bytes : StandsIn m.bytes f

-- what stands beside the blocks of one image stands beside those of another: the bytes before the map, and of the map the bits of all that aren't
-- blocks
pub record StaysBeside (m : MapState) (f : Image) (n : MapState) (g : Image) : Type 0 where
  pub bytes : (i : ℕ) → i < map_place → g i ≡ f i
  pub map : SameBeside m n

-- one content says what another says of its layout and its targets, and its lease covers no less
pub record AllowsMore (c d : Content) : Type 0 where
  pub layout : d.layout ≡ c.layout
  pub covered : c.covered ≤ d.covered
  pub targets : d.targets ≡ c.targets
