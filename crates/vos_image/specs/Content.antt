-- What a reading stands on: the content of an image, and what it says of itself that later fields go by.
use Rattle.std.specs.Prelude.{ℕ, Bool, ◌+◌, ◌*◌, ◌/◌, ◌%◌, ◌==◌, ◌&&◌, not, nat_le, nat_lt, cond, min, ◌∷◌, Some, None, Ok, Err, if◌then◌else◌}
use Rattle.std.specs.Int.{bit_at}
use Rattle.base_outside.specs.Images.{Image, bytes_at}
use Rattle.byteorder.specs.Endian.{big_number}
use Rattle.pmem_pages.specs.Blocks.{Blocks}
use Rattle.vos_values.specs.declared.keys.Layout.{Layout}
use Rattle.vos_values.specs.declared.keys.Layout.TheVariants.{One, Two}
use Rattle.vos_image.specs.Steps.{Step, is_among}
use Rattle.std.specs.Prelude.{List}

-- the bytes, how many there are, the layout, the greatest epoch that the lease covers, and how many targets there are
pub record Content : Type 0 where
  pub bytes : Image
  pub size : ℕ
  pub layout : Layout
  pub covered : ℕ
  pub targets : ℕ

-- the number in so many bytes from a place on, the highest byte first
unfoldable pub number : Image → ℕ → ℕ → ℕ
number f at n = big_number n (bytes_at f at n)

abbrev pub layout_of : ℕ → Layout
layout_of n = if n == 1 then One else Two

-- what an image says of itself: its layout at 8, its targets at 13, its lease in ticks at 32
abbrev pub content_of : ℕ → Image → Content
content_of size f = record { bytes = f; size = size; layout = layout_of (number f 8 4); covered = number f 32 8 * 256 + 255; targets = f 13 }

-- a block from 1264 on that lies in the region whole is taken where its bit of the map at 307200 is 1
unfoldable pub is_taken : Content → ℕ → Bool
is_taken c b = nat_le 1264 b && (nat_lt b (min (c.size / 256) 131072) && not (bit_at (c.bytes (307200 + b / 8)) (b % 8) == 0))

-- the 256 bytes of a block
unfoldable pub block : Content → ℕ → List ℕ
block c b = bytes_at c.bytes (256 * b) 256

-- the taken blocks with their bytes
unfoldable pub shown : Content → Blocks
shown c b = cond (is_taken c b) (Some (block c b)) None

-- a block that a field at a place leads to: none, or a taken one that no field before it led to
unfoldable pub link : Content → ℕ → ℕ → Step (Unit {0})
link c at b led =
    if b == 0 then Ok (tt, led)
    else if is_taken c b && not (is_among b led) then Ok (tt, b ∷ led)
    else Err at
