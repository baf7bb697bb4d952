-- What was read of fixed places.
use Rattle.std.specs.Prelude.{◌≡◌, ℕ, [], Ok}
use Rattle.base_outside.specs.Images.{Image}
use Rattle.vos_image.specs.Content.{content_of}
use Rattle.vos_image.specs.Laws.{root_blocks}
use Rattle.vos_image.specs.Places.{Header, read_places}
use Rattle.vos_places.specs.Laws.{Keeps}
use Rattle.vos_places.specs.Tables.{Table, places_of}
use Rattle.vos_check_places.specs.declared.header.Header.{Header as HeaderRead}
use Rattle.vos_check_places.specs.declared.places.Fixed.{Fixed}

abbrev pub header_of : HeaderRead → Header
header_of h = record { layout = h.layout; target = h.target; targets = h.targets; incarnation = h.incarnation; lease = h.lease; objects = h.objects; entries = h.entries }

abbrev pub table_of : Fixed → Table
table_of x = record { header = header_of x.header; conts = x.conts.items; snaps = x.snaps.items }

-- the fixed places of an image hold this, and it is what is read of them
pub record IsFixed (target size : ℕ) (f : Image) (x : Fixed) : Type 0 where
  pub keeps : Keeps target size f (table_of x)
  pub read : read_places target (content_of size f) [] ≡ Ok (places_of (table_of x), root_blocks (header_of x.header))
