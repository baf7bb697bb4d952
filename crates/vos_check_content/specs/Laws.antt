-- What is found of a content stands in it, as a statement.
use Rattle.std.specs.Prelude.{◌≡◌, ◌≤◌, ℕ, Ok}
use Rattle.base_outside.specs.Images.{Image}
use Rattle.vos_image.specs.Kept.{Stored, read_content}
use Rattle.vos_image.specs.Laws.{IsOfBytes}
use Rattle.vos_standing.specs.Standing.{Stand}
use Rattle.vos_check_places.specs.Fixed.{table_of}
use Rattle.vos_check_places.specs.vos_places.Tables.{Table, places_of}
use Rattle.vos_check_content.specs.declared.content.ContentFound.{ContentFound}
use Rattle.vos_check_content.specs.Whole.{IsWholeFound}
use Rattle.vos_check_content.specs.Region.{region_content}

-- what is found of the content of a region stands in its image
abbrev pub WhatIsFoundStands : Type 0
WhatIsFoundStands = (target size : ℕ) (f : Image) (x : ContentFound) → 323584 ≤ size → IsOfBytes f → (w : IsWholeFound target size (region_content size f) x) → Stand target size f (table_of x.fixed) w.stored

-- and what stands in its image is found in the content of a region
abbrev pub WhatStandsIsFound : Type 0
WhatStandsIsFound = (target size : ℕ) (f : Image) (t : Table) (x : Stored) → 323584 ≤ size → Stand target size f t x → read_content target size (region_content size f) ≡ Ok (record { places = places_of t; stored = x })
