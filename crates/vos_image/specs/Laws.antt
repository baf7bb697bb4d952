-- What stands in an image is what is read of it, and what is read of it stands in it.
use Rattle.std.specs.Prelude.{◌≡◌, ◌<◌, ◌==◌, ℕ, List, [], ◌∷◌, ◌++◌, Ok, if◌then◌else◌}
use Rattle.base_outside.specs.Images.{Image}
use Rattle.pmem_pages.specs.Owners.{Holds}
use Rattle.vos_entries.specs.vos_levels.Levels.{hung_root}
use Rattle.vos_image.specs.Content.{content_of, shown}
use Rattle.vos_image.specs.Fits.{AllFit}
use Rattle.vos_image.specs.Kept.{IsOfLayout, Stored, Whole, durable_of, kept, read_content, stored_owner}
use Rattle.vos_image.specs.Places.{Header, Places, read_places}

-- the blocks of the two roots, where there are such, the later first
abbrev pub root_blocks : Header → List ℕ
root_blocks h = (if h.entries == 0 then [] else h.entries ∷ []) ++ (if h.objects == 0 then [] else h.objects ∷ [])

-- A content has these fixed places, and all this stands in its blocks, below the two roots and as the layout asks.
pub record Stands (target size : ℕ) (f : Image) (p : Places) (x : Stored) : Type 0 where
  pub places : read_places target (content_of size f) [] ≡ Ok (p, root_blocks p.header)
  pub holds : Holds stored_owner (shown (content_of size f)) x
  pub objects : p.header.objects ≡ hung_root x.0
  pub entries : p.header.entries ≡ hung_root x.1
  pub fits : AllFit (content_of size f) x.0 x.1

-- what stands is read, exactly
abbrev pub WhatStandsIsRead : Type 0
WhatStandsIsRead = (target size : ℕ) (f : Image) (p : Places) (x : Stored) → Stands target size f p x → read_content target size f ≡ Ok (record { places = p; stored = x })

-- and is what the content keeps
abbrev pub WhatStandsIsKept : Type 0
WhatStandsIsKept = (target size : ℕ) (f : Image) (p : Places) (x : Stored) → Stands target size f p x → kept target size f ≡ durable_of (record { places = p; stored = x })

-- so no two things stand in one content
abbrev pub NoOtherStands : Type 0
NoOtherStands = (target size : ℕ) (f : Image) (x y : Whole) → Stands target size f x.places x.stored → Stands target size f y.places y.stored → x ≡ y

-- at each place stands a byte
abbrev pub IsOfBytes : Image → Type 0
IsOfBytes f = (i : ℕ) → f i < 256

-- what is read stands, where the content is of bytes: in blocks below the two roots, each led to once, and as the layout asks
abbrev pub WhatIsReadStands : Type 0
WhatIsReadStands = (target size : ℕ) (f : Image) (x : Whole) → IsOfBytes f → read_content target size f ≡ Ok x → Stands target size f x.places x.stored

-- something stands in a content
pub record HasStood (target size : ℕ) (f : Image) : Type 0 where
  pub all : Whole
  pub stands : Stands target size f all.places all.stored

-- a content of bytes is of the layout exactly where something stands in it
pub record IsWhereSomeStand (target size : ℕ) (f : Image) : Type 0 where
  pub there : IsOfLayout target size f → HasStood target size f
  pub back : HasStood target size f → IsOfLayout target size f

abbrev pub LayoutIsWhereSomeStand : Type 0
LayoutIsWhereSomeStand = (target size : ℕ) (f : Image) → IsOfBytes f → IsWhereSomeStand target size f
