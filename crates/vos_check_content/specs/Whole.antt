-- What is found of a content.
use Rattle.std.specs.Prelude.{◌≡◌, ℕ, List, [], ◌∷◌, ◌++◌, ◌+◌, ◌*◌, ◌==◌, map, Result, Ok, Err, if◌then◌else◌}
use Rattle.base_outside.specs.Images.{Image}
use Rattle.vos_levels.specs.Levels.{things}
use Rattle.vos_image.specs.Content.{Content, layout_of}
use Rattle.vos_image.specs.Kept.{Stored, read_content}
use Rattle.vos_check_places.specs.vos_places.Laws.{Keeps}
use Rattle.vos_image.specs.Laws.{IsOfBytes}
use Rattle.vos_check_places.specs.vos_places.Tables.{Table, places_of}
use Rattle.vos_check_base.specs.Answers.{MarksIn}
use Rattle.vos_check_base.specs.declared.ground.Ground.{Ground}
use Rattle.vos_check_base.specs.Sets.{Set}
use Rattle.vos_check_base.specs.declared.refusal.CheckNo.{CheckNo}
use Rattle.vos_check_base.specs.declared.refusal.CheckNo.TheVariants.{Stopped, Foreign, Memory}
use Rattle.vos_check_entries.specs.Rows.{entry_row}
use Rattle.vos_check_places.specs.Fixed.{table_of}
use Rattle.vos_check_places.specs.declared.fault.Fault.{Fault}
use Rattle.vos_check_places.specs.declared.fault.Fault.TheVariants.{Foreign as PlaceForeign, Memory as PlaceMemory}
use Rattle.vos_check_places.specs.declared.header.Header.{Header}
use Rattle.vos_check_content.specs.declared.content.ContentFound.{ContentFound}

-- what an image says of itself that its blocks are judged by, where its header says this
abbrev pub ground_with : Header → ℕ → Ground
ground_with h size = record { size = size; layout = layout_of h.layout; covered = h.lease * 256 + 255; targets = h.targets }

-- what a fault of fixed places is in a check
abbrev pub fault_of_places : Fault → CheckNo
fault_of_places (PlaceForeign at byte) = Foreign at byte
fault_of_places PlaceMemory = Memory

-- no byte is at fault
abbrev pub IsUnread : CheckNo → Type 0
IsUnread (Foreign at byte) = ⊥
IsUnread Stopped = Unit {0}
IsUnread Memory = Unit {0}

-- the roots of objects and of entries, where there are such, the later first
abbrev pub both_roots : ℕ → ℕ → List ℕ
both_roots objects entries = (if entries == 0 then [] else entries ∷ []) ++ (if objects == 0 then [] else objects ∷ [])

-- the fields of the roots lead to them
abbrev pub LeadsBoth : Content → ℕ → ℕ → Set → Result (Unit {0}) ℕ → Type 0
LeadsBoth c objects entries after (Ok u) = MarksIn c after (both_roots objects entries)
LeadsBoth c objects entries after (Err at) = ⊥

-- A content is of the layout. Its fixed places hold this table, and it has these entries, which list so many nodes.
pub record IsWholeFound (target size : ℕ) (f : Image) (x : ContentFound) : Type 0 where
  pub stored : Stored
  pub table : Keeps target size f (table_of x.fixed)
  pub read : read_content target size f ≡ Ok (record { places = places_of (table_of x.fixed); stored = stored })
  pub entries : x.entries.items ≡ map entry_row (things stored.1)

-- a content isn't of the layout, and the byte at fault is shown; or no answer was found
abbrev pub IsFaulty : ℕ → ℕ → Image → CheckNo → Type 0
IsFaulty target size f (Foreign at byte) = (read_content target size f ≡ Err at) × (byte ≡ f at)
IsFaulty target size f Stopped = Unit {0}
IsFaulty target size f Memory = Unit {0}

-- some image of bytes holds a table in its fixed places
pub record IsHeldSomewhere (target size : ℕ) (t : Table) : Type 0 where
  pub image : Image
  pub bytes : IsOfBytes image
  pub keeps : Keeps target size image t
