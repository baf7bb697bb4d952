-- What a write makes of a map: an update sets its cells, a punch removes every cell under its path, and all other cells stay.
use Rattle.std.specs.Prelude.{ℕ, zero, suc, ◌+◌, ◌/◌, ◌^◌, ◌<◌, take, drop, Bool, not, List, [], ◌∷◌, ◌++◌, length, All, if◌then◌else◌}
use Rattle.base_types.specs.Paths.{leads_to, record_size}
use Rattle.base_types.specs.declared.path.Path.{Path}
use Rattle.base_types.specs.declared.operation.Write.{Write}
use Rattle.base_types.specs.declared.operation.Write.TheVariants.{Single, Extent, PunchObject, PunchDkey, PunchAkey}
use Rattle.daos_model.specs.declared.cell.CellValue.{CellValue}
use Rattle.daos_model.specs.declared.stand.Taken.{Taken}
use Rattle.daos_model.specs.Cells.{single_cell, index_cell}

-- so many records of a size, from the front of bytes
abbrev pub cut_records : ℕ → ℕ → List ℕ → List (List ℕ)
cut_records zero size bytes = []
cut_records (suc count) size bytes = take size bytes ∷ cut_records count size (drop size bytes)

-- the records of a size that bytes are made of
abbrev pub records_of : ℕ → List ℕ → List (List ℕ)
records_of size bytes = cut_records (length bytes / size) size bytes

-- an index of an array with its record
abbrev pub index_value : Path → ℕ → List ℕ → CellValue
index_value p i r = record { cell = index_cell p i; bytes = r }

-- one cell for each record, from an index on
abbrev pub record_cells : Path → ℕ → List (List ℕ) → List CellValue
record_cells p i [] = []
record_cells p i (r ∷ records) = index_value p i r ∷ record_cells p (i + 1) records

-- the cells of bytes that are written to an array: one for each record of its object's record size, from an index on
abbrev pub extent_cells : Path → ℕ → List ℕ → List CellValue
extent_cells p i bytes = record_cells p i (records_of (record_size p) bytes)

-- a cell doesn't stand under a path
abbrev pub is_outside : Path → CellValue → Bool
is_outside p v = not (leads_to p v.cell.path)

-- a map without the cells under a path
abbrev pub without : Path → List CellValue → List CellValue
without p [] = []
without p (v ∷ m) = if leads_to p v.cell.path then without p m else v ∷ without p m

abbrev pub effect : Write → List CellValue → List CellValue
effect (Single p bytes) m = record { cell = single_cell p; bytes = bytes } ∷ m
effect (Extent p low bytes) m = extent_cells p low bytes ++ m
effect (PunchObject p) m = without p m
effect (PunchDkey p) m = without p m
effect (PunchAkey p) m = without p m

-- an extent of records ends within an array, whose indexes end at 2^32 - 1
abbrev pub EndsInArray : Write → Type 0
EndsInArray (Single p bytes) = Unit {0}
EndsInArray (Extent p low bytes) = low + length bytes / record_size p < 2 ^ 32
EndsInArray (PunchObject p) = Unit {0}
EndsInArray (PunchDkey p) = Unit {0}
EndsInArray (PunchAkey p) = Unit {0}

-- of each write of a transaction
abbrev pub WritesEndInArrays : Taken → Type 0
WritesEndInArrays t = All EndsInArray t.writes

-- of each write of each transaction
abbrev pub AllEndInArrays : List Taken → Type 0
AllEndInArrays T = All WritesEndInArrays T

-- what writes make of a map, one after another
abbrev pub effects : List Write → List CellValue → List CellValue
effects [] m = m
effects (w ∷ ws) m = effects ws (effect w m)
