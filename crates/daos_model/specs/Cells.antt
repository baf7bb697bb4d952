-- What a map of cells holds.
use Rattle.std.specs.Prelude.{ℕ, Bool, ◌&&◌, nat_eq, List, [], ◌∷◌, Option, Some, None, if◌then◌else◌}
use Rattle.std.specs.Option.{option_eq}
use Rattle.base_types.specs.Paths.{same_path}
use Rattle.base_types.specs.declared.path.Path.{Path}
use Rattle.daos_model.specs.declared.cell.Cell.{Cell}
use Rattle.daos_model.specs.declared.cell.CellValue.{CellValue}

-- the cell of an akey's single value
abbrev pub single_cell : Path → Cell
single_cell p = record { path = p; index = None }

-- the cell of an index of an akey's array
abbrev pub index_cell : Path → ℕ → Cell
index_cell p i = record { path = p; index = Some i }

unfoldable pub same_cell : Cell → Cell → Bool
same_cell c d = same_path c.path d.path && option_eq nat_eq c.index d.index

abbrev pub held_bytes : CellValue → List ℕ
held_bytes v = v.bytes

-- a value is of a cell
abbrev pub is_of : Cell → CellValue → Bool
is_of c v = same_cell v.cell c

-- what a map holds at a cell: of two values of one cell the first counts
abbrev pub value_at : List CellValue → Cell → Option (List ℕ)
value_at [] c = None
value_at (v ∷ m) c = if same_cell v.cell c then Some v.bytes else value_at m c

-- the cell of an akey's single value, or of an index of its array
abbrev pub cell_at : Path → Option ℕ → Cell
cell_at p i = record { path = p; index = i }
