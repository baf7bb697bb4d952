-- One mark for each update that a read of names still sees.
use Rattle.std.specs.Prelude.{Bool, true, false, List, [], ◌∷◌, if◌then◌else◌}
use Rattle.base_types.specs.declared.operation.Read.{Read}
use Rattle.base_types.specs.declared.operation.Read.TheVariants as read
use Rattle.base_types.specs.declared.operation.Write.{Write}
use Rattle.base_types.specs.declared.operation.Write.TheVariants.{Single, Extent, PunchObject, PunchDkey, PunchAkey}
use Rattle.base_types.specs.declared.path.Path.{Path}
use Rattle.base_types.specs.Paths.{leads_to}
use Rattle.daos_model.specs.declared.cell.CellValue.{CellValue}
use Rattle.daos_model.specs.Cells.{single_cell}
use Rattle.daos_model.specs.Effect.{without}

-- what stands for all cells that an update sets
abbrev pub mark_at : Path → CellValue
mark_at q = record { cell = single_cell q; bytes = [] }

-- the update is marked where it is under the path
abbrev pub marked_under : Path → Path → List CellValue → List CellValue
marked_under p q marks = if leads_to p q then mark_at q ∷ marks else marks

abbrev pub marked : Path → Write → List CellValue → List CellValue
marked p (Single q bytes) marks = marked_under p q marks
marked p (Extent q low bytes) marks = marked_under p q marks
marked p (PunchObject q) marks = without q marks
marked p (PunchDkey q) marks = without q marks
marked p (PunchAkey q) marks = without q marks

abbrev pub marks_by : Path → List Write → List CellValue → List CellValue
marks_by p [] marks = marks
marks_by p (w ∷ ws) marks = marks_by p ws (marked p w marks)

-- a read asks for names, or whether there is a cell
abbrev pub asks_names : Read → Bool
asks_names (read.Single p) = false
asks_names (read.Extent p low len) = false
asks_names (read.Dkeys p) = true
asks_names (read.Akeys p) = true
asks_names (read.Exists p) = true
