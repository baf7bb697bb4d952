-- The newest version that says what a cell holds.
use Rattle.std.specs.Prelude.{ℕ, Bool, ◌&&◌, List, Option, Some, None}
use Rattle.base_types.specs.declared.operation.Write.{Write}
use Rattle.base_types.specs.declared.operation.Write.TheVariants.{Single, Extent, PunchObject, PunchDkey, PunchAkey}
use Rattle.daos_model.specs.declared.cell.Cell.{Cell}
use Rattle.daos_model.specs.declared.durable.Version.{Version}
use Rattle.daos_model.specs.Cells.{value_at}
use Rattle.daos_model.specs.Prunes.{touches, values_of}
use Rattle.daos_model.specs.Versions.{sees}

-- a version that is seen below an epoch says what a cell holds
abbrev pub says_at : Cell → ℕ → Version → Bool
says_at c e v = sees e v && touches c v.write

-- what a version, if there is one, leaves of a cell
abbrev pub left_by : Cell → Option Version → Option (List ℕ)
left_by c None = None
left_by c (Some v) = value_at (values_of v.write) c

-- the bytes of a single value that a write leaves
abbrev pub single_in : Write → Option (List ℕ)
single_in (Single p bytes) = Some bytes
single_in (Extent p low bytes) = None
single_in (PunchObject p) = None
single_in (PunchDkey p) = None
single_in (PunchAkey p) = None

abbrev pub single_of : Option Version → Option (List ℕ)
single_of None = None
single_of (Some v) = single_in v.write
