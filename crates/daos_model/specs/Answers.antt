-- What a read is answered on a map.
use Rattle.std.specs.Prelude.{ℕ, zero, suc, ◌+◌, Bool, true, false, ◌||◌, ◌&&◌, ◌==◌, nat_lt, List, [], ◌∷◌, ◌++◌, length, Option, Some, None, if◌then◌else◌}
use Rattle.base_types.specs.Paths.{leads_to, record_size}
use Rattle.base_types.specs.declared.path.Path.{Path}
use Rattle.base_types.specs.declared.operation.Read.{Read}
use Rattle.base_types.specs.declared.operation.Read.TheVariants as read
use Rattle.base_types.specs.declared.answer.Piece.{Piece}
use Rattle.base_types.specs.declared.answer.Piece.TheVariants as piece
use Rattle.base_types.specs.declared.answer.Answer.{Answer}
use Rattle.base_types.specs.declared.answer.Answer.TheVariants.{Bytes, Parts, Names, Yes, No, Absent}
use Rattle.daos_model.specs.declared.cell.CellValue.{CellValue}
use Rattle.daos_model.specs.Cells.{value_at, single_cell, index_cell}

-- the bytes of a single value, or that there are none
abbrev pub value_answer : Option (List ℕ) → Answer
value_answer None = Absent
value_answer (Some bytes) = Bytes bytes

abbrev pub yes_or_no : Bool → Answer
yes_or_no b = if b then Yes else No

-- a cell stands under a path
abbrev pub is_under : Path → CellValue → Bool
is_under p v = leads_to p v.cell.path

-- whether there is a cell under a path
unfoldable pub has_cell_below : Path → List CellValue → Bool
has_cell_below p [] = false
has_cell_below p (v ∷ m) = leads_to p v.cell.path || has_cell_below p m

-- the pieces of an array: neighbours of one kind are one piece
abbrev pub record_before : List ℕ → List Piece → List Piece
record_before r [] = piece.Bytes r ∷ []
record_before r (piece.Bytes bytes ∷ ps) = piece.Bytes (r ++ bytes) ∷ ps
record_before r (piece.Hole n ∷ ps) = piece.Bytes r ∷ piece.Hole n ∷ ps

abbrev pub hole_before : List Piece → List Piece
hole_before [] = piece.Hole 1 ∷ []
hole_before (piece.Bytes bytes ∷ ps) = piece.Hole 1 ∷ piece.Bytes bytes ∷ ps
hole_before (piece.Hole n ∷ ps) = piece.Hole (n + 1) ∷ ps

-- an index of the array, before the pieces after it: its record, or a hole where it has no cell
abbrev pub index_before : Option (List ℕ) → List Piece → List Piece
index_before None ps = hole_before ps
index_before (Some r) ps = record_before r ps

-- the record that bytes are, if they have its size: no cell of an index holds others
abbrev pub record_of : ℕ → Option (List ℕ) → Option (List ℕ)
record_of size None = None
record_of size (Some bytes) = if length bytes == size then Some bytes else None

-- the record at an index of an akey's array, if it has a cell
abbrev pub record_at : Path → ℕ → List CellValue → Option (List ℕ)
record_at p i m = record_of (record_size p) (value_at m (index_cell p i))

-- so many indexes of an akey's array, from one on
unfoldable pub pieces : Path → ℕ → ℕ → List CellValue → List Piece
pieces p i zero m = []
pieces p i (suc n) m = index_before (record_at p i m) (pieces p (i + 1) n m)

-- the keys of the cells under a path, at the level below it
abbrev pub option_before : Option (List ℕ) → List (List ℕ) → List (List ℕ)
option_before None ks = ks
option_before (Some k) ks = k ∷ ks

abbrev pub dkey_under : Path → CellValue → Option (List ℕ)
dkey_under p v = if leads_to p v.cell.path then v.cell.path.dkey else None

abbrev pub akey_under : Path → CellValue → Option (List ℕ)
akey_under p v = if leads_to p v.cell.path then v.cell.path.akey else None

unfoldable pub dkeys_below : Path → List CellValue → List (List ℕ)
dkeys_below p [] = []
dkeys_below p (v ∷ m) = option_before (dkey_under p v) (dkeys_below p m)

unfoldable pub akeys_below : Path → List CellValue → List (List ℕ)
akeys_below p [] = []
akeys_below p (v ∷ m) = option_before (akey_under p v) (akeys_below p m)

-- one name is before another in byte order
abbrev pub is_before : List ℕ → List ℕ → Bool
is_before a [] = false
is_before [] (c ∷ b) = true
is_before (x ∷ a) (y ∷ b) = nat_lt x y || (x == y && is_before a b)

-- names in byte order, each once
abbrev pub name_among : List ℕ → List (List ℕ) → List (List ℕ)
name_among k [] = k ∷ []
name_among k (n ∷ ns) = if is_before k n then k ∷ n ∷ ns else if is_before n k then n ∷ name_among k ns else n ∷ ns

-- a name, if there is one, among names in byte order
abbrev pub option_among : Option (List ℕ) → List (List ℕ) → List (List ℕ)
option_among None ns = ns
option_among (Some k) ns = name_among k ns

unfoldable pub in_byte_order : List (List ℕ) → List (List ℕ)
in_byte_order [] = []
in_byte_order (k ∷ ks) = name_among k (in_byte_order ks)

-- what a read is answered
abbrev pub answer : Read → List CellValue → Answer
answer (read.Single p) m = value_answer (value_at m (single_cell p))
answer (read.Extent p low len) m = Parts (pieces p low len m)
answer (read.Dkeys p) m = Names (in_byte_order (dkeys_below p m))
answer (read.Akeys p) m = Names (in_byte_order (akeys_below p m))
answer (read.Exists p) m = yes_or_no (has_cell_below p m)
