-- How the pieces of an array are made: what its indexes hold first, then piece by piece.
use Rattle.std.specs.Prelude.{ℕ, zero, suc, ◌+◌, ◌-◌, nat_le, map, slice_set, List, [], ◌∷◌, ◌++◌, Option, Some, None, if◌then◌else◌}
use Rattle.std.specs.Borrow.{Bor}
use Rattle.std.specs.Option.{option_copied}
use Rattle.base_types.specs.declared.answer.Piece.{Piece}
use Rattle.base_types.specs.declared.answer.Piece.TheVariants.{Bytes, Hole}
use Rattle.base_types.specs.Paths.{same_path}
use Rattle.base_types.specs.declared.path.Path.{Path}
use Rattle.daos_model.specs.declared.cell.CellValue.{CellValue}
use Rattle.daos_model.specs.Answers.{index_before, record_of}
use Rattle.daos_model.specs.Cells.{index_cell, same_cell, value_at}

-- what so many indexes of an akey's array hold, from one on
unfoldable pub window : Path → ℕ → ℕ → List CellValue → List (Option (List ℕ))
window p i zero m = []
window p i (suc n) m = value_at m (index_cell p i) ∷ window p (i + 1) n m

-- bytes that are lent, by index
abbrev pub lent : List (Option (Bor (List ℕ))) → List (Option (List ℕ))
lent held = map option_copied held

-- bytes by index, from one on, after a value is set
abbrev pub with_value : Path → ℕ → CellValue → List (Option (List ℕ)) → List (Option (List ℕ))
with_value p i v [] = []
with_value p i v (o ∷ held) = (if same_cell v.cell (index_cell p i) then Some v.bytes else o) ∷ with_value p (i + 1) v held

-- the index of an akey's array that a value is of, if it is of one
abbrev pub index_in : Path → CellValue → Option ℕ
index_in p v = if same_path v.cell.path p then v.cell.index else None

-- bytes by index, from one on, where an index, if there is one, holds others
abbrev pub with_index : Option ℕ → ℕ → List ℕ → List (Option (List ℕ)) → List (Option (List ℕ))
with_index None low b held = held
with_index (Some i) low b held = if nat_le low i then slice_set held (i - low) (Some b) else held

-- the pieces that bytes by index make, of records of a size
abbrev pub pieces_of : ℕ → List (Option (List ℕ)) → List Piece
pieces_of size [] = []
pieces_of size (o ∷ held) = index_before (record_of size o) (pieces_of size held)

-- the piece of one index
abbrev pub lone_piece : Option (List ℕ) → Piece
lone_piece None = Hole 1
lone_piece (Some r) = Bytes r

-- an index after the last piece
abbrev pub after_last : Piece → Option (List ℕ) → List Piece
after_last (Bytes bytes) (Some r) = Bytes (bytes ++ r) ∷ []
after_last (Bytes bytes) None = Bytes bytes ∷ lone_piece None ∷ []
after_last (Hole n) (Some r) = Hole n ∷ lone_piece (Some r) ∷ []
after_last (Hole n) None = Hole (n + 1) ∷ []

-- an index after all pieces
abbrev pub index_after : List Piece → Option (List ℕ) → List Piece
index_after [] r = lone_piece r ∷ []
index_after (p ∷ []) r = after_last p r
index_after (p ∷ q ∷ ps) r = p ∷ index_after (q ∷ ps) r

-- the length of the hole that a piece is, or 0
abbrev pub hole_length : Piece → ℕ
hole_length (Bytes bytes) = 0
hole_length (Hole n) = n

-- the length of the hole at the end, or 0
abbrev pub last_hole : List Piece → ℕ
last_hole [] = 0
last_hole (p ∷ []) = hole_length p
last_hole (p ∷ q ∷ ps) = last_hole (q ∷ ps)
