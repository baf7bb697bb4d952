-- Which answers are of the kind that a read asks for.
use Rattle.std.specs.Prelude.{ℕ, ◌+◌, ◌/◌, ◌%◌, Bool, true, false, ◌&&◌, ◌==◌, nat_le, List, [], ◌∷◌, length}
use Rattle.std.specs.List.{list_all}
use Rattle.base_types.specs.declared.answer.Answer.{Answer}
use Rattle.base_types.specs.declared.answer.Answer.TheVariants.{Bytes, Parts, Names, Yes, No, Absent}
use Rattle.base_types.specs.declared.answer.Piece.{Piece}
use Rattle.base_types.specs.declared.answer.Piece.TheVariants as piece
use Rattle.base_types.specs.declared.operation.Read.{Read}
use Rattle.base_types.specs.declared.operation.Read.TheVariants as read
use Rattle.base_types.specs.Paths.{record_size}
use Rattle.daos_model.specs.Forms.{is_length}
use Rattle.daos_model.specs.Ordered.{is_rising}

-- the number of records of a size that a piece has
abbrev pub piece_length : ℕ → Piece → ℕ
piece_length size (piece.Bytes bytes) = length bytes / size
piece_length size (piece.Hole n) = n

abbrev pub pieces_length : ℕ → List Piece → ℕ
pieces_length size [] = 0
pieces_length size (p ∷ ps) = piece_length size p + pieces_length size ps

-- a piece's bytes are whole records
abbrev pub is_whole : ℕ → Piece → Bool
is_whole size (piece.Bytes bytes) = length bytes % size == 0
is_whole size (piece.Hole n) = true

abbrev pub is_piece : ℕ → Piece → Bool
is_piece size p = nat_le 1 (piece_length size p) && is_whole size p

abbrev pub are_unlike : Piece → Piece → Bool
are_unlike (piece.Bytes bytes) (piece.Bytes bytes') = false
are_unlike (piece.Bytes bytes) (piece.Hole n) = true
are_unlike (piece.Hole n) (piece.Bytes bytes) = true
are_unlike (piece.Hole n) (piece.Hole n') = false

-- neighbours of one kind are joined
abbrev pub are_joined : List Piece → Bool
are_joined [] = true
are_joined (p ∷ []) = true
are_joined (p ∷ q ∷ ps) = are_unlike p q && are_joined (q ∷ ps)

-- the pieces of so many indexes of an array with records of a size
abbrev pub are_pieces : ℕ → ℕ → List Piece → Bool
are_pieces size len ps = (pieces_length size ps == len) && list_all (is_piece size) ps && are_joined ps

-- The read that an answer answers: a value has a length that values have, an array's pieces are as many records as were asked, and names stand in
-- byte order, each once.
unfoldable pub is_of_kind : Read → Answer → Bool
is_of_kind (read.Single p) (Bytes bytes) = is_length (length bytes)
is_of_kind (read.Single p) Absent = true
is_of_kind (read.Extent p low len) (Parts ps) = are_pieces (record_size p) len ps
is_of_kind (read.Dkeys p) (Names ks) = is_rising (λ k. k) ks
is_of_kind (read.Akeys p) (Names ks) = is_rising (λ k. k) ks
is_of_kind (read.Exists p) Yes = true
is_of_kind (read.Exists p) No = true
is_of_kind r a = false
