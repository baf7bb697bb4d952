-- The parts of a text that is cut at each mark.
use Rattle.std.specs.Prelude.{ℕ, ◌==◌, List, [], ◌∷◌, Option, Some, None}
use Rattle.std.specs.List.{slice_split}
use Rattle.std.specs.Borrow.{Bor}

-- the parts between the marks: one more than there are marks
abbrev pub parts_of : ℕ → List ℕ → List (List ℕ)
parts_of mark bytes = slice_split (λ b. b == mark) bytes

-- a part, unless it is empty
abbrev pub unless_empty : List ℕ → List (List ℕ)
unless_empty [] = []
unless_empty (b ∷ bs) = (b ∷ bs) ∷ []

-- without an empty part at the end
abbrev pub without_empty_end : List (List ℕ) → List (List ℕ)
without_empty_end [] = []
without_empty_end (part ∷ []) = unless_empty part
without_empty_end (part ∷ next ∷ parts) = part ∷ without_empty_end (next ∷ parts)

-- the parts that each end with a mark; the last may lack it
unfoldable pub ended_parts : ℕ → List ℕ → List (List ℕ)
ended_parts mark bytes = without_empty_end (parts_of mark bytes)

-- the parts of what is left of a text, if something is
abbrev pub parts_left : ℕ → Option (Bor (List ℕ)) → List (List ℕ)
parts_left mark None = []
parts_left mark (Some bytes) = parts_of mark bytes.now
