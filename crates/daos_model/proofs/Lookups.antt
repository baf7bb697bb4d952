-- Looking up cells: the first value of a cell is the first that passes the test.
use Rattle.std.proofs.Common.{◌≡◌, ℕ, ◌+◌, ◌<◌, ◌++◌, length, get_or, take, reverse, sym, ◌∙◌, true, false, List, [], ◌∷◌, Some, find, refl, ap, ◌||◌, if◌then◌else◌}
use Rattle.std.proofs.lemmas.List.{reverse-append, take_more}
use Rattle.std.specs.List.{list_any}
use Rattle.std.specs.Option.{option_map}
use Rattle.base_types.specs.declared.path.Path.{Path}
use Rattle.daos_model.specs.declared.cell.Cell.{Cell}
use Rattle.daos_model.specs.declared.cell.CellValue.{CellValue}
use Rattle.daos_model.specs.Cells.{held_bytes, is_of, same_cell, value_at}
use Rattle.daos_model.specs.Answers.{has_cell_below, is_under}

pub value_at-find : (m : List CellValue) (c : Cell) → value_at m c ≡ option_map held_bytes (find (is_of c) m)
value_at-find [] c = refl
value_at-find (v ∷ m) c =
    elim (same_cell v.cell c) as (λ b. (if b then Some v.bytes else value_at m c) ≡ option_map held_bytes (if b then Some v else find (is_of c) m)) [
      | true ↦ refl
      | false ↦ value_at-find m c
    ]

pub has_cell_below-any : (p : Path) (m : List CellValue) → has_cell_below p m ≡ list_any (is_under p) m
unfolding has_cell_below
has_cell_below-any p [] = refl
has_cell_below-any p (v ∷ m) = ap (λ b. is_under p v || b) (has_cell_below-any p m)

-- one cell more
pub newest_more : (m : List CellValue) (i : ℕ) (v : CellValue) → i < length m → v ≡ get_or m i v → reverse (take (i + 1) m) ≡ v ∷ reverse (take i m)
newest_more m i v lt is =
    ap reverse (take_more m i v lt ∙ ap (λ x. take i m ++ x ∷ []) (sym is)) ∙ reverse-append (take i m) (v ∷ [])
