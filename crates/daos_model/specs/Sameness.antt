-- The test of sameness of cells holds exactly where they are equal.
use Rattle.std.specs.Prelude.{ℕ, ◌≡◌, nat_eq, Option}
use Rattle.std.specs.Bool.{Decides}
use Rattle.std.proofs.Common.{◌∙◌, ap}
use Rattle.std.proofs.lemmas.Bool.Decides.{Decides-and, Decides-eqb, Decides-like}
use Rattle.base_types.specs.declared.path.Path.{Path}
use Rattle.base_types.specs.PathLaws.{option_eq-Decides, same_path-Decides}
use Rattle.daos_model.specs.declared.cell.Cell.{Cell}
use Rattle.daos_model.specs.Cells.{same_cell}

abbrev cell_of : Path → Option ℕ → Cell
cell_of p i = record { path = p; index = i }

-- two cells are the same exactly where they are equal
pub same_cell-Decides : (c d : Cell) → Decides (same_cell c d) (c ≡ d)
unfolding same_cell
same_cell-Decides c d =
    Decides-like (same_cell c d)
    (λ same. ap (λ p. cell_of p c.index) same.0 ∙ ap (cell_of d.path) same.1)
    (λ same. (ap (λ e. e.path) same, ap (λ e. e.index) same))
    (Decides-and _ _ (same_path-Decides c.path d.path) (option_eq-Decides nat_eq Decides-eqb c.index d.index))
