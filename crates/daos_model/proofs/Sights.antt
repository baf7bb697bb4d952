-- The cells that an extent sets.
use Rattle.std.proofs.Common.{◌≡◌, ℕ, zero, suc, ◌+◌, ◌/◌, ◌<◌, Bool, true, false, ◌&&◌, ◌||◌, List, [], ◌∷◌, Option, Some, None, length, drop, refl, sym, ◌∙◌, ap, add-one, arith}
use Rattle.std.specs.Prelude.{is_none, nat_eq}
use Rattle.std.specs.List.{list_any}
use Rattle.std.specs.Option.{option_eq}
use Rattle.std.proofs.lemmas.Bool.Decides.{nat_tests}
use Rattle.base_types.specs.Paths.{record_size, same_path}
use Rattle.base_types.specs.declared.operation.Write.{Write}
use Rattle.base_types.specs.declared.operation.Write.TheVariants.{Single, Extent}
use Rattle.base_types.specs.declared.path.Path.{Path}
use Rattle.daos_model.specs.declared.cell.Cell.{Cell}
use Rattle.daos_model.specs.declared.cell.CellValue.{CellValue}
use Rattle.daos_model.specs.Cells.{is_of, same_cell, single_cell}
use Rattle.daos_model.specs.Effect.{extent_cells, index_value, record_cells, records_of}
use Rattle.daos_model.proofs.RecordSteps.{length-records}
use Rattle.daos_model.specs.Prunes.{is_index_in, touches}

index_step : (s : Bool) (low n : ℕ) (i : Option ℕ) → ((s && option_eq nat_eq (Some low) i) || (s && is_index_in (low + 1) n i)) ≡ (s && is_index_in low (n + 1) i)
index_step false low n i = refl
index_step true low n None = refl
index_step true low n (Some i) = grind (arith, nat_tests)

no_index : (s : Bool) (low : ℕ) (i : Option ℕ) → false ≡ (s && is_index_in low 0 i)
no_index false low i = refl
no_index true low None = refl
no_index true low (Some i) = grind (arith, nat_tests)

-- a cell is set by records where its index is that of one
any-record_cells : (c : Cell) (p : Path) (low : ℕ) (rs : List (List ℕ)) → list_any (is_of c) (record_cells p low rs) ≡ (same_path p c.path && is_index_in low (length rs) c.index)
unfolding same_cell
any-record_cells c p low [] = no_index (same_path p c.path) low c.index
any-record_cells c p low (r ∷ rs) =
    ap (λ x. (same_path p c.path && option_eq nat_eq (Some low) c.index) || x) (any-record_cells c p (low + 1) rs)
    ∙ index_step (same_path p c.path) low (length rs) c.index
    ∙ ap (λ n. same_path p c.path && is_index_in low n c.index) (let e : length rs + 1 ≡ length (r ∷ rs) = omega arith in e)

-- and by an extent where it lies in that
pub any-extent_cells : (c : Cell) (p : Path) (low : ℕ) (bytes : List ℕ) → list_any (is_of c) (extent_cells p low bytes) ≡ (same_path p c.path && is_index_in low (length bytes / record_size p) c.index)
any-extent_cells c p low bytes =
    any-record_cells c p low (records_of (record_size p) bytes)
    ∙ ap (λ n. same_path p c.path && is_index_in low n c.index) (length-records (record_size p) bytes)

-- and by a single value where it has no index
pub any-single : (c : Cell) (p : Path) → (same_cell (single_cell p) c || false) ≡ (same_path p c.path && is_none c.index)
unfolding same_cell
any-single c p = by (same_path p c.path) c.index
  where
    by : (s : Bool) (i : Option ℕ) → ((s && option_eq nat_eq None i) || false) ≡ (s && is_none i)
    by true None = refl
    by true (Some i) = refl
    by false i = refl

any-suc : (f : CellValue → Bool) (p : Path) (low : ℕ) (rs : List (List ℕ)) (i : ℕ) → i < length rs → ((r : List ℕ) → f (index_value p (low + i) r) ≡ false) → list_any f (record_cells p (low + suc i) (drop (suc i) rs)) ≡ list_any f (record_cells p (low + i) (drop i rs))
any-suc f p low [] i lt none = absurd (omega arith)
any-suc f p low (r ∷ rs) zero lt none =
    let e : low + 0 + 1 ≡ low + suc 0 = omega arith in
    ap (λ n. list_any f (record_cells p n rs)) (sym e) ∙ sym (ap (λ x. x || list_any f (record_cells p (low + 0 + 1) rs)) (none r))
any-suc f p low (r ∷ rs) (suc i) lt none =
    let e : low + suc i ≡ low + 1 + i = omega arith in
    let e' : low + suc (suc i) ≡ low + 1 + suc i = omega arith in
    ap (λ n. list_any f (record_cells p n (drop (suc i) rs))) e'
    ∙ any-suc f p (low + 1) rs i (omega arith) (λ x. ap (λ n. f (index_value p n x)) (sym e) ∙ none x)
    ∙ ap (λ n. list_any f (record_cells p n (drop i rs))) (sym e)

-- the cells from one index of an extent on
pub any-next : (f : CellValue → Bool) (p : Path) (low : ℕ) (rs : List (List ℕ)) (i : ℕ) → i < length rs → ((r : List ℕ) → f (index_value p (low + i) r) ≡ false) → list_any f (record_cells p (low + (i + 1)) (drop (i + 1) rs)) ≡ list_any f (record_cells p (low + i) (drop i rs))
any-next f p low rs i lt none = rw add-one (any-suc f p low rs i lt none)

-- the cell at an index of an extent
pub any-here : (f : CellValue → Bool) (p : Path) (low : ℕ) (rs : List (List ℕ)) (i : ℕ) → i < length rs → ((r : List ℕ) → f (index_value p (low + i) r) ≡ true) → list_any f (record_cells p (low + i) (drop i rs)) ≡ true
any-here f p low [] i lt yes' = absurd (omega arith)
any-here f p low (r ∷ rs) zero lt yes' = ap (λ x. x || list_any f (record_cells p (low + 0 + 1) rs)) (yes' r)
any-here f p low (r ∷ rs) (suc i) lt yes' =
    let e : low + suc i ≡ low + 1 + i = omega arith in
    ap (λ n. list_any f (record_cells p n (drop i rs))) e
    ∙ any-here f p (low + 1) rs i (omega arith) (λ x. ap (λ n. f (index_value p n x)) (sym e) ∙ yes' x)

-- what a write of one kind touches
pub touches-single : (c : Cell) (w : Write) (p : Path) (bytes : List ℕ) (r : Bool) → r ≡ (same_path p c.path && is_none c.index) → w ≡ Single p bytes → r ≡ touches c w
unfolding touches
touches-single c w p bytes r is e = is ∙ sym (any-single c p) ∙ sym (ap (touches c) e)

pub touches-extent : (c : Cell) (w : Write) (p : Path) (low : ℕ) (bytes : List ℕ) (r : Bool) → r ≡ (same_path p c.path && is_index_in low (length bytes / record_size p) c.index) → w ≡ Extent p low bytes → r ≡ touches c w
unfolding touches
touches-extent c w p low bytes r is e = is ∙ sym (any-extent_cells c p low bytes) ∙ sym (ap (touches c) e)
