-- The records that bytes are cut into.
use Rattle.std.proofs.Common.{◌≡◌, ℕ, zero, suc, ◌+◌, ◌*◌, ◌/◌, ◌<◌, ◌≤◌, List, [], ◌∷◌, ◌++◌, length, get_or, take, drop, reverse, refl, sym, ◌∙◌, ap, arith}
use Rattle.std.proofs.lemmas.List.{drop-drop, drop_all, drop_more, reverse-append}
use Rattle.std.proofs.Math.Nat.{div-mul-le_self, mul-le-mul_right}
use Rattle.base_types.specs.Paths.{record_size}
use Rattle.base_types.specs.declared.path.Path.{Path}
use Rattle.daos_model.specs.declared.cell.CellValue.{CellValue}
use Rattle.daos_model.specs.Effect.{cut_records, index_value, record_cells, records_of}

length-cut : (count size : ℕ) (bytes : List ℕ) → length (cut_records count size bytes) ≡ count
length-cut zero size bytes = refl
length-cut (suc count) size bytes = ap suc (length-cut count size (drop size bytes))

-- as many as whole ones fit
pub length-records : (size : ℕ) (bytes : List ℕ) → length (records_of size bytes) ≡ length bytes / size
length-records size bytes = length-cut (length bytes / size) size bytes

-- each lies within the bytes
pub record-within : (size len i : ℕ) → i < len / size → (i + 1) * size ≤ len
record-within size len i lt =
    let below : i + 1 ≤ len / size = omega arith in
    let most : (i + 1) * size ≤ len / size * size = mul-le-mul_right size below in
    omega (arith, most, div-mul-le_self len size)

cut-at : (count size i : ℕ) (bytes d : List ℕ) → i < count → get_or (cut_records count size bytes) i d ≡ take size (drop (i * size) bytes)
cut-at zero size i bytes d lt = absurd (omega arith)
cut-at (suc count) size zero bytes d lt = let e : zero * size ≡ zero = omega arith in ap (λ n. take size (drop n bytes)) (sym e)
cut-at (suc count) size (suc i) bytes d lt =
    let e : size + i * size ≡ suc i * size = omega arith in
    cut-at count size i (drop size bytes) d (omega arith) ∙ ap (take size) (drop-drop (i * size) size bytes) ∙ ap (λ n. take size (drop n bytes)) e

-- the records from one on
pub records-from : (size : ℕ) (bytes : List ℕ) (i : ℕ) → i < length bytes / size → drop i (records_of size bytes) ≡ take size (drop (i * size) bytes) ∷ drop (i + 1) (records_of size bytes)
records-from size bytes i lt =
    let short : i < length (records_of size bytes) = omega (arith, length-records size bytes) in
    drop_more (records_of size bytes) i [] short ∙ ap (λ r. r ∷ drop (i + 1) (records_of size bytes)) (cut-at (length bytes / size) size i bytes [] lt)

-- the cells of no record
pub cells-none : (p : Path) (low : ℕ) (bytes : List ℕ) (i : ℕ) → length bytes / record_size p ≤ i → record_cells p (low + i) (drop i (records_of (record_size p) bytes)) ≡ []
cells-none p low bytes i enough =
    ap (record_cells p (low + i)) (drop_all i (records_of (record_size p) bytes) (let long : length (records_of (record_size p) bytes) ≡ length bytes / record_size p = length-records (record_size p) bytes in omega (arith, long, enough)))

-- the cells from one record on, the last first: one more than those from the next
pub cells-more : (p : Path) (low : ℕ) (bytes : List ℕ) (i : ℕ) (cells : List CellValue) (v : CellValue)
    → i < length bytes / record_size p → reverse cells ≡ record_cells p (low + (i + 1)) (drop (i + 1) (records_of (record_size p) bytes))
    → v ≡ index_value p (low + i) (take (record_size p) (drop (i * record_size p) bytes))
    → reverse (cells ++ v ∷ []) ≡ record_cells p (low + i) (drop i (records_of (record_size p) bytes))
cells-more p low bytes i cells v lt rest is =
    let next : low + (i + 1) ≡ low + i + 1 = omega arith in
    reverse-append cells (v ∷ [])
    ∙ ap (λ x. x ∷ reverse cells) is
    ∙ ap (λ xs. index_value p (low + i) (take (record_size p) (drop (i * record_size p) bytes)) ∷ xs) (rest ∙ ap (λ n. record_cells p n (drop (i + 1) (records_of (record_size p) bytes))) next)
    ∙ sym (ap (record_cells p (low + i)) (records-from (record_size p) bytes i lt))
