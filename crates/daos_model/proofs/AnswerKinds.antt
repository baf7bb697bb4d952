-- The answer of a read on versions in form is of the kind that the read asks for.
use Rattle.std.proofs.Common.{◌≡◌, ℕ, zero, suc, ◌+◌, ◌*◌, ◌/◌, ◌%◌, ◌<◌, Bool, true, false, ◌&&◌, List, [], ◌∷◌, ◌++◌, Option, Some, None, length, refl, sym, ◌∙◌, ap, arith}
use Rattle.std.specs.Prelude.{◌==◌, nat_eq, nat_le, filter, is_none, if◌then◌else◌}
use Rattle.std.specs.List.{list_all}
use Rattle.std.specs.Option.{option_eq}
use Rattle.std.proofs.lemmas.Bool.Decides.{nat_tests}
use Rattle.std.proofs.lemmas.List.{length-append}
use Rattle.std.proofs.Math.Nat.{add-mod_left, add-mul-div_left, div_self, mod_self}
use Rattle.base_types.specs.declared.answer.Piece.{Piece}
use Rattle.base_types.specs.declared.answer.Piece.TheVariants as piece
use Rattle.base_types.specs.declared.operation.Read.{Read}
use Rattle.base_types.specs.declared.operation.Read.TheVariants as read
use Rattle.base_types.specs.declared.operation.Write.{Write}
use Rattle.base_types.specs.declared.operation.Write.TheVariants as write
use Rattle.base_types.specs.declared.path.Path.{Path}
use Rattle.base_types.specs.Paths.{leads_to, record_size, same_path}
use Rattle.daos_model.specs.declared.cell.CellValue.{CellValue}
use Rattle.daos_model.specs.declared.durable.Version.{Version}
use Rattle.daos_model.specs.Answers.{akeys_below, answer, dkeys_below, has_cell_below, hole_before, index_before, pieces, record_at, record_before, record_of, value_answer, yes_or_no}
use Rattle.daos_model.specs.BoolLaws.{and_left, and_right, both}
use Rattle.daos_model.specs.Cells.{index_cell, same_cell, single_cell, value_at}
use Rattle.daos_model.specs.Durables.{is_version_in_form}
use Rattle.daos_model.specs.Effect.{effect, effects, record_cells, records_of, without}
use Rattle.daos_model.specs.ExtentForms.{read-size}
use Rattle.daos_model.specs.Forms.{ends_at_akey, is_length, is_read_in_form, is_write_in_form}
use Rattle.daos_model.specs.Kinds.{are_joined, are_pieces, is_of_kind, is_piece, pieces_length}
use Rattle.daos_model.specs.OrderLaws.{rising-names}
use Rattle.daos_model.specs.Versions.{map_below, sees, writes_in}

-- ---- values of maps

-- a single value has 1 to 1,024 bytes
is_value : CellValue → Bool
is_value v = if is_none v.cell.index then is_length (length v.bytes) else true

record_values : (p : Path) (i : ℕ) (rs : List (List ℕ)) (m : List CellValue) → list_all is_value m ≡ true → list_all is_value (record_cells p i rs ++ m) ≡ true
unfolding is_value
record_values p i [] m h = h
record_values p i (r ∷ rs) m h = record_values p (i + 1) rs m h

left_values : (p : Path) (m : List CellValue) → list_all is_value m ≡ true → list_all is_value (without p m) ≡ true
left_values p [] h = refl
left_values p (v ∷ m) h =
    elim (leads_to p v.cell.path) as (λ b. list_all is_value (if b then without p m else v ∷ without p m) ≡ true) [
      | true ↦ left_values p m (and_right (is_value v) (list_all is_value m) h)
      | false ↦ both (is_value v) (list_all is_value (without p m)) (and_left (is_value v) (list_all is_value m) h) (left_values p m (and_right (is_value v) (list_all is_value m) h))
    ]

effect_values : (w : Write) (m : List CellValue) → is_write_in_form w ≡ true → list_all is_value m ≡ true → list_all is_value (effect w m) ≡ true
unfolding is_write_in_form is_value
effect_values (write.Single p bytes) m f h = both (is_length (length bytes)) (list_all is_value m) (and_right (ends_at_akey p) (is_length (length bytes)) f) h
effect_values (write.Extent p low bytes) m f h = record_values p low (records_of (record_size p) bytes) m h
effect_values (write.PunchObject p) m f h = left_values p m h
effect_values (write.PunchDkey p) m f h = left_values p m h
effect_values (write.PunchAkey p) m f h = left_values p m h

effects_values : (t : Version → Bool) (vs : List Version) (m : List CellValue) → list_all is_version_in_form vs ≡ true → list_all is_value m ≡ true → list_all is_value (effects (writes_in (filter t vs)) m) ≡ true
effects_values t [] m f h = h
effects_values t (v ∷ vs) m f h =
    elim (t v) as (λ b. list_all is_value (effects (writes_in (if b then v ∷ filter t vs else filter t vs)) m) ≡ true) [
      | true ↦ effects_values t vs (effect v.write m) (and_right (is_version_in_form v) (list_all is_version_in_form vs) f) (effect_values v.write m (and_left (is_version_in_form v) (list_all is_version_in_form vs) f) h)
      | false ↦ effects_values t vs m (and_right (is_version_in_form v) (list_all is_version_in_form vs) f) h
    ]

map_values : (vs : List Version) (e : ℕ) → list_all is_version_in_form vs ≡ true → list_all is_value (map_below vs e) ≡ true
unfolding map_below
map_values vs e f = effects_values (sees e) vs [] f refl

no_index : (i : Option ℕ) → option_eq nat_eq i None ≡ true → is_none i ≡ true
no_index None e = refl
no_index (Some n) e = absurd (let k : ⊥ = cc in k)

-- the answer that a single value makes is of its kind
abbrev is_single : Option (List ℕ) → Bool
is_single None = true
is_single (Some bytes) = is_length (length bytes)

single_value : (m : List CellValue) (p : Path) → list_all is_value m ≡ true → is_single (value_at m (single_cell p)) ≡ true
unfolding is_value same_cell
single_value [] p h = refl
single_value (v ∷ m) p h =
    elim (same_path v.cell.path p && option_eq nat_eq v.cell.index None) as (λ b. (same_path v.cell.path p && option_eq nat_eq v.cell.index None) ≡ b → is_single (if b then Some v.bytes else value_at m (single_cell p)) ≡ true) [
      | true ↦ λ same.
          let none : is_none v.cell.index ≡ true = no_index v.cell.index (and_right (same_path v.cell.path p) (option_eq nat_eq v.cell.index None) same) in
          sym (ap (λ (b : Bool). if b then is_length (length v.bytes) else true) none) ∙ and_left (is_value v) (list_all is_value m) h
      | false ↦ λ other. single_value m p (and_right (is_value v) (list_all is_value m) h)
    ] refl

single_kind : (p : Path) (o : Option (List ℕ)) → is_single o ≡ true → is_of_kind (read.Single p) (value_answer o) ≡ true
unfolding is_of_kind
single_kind p None h = refl
single_kind p (Some bytes) h = h

-- ---- pieces

-- pieces of records of a size, as a read of an array is answered
abbrev are_good : ℕ → List Piece → Bool
are_good size ps = list_all (is_piece size) ps && are_joined ps

-- bytes with one record more have one record more, and are whole where they were
module _ (size n : ℕ) (some : 0 < size) where
  counted_more : (size + n) / size ≡ n / size + 1
  counted_more =
      let e : n + size * 1 ≡ size + n = omega arith in
      sym (ap (λ k. k / size) e) ∙ add-mul-div_left n 1 some

  whole_more : (n % size == 0) ≡ true → ((size + n) % size == 0) ≡ true
  whole_more h = ap (λ k. k == 0) (add-mod_left size n) ∙ h

lone_record : (size : ℕ) (r : List ℕ) → 0 < size → length r ≡ size → is_piece size (piece.Bytes r) ≡ true
lone_record size r some long =
    let one : length r / size ≡ 1 = ap (λ k. k / size) long ∙ div_self some in
    let whole : (length r % size == 0) ≡ true = ap (λ k. k % size == 0) long ∙ ap (λ k. k == 0) (mod_self size) in
    both (nat_le 1 (length r / size)) (length r % size == 0) (ap (nat_le 1) one) whole

more_records : (size : ℕ) (r bytes : List ℕ) → 0 < size → length r ≡ size → is_piece size (piece.Bytes bytes) ≡ true → is_piece size (piece.Bytes (r ++ bytes)) ≡ true
more_records size r bytes some long h =
    let sum : length (r ++ bytes) ≡ size + length bytes = length-append r bytes ∙ ap (λ k. k + length bytes) long in
    let one : length (r ++ bytes) / size ≡ length bytes / size + 1 = ap (λ k. k / size) sum ∙ counted_more size (length bytes) some in
    let whole : (length (r ++ bytes) % size == 0) ≡ true =
    ap (λ k. k % size == 0) sum ∙ whole_more size (length bytes) some (and_right (nat_le 1 (length bytes / size)) (length bytes % size == 0) h) in
    both (nat_le 1 (length (r ++ bytes) / size)) (length (r ++ bytes) % size == 0) (ap (nat_le 1) one ∙ above (length bytes / size)) whole
  where
    above : (k : ℕ) → nat_le 1 (k + 1) ≡ true
    above k = grind (arith, nat_tests)

-- whether neighbours are joined does not depend on the bytes of the first
joined_alike : (a b : List ℕ) (ps : List Piece) → are_joined (piece.Bytes a ∷ ps) ≡ are_joined (piece.Bytes b ∷ ps)
joined_alike a b [] = refl
joined_alike a b (piece.Bytes c ∷ ps) = refl
joined_alike a b (piece.Hole n ∷ ps) = refl

good_record : (size : ℕ) (r : List ℕ) (ps : List Piece) → 0 < size → length r ≡ size → are_good size ps ≡ true → are_good size (record_before r ps) ≡ true
good_record size r [] some long h = both (is_piece size (piece.Bytes r) && true) true (both (is_piece size (piece.Bytes r)) true (lone_record size r some long) refl) refl
good_record size r (piece.Bytes bytes ∷ ps) some long h =
    let all : list_all (is_piece size) (piece.Bytes bytes ∷ ps) ≡ true = and_left (list_all (is_piece size) (piece.Bytes bytes ∷ ps)) (are_joined (piece.Bytes bytes ∷ ps)) h in
    both (is_piece size (piece.Bytes (r ++ bytes)) && list_all (is_piece size) ps) (are_joined (piece.Bytes (r ++ bytes) ∷ ps))
    (both (is_piece size (piece.Bytes (r ++ bytes))) (list_all (is_piece size) ps)
    (more_records size r bytes some long (and_left (is_piece size (piece.Bytes bytes)) (list_all (is_piece size) ps) all))
    (and_right (is_piece size (piece.Bytes bytes)) (list_all (is_piece size) ps) all))
    (joined_alike (r ++ bytes) bytes ps ∙ and_right (list_all (is_piece size) (piece.Bytes bytes ∷ ps)) (are_joined (piece.Bytes bytes ∷ ps)) h)
good_record size r (piece.Hole n ∷ ps) some long h =
    both (is_piece size (piece.Bytes r) && list_all (is_piece size) (piece.Hole n ∷ ps)) (are_joined (piece.Hole n ∷ ps))
    (both (is_piece size (piece.Bytes r)) (list_all (is_piece size) (piece.Hole n ∷ ps)) (lone_record size r some long)
    (and_left (list_all (is_piece size) (piece.Hole n ∷ ps)) (are_joined (piece.Hole n ∷ ps)) h))
    (and_right (list_all (is_piece size) (piece.Hole n ∷ ps)) (are_joined (piece.Hole n ∷ ps)) h)

longer_hole : (size n : ℕ) → is_piece size (piece.Hole (n + 1)) ≡ true
longer_hole size n = both (nat_le 1 (n + 1)) true (grind (arith, nat_tests)) refl

hole_alike : (m n : ℕ) (ps : List Piece) → are_joined (piece.Hole m ∷ ps) ≡ are_joined (piece.Hole n ∷ ps)
hole_alike m n [] = refl
hole_alike m n (piece.Bytes c ∷ ps) = refl
hole_alike m n (piece.Hole k ∷ ps) = refl

good_hole : (size : ℕ) (ps : List Piece) → are_good size ps ≡ true → are_good size (hole_before ps) ≡ true
good_hole size [] h = refl
good_hole size (piece.Bytes bytes ∷ ps) h = h
good_hole size (piece.Hole n ∷ ps) h =
    both (is_piece size (piece.Hole (n + 1)) && list_all (is_piece size) ps) (are_joined (piece.Hole (n + 1) ∷ ps))
    (both (is_piece size (piece.Hole (n + 1))) (list_all (is_piece size) ps) (longer_hole size n)
    (and_right (is_piece size (piece.Hole n)) (list_all (is_piece size) ps) (and_left (list_all (is_piece size) (piece.Hole n ∷ ps)) (are_joined (piece.Hole n ∷ ps)) h)))
    (hole_alike (n + 1) n ps ∙ and_right (list_all (is_piece size) (piece.Hole n ∷ ps)) (are_joined (piece.Hole n ∷ ps)) h)

-- a record of a size is as long
abbrev IsOfSize : ℕ → Option (List ℕ) → Type 0
IsOfSize size None = Unit {0}
IsOfSize size (Some r) = length r ≡ size

of_size : (size : ℕ) (o : Option (List ℕ)) → IsOfSize size (record_of size o)
of_size size None = tt
of_size size (Some bytes) =
    elim (length bytes == size) as (λ b. (length bytes == size) ≡ b → IsOfSize size (if b then Some bytes else None)) [
      | true ↦ λ e. same (length bytes) e
      | false ↦ λ e. tt
    ] refl
  where
    same : (n : ℕ) → (n == size) ≡ true → n ≡ size
    same n e = grind (arith, nat_tests)

good_index : (size : ℕ) (o : Option (List ℕ)) (ps : List Piece) → 0 < size → IsOfSize size o → are_good size ps ≡ true → are_good size (index_before o ps) ≡ true
good_index size None ps some of h = good_hole size ps h
good_index size (Some r) ps some of h = good_record size r ps some of h

good_pieces : (p : Path) (i n : ℕ) (m : List CellValue) → 0 < record_size p → are_good (record_size p) (pieces p i n m) ≡ true
unfolding pieces
good_pieces p i zero m some = refl
good_pieces p i (suc n) m some =
    good_index (record_size p) (record_at p i m) (pieces p (i + 1) n m) some (of_size (record_size p) (value_at m (index_cell p i))) (good_pieces p (i + 1) n m some)

long_record : (size : ℕ) (r : List ℕ) (ps : List Piece) → 0 < size → length r ≡ size → pieces_length size (record_before r ps) ≡ pieces_length size ps + 1
long_record size r [] some long = let one : length r / size ≡ 1 = ap (λ k. k / size) long ∙ div_self some in omega (arith, one)
long_record size r (piece.Bytes bytes ∷ ps) some long =
    let sum : length (r ++ bytes) ≡ size + length bytes = length-append r bytes ∙ ap (λ k. k + length bytes) long in
    let one : length (r ++ bytes) / size ≡ length bytes / size + 1 = ap (λ k. k / size) sum ∙ counted_more size (length bytes) some in
    omega (arith, one)
long_record size r (piece.Hole n ∷ ps) some long = let one : length r / size ≡ 1 = ap (λ k. k / size) long ∙ div_self some in omega (arith, one)

long_hole : (size : ℕ) (ps : List Piece) → pieces_length size (hole_before ps) ≡ pieces_length size ps + 1
long_hole size [] = omega arith
long_hole size (piece.Bytes bytes ∷ ps) = omega arith
long_hole size (piece.Hole n ∷ ps) = omega arith

long_index : (size : ℕ) (o : Option (List ℕ)) (ps : List Piece) → 0 < size → IsOfSize size o → pieces_length size (index_before o ps) ≡ pieces_length size ps + 1
long_index size None ps some of = long_hole size ps
long_index size (Some r) ps some of = long_record size r ps some of

long_pieces : (p : Path) (i n : ℕ) (m : List CellValue) → 0 < record_size p → pieces_length (record_size p) (pieces p i n m) ≡ n
unfolding pieces
long_pieces p i zero m some = refl
long_pieces p i (suc n) m some =
    omega (arith, long_index (record_size p) (record_at p i m) (pieces p (i + 1) n m) some (of_size (record_size p) (value_at m (index_cell p i))), long_pieces p (i + 1) n m some)

are_pieces-pieces : (p : Path) (i n : ℕ) (m : List CellValue) → 0 < record_size p → are_pieces (record_size p) n (pieces p i n m) ≡ true
are_pieces-pieces p i n m some =
    let long : (pieces_length (record_size p) (pieces p i n m) == n) ≡ true = (let e : pieces_length (record_size p) (pieces p i n m) ≡ n = long_pieces p i n m some in grind (arith, nat_tests)) in
    both ((pieces_length (record_size p) (pieces p i n m) == n) && list_all (is_piece (record_size p)) (pieces p i n m)) (are_joined (pieces p i n m))
    (both (pieces_length (record_size p) (pieces p i n m) == n) (list_all (is_piece (record_size p)) (pieces p i n m)) long
    (and_left (list_all (is_piece (record_size p)) (pieces p i n m)) (are_joined (pieces p i n m)) (good_pieces p i n m some)))
    (and_right (list_all (is_piece (record_size p)) (pieces p i n m)) (are_joined (pieces p i n m)) (good_pieces p i n m some))

yes_kind : (p : Path) (b : Bool) → is_of_kind (read.Exists p) (yes_or_no b) ≡ true
unfolding is_of_kind
yes_kind p true = refl
yes_kind p false = refl

-- the answer of a read in form
pub kind-answer : (r : Read) (vs : List Version) (e : ℕ) → is_read_in_form r ≡ true → list_all is_version_in_form vs ≡ true → is_of_kind r (answer r (map_below vs e)) ≡ true
unfolding is_of_kind
kind-answer (read.Single p) vs e k f = single_kind p (value_at (map_below vs e) (single_cell p)) (single_value (map_below vs e) p (map_values vs e f))
kind-answer (read.Extent p low len) vs e k f = are_pieces-pieces p low len (map_below vs e) (read-size p low len k)
kind-answer (read.Dkeys p) vs e k f = rising-names (dkeys_below p (map_below vs e))
kind-answer (read.Akeys p) vs e k f = rising-names (akeys_below p (map_below vs e))
kind-answer (read.Exists p) vs e k f = yes_kind p (has_cell_below p (map_below vs e))
