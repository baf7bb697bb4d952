-- The pieces of an array, index by index.
use Rattle.std.proofs.Common.{◌≡◌, ℕ, zero, suc, ◌+◌, ◌-◌, ◌<◌, ◌≤◌, true, false, List, [], ◌∷◌, ◌++◌, length, get_or, set, take, replicate, reverse, Option, Some, None, nat_eq, ◌&&◌, inl, inr, refl, sym, ◌∙◌, ap, append_assoc, if◌then◌else◌, Bor, arith}
use Rattle.std.proofs.lemmas.Bool.Decides.{leb_tells, nat_tests}
use Rattle.std.specs.Option.{option_copied, option_eq}
use Rattle.std.proofs.lemmas.List.{map-append, take_more}
use Rattle.base_types.specs.Paths.{record_size, same_path}
use Rattle.base_types.specs.declared.answer.Piece.{Piece}
use Rattle.base_types.specs.declared.answer.Piece.TheVariants.{Bytes, Hole}
use Rattle.base_types.specs.declared.path.Path.{Path}
use Rattle.daos_model.specs.declared.cell.CellValue.{CellValue}
use Rattle.daos_model.specs.Answers.{index_before, pieces, record_at, record_of}
use Rattle.daos_model.specs.Cells.{index_cell, same_cell, value_at}
use Rattle.daos_model.specs.Pieces.{after_last, hole_length, index_after, index_in, last_hole, lent, lone_piece, pieces_of, window, with_index, with_value}
use Rattle.daos_model.proofs.Lookups.{newest_more}

pub pieces-window : (p : Path) (i n : ℕ) (m : List CellValue) → pieces p i n m ≡ pieces_of (record_size p) (window p i n m)
unfolding pieces window
pieces-window p i zero m = refl
pieces-window p i (suc n) m = ap (index_before (record_at p i m)) (pieces-window p (i + 1) n m)

-- an index before and one after don't meet
before_after : (a b : Option (List ℕ)) (ps : List Piece) → index_before a (index_after ps b) ≡ index_after (index_before a ps) b
before_after None None [] = refl
before_after None (Some b) [] = refl
before_after (Some a) None [] = refl
before_after (Some a) (Some b) [] = refl
before_after None None (Bytes bytes ∷ []) = refl
before_after None (Some b) (Bytes bytes ∷ []) = refl
before_after (Some a) None (Bytes bytes ∷ []) = refl
before_after (Some a) (Some b) (Bytes bytes ∷ []) = ap (λ x. Bytes x ∷ []) (sym (append_assoc a bytes b))
before_after None None (Hole n ∷ []) = refl
before_after None (Some b) (Hole n ∷ []) = refl
before_after (Some a) None (Hole n ∷ []) = refl
before_after (Some a) (Some b) (Hole n ∷ []) = refl
before_after None b (Bytes bytes ∷ q ∷ ps) = refl
before_after (Some a) b (Bytes bytes ∷ q ∷ ps) = refl
before_after None b (Hole n ∷ q ∷ ps) = refl
before_after (Some a) b (Hole n ∷ q ∷ ps) = refl

pub pieces_of-push : (size : ℕ) (held : List (Option (List ℕ))) (o : Option (List ℕ)) → pieces_of size (held ++ o ∷ []) ≡ index_after (pieces_of size held) (record_of size o)
pieces_of-push size [] o = before_none (record_of size o)
  where
    before_none : (r : Option (List ℕ)) → index_before r [] ≡ lone_piece r ∷ []
    before_none None = refl
    before_none (Some r) = refl
pieces_of-push size (a ∷ held) o = ap (index_before (record_of size a)) (pieces_of-push size held o) ∙ before_after (record_of size a) (record_of size o) (pieces_of size held)

pub index_after-push : (ps : List Piece) (p : Piece) (b : Option (List ℕ)) → index_after (ps ++ p ∷ []) b ≡ ps ++ after_last p b
index_after-push [] p b = refl
index_after-push (q ∷ []) p b = refl
index_after-push (q ∷ r ∷ ps) p b = ap (λ x. q ∷ x) (index_after-push (r ∷ ps) p b)

pub last_hole-push : (ps : List Piece) (p : Piece) → last_hole (ps ++ p ∷ []) ≡ hole_length p
last_hole-push [] p = refl
last_hole-push (q ∷ []) p = refl
last_hole-push (q ∷ r ∷ ps) p = last_hole-push (r ∷ ps) p

last_hole-after : (p : Piece) (b : Option (List ℕ)) → last_hole (after_last p b) ≤ hole_length p + 1
last_hole-after (Bytes bytes) (Some b) = omega arith
last_hole-after (Bytes bytes) None = omega arith
last_hole-after (Hole n) (Some b) = omega arith
last_hole-after (Hole n) None = omega arith

last_hole-cons : (p q : Piece) (ps : List Piece) (b : Option (List ℕ)) → last_hole (p ∷ index_after (q ∷ ps) b) ≡ last_hole (index_after (q ∷ ps) b)
last_hole-cons p (Bytes bytes) [] (Some b) = refl
last_hole-cons p (Bytes bytes) [] None = refl
last_hole-cons p (Hole n) [] (Some b) = refl
last_hole-cons p (Hole n) [] None = refl
last_hole-cons p q (r ∷ ps) b = refl

pub last_hole-index_after : (ps : List Piece) (b : Option (List ℕ)) → last_hole (index_after ps b) ≤ last_hole ps + 1
last_hole-index_after [] None = omega arith
last_hole-index_after [] (Some b) = omega arith
last_hole-index_after (p ∷ []) b = last_hole-after p b
last_hole-index_after (p ∷ q ∷ ps) b = omega (arith, last_hole-cons p q ps b, last_hole-index_after (q ∷ ps) b)

pub length-window : (p : Path) (i n : ℕ) (m : List CellValue) → length (window p i n m) ≡ n
unfolding window
length-window p i zero m = refl
length-window p i (suc n) m = ap suc (length-window p (i + 1) n m)

pub window_none : (p : Path) (i n : ℕ) → window p i n [] ≡ replicate n None
unfolding window
window_none p i zero = refl
window_none p i (suc n) = ap (λ (x : List (Option (List ℕ))). None ∷ x) (window_none p (i + 1) n)

window-cons : (p : Path) (i n : ℕ) (v : CellValue) (m : List CellValue) → window p i n (v ∷ m) ≡ with_value p i v (window p i n m)
unfolding window
window-cons p i zero v m = refl
window-cons p i (suc n) v m =
    ap (λ rest. (if same_cell v.cell (index_cell p i) then Some v.bytes else value_at m (index_cell p i)) ∷ rest) (window-cons p (i + 1) n v m)

-- bytes by index where those of one are set, index by index
abbrev with_option : Option ℕ → ℕ → Option (List ℕ) → List (Option (List ℕ)) → List (Option (List ℕ))
with_option o i b [] = []
with_option o i b (x ∷ bytes) = (if option_eq nat_eq o (Some i) then b else x) ∷ with_option o (i + 1) b bytes

same_cell-index : (v : CellValue) (p : Path) (i : ℕ) → same_cell v.cell (index_cell p i) ≡ option_eq nat_eq (index_in p v) (Some i)
unfolding same_cell
same_cell-index v p i =
    elim (same_path v.cell.path p) as (λ b. (b && option_eq nat_eq v.cell.index (Some i)) ≡ option_eq nat_eq (if b then v.cell.index else None) (Some i)) [ true ↦ refl | false ↦ refl ]

with_value-option : (p : Path) (i : ℕ) (v : CellValue) (bytes : List (Option (List ℕ))) → with_value p i v bytes ≡ with_option (index_in p v) i (Some v.bytes) bytes
with_value-option p i v [] = refl
with_value-option p i v (x ∷ bytes) =
    ap (λ b. (if b then Some v.bytes else x) ∷ with_value p (i + 1) v bytes) (same_cell-index v p i)
    ∙ ap (λ rest. (if option_eq nat_eq (index_in p v) (Some i) then Some v.bytes else x) ∷ rest) (with_value-option p (i + 1) v bytes)

with_option-none : (i : ℕ) (b : Option (List ℕ)) (bytes : List (Option (List ℕ))) → with_option None i b bytes ≡ bytes
with_option-none i b [] = refl
with_option-none i b (x ∷ bytes) = ap (λ rest. x ∷ rest) (with_option-none (i + 1) b bytes)

with_option-past : (j i : ℕ) (b : Option (List ℕ)) (bytes : List (Option (List ℕ))) → j < i → with_option (Some j) i b bytes ≡ bytes
with_option-past j i b [] past = refl
with_option-past j i b (x ∷ bytes) past =
    let other : nat_eq j i ≡ false = grind (arith, nat_tests) in
    ap (λ t. (if t then b else x) ∷ with_option (Some j) (i + 1) b bytes) other ∙ ap (λ rest. x ∷ rest) (with_option-past j (i + 1) b bytes (omega arith))

with_option-set : (j i d : ℕ) (b : Option (List ℕ)) (bytes : List (Option (List ℕ))) → j ≡ i + d → with_option (Some j) i b bytes ≡ set bytes d b
with_option-set j i d b [] at = refl
with_option-set j i zero b (x ∷ bytes) at =
    let this : nat_eq j i ≡ true = grind (arith, nat_tests) in
    ap (λ t. (if t then b else x) ∷ with_option (Some j) (i + 1) b bytes) this ∙ ap (λ rest. b ∷ rest) (with_option-past j (i + 1) b bytes (omega arith))
with_option-set j i (suc d) b (x ∷ bytes) at =
    let other : nat_eq j i ≡ false = grind (arith, nat_tests) in
    ap (λ t. (if t then b else x) ∷ with_option (Some j) (i + 1) b bytes) other ∙ ap (λ rest. x ∷ rest) (with_option-set j (i + 1) d b bytes (omega arith))

with_option-index : (o : Option ℕ) (i : ℕ) (b : List ℕ) (bytes : List (Option (List ℕ))) → with_option o i (Some b) bytes ≡ with_index o i b bytes
with_option-index None i b bytes = with_option-none i (Some b) bytes
with_option-index (Some j) i b bytes =
    elim (leb_tells i j) [
      | inl (up, le) ↦ with_option-set j i (j - i) (Some b) bytes (omega arith) ∙ ap (λ t. if t then set bytes (j - i) (Some b) else bytes) (sym up)
      | inr (down, lt) ↦ with_option-past j i (Some b) bytes lt ∙ ap (λ t. if t then set bytes (j - i) (Some b) else bytes) (sym down)
    ]

-- a value more
pub window_more : (p : Path) (i n : ℕ) (m : List CellValue) (k : ℕ) (v : CellValue) → k < length m → v ≡ get_or m k v → window p i n (reverse (take (k + 1) m)) ≡ with_index (index_in p v) i v.bytes (window p i n (reverse (take k m)))
window_more p i n m k v lt is =
    ap (window p i n) (newest_more m k v lt is)
    ∙ window-cons p i n v (reverse (take k m))
    ∙ with_value-option p i v (window p i n (reverse (take k m)))
    ∙ with_option-index (index_in p v) i v.bytes (window p i n (reverse (take k m)))

-- nothing lent
pub lent_none : (n : ℕ) → lent (replicate n None) ≡ replicate n None
lent_none zero = refl
lent_none (suc n) = ap (λ (x : List (Option (List ℕ))). None ∷ x) (lent_none n)

-- one lent more
pub lent_more : (held : List (Option (Bor (List ℕ)))) (i : ℕ) (o : Option (Bor (List ℕ))) → i < length held → o ≡ get_or held i o → lent (take (i + 1) held) ≡ lent (take i held) ++ option_copied o ∷ []
lent_more held i o lt is =
    ap lent (take_more held i o lt) ∙ map-append option_copied (take i held) (get_or held i o ∷ []) ∙ ap (λ x. lent (take i held) ++ option_copied x ∷ []) (sym is)

pub length-lent : (held : List (Option (Bor (List ℕ)))) → length (lent held) ≡ length held
length-lent [] = refl
length-lent (o ∷ held) = ap suc (length-lent held)
