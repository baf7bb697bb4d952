-- What a cell holds below an epoch is what the newest version that says it leaves there.
use Rattle.std.proofs.Common.{◌≡◌, ℕ, Bool, true, false, ◌&&◌, ◌||◌, List, [], ◌∷◌, Option, Some, None, reverse, refl, sym, ◌∙◌, ap}
use Rattle.std.specs.Prelude.{IfSome, find, is_some, if◌then◌else◌}
use Rattle.std.specs.Option.{option_or}
use Rattle.std.proofs.lemmas.List.{reverse-append}
use Rattle.std.proofs.lemmas.List.Folds.{find-append}
use Rattle.base_types.specs.declared.operation.Read.TheVariants as read
use Rattle.base_types.specs.declared.operation.Write.{Write}
use Rattle.base_types.specs.declared.operation.Write.TheVariants.{Single, Extent, PunchObject, PunchDkey, PunchAkey}
use Rattle.base_types.specs.declared.path.Path.{Path}
use Rattle.base_types.specs.Operations.{write_path}
use Rattle.base_types.specs.Paths.{leads_to, same_path}
use Rattle.daos_model.specs.declared.cell.Cell.{Cell}
use Rattle.daos_model.specs.declared.durable.Version.{Version}
use Rattle.daos_model.specs.Answers.{answer, value_answer}
use Rattle.daos_model.specs.Cells.{same_cell, single_cell, value_at}
use Rattle.daos_model.specs.Prunes.{is_punch, touches, values_of}
use Rattle.daos_model.specs.Versions.{map_below, sees}
use Rattle.daos_model.proofs.Said.{Word, or_before, or_else, said, some_bytes, value_at-map_below, word, word-none, word-punch, word-some}
use Rattle.daos_model.proofs.Sights.{any-extent_cells}
use Rattle.vos_scan.specs.Newest.{left_by, says_at, single_in, single_of}

-- what is found passes the test
pub found-passes : {T : Type 0} (t : T → Bool) (xs : List T) → IfSome (find t xs) (λ x. t x ≡ true)
found-passes t [] = tt
found-passes t (x ∷ xs) = by (t x) refl (found-passes t xs)
  where
    by : (b : Bool) → t x ≡ b → IfSome (find t xs) (λ y. t y ≡ true) → IfSome (if b then Some x else find t xs) (λ y. t y ≡ true)
    by true is rest = is
    by false is rest = rest

word-set : (c : Cell) (w : Write) → is_punch w ≡ false → word c w ≡ some_bytes (value_at (values_of w) c)
unfolding word
word-set c w k = ap (λ (b : Bool). if b then (if leads_to (write_path w) c.path then Some None else None) else some_bytes (value_at (values_of w) c)) k

-- a write that says what a cell holds says what it leaves there
word-touched : (c : Cell) (w : Write) → touches c w ≡ true → word c w ≡ Some (value_at (values_of w) c)
word-touched c w t = by (is_punch w) refl
  where
    lone : (o : Option (List ℕ)) → is_some (some_bytes o) ≡ true → some_bytes o ≡ Some o
    lone None h = absurd (let n : ⊥ = cc in n)
    lone (Some b) h = refl

    none_set : (v : Write) → is_punch v ≡ true → value_at (values_of v) c ≡ None
    none_set (Single q b) h = absurd (let n : ⊥ = cc in n)
    none_set (Extent q low b) h = absurd (let n : ⊥ = cc in n)
    none_set (PunchObject q) h = refl
    none_set (PunchDkey q) h = refl
    none_set (PunchAkey q) h = refl

    by : (b : Bool) → is_punch w ≡ b → word c w ≡ Some (value_at (values_of w) c)
    by true k = word-punch c w k ∙ ap (λ (b : Bool). if b then Some None else None) t ∙ ap (λ o. Some o) (sym (none_set w k))
    by false k = word-set c w k ∙ lone (value_at (values_of w) c) (ap is_some (sym (word-set c w k)) ∙ word-some c w k t)

-- a write that says nothing of a cell
word-untouched : (c : Cell) (w : Write) → touches c w ≡ false → word c w ≡ None
word-untouched c w t = by (is_punch w) refl
  where
    by : (k : Bool) → is_punch w ≡ k → word c w ≡ None
    by true k = word-punch c w k ∙ ap (λ (b : Bool). if b then Some None else None) t
    by false k = word-none c w k t

abbrev word_of : Cell → Option Version → Word
word_of c None = None
word_of c (Some v) = Some (value_at (values_of v.write) c)

word_of-or : (c : Cell) (a b : Option Version) → word_of c (option_or a b) ≡ or_else (word_of c a) (word_of c b)
word_of-or c None b = refl
word_of-or c (Some v) b = refl

or_else-none : (w : Word) → w ≡ or_else w None
or_else-none None = refl
or_else-none (Some x) = refl

-- what one version says
said_by_one : (c : Cell) (e : ℕ) (v : Version) (w : Word) → (if sees e v then or_else w (word c v.write) else w) ≡ or_else w (word_of c (find (says_at c e) (v ∷ [])))
said_by_one c e v w = by (sees e v) (touches c v.write) refl
  where
    by : (s t : Bool) → touches c v.write ≡ t → (if s then or_else w (word c v.write) else w) ≡ or_else w (word_of c (if s && t then Some v else None))
    by true true is = ap (or_else w) (word-touched c v.write is)
    by true false is = ap (or_else w) (word-untouched c v.write is)
    by false t is = or_else-none w

said-newest : (c : Cell) (e : ℕ) (vs : List Version) → said (sees e) c vs ≡ word_of c (find (says_at c e) (reverse vs))
said-newest c e [] = refl
said-newest c e (v ∷ vs) =
    said_by_one c e v (said (sees e) c vs)
    ∙ ap (λ w. or_else w (word_of c (find (says_at c e) (v ∷ [])))) (said-newest c e vs)
    ∙ sym (word_of-or c (find (says_at c e) (reverse vs)) (find (says_at c e) (v ∷ [])))
    ∙ ap (word_of c) (sym (find-append (says_at c e) (reverse vs) (v ∷ [])))
    ∙ ap (λ xs. word_of c (find (says_at c e) xs)) (sym (reverse-append (v ∷ []) vs))

-- what a cell holds on the map below an epoch
pub value_at-newest : (c : Cell) (e : ℕ) (vs : List Version) → value_at (map_below vs e) c ≡ left_by c (find (says_at c e) (reverse vs))
value_at-newest c e vs = value_at-map_below vs e c ∙ ap (λ w. or_before w None) (said-newest c e vs) ∙ left (find (says_at c e) (reverse vs))
  where
    left : (o : Option Version) → or_before (word_of c o) None ≡ left_by c o
    left None = refl
    left (Some v) = refl

-- ---- of a single value

-- what a write that says what a single value holds leaves there
single-left : (p : Path) (w : Write) → touches (single_cell p) w ≡ true → value_at (values_of w) (single_cell p) ≡ single_in w
unfolding touches
single-left p (Single q b) t = by (same_cell (single_cell q) (single_cell p)) t
  where
    by : (s : Bool) → (s || false) ≡ true → (if s then Some b else None) ≡ Some b
    by true e = refl
    by false e = absurd (let n : ⊥ = cc in n)
single-left p (Extent q low b) t = absurd (no_index (same_path q p) (sym (any-extent_cells (single_cell p) q low b) ∙ t))
  where
    no_index : (s : Bool) → (s && false) ≡ true → ⊥
    no_index true e = let n : ⊥ = cc in n
    no_index false e = let n : ⊥ = cc in n
single-left p (PunchObject q) t = refl
single-left p (PunchDkey q) t = refl
single-left p (PunchAkey q) t = refl

single_of-left : (p : Path) (e : ℕ) (o : Option Version) → IfSome o (λ v. says_at (single_cell p) e v ≡ true) → left_by (single_cell p) o ≡ single_of o
single_of-left p e None h = refl
single_of-left p e (Some v) h = single-left p v.write (both (sees e v) (touches (single_cell p) v.write) h)
  where
    both : (a b : Bool) → (a && b) ≡ true → b ≡ true
    both true b h = h
    both false b h = absurd (let n : ⊥ = cc in n)

-- the answer of a read of a single value on the map below an epoch
pub answer-newest : (p : Path) (e : ℕ) (vs : List Version) → answer (read.Single p) (map_below vs e) ≡ value_answer (single_of (find (says_at (single_cell p) e) (reverse vs)))
answer-newest p e vs =
    ap value_answer
    (value_at-newest (single_cell p) e vs
    ∙ single_of-left p e (find (says_at (single_cell p) e) (reverse vs)) (found-passes (says_at (single_cell p) e) (reverse vs)))
