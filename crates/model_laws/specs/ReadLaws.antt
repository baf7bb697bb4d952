-- A read's answer depends on the cells under its path alone.
use Rattle.std.specs.Prelude.{ℕ, zero, suc, ◌+◌, ◌≡◌, ◌⊎◌, Bool, true, false, ◌||◌, List, [], ◌∷◌, Option, Some, None, if◌then◌else◌, refl}
use Rattle.std.proofs.Common.{sym, ◌∙◌, ap, subst, inl, inr}
use Rattle.base_types.specs.declared.operation.Read.{Read}
use Rattle.base_types.specs.declared.operation.Read.TheVariants as read
use Rattle.base_types.specs.declared.path.Path.{Path}
use Rattle.base_types.specs.declared.answer.Answer.TheVariants.{Names, Parts}
use Rattle.base_types.specs.Operations.{read_path}
use Rattle.base_types.specs.PathLaws.{leads_to-refl}
use Rattle.base_types.specs.Paths.{leads_to, record_size}
use Rattle.daos_model.specs.declared.cell.Cell.{Cell}
use Rattle.daos_model.specs.declared.cell.CellValue.{CellValue}
use Rattle.daos_model.specs.Answers.{akey_under, akeys_below, answer, dkey_under, dkeys_below, has_cell_below, in_byte_order, index_before, option_before, pieces, record_at, record_of, value_answer, yes_or_no}
use Rattle.daos_model.specs.BoolLaws.{clash}
use Rattle.daos_model.specs.Cells.{index_cell, same_cell, single_cell, value_at}
use Rattle.daos_model.specs.Finals.{SameMap}
use Rattle.daos_model.specs.Sameness.{same_cell-Decides}
use Rattle.model_laws.specs.Members.{Has}
use Rattle.model_laws.specs.NameLaws.{names-same}

-- two maps hold the same at every cell under a path
abbrev pub SameUnder : Path → List CellValue → List CellValue → Type 0
SameUnder p m n = (c : Cell) → leads_to p c.path ≡ true → value_at m c ≡ value_at n c

-- maps that hold the same at every cell under a read's path answer it alike
abbrev pub AnswerIsOfItsPath : Type 0
AnswerIsOfItsPath = (r : Read) (m n : List CellValue) → SameUnder (read_path r) m n → answer r m ≡ answer r n

-- maps that hold the same at every cell answer every read alike
abbrev pub SameMapsAnswerAlike : Type 0
SameMapsAnswerAlike = (r : Read) (m n : List CellValue) → SameMap m n → answer r m ≡ answer r n

-- ---- cells that a map holds

-- a map holds something at a cell
pub record Held (m : List CellValue) (c : Cell) : Type 0 where
  pub bytes : List ℕ
  pub is : value_at m c ≡ Some bytes

pub held-first : (v : CellValue) (m : List CellValue) → Held (v ∷ m) v.cell
held-first v m = record {
  bytes = v.bytes;
  is = ap (λ b. if b then Some v.bytes else value_at m v.cell) ((same_cell-Decides v.cell v.cell).1 refl);
}

pub held-more : (v : CellValue) (m : List CellValue) (c : Cell) → Held m c → Held (v ∷ m) c
held-more v m c h = by (same_cell v.cell c) refl
  where
    by : (b : Bool) → same_cell v.cell c ≡ b → Held (v ∷ m) c
    by true e = record { bytes = v.bytes; is = ap (λ x. if x then Some v.bytes else value_at m c) e }
    by false e = record { bytes = h.bytes; is = ap (λ x. if x then Some v.bytes else value_at m c) e ∙ h.is }

pub held-cases : (v : CellValue) (m : List CellValue) (c : Cell) → Held (v ∷ m) c → (v.cell ≡ c) ⊎ Held m c
held-cases v m c h = by (same_cell v.cell c) refl
  where
    by : (b : Bool) → same_cell v.cell c ≡ b → (v.cell ≡ c) ⊎ Held m c
    by true e = inl ((same_cell-Decides v.cell c).0 e)
    by false e = inr (record { bytes = h.bytes; is = sym (ap (λ x. if x then Some v.bytes else value_at m c) e) ∙ h.is })

-- where two maps hold the same, both hold something or neither does
pub held-same : (m n : List CellValue) (c : Cell) → value_at m c ≡ value_at n c → Held m c → Held n c
held-same m n c e h = record { bytes = h.bytes; is = sym e ∙ h.is }

-- ---- whether there is a cell under a path

pub under-has : (p : Path) (m : List CellValue) → has_cell_below p m ≡ true → (c : Cell) × (leads_to p c.path ≡ true) × Held m c
unfolding has_cell_below
under-has p [] e = absurd (let n : ⊥ = cc in n)
under-has p (v ∷ m) e = by (under-has p m) (leads_to p v.cell.path) refl e
  where
    by : (has_cell_below p m ≡ true → (c : Cell) × (leads_to p c.path ≡ true) × Held m c) → (b : Bool) → leads_to p v.cell.path ≡ b → (b || has_cell_below p m) ≡ true → (c : Cell) × (leads_to p c.path ≡ true) × Held (v ∷ m) c
    by rest true at e = (v.cell, at, held-first v m)
    by rest false at e = let h = rest e in (h.0, h.1, held-more v m h.0 h.2)

pub has-under : (p : Path) (m : List CellValue) (c : Cell) → leads_to p c.path ≡ true → Held m c → has_cell_below p m ≡ true
unfolding has_cell_below
has-under p [] c at h = absurd (let e = h.is in let n : ⊥ = cc in n)
has-under p (v ∷ m) c at h = by (has-under p m c at) (held-cases v m c h)
  where
    or_true : (a b : Bool) → b ≡ true → (a || b) ≡ true
    or_true true b e = refl
    or_true false b e = e

    by : (Held m c → has_cell_below p m ≡ true) → (v.cell ≡ c) ⊎ Held m c → (leads_to p v.cell.path || has_cell_below p m) ≡ true
    by rest (inl same) = ap (λ b. b || has_cell_below p m) (ap (λ d. leads_to p d.path) same ∙ at)
    by rest (inr i) = or_true (leads_to p v.cell.path) (has_cell_below p m) (rest i)

below-same : (p : Path) (m n : List CellValue) → SameUnder p m n → has_cell_below p m ≡ has_cell_below p n
below-same p m n same = by (has_cell_below p m) (has_cell_below p n) refl refl
  where
    by : (a b : Bool) → has_cell_below p m ≡ a → has_cell_below p n ≡ b → a ≡ b
    by true true e f = refl
    by false false e f = refl
    by true false e f = let h = under-has p m e in clash (has_cell_below p n) (has-under p n h.0 h.1 (held-same m n h.0 (same h.0 h.1) h.2)) f
    by false true e f = let h = under-has p n f in clash (has_cell_below p m) (has-under p m h.0 h.1 (held-same n m h.0 (sym (same h.0 h.1)) h.2)) e

-- ---- names below a path

-- the name that a cell has, where it stands under a path
abbrev name_if : (Path → Option (List ℕ)) → Path → Cell → Option (List ℕ)
name_if name p c = if leads_to p c.path then name c.path else None

-- the names of the cells under a path, one a cell
abbrev names_below : (Path → Option (List ℕ)) → Path → List CellValue → List (List ℕ)
names_below name p [] = []
names_below name p (v ∷ m) = option_before (name_if name p v.cell) (names_below name p m)

-- a name is that of a cell under the path
pub record Named (name : Path → Option (List ℕ)) (p : Path) (m : List CellValue) (k : List ℕ) : Type 0 where
  pub cell : Cell
  pub under : leads_to p cell.path ≡ true
  pub is : name cell.path ≡ Some k
  pub held : Held m cell

named-more : (name : Path → Option (List ℕ)) (p : Path) (v : CellValue) (m : List CellValue) (k : List ℕ) → Named name p m k → Named name p (v ∷ m) k
named-more name p v m k h = record { cell = h.cell; under = h.under; is = h.is; held = held-more v m h.cell h.held }

has-named : (name : Path → Option (List ℕ)) (p : Path) (m : List CellValue) (k : List ℕ) → Has k (names_below name p m) → Named name p m k
has-named name p [] k h = absurd h
has-named name p (v ∷ m) k h = by (λ i. named-more name p v m k (has-named name p m k i)) (leads_to p v.cell.path) (name v.cell.path) refl refl h
  where
    by : (Has k (names_below name p m) → Named name p (v ∷ m) k) → (b : Bool) (o : Option (List ℕ)) → leads_to p v.cell.path ≡ b → name v.cell.path ≡ o → Has k (option_before (if b then o else None) (names_below name p m)) → Named name p (v ∷ m) k
    by rest false o e f h = rest h
    by rest true None e f h = rest h
    by rest true (Some j) e f (inl same) = record { cell = v.cell; under = e; is = f ∙ ap (λ x. Some x) (sym same); held = held-first v m }
    by rest true (Some j) e f (inr i) = rest i

has-option : (o : Option (List ℕ)) (ks : List (List ℕ)) (k : List ℕ) → Has k ks → Has k (option_before o ks)
has-option None ks k h = h
has-option (Some j) ks k h = inr h

named-has : (name : Path → Option (List ℕ)) (p : Path) (m : List CellValue) (k : List ℕ) (c : Cell) → leads_to p c.path ≡ true → name c.path ≡ Some k → Held m c → Has k (names_below name p m)
named-has name p [] k c at is h = absurd (let e = h.is in let n : ⊥ = cc in n)
named-has name p (v ∷ m) k c at is h = by (named-has name p m k c at is) (held-cases v m c h)
  where
    here : name_if name p c ≡ Some k
    here = ap (λ b. if b then name c.path else None) at ∙ is

    by : (Held m c → Has k (names_below name p m)) → (v.cell ≡ c) ⊎ Held m c → Has k (option_before (name_if name p v.cell) (names_below name p m))
    by rest (inl same) = subst (λ o. Has k (option_before o (names_below name p m))) (sym (ap (name_if name p) same ∙ here)) (inl refl)
    by rest (inr i) = has-option (name_if name p v.cell) (names_below name p m) k (rest i)

names_below-kept : (name : Path → Option (List ℕ)) (p : Path) (m n : List CellValue) → SameUnder p m n → (k : List ℕ) → Has k (names_below name p m) → Has k (names_below name p n)
names_below-kept name p m n same k h =
    let is = has-named name p m k h in
    named-has name p n k is.cell is.under is.is (held-same m n is.cell (same is.cell is.under) is.held)

names_below-same : (name : Path → Option (List ℕ)) (p : Path) (m n : List CellValue) → SameUnder p m n → in_byte_order (names_below name p m) ≡ in_byte_order (names_below name p n)
names_below-same name p m n same =
    names-same (names_below name p m) (names_below name p n) (names_below-kept name p m n same) (names_below-kept name p n m (λ c at. sym (same c at)))

abbrev pub dkey_name : Path → Option (List ℕ)
dkey_name p = p.dkey

abbrev pub akey_name : Path → Option (List ℕ)
akey_name p = p.akey

dkeys-names : (p : Path) (m : List CellValue) → dkeys_below p m ≡ names_below dkey_name p m
unfolding dkeys_below
dkeys-names p [] = refl
dkeys-names p (v ∷ m) = ap (option_before (dkey_under p v)) (dkeys-names p m)

akeys-names : (p : Path) (m : List CellValue) → akeys_below p m ≡ names_below akey_name p m
unfolding akeys_below
akeys-names p [] = refl
akeys-names p (v ∷ m) = ap (option_before (akey_under p v)) (akeys-names p m)

-- a dkey is among those of a path exactly where a cell under the path has it
pub has-dkeys : (p : Path) (m : List CellValue) (k : List ℕ) → Has k (dkeys_below p m) → Named dkey_name p m k
has-dkeys p m k h = has-named dkey_name p m k (subst (Has k) (dkeys-names p m) h)

pub dkeys-has : (p : Path) (m : List CellValue) (k : List ℕ) (c : Cell) → leads_to p c.path ≡ true → c.path.dkey ≡ Some k → Held m c → Has k (dkeys_below p m)
dkeys-has p m k c at is h = subst (Has k) (sym (dkeys-names p m)) (named-has dkey_name p m k c at is h)

-- ---- pieces

pieces-same : (p : Path) (i n : ℕ) (m m' : List CellValue) → SameUnder p m m' → pieces p i n m ≡ pieces p i n m'
unfolding pieces
pieces-same p i zero m m' same = refl
pieces-same p i (suc n) m m' same =
    ap (λ o. index_before (record_of (record_size p) o) (pieces p (i + 1) n m)) (same (index_cell p i) (leads_to-refl p))
    ∙ ap (index_before (record_at p i m')) (pieces-same p (i + 1) n m m' same)

-- ---- the laws

pub answer-same : AnswerIsOfItsPath
answer-same (read.Single p) m n same = ap value_answer (same (single_cell p) (leads_to-refl p))
answer-same (read.Extent p low len) m n same = ap (λ ps. Parts ps) (pieces-same p low len m n same)
answer-same (read.Dkeys p) m n same =
    ap (λ ks. Names (in_byte_order ks)) (dkeys-names p m)
    ∙ ap (λ ks. Names ks) (names_below-same dkey_name p m n same)
    ∙ ap (λ ks. Names (in_byte_order ks)) (sym (dkeys-names p n))
answer-same (read.Akeys p) m n same =
    ap (λ ks. Names (in_byte_order ks)) (akeys-names p m)
    ∙ ap (λ ks. Names ks) (names_below-same akey_name p m n same)
    ∙ ap (λ ks. Names (in_byte_order ks)) (sym (akeys-names p n))
answer-same (read.Exists p) m n same = ap yes_or_no (below-same p m n same)

pub answer-same_map : SameMapsAnswerAlike
answer-same_map r m n same = answer-same r m n (λ c at. same c)
