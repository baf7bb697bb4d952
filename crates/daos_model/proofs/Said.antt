-- What a list of versions says of a cell: the last that touches it says it.
use Rattle.std.proofs.Common.{◌≡◌, ℕ, Bool, true, false, ◌||◌, List, [], ◌∷◌, ◌++◌, Option, Some, None, refl, sym, ◌∙◌, ap}
use Rattle.std.specs.Prelude.{filter, is_some, if◌then◌else◌}
use Rattle.std.specs.List.{list_any}
use Rattle.base_types.specs.declared.operation.Write.{Write}
use Rattle.base_types.specs.declared.operation.Write.TheVariants.{Single, Extent, PunchObject, PunchDkey, PunchAkey}
use Rattle.base_types.specs.declared.path.Path.{Path}
use Rattle.base_types.specs.Operations.{write_path}
use Rattle.base_types.specs.Paths.{leads_to}
use Rattle.daos_model.specs.declared.cell.Cell.{Cell}
use Rattle.daos_model.specs.declared.cell.CellValue.{CellValue}
use Rattle.daos_model.specs.declared.durable.Version.{Version}
use Rattle.daos_model.specs.Cells.{is_of, same_cell, value_at}
use Rattle.daos_model.specs.Effect.{effect, effects, without}
use Rattle.daos_model.specs.Prunes.{is_punch, touches, values_of}
use Rattle.daos_model.specs.Sameness.{same_cell-Decides}
use Rattle.daos_model.specs.Versions.{map_below, sees, writes_in}

abbrev pub Word : Type 0
Word = Option (Option (List ℕ))

abbrev pub or_else : Word → Word → Word
or_else None y = y
or_else (Some x) y = Some x

abbrev pub or_before : Word → Option (List ℕ) → Option (List ℕ)
or_before None y = y
or_before (Some x) y = x

abbrev pub some_bytes : Option (List ℕ) → Word
some_bytes None = None
some_bytes (Some b) = Some (Some b)

-- what a write says of a cell: nothing, or its bytes, or that it has none
unfoldable pub word : Cell → Write → Word
word c w = if is_punch w then (if leads_to (write_path w) c.path then Some None else None) else some_bytes (value_at (values_of w) c)

-- what the versions that pass a test say of a cell
abbrev pub said : (Version → Bool) → Cell → List Version → Word
said t c [] = None
said t c (v ∷ vs) = if t v then or_else (said t c vs) (word c v.write) else said t c vs

value_at-append : (xs m : List CellValue) (c : Cell) → value_at (xs ++ m) c ≡ or_before (some_bytes (value_at xs c)) (value_at m c)
value_at-append [] m c = refl
value_at-append (x ∷ xs) m c =
    elim (same_cell x.cell c) as (λ b. (if b then Some x.bytes else value_at (xs ++ m) c) ≡ or_before (some_bytes (if b then Some x.bytes else value_at xs c)) (value_at m c)) [
      | true ↦ refl
      | false ↦ value_at-append xs m c
    ]

value_at-without : (p : Path) (c : Cell) (m : List CellValue) → value_at (without p m) c ≡ or_before (if leads_to p c.path then Some None else None) (value_at m c)
value_at-without p c [] = elim (leads_to p c.path) as (λ (b : Bool). ◌≡◌ {A = Option (List ℕ)} None (or_before (if b then Some None else None) None)) [ true ↦ refl | false ↦ refl ]
value_at-without p c (x ∷ m) = by (leads_to p x.cell.path) (same_cell x.cell c) (leads_to p c.path) refl refl refl (value_at-without p c m)
  where
    by : (l s k : Bool) → leads_to p x.cell.path ≡ l → same_cell x.cell c ≡ s → leads_to p c.path ≡ k → value_at (without p m) c ≡ or_before (if k then Some None else None) (value_at m c)
        → value_at (if l then without p m else x ∷ without p m) c ≡ or_before (if k then Some None else None) (if s then Some x.bytes else value_at m c)
    by true true true a b e h = h
    by true true false a b e h = absurd (let same : x.cell ≡ c = (same_cell-Decides x.cell c).0 b in let n : true ≡ false = sym a ∙ ap (λ (z : Cell). leads_to p z.path) same ∙ e in let k : ⊥ = cc in k)
    by true false k a b e h = h
    by false true true a b e h = absurd (let same : x.cell ≡ c = (same_cell-Decides x.cell c).0 b in let n : false ≡ true = sym a ∙ ap (λ (z : Cell). leads_to p z.path) same ∙ e in let k : ⊥ = cc in k)
    by false true false a b e h = ap (λ (z : Bool). if z then Some x.bytes else value_at (without p m) c) b
    by false false k a b e h = ap (λ (z : Bool). if z then Some x.bytes else value_at (without p m) c) b ∙ h

value_at-effect : (w : Write) (c : Cell) (m : List CellValue) → value_at (effect w m) c ≡ or_before (word c w) (value_at m c)
unfolding word
value_at-effect (Single p b) c m = value_at-append (values_of (Single p b)) m c
value_at-effect (Extent p low b) c m = value_at-append (values_of (Extent p low b)) m c
value_at-effect (PunchObject p) c m = value_at-without p c m
value_at-effect (PunchDkey p) c m = value_at-without p c m
value_at-effect (PunchAkey p) c m = value_at-without p c m

chained : (s w : Word) (a : Option (List ℕ)) → or_before s (or_before w a) ≡ or_before (or_else s w) a
chained None w a = refl
chained (Some x) w a = refl

value_at-effects : (t : Version → Bool) (c : Cell) (vs : List Version) (m : List CellValue) → value_at (effects (writes_in (filter t vs)) m) c ≡ or_before (said t c vs) (value_at m c)
value_at-effects t c [] m = refl
value_at-effects t c (v ∷ vs) m =
    elim (t v) as (λ b. value_at (effects (writes_in (if b then v ∷ filter t vs else filter t vs)) m) c ≡ or_before (if b then or_else (said t c vs) (word c v.write) else said t c vs) (value_at m c)) [
      | true ↦ value_at-effects t c vs (effect v.write m) ∙ ap (or_before (said t c vs)) (value_at-effect v.write c m) ∙ chained (said t c vs) (word c v.write) (value_at m c)
      | false ↦ value_at-effects t c vs m
    ]

-- the map below an epoch, at a cell
pub value_at-map_below : (vs : List Version) (e : ℕ) (c : Cell) → value_at (map_below vs e) c ≡ or_before (said (sees e) c vs) None
unfolding map_below
value_at-map_below vs e c = value_at-effects (sees e) c vs []

-- ---- what a word says by the kind of its write

pub word-punch : (c : Cell) (w : Write) → is_punch w ≡ true → word c w ≡ (if touches c w then Some None else None)
unfolding word touches
word-punch c w k = ap (λ (b : Bool). if b then (if leads_to (write_path w) c.path then Some None else None) else some_bytes (value_at (values_of w) c)) k
    ∙ sym (ap (λ (b : Bool). if (if b then leads_to (write_path w) c.path else list_any (is_of c) (values_of w)) then Some None else None) k)

none_said : (c : Cell) (xs : List CellValue) → list_any (is_of c) xs ≡ false → some_bytes (value_at xs c) ≡ None
none_said c [] h = refl
none_said c (x ∷ xs) h =
    elim (same_cell x.cell c) as (λ b. (b || list_any (is_of c) xs) ≡ false → some_bytes (if b then Some x.bytes else value_at xs c) ≡ None) [
      | true ↦ λ e. absurd (let n : ⊥ = cc in n)
      | false ↦ λ e. none_said c xs e
    ] h

one_said : (c : Cell) (xs : List CellValue) → list_any (is_of c) xs ≡ true → is_some (some_bytes (value_at xs c)) ≡ true
one_said c [] h = absurd (let n : ⊥ = cc in n)
one_said c (x ∷ xs) h =
    elim (same_cell x.cell c) as (λ b. (b || list_any (is_of c) xs) ≡ true → is_some (some_bytes (if b then Some x.bytes else value_at xs c)) ≡ true) [
      | true ↦ λ e. refl
      | false ↦ λ e. one_said c xs e
    ] h

pub by_update : (c : Cell) (w : Write) (t : Bool) → is_punch w ≡ false → touches c w ≡ t → list_any (is_of c) (values_of w) ≡ t
unfolding touches
by_update c w t k e = sym (ap (λ (b : Bool). if b then leads_to (write_path w) c.path else list_any (is_of c) (values_of w)) k) ∙ e

word_of-update : (c : Cell) (w : Write) → is_punch w ≡ false → word c w ≡ some_bytes (value_at (values_of w) c)
unfolding word
word_of-update c w k = ap (λ (b : Bool). if b then (if leads_to (write_path w) c.path then Some None else None) else some_bytes (value_at (values_of w) c)) k

pub word-none : (c : Cell) (w : Write) → is_punch w ≡ false → touches c w ≡ false → word c w ≡ None
word-none c w k t = word_of-update c w k ∙ none_said c (values_of w) (by_update c w false k t)

pub word-some : (c : Cell) (w : Write) → is_punch w ≡ false → touches c w ≡ true → is_some (word c w) ≡ true
word-some c w k t = ap is_some (word_of-update c w k) ∙ one_said c (values_of w) (by_update c w true k t)
