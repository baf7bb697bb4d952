-- Marks answer for the names of cells what the cells do.
use Rattle.std.proofs.Common.{◌≡◌, ℕ, suc, zero, ◌+◌, ◌*◌, ◌/◌, ◌%◌, ◌<◌, ◌≤◌, ◌^◌, Bool, true, false, ◌&&◌, ◌||◌, List, [], ◌∷◌, ◌++◌, Option, Some, None, length, drop, take, refl, sym, ◌∙◌, ap, subst, arith}
use Rattle.std.specs.Prelude.{◌==◌, nat_le, nat_lt, filter, if◌then◌else◌}
use Rattle.std.specs.List.{list_all, list_any}
use Rattle.std.proofs.lemmas.Bool.Decides.{nat_tests}
use Rattle.base_types.specs.declared.answer.Answer.TheVariants.{Names}
use Rattle.base_types.specs.declared.operation.Read.{Read}
use Rattle.base_types.specs.declared.operation.Read.TheVariants as read
use Rattle.base_types.specs.declared.operation.Write.{Write}
use Rattle.base_types.specs.declared.operation.Write.TheVariants.{Single, Extent, PunchObject, PunchDkey, PunchAkey}
use Rattle.base_types.specs.declared.path.Path.{Path}
use Rattle.base_types.specs.Operations.{read_path}
use Rattle.base_types.specs.Paths.{leads_to, record_size}
use Rattle.daos_model.specs.declared.cell.CellValue.{CellValue}
use Rattle.daos_model.specs.declared.durable.Version.{Version}
use Rattle.daos_model.specs.Answers.{akey_under, akeys_below, answer, dkey_under, dkeys_below, has_cell_below, in_byte_order, is_before, name_among, option_among, option_before, yes_or_no}
use Rattle.daos_model.specs.Durables.{is_version_in_form}
use Rattle.daos_model.specs.Effect.{cut_records, effect, effects, record_cells, without}
use Rattle.daos_model.specs.Forms.{ends_at_akey, fits_array, fits_records, is_length, is_unit, is_write_in_form}
use Rattle.daos_model.specs.OrderLaws.{before-itself}
use Rattle.daos_model.specs.Versions.{map_below, sees, writes_in}
use Rattle.daos_model.proofs.NameOrder.{dkeys_none}
use Rattle.vos_scan.specs.Marks.{asks_names, mark_at, marked, marked_under, marks_by}
use Rattle.vos_scan.specs.Names.{is_seen_punch, names_from}
use Rattle.vos_scan.proofs.Naming.{names-marked}

-- Cells and their marks under a path: each mark stands for one or more cells of its path in a row; cells that aren't
-- under the path have none.
data AreMarked (p : Path) : List CellValue → List CellValue → Type 0 where
  NoCell : AreMarked p [] []
  Outside : (v : CellValue) (m t : List CellValue) → leads_to p v.cell.path ≡ false → AreMarked p m t → AreMarked p (v ∷ m) t
  Alone : (v u : CellValue) (m t : List CellValue) → v.cell.path ≡ u.cell.path → AreMarked p m t → AreMarked p (v ∷ m) (u ∷ t)
  Again : (v u : CellValue) (m t : List CellValue) → v.cell.path ≡ u.cell.path → AreMarked p m (u ∷ t) → AreMarked p (v ∷ m) (u ∷ t)

-- ---- what is asked of them

or_twice : (a b : Bool) → (a || (a || b)) ≡ (a || b)
or_twice true b = refl
or_twice false b = refl

has-marked : (p : Path) (m t : List CellValue) → AreMarked p m t → has_cell_below p m ≡ has_cell_below p t
unfolding has_cell_below
has-marked p _ _ NoCell = refl
has-marked p _ _ (Outside v m t out k) = ap (λ b. b || has_cell_below p m) out ∙ has-marked p m t k
has-marked p _ _ (Alone v u m t same k) = ap (λ (x : Path). leads_to p x || has_cell_below p m) same ∙ ap (λ b. leads_to p u.cell.path || b) (has-marked p m t k)
has-marked p _ _ (Again v u m t same k) =
    ap (λ (x : Path). leads_to p x || has_cell_below p m) same
    ∙ ap (λ b. leads_to p u.cell.path || b) (has-marked p m (u ∷ t) k)
    ∙ or_twice (leads_to p u.cell.path) (has_cell_below p t)

-- a name that is there is there once
name-twice : (k : List ℕ) (ns : List (List ℕ)) → name_among k (name_among k ns) ≡ name_among k ns
name-twice k [] = ap (λ (b : Bool). if b then k ∷ k ∷ [] else if b then k ∷ k ∷ [] else k ∷ []) (before-itself k)
name-twice k (n ∷ ns) = by (is_before k n) (is_before n k) refl refl (name-twice k ns)
  where
    by : (a b : Bool) → is_before k n ≡ a → is_before n k ≡ b → name_among k (name_among k ns) ≡ name_among k ns
        → name_among k (if a then k ∷ n ∷ ns else if b then n ∷ name_among k ns else n ∷ ns) ≡ (if a then k ∷ n ∷ ns else if b then n ∷ name_among k ns else n ∷ ns)
    by true b e f h = ap (λ (x : Bool). if x then k ∷ k ∷ n ∷ ns else if x then k ∷ name_among k (n ∷ ns) else k ∷ n ∷ ns) (before-itself k)
    by false true e f h =
        ap (λ (x : Bool). if x then k ∷ n ∷ name_among k ns else if is_before n k then n ∷ name_among k (name_among k ns) else n ∷ name_among k ns) e
        ∙ ap (λ (x : Bool). if x then n ∷ name_among k (name_among k ns) else n ∷ name_among k ns) f
        ∙ ap (λ xs. n ∷ xs) h
    by false false e f h =
        ap (λ (x : Bool). if x then k ∷ n ∷ ns else if is_before n k then n ∷ name_among k ns else n ∷ ns) e
        ∙ ap (λ (x : Bool). if x then n ∷ name_among k ns else n ∷ ns) f

option-twice : (o : Option (List ℕ)) (ns : List (List ℕ)) → option_among o (option_among o ns) ≡ option_among o ns
option-twice None ns = refl
option-twice (Some k) ns = name-twice k ns

in_order-before : (o : Option (List ℕ)) (ks : List (List ℕ)) → in_byte_order (option_before o ks) ≡ option_among o (in_byte_order ks)
unfolding in_byte_order
in_order-before None ks = refl
in_order-before (Some k) ks = refl

dkeys-marked : (p : Path) (m t : List CellValue) → AreMarked p m t → in_byte_order (dkeys_below p m) ≡ in_byte_order (dkeys_below p t)
unfolding dkeys_below
dkeys-marked p _ _ NoCell = refl
dkeys-marked p _ _ (Outside v m t out k) = ap (λ (b : Bool). in_byte_order (option_before (if b then v.cell.path.dkey else None) (dkeys_below p m))) out ∙ dkeys-marked p m t k
dkeys-marked p _ _ (Alone v u m t same k) =
    ap (λ (x : Path). in_byte_order (option_before (if leads_to p x then x.dkey else None) (dkeys_below p m))) same
    ∙ in_order-before (dkey_under p u) (dkeys_below p m) ∙ ap (option_among (dkey_under p u)) (dkeys-marked p m t k) ∙ sym (in_order-before (dkey_under p u) (dkeys_below p t))
dkeys-marked p _ _ (Again v u m t same k) =
    ap (λ (x : Path). in_byte_order (option_before (if leads_to p x then x.dkey else None) (dkeys_below p m))) same
    ∙ in_order-before (dkey_under p u) (dkeys_below p m)
    ∙ ap (option_among (dkey_under p u)) (dkeys-marked p m (u ∷ t) k ∙ in_order-before (dkey_under p u) (dkeys_below p t))
    ∙ option-twice (dkey_under p u) (in_byte_order (dkeys_below p t))
    ∙ sym (in_order-before (dkey_under p u) (dkeys_below p t))

akeys-marked : (p : Path) (m t : List CellValue) → AreMarked p m t → in_byte_order (akeys_below p m) ≡ in_byte_order (akeys_below p t)
unfolding akeys_below
akeys-marked p _ _ NoCell = refl
akeys-marked p _ _ (Outside v m t out k) = ap (λ (b : Bool). in_byte_order (option_before (if b then v.cell.path.akey else None) (akeys_below p m))) out ∙ akeys-marked p m t k
akeys-marked p _ _ (Alone v u m t same k) =
    ap (λ (x : Path). in_byte_order (option_before (if leads_to p x then x.akey else None) (akeys_below p m))) same
    ∙ in_order-before (akey_under p u) (akeys_below p m) ∙ ap (option_among (akey_under p u)) (akeys-marked p m t k) ∙ sym (in_order-before (akey_under p u) (akeys_below p t))
akeys-marked p _ _ (Again v u m t same k) =
    ap (λ (x : Path). in_byte_order (option_before (if leads_to p x then x.akey else None) (akeys_below p m))) same
    ∙ in_order-before (akey_under p u) (akeys_below p m)
    ∙ ap (option_among (akey_under p u)) (akeys-marked p m (u ∷ t) k ∙ in_order-before (akey_under p u) (akeys_below p t))
    ∙ option-twice (akey_under p u) (in_byte_order (akeys_below p t))
    ∙ sym (in_order-before (akey_under p u) (akeys_below p t))

-- ---- what writes make of them

-- a punch
marked-without : (p q : Path) (m t : List CellValue) → AreMarked p m t → AreMarked p (without q m) (without q t)
marked-without p q _ _ NoCell = NoCell
marked-without p q _ _ (Outside v m t out k) = by (leads_to q v.cell.path) (marked-without p q m t k)
  where
    by : (b : Bool) → AreMarked p (without q m) (without q t) → AreMarked p (if b then without q m else v ∷ without q m) (without q t)
    by true rest = rest
    by false rest = Outside v (without q m) (without q t) out rest
marked-without p q _ _ (Alone v u m t same k) =
    subst (λ (x : Path). AreMarked p (if leads_to q x then without q m else v ∷ without q m) (without q (u ∷ t))) (sym same) (by (leads_to q u.cell.path) (marked-without p q m t k))
  where
    by : (b : Bool) → AreMarked p (without q m) (without q t) → AreMarked p (if b then without q m else v ∷ without q m) (if b then without q t else u ∷ without q t)
    by true rest = rest
    by false rest = Alone v u (without q m) (without q t) same rest
marked-without p q _ _ (Again v u m t same k) =
    subst (λ (x : Path). AreMarked p (if leads_to q x then without q m else v ∷ without q m) (without q (u ∷ t))) (sym same) (by (leads_to q u.cell.path) (marked-without p q m (u ∷ t) k))
  where
    by : (b : Bool) → AreMarked p (without q m) (if b then without q t else u ∷ without q t) → AreMarked p (if b then without q m else v ∷ without q m) (if b then without q t else u ∷ without q t)
    by true rest = rest
    by false rest = Again v u (without q m) (without q t) same rest

-- records of an array under the path, after one that has a mark
marked-again : (p q : Path) (i : ℕ) (rs : List (List ℕ)) (m t : List CellValue) → AreMarked p m t → (r : List ℕ) → AreMarked p (record_cells q i (r ∷ rs) ++ m) (mark_at q ∷ t)
marked-again p q i [] m t k r = Alone (record { cell = record { path = q; index = Some i }; bytes = r }) (mark_at q) m t refl k
marked-again p q i (s ∷ rs) m t k r = Again (record { cell = record { path = q; index = Some i }; bytes = r }) (mark_at q) (record_cells q (i + 1) (s ∷ rs) ++ m) t refl (marked-again p q (i + 1) rs m t k s)

-- records of an array elsewhere
marked-outside : (p q : Path) (i : ℕ) (rs : List (List ℕ)) (m t : List CellValue) → leads_to p q ≡ false → AreMarked p m t → AreMarked p (record_cells q i rs ++ m) t
marked-outside p q i [] m t out k = k
marked-outside p q i (r ∷ rs) m t out k = Outside (record { cell = record { path = q; index = Some i }; bytes = r }) (record_cells q (i + 1) rs ++ m) t out (marked-outside p q (i + 1) rs m t out k)

first_of : (a b : Bool) → (a && b) ≡ true → a ≡ true
first_of true b e = refl
first_of false b e = e

second_of : (a b : Bool) → (a && b) ≡ true → b ≡ true
second_of true b e = e
second_of false b e = absurd (let n : ⊥ = cc in n)

-- an extent in form has a record
some_record : (p : Path) (low : ℕ) (b : List ℕ) → is_write_in_form (Extent p low b) ≡ true → 0 < length b / record_size p
unfolding is_write_in_form
some_record p low b h =
    let size : ℕ = record_size p in
    let fits : fits_records size low (length b) ≡ true = second_of (ends_at_akey p && is_length (length b)) (fits_records size low (length b)) h in
    let whole : (length b % size == 0) ≡ true = first_of (length b % size == 0) (fits_array size low (length b / size)) fits in
    let array : fits_array size low (length b / size) ≡ true = second_of (length b % size == 0) (fits_array size low (length b / size)) fits in
    let unit : is_unit size ≡ true = first_of (is_unit size) (nat_lt (low + length b / size) (2 ^ 32)) array in
    let ends : is_length (length b) ≡ true = second_of (ends_at_akey p) (is_length (length b)) (first_of (ends_at_akey p && is_length (length b)) (fits_records size low (length b)) h) in
    let one : nat_le 1 size ≡ true = first_of (nat_le 1 size) (nat_le size 64) unit in
    let long : nat_le 1 (length b) ≡ true = first_of (nat_le 1 (length b)) (nat_le (length b) 1024) ends in
    by (length b / size) refl (let e : length b % size ≡ 0 = grind (arith, nat_tests) in e) (let e : 1 ≤ size = grind (arith, nat_tests) in e) (let e : 1 ≤ length b = grind (arith, nat_tests) in e)
  where
    by : (n : ℕ) → length b / record_size p ≡ n → length b % record_size p ≡ 0 → 1 ≤ record_size p → 1 ≤ length b → 0 < n
    by zero e whole size long =
        let none : record_size p * (length b / record_size p) ≡ record_size p * 0 = ap (λ n. record_size p * n) e in
        absurd (omega (arith, none))
    by (suc n) e whole size long = omega arith

marked-extent : (p q : Path) (low count size : ℕ) (b : List ℕ) (m t : List CellValue) → 0 < count → AreMarked p m t → AreMarked p (record_cells q low (cut_records count size b) ++ m) (marked_under p q t)
marked-extent p q low zero size b m t lt k = absurd (omega arith)
marked-extent p q low (suc count) size b m t lt k = by (leads_to p q) refl
  where
    by : (c : Bool) → leads_to p q ≡ c → AreMarked p (record_cells q low (cut_records (suc count) size b) ++ m) (if c then mark_at q ∷ t else t)
    by true e = marked-again p q low (cut_records count size (drop size b)) m t k (take size b)
    by false e = marked-outside p q low (cut_records (suc count) size b) m t e k

marked-single : (p q : Path) (b : List ℕ) (m t : List CellValue) → AreMarked p m t → AreMarked p (record { cell = record { path = q; index = None }; bytes = b } ∷ m) (marked_under p q t)
marked-single p q b m t k = by (leads_to p q) refl
  where
    by : (c : Bool) → leads_to p q ≡ c → AreMarked p (record { cell = record { path = q; index = None }; bytes = b } ∷ m) (if c then mark_at q ∷ t else t)
    by true e = Alone (record { cell = record { path = q; index = None }; bytes = b }) (mark_at q) m t refl k
    by false e = Outside (record { cell = record { path = q; index = None }; bytes = b }) m t e k

marked-effect : (p : Path) (w : Write) (m t : List CellValue) → is_write_in_form w ≡ true → AreMarked p m t → AreMarked p (effect w m) (marked p w t)
marked-effect p (Single q b) m t h k = marked-single p q b m t k
marked-effect p (Extent q low b) m t h k = marked-extent p q low (length b / record_size q) (record_size q) b m t (some_record q low b h) k
marked-effect p (PunchObject q) m t h k = marked-without p q m t k
marked-effect p (PunchDkey q) m t h k = marked-without p q m t k
marked-effect p (PunchAkey q) m t h k = marked-without p q m t k

marked-effects : (p : Path) (ws : List Write) (m t : List CellValue) → list_all is_write_in_form ws ≡ true → AreMarked p m t → AreMarked p (effects ws m) (marks_by p ws t)
marked-effects p [] m t h k = k
marked-effects p (w ∷ ws) m t h k =
    marked-effects p ws (effect w m) (marked p w t) (second_of (is_write_in_form w) (list_all is_write_in_form ws) h)
    (marked-effect p w m t (first_of (is_write_in_form w) (list_all is_write_in_form ws) h) k)

-- ---- the versions below an epoch

writes_seen : (t : Version → Bool) (vs : List Version) → list_all is_version_in_form vs ≡ true → list_all is_write_in_form (writes_in (filter t vs)) ≡ true
writes_seen t [] h = refl
writes_seen t (v ∷ vs) h = by (t v) (writes_seen t vs (second_of (is_write_in_form v.write) (list_all is_version_in_form vs) h))
  where
    both : (a b : Bool) → a ≡ true → b ≡ true → (a && b) ≡ true
    both true b d e = e
    both false b d e = d

    by : (b : Bool) → list_all is_write_in_form (writes_in (filter t vs)) ≡ true → list_all is_write_in_form (writes_in (if b then v ∷ filter t vs else filter t vs)) ≡ true
    by true rest = both (is_write_in_form v.write) (list_all is_write_in_form (writes_in (filter t vs))) (first_of (is_write_in_form v.write) (list_all is_version_in_form vs) h) rest
    by false rest = rest

marked-below : (p : Path) (vs : List Version) (e : ℕ) → list_all is_version_in_form vs ≡ true → AreMarked p (map_below vs e) (marks_by p (writes_in (filter (sees e) vs)) [])
unfolding map_below
marked-below p vs e h = marked-effects p (writes_in (filter (sees e) vs)) [] [] (writes_seen (sees e) vs h) NoCell

-- what a read of names, or of whether there is a cell, is answered on the marks is its answer on the map
pub answer-marks : (r : Read) (vs : List Version) (e : ℕ) → asks_names r ≡ true → list_all is_version_in_form vs ≡ true → answer r (marks_by (read_path r) (writes_in (filter (sees e) vs)) []) ≡ answer r (map_below vs e)
answer-marks (read.Single p) vs e a h = absurd (let n : ⊥ = cc in n)
answer-marks (read.Extent p low len) vs e a h = absurd (let n : ⊥ = cc in n)
answer-marks (read.Dkeys p) vs e a h = ap (λ ns. Names ns) (sym (dkeys-marked p (map_below vs e) (marks_by p (writes_in (filter (sees e) vs)) []) (marked-below p vs e h)))
answer-marks (read.Akeys p) vs e a h = ap (λ ns. Names ns) (sym (akeys-marked p (map_below vs e) (marks_by p (writes_in (filter (sees e) vs)) []) (marked-below p vs e h)))
answer-marks (read.Exists p) vs e a h = ap yes_or_no (sym (has-marked p (map_below vs e) (marks_by p (writes_in (filter (sees e) vs)) []) (marked-below p vs e h)))

-- where no punch is seen, a read of dkeys is answered by those of the updates
pub answer-dkeys : (p : Path) (vs : List Version) (e : ℕ) → list_any (is_seen_punch e) vs ≡ false → list_all is_version_in_form vs ≡ true → Names (names_from p e vs []) ≡ answer (read.Dkeys p) (map_below vs e)
answer-dkeys p vs e g h =
    ap (λ ns. Names ns) (ap (names_from p e vs) (sym (dkeys_none p)) ∙ names-marked p e vs [] g) ∙ answer-marks (read.Dkeys p) vs e refl h
