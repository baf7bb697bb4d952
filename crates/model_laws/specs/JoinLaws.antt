-- The answer on a map is the join, over groups, of the answers on their parts.
use Rattle.std.specs.Prelude.{ℕ, zero, suc, ◌+◌, ◌≡◌, ◌<◌, ◌≤◌, ◌⊎◌, ◌==◌, Bool, true, false, ◌&&◌, ◌||◌, List, [], ◌∷◌, ◌++◌, map, Option, Some, None, is_none, is_some, length, if◌then◌else◌, refl}
use Rattle.std.specs.List.{list_any, range_with_len}
use Rattle.std.specs.Option.{option_eq}
use Rattle.std.proofs.Common.{sym, ◌∙◌, ap, subst, arith, inl, inr}
use Rattle.std.proofs.lemmas.Bool.Decides.{nat_tests}
use Rattle.std.proofs.lemmas.List.Elements.{All-head, All-tail}
use Rattle.std.proofs.lemmas.Bool.{cases_eq, cases_lt}
use Rattle.base_types.specs.declared.answer.Answer.TheVariants.{Names}
use Rattle.base_types.specs.declared.id.Class.{Class}
use Rattle.base_types.specs.declared.operation.Read.TheVariants as read
use Rattle.base_types.specs.declared.operation.Write.{Write}
use Rattle.base_types.specs.declared.operation.Write.TheVariants.{Single, Extent, PunchObject, PunchDkey, PunchAkey}
use Rattle.base_types.specs.declared.path.Path.{Path}
use Rattle.base_types.specs.Keys.{same_key}
use Rattle.base_types.specs.Operations.{read_path}
use Rattle.base_types.specs.Paths.{leads_to, record_size, same_object}
use Rattle.base_types.specs.PathLaws.{same_key-Decides}
use Rattle.base_types.specs.Placement.{group_of, groups}
use Rattle.base_types.specs.PlacementLaws.{group_of-within, groups-positive}
use Rattle.daos_model.specs.declared.cell.Cell.{Cell}
use Rattle.daos_model.specs.declared.cell.CellValue.{CellValue}
use Rattle.daos_model.specs.Answers.{answer, dkeys_below, has_cell_below, in_byte_order, yes_or_no}
use Rattle.daos_model.specs.BoolLaws.{and_left, and_right, clash, false_of}
use Rattle.daos_model.specs.Cells.{index_cell, same_cell, single_cell, value_at}
use Rattle.daos_model.specs.Effect.{effect, extent_cells, record_cells, records_of}
use Rattle.daos_model.specs.ExtentForms.{written-at_akey}
use Rattle.daos_model.specs.Forms.{ends_at_akey, is_length, is_write_in_form}
use Rattle.daos_model.specs.Prunes.{touches, values_of}
use Rattle.daos_model.specs.Ordered.{is_rising}
use Rattle.daos_model.specs.Sameness.{same_cell-Decides}
use Rattle.daos_model.specs.OrderLaws.{rising-names}
use Rattle.model_laws.specs.Groups.{DkeysAreJoined, DkeysHaveOneGroup, ExistsIsJoined, GroupPartsAreParts, HasDkeys, IsPartUnder, WritesKeepDkeys, group_part, is_dkey_of_group, is_in_group, join_all, join_more}
use Rattle.model_laws.specs.Members.{Has, any-has, has-any, has-cases, has-left, has-right}
use Rattle.model_laws.specs.NameLaws.{has-from_names, has-names}
use Rattle.model_laws.specs.ReadLaws.{Held, Named, dkey_name, answer-same, dkeys-has, has-dkeys, has-under, held-same, under-has}
use Rattle.model_laws.specs.RisingLaws.{rising-same}
use Rattle.model_laws.specs.WriteLaws.{after_write, value-effect}

-- ---- the numbers of groups

pub has-range : (a n g : ℕ) → a ≤ g → g < a + n → Has g (range_with_len a n)
has-range a zero g le lt = absurd (omega arith)
has-range a (suc n) g le lt = by (λ more. has-range (a + 1) n g more (omega arith)) (cases_eq g a)
  where
    by : (a + 1 ≤ g → Has g (range_with_len (a + 1) n)) → (g ≡ a) ⊎ (g ≡ a → ⊥) → Has g (a ∷ range_with_len (a + 1) n)
    by rest (inl e) = inl e
    by rest (inr apart) = inr (rest (elim (cases_lt a g) [ inl lt' ↦ omega arith | inr ge ↦ absurd (apart (omega arith)) ]))

has-from_range : (a n g : ℕ) → Has g (range_with_len a n) → (a ≤ g) × (g < a + n)
has-from_range a zero g h = absurd h
has-from_range a (suc n) g (inl e) = (omega (arith, e), omega (arith, e))
has-from_range a (suc n) g (inr h) = let r = has-from_range (a + 1) n g h in (omega (arith, r.0), omega (arith, r.1))

-- ---- a part, cell by cell

part-held : (class : Class) (targets : ℕ) (p : Path) (g : ℕ) (m part : List CellValue) (c : Cell) → IsPartUnder class targets p g m part → leads_to p c.path ≡ true → Held part c → Held m c
part-held class targets p g m part c is at h = by (is_in_group class targets g c) (is c at)
  where
    by : (b : Bool) → value_at part c ≡ (if b then value_at m c else None) → Held m c
    by true e = held-same part m c e h
    by false e = absurd (let f = h.is in let n : ⊥ = cc in n)

held-part : (class : Class) (targets : ℕ) (p : Path) (g : ℕ) (m part : List CellValue) (c : Cell) → IsPartUnder class targets p g m part → leads_to p c.path ≡ true
    → is_in_group class targets g c ≡ true → Held m c → Held part c
held-part class targets p g m part c is at of h = held-same m part c (sym (is c at ∙ ap (λ b. if b then value_at m c else None) of)) h

-- a cell with a dkey is in the group of that dkey
own_group : (class : Class) (targets : ℕ) (c : Cell) (k : List ℕ) → c.path.dkey ≡ Some k → is_in_group class targets (group_of class k targets) c ≡ true
own_group class targets c k e = ap (is_dkey_of_group class targets (group_of class k targets)) e ∙ same (group_of class k targets)
  where
    same : (n : ℕ) → (n == n) ≡ true
    same n = grind (arith, nat_tests)

-- ---- names of several groups

-- names joined one list after another
abbrev join_names : List (List ℕ) → (ℕ → List (List ℕ)) → List ℕ → List (List ℕ)
join_names ks names [] = ks
join_names ks names (g ∷ gs) = join_names (in_byte_order (ks ++ in_byte_order (names g))) names gs

join-names : (ks : List (List ℕ)) (names : ℕ → List (List ℕ)) (gs : List ℕ) → join_more (Names ks) (map (λ g. Names (in_byte_order (names g))) gs) ≡ Names (join_names ks names gs)
join-names ks names [] = refl
join-names ks names (g ∷ gs) = join-names (in_byte_order (ks ++ in_byte_order (names g))) names gs

rising-join : (ks : List (List ℕ)) (names : ℕ → List (List ℕ)) (gs : List ℕ) → is_rising (λ k. k) ks ≡ true → is_rising (λ k. k) (join_names ks names gs) ≡ true
rising-join ks names [] r = r
rising-join ks names (g ∷ gs) r = rising-join (in_byte_order (ks ++ in_byte_order (names g))) names gs (rising-names (ks ++ in_byte_order (names g)))

has-first : (ks : List (List ℕ)) (names : ℕ → List (List ℕ)) (gs : List ℕ) (x : List ℕ) → Has x ks → Has x (join_names ks names gs)
has-first ks names [] x h = h
has-first ks names (g ∷ gs) x h =
    has-first (in_byte_order (ks ++ in_byte_order (names g))) names gs x (has-names (ks ++ in_byte_order (names g)) x (has-left ks (in_byte_order (names g)) x h))

has-join : (ks : List (List ℕ)) (names : ℕ → List (List ℕ)) (gs : List ℕ) (x : List ℕ) (g : ℕ) → Has g gs → Has x (names g) → Has x (join_names ks names gs)
has-join ks names [] x g i h = absurd i
has-join ks names (f ∷ gs) x g (inl same) h =
    has-first (in_byte_order (ks ++ in_byte_order (names f))) names gs x
    (has-names (ks ++ in_byte_order (names f)) x (has-right ks (in_byte_order (names f)) x (has-names (names f) x (subst (λ n. Has x (names n)) same h))))
has-join ks names (f ∷ gs) x g (inr i) h = has-join (in_byte_order (ks ++ in_byte_order (names f))) names gs x g i h

-- a name of one of these groups
record IsOfOne (names : ℕ → List (List ℕ)) (gs : List ℕ) (x : List ℕ) : Type 0 where
  group : ℕ
  among : Has group gs
  has : Has x (names group)

one-more : (names : ℕ → List (List ℕ)) (f : ℕ) (gs : List ℕ) (x : List ℕ) → IsOfOne names gs x → IsOfOne names (f ∷ gs) x
one-more names f gs x h = record { group = h.group; among = inr h.among; has = h.has }

has-from_join : (ks : List (List ℕ)) (names : ℕ → List (List ℕ)) (gs : List ℕ) (x : List ℕ) → Has x (join_names ks names gs) → Has x ks ⊎ IsOfOne names gs x
has-from_join ks names [] x h = inl h
has-from_join ks names (f ∷ gs) x h = by (has-from_join (in_byte_order (ks ++ in_byte_order (names f))) names gs x h)
  where
    of_two : Has x ks ⊎ Has x (in_byte_order (names f)) → Has x ks ⊎ IsOfOne names (f ∷ gs) x
    of_two (inl i) = inl i
    of_two (inr i) = inr (record { group = f; among = inl refl; has = has-from_names (names f) x i })

    by : Has x (in_byte_order (ks ++ in_byte_order (names f))) ⊎ IsOfOne names gs x → Has x ks ⊎ IsOfOne names (f ∷ gs) x
    by (inl i) = of_two (has-cases ks (in_byte_order (names f)) x (has-from_names (ks ++ in_byte_order (names f)) x i))
    by (inr i) = inr (one-more names f gs x i)

dkeys_over : (class : Class) (targets : ℕ) (p : Path) (m : List CellValue) (part : ℕ → List CellValue) (f : ℕ) (gs : List ℕ)
    → ((g : ℕ) → Has g (f ∷ gs) → IsPartUnder class targets p g m (part g)) → ((k : List ℕ) → Has (group_of class k targets) (f ∷ gs))
    → answer (read.Dkeys p) m ≡ join_all (map (λ g. answer (read.Dkeys p) (part g)) (f ∷ gs))
dkeys_over class targets p m part f gs are all =
    ap (λ ks. Names ks)
    (rising-same (λ k. k) (in_byte_order (dkeys_below p m)) (join_names first names gs)
    (rising-names (dkeys_below p m)) (rising-join first names gs (rising-names (names f)))
    (λ x i. there x (has-dkeys p m x (has-from_names (dkeys_below p m) x i)))
    (λ x i. here x (has-from_join first names gs x i)))
    ∙ sym (join-names first names gs)
  where
    names : ℕ → List (List ℕ)
    names g = dkeys_below p (part g)

    first : List (List ℕ)
    first = in_byte_order (dkeys_below p (part f))

    there : (x : List ℕ) → Named dkey_name p m x → Has x (join_names first names gs)
    there x n =
        placed (group_of class x targets) (all x)
        (dkeys-has p (part (group_of class x targets)) x n.cell n.under n.is
        (held-part class targets p (group_of class x targets) m (part (group_of class x targets)) n.cell (are (group_of class x targets) (all x)) n.under
        (own_group class targets n.cell x n.is) n.held))
      where
        placed : (g : ℕ) → Has g (f ∷ gs) → Has x (names g) → Has x (join_names first names gs)
        placed g (inl same) h = has-first first names gs x (has-names (names f) x (subst (λ n. Has x (names n)) same h))
        placed g (inr i) h = has-join first names gs x g i h

    back : (g : ℕ) → Has g (f ∷ gs) → (x : List ℕ) → Named dkey_name p (part g) x → Has x (in_byte_order (dkeys_below p m))
    back g i x n = has-names (dkeys_below p m) x (dkeys-has p m x n.cell n.under n.is (part-held class targets p g m (part g) n.cell (are g i) n.under n.held))

    here : (x : List ℕ) → Has x first ⊎ IsOfOne names gs x → Has x (in_byte_order (dkeys_below p m))
    here x (inl i) = back f (inl refl) x (has-dkeys p (part f) x (has-from_names (names f) x i))
    here x (inr o) = back o.group (inr o.among) x (has-dkeys p (part o.group) x o.has)

-- ---- yes or no of several groups

join-bools : (a : Bool) (has : ℕ → Bool) (gs : List ℕ) → join_more (yes_or_no a) (map (λ g. yes_or_no (has g)) gs) ≡ yes_or_no (a || list_any has gs)
join-bools a has [] = elim a as (λ b. yes_or_no b ≡ yes_or_no (b || false)) [ true ↦ refl | false ↦ refl ]
join-bools true has (g ∷ gs) = join-bools true has gs
join-bools false has (g ∷ gs) = join-bools (has g) has gs

exists_over : (class : Class) (targets : ℕ) (p : Path) (m : List CellValue) (part : ℕ → List CellValue) (gs : List ℕ) → HasDkeys m
    → ((g : ℕ) → Has g gs → IsPartUnder class targets p g m (part g)) → ((k : List ℕ) → Has (group_of class k targets) gs)
    → has_cell_below p m ≡ list_any (λ g. has_cell_below p (part g)) gs
exists_over class targets p m part gs dkeys are all = by (has_cell_below p m) (list_any has gs) refl refl
  where
    has : ℕ → Bool
    has g = has_cell_below p (part g)

    there : (c : Cell) → leads_to p c.path ≡ true → Held m c → (o : Option (List ℕ)) → c.path.dkey ≡ o → list_any has gs ≡ true
    there c at h None e = absurd (let f = h.is in let g = dkeys c e in let n : ⊥ = cc in n)
    there c at h (Some k) e =
        any-has has gs (group_of class k targets) (all k)
        (has-under p (part (group_of class k targets)) c at
        (held-part class targets p (group_of class k targets) m (part (group_of class k targets)) c (are (group_of class k targets) (all k)) at (own_group class targets c k e) h))

    by : (a b : Bool) → has_cell_below p m ≡ a → list_any has gs ≡ b → a ≡ b
    by true true e f = refl
    by false false e f = refl
    by true false e f = let c = under-has p m e in clash (list_any has gs) (there c.0 c.1 c.2 c.0.path.dkey refl) f
    by false true e f =
        let g = has-any has gs f in
        let c = under-has p (part g.0) g.2 in
        clash (has_cell_below p m) (has-under p m c.0 c.1 (part-held class targets p g.0 m (part g.0) c.0 (are g.0 g.1) c.1 c.2)) e

-- ---- a dkey's own group

-- what a path with a dkey leads to has that dkey
pub leads_to-dkey : (p q : Path) (k : List ℕ) → p.dkey ≡ Some k → leads_to p q ≡ true → q.dkey ≡ Some k
unfolding leads_to
leads_to-dkey p q k e h =
    let three = and_left ((p.cont.0 == q.cont.0) && (is_none p.obj || option_eq same_object p.obj q.obj) && (is_none p.dkey || option_eq same_key p.dkey q.dkey)) (is_none p.akey || option_eq same_key p.akey q.akey) h in
    let here = and_right ((p.cont.0 == q.cont.0) && (is_none p.obj || option_eq same_object p.obj q.obj)) (is_none p.dkey || option_eq same_key p.dkey q.dkey) three in
    by q.dkey (sym (ap (λ o. is_none o || option_eq same_key o q.dkey) e) ∙ here)
  where
    by : (o : Option (List ℕ)) → option_eq same_key (Some k) o ≡ true → o ≡ Some k
    by None h = absurd (let n : ⊥ = cc in n)
    by (Some j) h = ap (λ x. Some x) (sym ((same_key-Decides k j).0 h))

-- ---- the laws

pub dkeys-joined : DkeysAreJoined
dkeys-joined class targets p m part fits are = by (groups class targets) (groups-positive class targets fits) are (λ k. group_of-within class k targets fits)
  where
    by : (count : ℕ) → 0 < count → ((g : ℕ) → g < count → IsPartUnder class targets p g m (part g)) → ((k : List ℕ) → group_of class k targets < count)
        → answer (read.Dkeys p) m ≡ join_all (map (λ g. answer (read.Dkeys p) (part g)) (range_with_len 0 count))
    by zero some are within = absurd (omega arith)
    by (suc count) some are within =
        dkeys_over class targets p m part 0 (range_with_len (0 + 1) count)
        (λ g i. are g (let r = has-from_range 0 (suc count) g i in omega (arith, r.1)))
        (λ k. has-range 0 (suc count) (group_of class k targets) (omega arith) (omega (arith, within k)))

pub exists-joined : ExistsIsJoined
exists-joined class targets p m part fits dkeys are = by (groups class targets) (groups-positive class targets fits) are (λ k. group_of-within class k targets fits)
  where
    by : (count : ℕ) → 0 < count → ((g : ℕ) → g < count → IsPartUnder class targets p g m (part g)) → ((k : List ℕ) → group_of class k targets < count)
        → answer (read.Exists p) m ≡ join_all (map (λ g. answer (read.Exists p) (part g)) (range_with_len 0 count))
    by zero some are within = absurd (omega arith)
    by (suc count) some are within =
        ap yes_or_no
        (exists_over class targets p m part (range_with_len 0 (suc count)) dkeys
        (λ g i. are g (let r = has-from_range 0 (suc count) g i in omega (arith, r.1)))
        (λ k. has-range 0 (suc count) (group_of class k targets) (omega arith) (omega (arith, within k))))
        ∙ sym (join-bools (has_cell_below p (part 0)) (λ g. has_cell_below p (part g)) (range_with_len (0 + 1) count))

pub dkey-one_group : DkeysHaveOneGroup
dkey-one_group class targets r k m part e is =
    answer-same r m part (λ c at.
    sym (is c at ∙ ap (λ b. if b then value_at m c else None) (own_group class targets c k (leads_to-dkey (read_path r) c.path k e at))))

part-is : (class : Class) (targets g : ℕ) (m : List CellValue) (c : Cell) → value_at (group_part class targets g m) c ≡ (if is_in_group class targets g c then value_at m c else None)
part-is class targets g [] c = nothing (is_in_group class targets g c)
  where
    nothing : (b : Bool) → value_at [] c ≡ (if b then value_at [] c else None)
    nothing true = refl
    nothing false = refl
part-is class targets g (v ∷ m) c = by (is_in_group class targets g v.cell) (same_cell v.cell c) (is_in_group class targets g c) refl refl refl (part-is class targets g m c)
  where
    at_cell : same_cell v.cell c ≡ true → is_in_group class targets g v.cell ≡ is_in_group class targets g c
    at_cell e = ap (is_in_group class targets g) ((same_cell-Decides v.cell c).0 e)

    part : List CellValue
    part = group_part class targets g m

    by : (a s t : Bool) → is_in_group class targets g v.cell ≡ a → same_cell v.cell c ≡ s → is_in_group class targets g c ≡ t → value_at part c ≡ (if t then value_at m c else None)
        → value_at (if a then v ∷ part else part) c ≡ (if t then (if s then Some v.bytes else value_at m c) else None)
    by true true true e f g h = ap (λ b. if b then Some v.bytes else value_at part c) f
    by true true false e f i h = clash (is_in_group class targets g v.cell) e (at_cell f ∙ i)
    by true false true e f g h = ap (λ b. if b then Some v.bytes else value_at part c) f ∙ h
    by true false false e f g h = ap (λ b. if b then Some v.bytes else value_at part c) f ∙ h
    by false true true e f i h = clash (is_in_group class targets g c) i (sym (at_cell f) ∙ e)
    by false true false e f g h = h
    by false false true e f g h = h
    by false false false e f g h = h

pub group_part-is : GroupPartsAreParts
group_part-is class targets p g m c at = part-is class targets g m c

-- ---- dkeys of cells

other : (p : Path) (c : Cell) → p ≡ c.path → is_some p.dkey ≡ true → c.path.dkey ≡ None → ⊥
other p c same ends e = let none : is_some p.dkey ≡ false = ap (λ q. is_some q.dkey) same ∙ ap is_some e in clash (is_some p.dkey) ends none

akey_dkey : (p : Path) → ends_at_akey p ≡ true → is_some p.dkey ≡ true
akey_dkey p h = and_right (is_some p.obj) (is_some p.dkey) (and_left (is_some p.obj && is_some p.dkey) (is_some p.akey) h)

records-dkeys : (p : Path) (low : ℕ) (rs : List (List ℕ)) (c : Cell) → is_some p.dkey ≡ true → c.path.dkey ≡ None → value_at (record_cells p low rs) c ≡ None
records-dkeys p low [] c ends e = refl
records-dkeys p low (r ∷ rs) c ends e =
    ap (λ t. if t then Some r else value_at (record_cells p (low + 1) rs) c) (false_of (same_cell (index_cell p low) c) (λ same. other p c (ap (λ d. d.path) ((same_cell-Decides (index_cell p low) c).0 same)) ends e))
    ∙ records-dkeys p (low + 1) rs c ends e

pub effect-dkeys : (w : Write) (m : List CellValue) → is_write_in_form w ≡ true → HasDkeys m → HasDkeys (effect w m)
unfolding is_write_in_form touches
effect-dkeys w m form has c e = value-effect c w m ∙ by w form
  where
    held : value_at m c ≡ None
    held = has c e

    kept : (b : Bool) (o : Option (List ℕ)) → o ≡ None → (if b then o else value_at m c) ≡ None
    kept true o is = is
    kept false o is = held

    by : (w : Write) → is_write_in_form w ≡ true → after_write c w (value_at m c) ≡ None
    by (Single p bytes) form =
        kept (touches c (Single p bytes)) (value_at (values_of (Single p bytes)) c)
        (ap (λ t. if t then Some bytes else None) (false_of (same_cell (single_cell p) c) (λ same. other p c (ap (λ d. d.path) ((same_cell-Decides (single_cell p) c).0 same)) (akey_dkey p (and_left (ends_at_akey p) (is_length (length bytes)) form)) e)))
    by (Extent p low bytes) form =
        kept (touches c (Extent p low bytes)) (value_at (extent_cells p low bytes) c)
        (records-dkeys p low (records_of (record_size p) bytes) c (akey_dkey p (written-at_akey p low bytes form)) e)
    by (PunchObject p) form = kept (touches c (PunchObject p)) None refl
    by (PunchDkey p) form = kept (touches c (PunchDkey p)) None refl
    by (PunchAkey p) form = kept (touches c (PunchAkey p)) None refl

pub writes-dkeys : WritesKeepDkeys
writes-dkeys [] m forms has = has
writes-dkeys (w ∷ ws) m forms has =
    writes-dkeys ws (effect w m) (All-tail (λ v. is_write_in_form v ≡ true) w ws forms) (effect-dkeys w m (All-head (λ v. is_write_in_form v ≡ true) w ws forms) has)
