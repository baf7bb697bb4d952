-- A prune, whole or cut, leaves each cell what it had below a sight.
use Rattle.std.proofs.Common.{◌≡◌, ℕ, ◌+◌, ◌⊎◌, inl, inr, Bool, true, false, ◌&&◌, ◌||◌, not, List, [], ◌∷◌, ◌++◌, Some, None, refl, sym, subst, ◌∙◌, ap}
use Rattle.std.specs.Prelude.{filter, is_some, if◌then◌else◌}
use Rattle.std.specs.List.{list_any}
use Rattle.base_types.specs.declared.operation.Write.{Write}
use Rattle.base_types.specs.declared.operation.Write.TheVariants.{Single, Extent, PunchObject, PunchDkey, PunchAkey}
use Rattle.base_types.specs.declared.path.Path.{Path}
use Rattle.base_types.specs.Operations.{write_path}
use Rattle.base_types.specs.Paths.{leads_to, record_size}
use Rattle.daos_model.specs.declared.cell.Cell.{Cell}
use Rattle.daos_model.specs.declared.durable.Version.{Version}
use Rattle.daos_model.specs.Answers.{is_before}
use Rattle.daos_model.specs.BoolLaws.{and_left, and_right, clash, not_true, or_left, or_right}
use Rattle.daos_model.specs.Cells.{is_of, same_cell, value_at}
use Rattle.daos_model.specs.Durables.{version_key}
use Rattle.daos_model.specs.Effect.{record_cells, records_of}
use Rattle.daos_model.specs.OrderLaws.{before-itself}
use Rattle.daos_model.specs.Ordered.{all_from, is_in_order}
use Rattle.daos_model.specs.Prunes.{is_punch, touches, values_of}
use Rattle.daos_model.specs.Sameness.{same_cell-Decides}
use Rattle.daos_model.specs.Versions.{map_below, sees}
use Rattle.daos_model.proofs.Said.{Word, or_before, or_else, said, value_at-map_below, word, word-none, word-punch}

-- the same is said, or nothing where there was said to be nothing
abbrev Alike : Word → Word → Bool → Type 0
Alike x y gone = (x ≡ y) ⊎ ((x ≡ None) × (y ≡ Some None) × (gone ≡ true))

alike-at : (x y : Word) (gone : Bool) → Alike x y gone → or_before x None ≡ or_before y None
alike-at x y gone (inl e) = ap (λ z. or_before z None) e
alike-at x y gone (inr h) = ap (λ z. or_before z None) h.0 ∙ sym (ap (λ z. or_before z None) h.1)

more : (x y : Word) (b gone : Bool) → Alike x y gone → Alike x y (b || gone)
more x y b gone (inl e) = inl e
more x y true gone (inr h) = inr (h.0, h.1, refl)
more x y false gone (inr h) = inr h

-- a version that stays
stays_alike : (k t : Bool) (w x y : Word) (gone : Bool) → (k ≡ true → w ≡ (if t then Some None else None)) → (k ≡ false → t ≡ false → w ≡ None) → (k ≡ false → t ≡ true → gone ≡ false) → Alike x y gone → Alike (or_else x w) (or_else y w) gone
stays_alike k t w x y gone p n u (inl e) = inl (ap (λ z. or_else z w) e)
stays_alike true true w x y gone p n u (inr h) = inl (ap (λ z. or_else z w) h.0 ∙ p refl ∙ sym (ap (λ z. or_else z w) h.1))
stays_alike true false w x y gone p n u (inr h) = inr (ap (λ z. or_else z w) h.0 ∙ p refl, ap (λ z. or_else z w) h.1, h.2)
stays_alike false true w x y gone p n u (inr h) = clash gone h.2 (u refl refl)
stays_alike false false w x y gone p n u (inr h) = inr (ap (λ z. or_else z w) h.0 ∙ n refl refl, ap (λ z. or_else z w) h.1, h.2)

-- a version that has gone and was seen
gone_alike : (k t : Bool) (w x y : Word) (gone : Bool) → (k ≡ true → w ≡ (if t then Some None else None)) → (k ≡ false → t ≡ false → w ≡ None) → (k ≡ false → t ≡ true → is_some y ≡ true) → Alike x y gone → Alike x (or_else y w) ((k && t) || gone)
gone_alike k t w x (Some r) gone p n u a = more x (Some r) (k && t) gone a
gone_alike true true w x None gone p n u (inl e) = inr (e, p refl, refl)
gone_alike true true w x None gone p n u (inr h) = absurd (let e : ◌≡◌ {A = Word} None (Some None) = h.1 in let z : ⊥ = cc in z)
gone_alike true false w x None gone p n u a = subst (λ z. Alike x z gone) (sym (p refl)) a
gone_alike false true w x None gone p n u a = absurd (let e : false ≡ true = u refl refl in let z : ⊥ = cc in z)
gone_alike false false w x None gone p n u a = subst (λ z. Alike x z gone) (sym (n refl refl)) a

module _ (stays : Version → Bool) (s : ℕ) (c : Cell) where
  both_of : Version → Bool
  both_of v = stays v && sees s v

  -- a punch that has gone, on the cell
  abbrev pub lost : Version → Bool
  lost v = not (stays v) && (is_punch v.write && touches c v.write)

  -- what is asked of a list: an update that has gone is hidden behind, and none that stays stands before a punch that has gone
  abbrev pub Fine : List Version → Type 0
  Fine [] = Unit {0}
  Fine (v ∷ vs) =
      (stays v ≡ false → is_punch v.write ≡ false → sees s v ≡ true → touches c v.write ≡ true → is_some (said (sees s) c vs) ≡ true)
      × (stays v ≡ true → is_punch v.write ≡ false → touches c v.write ≡ true → list_any lost vs ≡ false)
      × Fine vs

  step : (v : Version) (b t : Bool) (x y : Word) (gone : Bool)
      → (b ≡ false → is_punch v.write ≡ false → t ≡ true → touches c v.write ≡ true → is_some y ≡ true)
      → (b ≡ true → is_punch v.write ≡ false → touches c v.write ≡ true → gone ≡ false)
      → Alike x y gone
      → Alike (if b && t then or_else x (word c v.write) else x) (if t then or_else y (word c v.write) else y) ((not b && (is_punch v.write && touches c v.write)) || gone)
  step v true true x y gone hid free a = stays_alike (is_punch v.write) (touches c v.write) (word c v.write) x y gone (word-punch c v.write) (word-none c v.write) (free refl) a
  step v true false x y gone hid free a = a
  step v false true x y gone hid free a = gone_alike (is_punch v.write) (touches c v.write) (word c v.write) x y gone (word-punch c v.write) (word-none c v.write) (λ k. hid refl k refl) a
  step v false false x y gone hid free a = more x y (is_punch v.write && touches c v.write) gone a

  alike : (vs : List Version) → Fine vs → Alike (said both_of c vs) (said (sees s) c vs) (list_any lost vs)
  unfolding both_of
  alike [] fine = inl refl
  alike (v ∷ vs) fine = step v (stays v) (sees s v) (said both_of c vs) (said (sees s) c vs) (list_any lost vs) fine.0 fine.1 (alike vs fine.2)

  said-filter : (us : List Version) → said (sees s) c (filter stays us) ≡ said both_of c us
  unfolding both_of
  said-filter [] = refl
  said-filter (u ∷ us) =
      elim (stays u) as (λ b. said (sees s) c (if b then u ∷ filter stays us else filter stays us) ≡ (if b && sees s u then or_else (said both_of c us) (word c u.write) else said both_of c us)) [
        | true ↦ ap (λ z. if sees s u then or_else z (word c u.write) else z) (said-filter us)
        | false ↦ said-filter us
      ]

  -- the map below the sight is as it was
  pub value_at-left : (vs : List Version) → Fine vs → value_at (map_below (filter stays vs) s) c ≡ value_at (map_below vs s) c
  value_at-left vs fine =
      value_at-map_below (filter stays vs) s c ∙ ap (λ z. or_before z None) (said-filter vs) ∙ alike-at (said both_of c vs) (said (sees s) c vs) (list_any lost vs) (alike vs fine) ∙ sym (value_at-map_below vs s c)

-- ---- places in a list in order

from_at : (k : List ℕ) (front : List Version) (v : Version) (back : List Version) → all_from version_key k (front ++ v ∷ back) ≡ true → is_before (version_key v) k ≡ false
from_at k [] v back h = not_true (is_before (version_key v) k) (and_left (not (is_before (version_key v) k)) (all_from version_key k back) h)
from_at k (f ∷ front) v back h = from_at k front v back (and_right (not (is_before (version_key f) k)) (all_from version_key k (front ++ v ∷ back)) h)

pub behind : (front : List Version) (v : Version) (back : List Version) → is_in_order version_key (front ++ v ∷ back) ≡ true → all_from version_key (version_key v) back ≡ true
behind [] v back h = and_left (all_from version_key (version_key v) back) (is_in_order version_key back) h
behind (f ∷ front) v back h = behind front v back (and_right (all_from version_key (version_key f) (front ++ v ∷ back)) (is_in_order version_key (front ++ v ∷ back)) h)

pub none_at : (t : Version → Bool) (front : List Version) (v : Version) (back : List Version) → list_any t (front ++ v ∷ back) ≡ false → t v ≡ false
none_at t [] v back e = or_left (t v) (list_any t back) e
none_at t (f ∷ front) v back e = none_at t front v back (or_right (t f) (list_any t (front ++ v ∷ back)) e)

pub later_any : (t : Version → Bool) (front : List Version) (v : Version) (back : List Version) → is_in_order version_key (front ++ v ∷ back) ≡ true → ((w : Version) → t w ≡ true → is_before (version_key v) (version_key w) ≡ true) → list_any t (front ++ v ∷ back) ≡ true → list_any t back ≡ true
later_any t [] v back o above e =
    elim (t v) as (λ b. t v ≡ b → (b || list_any t back) ≡ true → list_any t back ≡ true) [
      | true ↦ λ is h. clash (is_before (version_key v) (version_key v)) (above v is) (before-itself (version_key v))
      | false ↦ λ is h. h
    ] refl e
later_any t (f ∷ front) v back o above e =
    elim (t f) as (λ b. t f ≡ b → (b || list_any t (front ++ v ∷ back)) ≡ true → list_any t back ≡ true) [
      | true ↦ λ is h. clash (is_before (version_key v) (version_key f)) (above f is) (from_at (version_key f) front v back (and_left (all_from version_key (version_key f) (front ++ v ∷ back)) (is_in_order version_key (front ++ v ∷ back)) o))
      | false ↦ λ is h. later_any t front v back (and_right (all_from version_key (version_key f) (front ++ v ∷ back)) (is_in_order version_key (front ++ v ∷ back)) o) above h
    ] refl e

-- ---- cells of updates

record_path : (c : Cell) (p : Path) (low : ℕ) (rs : List (List ℕ)) → list_any (is_of c) (record_cells p low rs) ≡ true → c.path ≡ p
record_path c p low [] h = absurd (let n : ⊥ = cc in n)
record_path c p low (r ∷ rs) h =
    elim (same_cell (record { path = p; index = Some low }) c) as (λ t. same_cell (record { path = p; index = Some low }) c ≡ t → (t || list_any (is_of c) (record_cells p (low + 1) rs)) ≡ true → c.path ≡ p) [
      | true ↦ λ is k. sym (ap (λ (z : Cell). z.path) ((same_cell-Decides (record { path = p; index = Some low }) c).0 is))
      | false ↦ λ is k. record_path c p (low + 1) rs k
    ] refl h

update_path : (c : Cell) (w : Write) → is_punch w ≡ false → touches c w ≡ true → c.path ≡ write_path w
unfolding touches
update_path c (Single p b) k h =
    elim (same_cell (record { path = p; index = None }) c) as (λ t. same_cell (record { path = p; index = None }) c ≡ t → (t || false) ≡ true → c.path ≡ p) [
      | true ↦ λ is e. sym (ap (λ (z : Cell). z.path) ((same_cell-Decides (record { path = p; index = None }) c).0 is))
      | false ↦ λ is e. absurd (let n : ⊥ = cc in n)
    ] refl h
update_path c (Extent p low b) k h = record_path c p low (records_of (record_size p) b) h
update_path c (PunchObject p) k h = absurd (let n : ⊥ = cc in n)
update_path c (PunchDkey p) k h = absurd (let n : ⊥ = cc in n)
update_path c (PunchAkey p) k h = absurd (let n : ⊥ = cc in n)

punch_path : (c : Cell) (w : Write) → is_punch w ≡ true → touches c w ≡ true → leads_to (write_path w) c.path ≡ true
unfolding touches
punch_path c w k h = sym (ap (λ (b : Bool). if b then leads_to (write_path w) c.path else list_any (is_of c) (values_of w)) k) ∙ h

pub over_update : (c : Cell) (p u : Write) → is_punch p ≡ true → is_punch u ≡ false → touches c p ≡ true → touches c u ≡ true → leads_to (write_path p) (write_path u) ≡ true
over_update c p u kp ku tp tu = ap (leads_to (write_path p)) (sym (update_path c u ku tu)) ∙ punch_path c p kp tp
