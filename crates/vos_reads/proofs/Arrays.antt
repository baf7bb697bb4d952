-- An index of an array below an epoch holds the record of the greatest extent that covers it, unless a punch is later.
use Rattle.std.proofs.Common.{◌≡◌, ℕ, ◌+◌, ◌-◌, ◌*◌, ◌/◌, ◌≤◌, ◌==◌, ◌&&◌, ◌||◌, nat_le, nat_lt, Bool, true, false, List, [], ◌∷◌, ◌++◌, Option, Some, None, map, zero, suc, take, drop, length, refl, sym, ap, ◌∙◌, arith}
use Rattle.std.specs.Prelude.{All, if◌then◌else◌, nat_eq}
use Rattle.std.specs.List.{list_any}
use Rattle.std.specs.Option.{option_eq, option_map}
use Rattle.std.proofs.lemmas.Bool.Decides.{nat_tests}
use Rattle.std.proofs.lemmas.List.{drop-drop}
use Rattle.std.proofs.lemmas.List.Elements.{All-head, All-tail}
use Rattle.base_types.specs.PathLaws.{same_path-Decides}
use Rattle.base_types.specs.declared.id.ObjId.{ObjId}
use Rattle.base_types.specs.Paths.{record_size, same_path, unit_of}
use Rattle.daos_model.specs.Forms.{is_unit}
use Rattle.base_types.specs.declared.epoch.Epoch.{Epoch}
use Rattle.base_types.specs.declared.operation.Write.TheVariants.{Extent}
use Rattle.base_types.specs.declared.path.Path.{Path}
use Rattle.daos_model.specs.Answers.{is_before}
use Rattle.daos_model.specs.Cells.{index_cell, is_of, same_cell, value_at}
use Rattle.daos_model.specs.Durables.{object_key as object_order, version_key}
use Rattle.daos_model.specs.Effect.{cut_records, record_cells}
use Rattle.daos_model.specs.Prunes.{touches}
use Rattle.daos_model.specs.Versions.{blocks_read, sees}
use Rattle.daos_model.specs.declared.durable.Version.{Version}
use Rattle.vos_values.specs.declared.keys.Moment.{Moment}
use Rattle.vos_values.specs.declared.keys.ObjectKey.{ObjectKey}
use Rattle.vos_levels.specs.Moments.{is_earlier}
use Rattle.vos_single.specs.declared.single.SingleVersion.{SingleVersion}
use Rattle.vos_extent.specs.declared.extent.ExtentVersion.{ExtentVersion}
use Rattle.vos_extent.specs.Shown.{covers, greatest, greatest_with, if_passes as if_extent, is_seen, later_of as later_extent, moment_of, record_in, shown_of}
use Rattle.vos_path.specs.Objects.{akey_path, extent_version, single_version}
use Rattle.vos_newest.specs.Newest.{if_passes, later_of, newest, speaks, told}
use Rattle.vos_newest.proofs.Greatest.{later_assoc}
use Rattle.vos_reads.specs.Ways.{start_of}
use Rattle.vos_reads.proofs.Covered.{none_after, speaks_so, told_punch}
use Rattle.daos_model.specs.Answers.{index_before, pieces, record_of}
use Rattle.daos_model.specs.Ordered.{in_order}
use Rattle.daos_model.specs.Versions.{map_below}
use Rattle.daos_model.specs.declared.cell.CellValue.{CellValue}
use Rattle.pmem_pages.specs.Blocks.{Blocks}
use Rattle.pmem_pages.specs.Owners.{Holds}
use Rattle.vos_values.specs.declared.keys.Layout.TheVariants.{Two}
use Rattle.vos_values.specs.Keys.{IsName, IsObjectKey}
use Rattle.vos_single.specs.Singles.{versions}
use Rattle.vos_extent.specs.Extents.{extents}
use Rattle.vos_extent.specs.Shown.{pieces_at}
use Rattle.vos_extent.proofs.Tops.{greatest_is}
use Rattle.vos_path.specs.Objects.{Objects, Values, objects_owner, objects_versions}
use Rattle.vos_newest.proofs.Greatest.{newest_append, newest_none}
use Rattle.vos_reads.specs.Ways.{IsSettled, akey_of, below_object, dkey_of, last_punch}
use Rattle.vos_reads.proofs.Covered.{akey_leads, punch, punch_is, settled_extents, value_is}
use Rattle.vos_reads.proofs.Rising.{IsPunchAt, before_is, earlier_before}

path_own : (p : Path) → same_path p p ≡ true
path_own p = (same_path-Decides p p).1 refl

own_index : (p : Path) (i j : ℕ) → same_cell (index_cell p i) (index_cell p j) ≡ (i == j)
unfolding same_cell
own_index p i j = ap (λ (b : Bool). b && option_eq nat_eq (Some i) (Some j)) (path_own p)

pub unit_bounds : (x : Option ObjId) (o : ObjId) → x ≡ Some o → is_unit (unit_of x) ≡ true → (1 ≤ o.unit) × (o.unit ≤ 64)
unit_bounds x o e h = let u = sym (ap (λ z. is_unit (unit_of z)) e) ∙ h in (grind (arith, nat_tests), grind (arith, nat_tests))

-- ---- the cells of an extent

any_first : (low i n : ℕ) → ((low == i) || (nat_le (low + 1) i && nat_lt i (low + 1 + n))) ≡ (nat_le low i && nat_lt i (low + suc n))
any_first low i n = grind (arith, nat_tests)

none_within : (low i : ℕ) → (nat_le low i && nat_lt i (low + 0)) ≡ false
none_within low i = grind (arith, nat_tests)

any_record : (p : Path) (i low n size : ℕ) (bytes : List ℕ) → list_any (is_of (index_cell p i)) (record_cells p low (cut_records n size bytes)) ≡ (nat_le low i && nat_lt i (low + n))
any_record p i low zero size bytes = sym (none_within low i)
any_record p i low (suc n) size bytes =
    ap (λ (b : Bool). b || list_any (is_of (index_cell p i)) (record_cells p (low + 1) (cut_records n size (drop size bytes)))) (own_index p low i)
    ∙ (ap (λ (b : Bool). (low == i) || b) (any_record p i (low + 1) n size (drop size bytes)) ∙ any_first low i n)

step_on : (low i n : ℕ) → (low == i) ≡ false → (nat_le (low + 1) i && nat_lt i (low + 1 + n)) ≡ (nat_le low i && nat_lt i (low + suc n))
step_on low i n e = grind (arith, nat_tests)

at_first : (low i n : ℕ) → (low == i) ≡ true → (nat_le low i && nat_lt i (low + suc n)) ≡ true
at_first low i n e = grind (arith, nat_tests)

no_gap : (low i : ℕ) → (low == i) ≡ true → i - low ≡ 0
no_gap low i e = let s : low ≡ i = grind (arith, nat_tests) in omega (arith, s)

gap : (low i : ℕ) → (nat_le (low + 1) i) ≡ true → i - low ≡ suc (i - (low + 1))
gap low i e = let s : low + 1 ≤ i = grind (arith, nat_tests) in omega (arith, s)

-- the record at an index that it covers
value_record : (p : Path) (i low n size : ℕ) (bytes : List ℕ) → (nat_le low i && nat_lt i (low + n)) ≡ true → value_at (record_cells p low (cut_records n size bytes)) (index_cell p i) ≡ Some (take size (drop ((i - low) * size) bytes))
value_record p i low zero size bytes h = absurd (let z = none_within low i in let n : ⊥ = cc in n)
value_record p i low (suc n) size bytes h =
    ap (λ (b : Bool). if b then Some (take size bytes) else value_at (record_cells p (low + 1) (cut_records n size (drop size bytes))) (index_cell p i)) (own_index p low i)
    ∙ by (low == i) refl (λ q. value_record p i (low + 1) n size (drop size bytes) q)
  where
    first : (s t : Bool) → (s && t) ≡ true → s ≡ true
    first true t q = refl
    first false t q = absurd (let z : ⊥ = cc in z)

    by : (b : Bool) → (low == i) ≡ b
        → ((nat_le (low + 1) i && nat_lt i (low + 1 + n)) ≡ true → value_at (record_cells p (low + 1) (cut_records n size (drop size bytes))) (index_cell p i) ≡ Some (take size (drop ((i - (low + 1)) * size) (drop size bytes))))
        → (if b then Some (take size bytes) else value_at (record_cells p (low + 1) (cut_records n size (drop size bytes))) (index_cell p i)) ≡ Some (take size (drop ((i - low) * size) bytes))
    by true e r = let none : 0 ≡ (i - low) * size = sym (ap (λ z. z * size) (no_gap low i e) ∙ nothing size) in ap (λ z. Some (take size (drop z bytes))) none
      where
        nothing : (y : ℕ) → 0 * y ≡ 0
        nothing y = omega arith
    by false e r =
        let q = step_on low i n e ∙ h in
        let k = i - (low + 1) in
        let more : (i - low) * size ≡ size + k * size = ap (λ z. z * size) (gap low i (first (nat_le (low + 1) i) (nat_lt i (low + 1 + n)) q)) ∙ mult k size in
        r q ∙ (ap (λ z. Some (take size z)) (drop-drop (k * size) size bytes) ∙ ap (λ z. Some (take size (drop z bytes))) (sym more))
      where
        mult : (x y : ℕ) → suc x * y ≡ y + x * y
        mult x y = omega arith

extent_touches : (p : Path) (i low : ℕ) (bytes : List ℕ) → touches (index_cell p i) (Extent p low bytes) ≡ (nat_le low i && nat_lt i (low + length bytes / record_size p))
unfolding touches
extent_touches p i low bytes = any_record p i low (length bytes / record_size p) (record_size p) bytes

pub told_extent : (p : Path) (i : ℕ) (v : ExtentVersion) → covers (record_size p) i v ≡ true → told (index_cell p i) (Some (extent_version p v)) ≡ Some (record_in (record_size p) i v)
told_extent p i v h = value_record p i v.low (length v.bytes / record_size p) (record_size p) v.bytes h

-- ---- the greatest extent is the newest one

module _ (p : Path) (t : Version → Bool) (test : ExtentVersion → Bool) where
  abbrev f : ExtentVersion → Version
  f v = extent_version p v

  abbrev K : List ℕ
  K = object_order p.cont p.obj

  later_mapped : (x y : Option ExtentVersion) → option_map f (later_extent x y) ≡ later_of version_key (option_map f x) (option_map f y)
  later_mapped None y = refl
  later_mapped (Some u) None = refl
  later_mapped (Some u) (Some v) = by (is_earlier (moment_of v) (moment_of u)) (is_before (version_key (f v)) (version_key (f u))) (sym (before_is K (f v) (f u) (moment_of v) (moment_of u) refl refl))
    where
      by : (s b : Bool) → s ≡ b → option_map f (if s then Some u else Some v) ≡ (if b then Some (f u) else Some (f v))
      by true true e = refl
      by false false e = refl
      by true false e = absurd (let n : ⊥ = cc in n)
      by false true e = absurd (let n : ⊥ = cc in n)

  passes_mapped : (v : ExtentVersion) → t (f v) ≡ test v → option_map f (if_extent test v) ≡ if_passes t (f v)
  passes_mapped v e = by (test v) (t (f v)) e
    where
      by : (s b : Bool) → b ≡ s → option_map f (if s then Some v else None) ≡ (if b then Some (f v) else None)
      by true true e = refl
      by false false e = refl
      by true false e = absurd (let n : ⊥ = cc in n)
      by false true e = absurd (let n : ⊥ = cc in n)

  abbrev Same : List ExtentVersion → Type 0
  Same [] = Unit {0}
  Same (v ∷ vs) = (t (f v) ≡ test v) × Same vs

  pub greatest_newest : (best : Option ExtentVersion) (vs : List ExtentVersion) → Same vs → option_map f (greatest_with best test vs) ≡ later_of version_key (option_map f best) (newest version_key t (map f vs))
  greatest_newest best [] h = sym (none_after (option_map f best))
  greatest_newest best (v ∷ vs) h =
      greatest_newest (later_extent best (if_extent test v)) vs h.1
      ∙ (ap (λ z. later_of version_key z (newest version_key t (map f vs))) (later_mapped best (if_extent test v) ∙ ap (later_of version_key (option_map f best)) (passes_mapped v h.0))
      ∙ later_assoc version_key (option_map f best) (if_passes t (f v)) (newest version_key t (map f vs)))

-- ---- what an index holds

no_single : (e : ℕ) (p : Path) (i : ℕ) (vs : List SingleVersion) → list_any (speaks e (index_cell p i)) (map (single_version p) vs) ≡ false
unfolding touches same_cell
no_single e p i [] = refl
no_single e p i (v ∷ vs) = by (sees e (single_version p v)) (same_path p p) (no_single e p i vs)
  where
    by : (s b : Bool) → list_any (speaks e (index_cell p i)) (map (single_version p) vs) ≡ false → ((s && ((b && false) || false)) || list_any (speaks e (index_cell p i)) (map (single_version p) vs)) ≡ false
    by true true h = h
    by true false h = h
    by false b h = h

covered_index : (o : ObjectKey) (d a : List ℕ) (i : ℕ) (x : Option Version) (q : Option Moment) (g : Option ExtentVersion) → IsPunchAt (object_order o.cont (Some o.obj)) x q
    → ((v : ExtentVersion) → g ≡ Some v → covers o.obj.unit i v ≡ true)
    → told (index_cell (akey_path o d a) i) (later_of version_key x (option_map (extent_version (akey_path o d a)) g)) ≡ shown_of o.obj.unit q i g
covered_index o d a i None None None h k = refl
covered_index o d a i None (Some m) g h k = absurd h
covered_index o d a i (Some x) None g h k = absurd h
covered_index o d a i None None (Some v) h k = told_extent (akey_path o d a) i v (k v refl)
covered_index o d a i (Some x) (Some m) None h k = told_punch (index_cell (akey_path o d a) i) x h.0
covered_index o d a i (Some x) (Some m) (Some v) h k =
    by (is_before (version_key (extent_version (akey_path o d a) v)) (version_key x)) (is_earlier (moment_of v) m)
    (ap (is_before (version_key (extent_version (akey_path o d a) v))) h.1 ∙ earlier_before (object_order o.cont (Some o.obj)) (moment_of v) m)
  where
    by : (s b : Bool) → s ≡ b → told (index_cell (akey_path o d a) i) (if s then Some x else Some (extent_version (akey_path o d a) v)) ≡ (if b then None else Some (record_in o.obj.unit i v))
    by true true e = told_punch (index_cell (akey_path o d a) i) x h.0
    by false false e = told_extent (akey_path o d a) i v (k v refl)
    by true false e = absurd (let n : ⊥ = cc in n)
    by false true e = absurd (let n : ⊥ = cc in n)

covers_of : (unit i : ℕ) (e : Epoch) (v : ExtentVersion) → is_seen unit (start_of e) i v ≡ true → covers unit i v ≡ true
covers_of unit i e v h = first (covers unit i v) (is_earlier (moment_of v) (start_of e)) h
  where
    first : (s t : Bool) → (s && t) ≡ true → s ≡ true
    first true t q = refl
    first false t q = absurd (let z : ⊥ = cc in z)

same_seen : (o : ObjectKey) (d a : List ℕ) (e : Epoch) (i : ℕ) (vs : List ExtentVersion) → All (λ v. blocks_read (akey_path o d a) e.0 v ≡ false) (map (extent_version (akey_path o d a)) vs)
    → Same (akey_path o d a) (speaks e.0 (index_cell (akey_path o d a) i)) (is_seen o.obj.unit (start_of e) i) vs
same_seen o d a e i [] h = tt
same_seen o d a e i (v ∷ vs) h = (
  by (covers o.obj.unit i v) refl,
  same_seen o d a e i vs (All-tail (λ v. blocks_read (akey_path o d a) e.0 v ≡ false) (extent_version (akey_path o d a) v) (map (extent_version (akey_path o d a)) vs) h),
)
  where
    and_false : (s : Bool) → (s && false) ≡ false
    and_false true = refl
    and_false false = refl

    by : (b : Bool) → covers o.obj.unit i v ≡ b → speaks e.0 (index_cell (akey_path o d a) i) (extent_version (akey_path o d a) v) ≡ is_seen o.obj.unit (start_of e) i v
    by true q =
        speaks_so e (index_cell (akey_path o d a) i) (extent_version (akey_path o d a) v) (All-head (λ v. blocks_read (akey_path o d a) e.0 v ≡ false) (extent_version (akey_path o d a) v) (map (extent_version (akey_path o d a)) vs) h) (akey_leads o d a) (extent_touches (akey_path o d a) i v.low v.bytes ∙ q)
        ∙ sym (ap (λ (b : Bool). b && is_earlier (moment_of v) (start_of e)) q)
    by false q =
        ap (λ (b : Bool). sees e.0 (extent_version (akey_path o d a) v) && b) (extent_touches (akey_path o d a) i v.low v.bytes ∙ q)
        ∙ (and_false (sees e.0 (extent_version (akey_path o d a) v)) ∙ sym (ap (λ (b : Bool). b && is_earlier (moment_of v) (start_of e)) q))

module _ (m : Blocks) (g : Objects) (o : ObjectKey) (d a : List ℕ) (held : Holds objects_owner m g) (object : IsObjectKey Two o) (dkey : IsName d) (akey : IsName a) (e : Epoch) (settled : IsSettled (akey_path o d a) e g) where
  abbrev v2 : Values
  v2 = akey_of o d a g

  abbrev map_of : List CellValue
  map_of = map_below (in_order version_key (objects_versions g)) e.0

  abbrev punched : Option Moment
  punched = last_punch e (below_object o g).0 (dkey_of o d g).0 v2.0

  -- what the map holds at an index
  pub index_law : (i : ℕ) → value_at map_of (index_cell (akey_path o d a) i) ≡ shown_of o.obj.unit punched i (greatest (is_seen o.obj.unit (start_of e) i) (extents v2.1.1))
  index_law i =
      let p = akey_path o d a in
      let t = speaks e.0 (index_cell p i) in
      let ss = map (single_version p) (versions v2.1.0) in
      let xs = map (extent_version p) (extents v2.1.1) in
      let best = greatest (is_seen o.obj.unit (start_of e) i) (extents v2.1.1) in
      let newest_is : newest version_key t (ss ++ xs) ≡ option_map (extent_version p) best =
      newest_append version_key t ss xs
      ∙ (ap (λ z. later_of version_key z (newest version_key t xs)) (newest_none version_key t ss (no_single e.0 p i (versions v2.1.0)))
      ∙ sym (greatest_newest p t (is_seen o.obj.unit (start_of e) i) None (extents v2.1.1) (same_seen o d a e i (extents v2.1.1) (settled_extents m g o d a held object dkey akey e settled (Some i))))) in
      value_is m g o d a held object dkey akey e settled (Some i) (option_map (extent_version p) best) newest_is
      ∙ covered_index o d a i (punch m g o d a held object dkey akey e settled (Some i)) punched best (punch_is m g o d a held object dkey akey e settled (Some i))
      (λ v q. covers_of o.obj.unit i e v (greatest_is (is_seen o.obj.unit (start_of e) i) (extents v2.1.1) v q).among.passes)

  pub pieces_law : (low n : ℕ) → pieces (akey_path o d a) low n map_of ≡ pieces_at o.obj.unit (start_of e) punched low n (extents v2.1.1)
  unfolding pieces
  pieces_law low zero = refl
  pieces_law low (suc n) =
      ap (λ z. index_before (record_of o.obj.unit z) (pieces (akey_path o d a) (low + 1) n map_of)) (index_law low)
      ∙ ap (index_before (record_of o.obj.unit (shown_of o.obj.unit punched low (greatest (is_seen o.obj.unit (start_of e) low) (extents v2.1.1))))) (pieces_law (low + 1) n)
