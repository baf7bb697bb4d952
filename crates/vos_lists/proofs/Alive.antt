-- An akey has a cell on the map below an epoch just where a value of it is there.
use Rattle.std.proofs.Common.{◌≡◌, ℕ, ◌+◌, ◌*◌, ◌/◌, ◌≤◌, ◌==◌, ◌&&◌, ◌||◌, nat_le, nat_lt, not, Bool, true, false, List, [], ◌∷◌, ◌++◌, Option, Some, None, length, map, refl, sym, ap, ◌∙◌, subst, arith}
use Rattle.std.specs.Prelude.{if◌then◌else◌, is_none, is_some}
use Rattle.std.specs.List.{list_any}
use Rattle.std.specs.Option.{option_eq, option_map}
use Rattle.std.proofs.Math.Nat.{le-div_iff_mul-le}
use Rattle.std.proofs.lemmas.Bool.Decides.{nat_tests}
use Rattle.base_types.specs.Keys.{same_key}
use Rattle.base_types.specs.PathLaws.{leads_to-refl, option_eq-Decides, same_key-Decides, same_object-Decides}
use Rattle.base_types.specs.Paths.{leads_to, same_object}
use Rattle.base_types.specs.declared.answer.Answer.TheVariants.{Absent, Bytes}
use Rattle.base_types.specs.declared.epoch.Epoch.{Epoch}
use Rattle.base_types.specs.declared.path.Path.{Path}
use Rattle.daos_model.specs.Answers.{has_cell_below, value_answer}
use Rattle.daos_model.specs.BoolLaws.{and_left, and_right, clash, or_from_right}
use Rattle.daos_model.specs.Cells.{cell_at, index_cell, single_cell, value_at}
use Rattle.daos_model.specs.Durables.{version_key}
use Rattle.daos_model.specs.Ordered.{in_order}
use Rattle.daos_model.specs.Versions.{map_below}
use Rattle.daos_model.specs.declared.cell.Cell.{Cell}
use Rattle.daos_model.specs.declared.cell.CellValue.{CellValue}
use Rattle.model_laws.specs.ReadLaws.{Held, has-under, under-has}
use Rattle.pmem_pages.specs.Blocks.{Blocks}
use Rattle.pmem_pages.specs.Owners.{Holds}
use Rattle.vos_values.specs.declared.keys.Layout.TheVariants.{Two}
use Rattle.vos_values.specs.declared.keys.Moment.{Moment}
use Rattle.vos_values.specs.declared.keys.ObjectKey.{ObjectKey}
use Rattle.vos_values.specs.Keys.{IsName, IsObjectKey}
use Rattle.vos_levels.specs.Levels.{find_last, things}
use Rattle.vos_levels.specs.Moments.{is_earlier}
use Rattle.vos_path.specs.vos_single.declared.single.SingleVersion.{SingleVersion}
use Rattle.vos_path.specs.vos_single.Singles.{Stored as StoredSingle, is_under, moment_of as moment_of_stored, version_of}
use Rattle.vos_extent.specs.declared.extent.ExtentVersion.{ExtentVersion}
use Rattle.vos_extent.specs.Extents.{Extents, extent_of, extents}
use Rattle.vos_extent.specs.Shown.{covers, greatest, hides, is_hidden, is_seen, moment_of, record_in, shown_of}
use Rattle.vos_extent.proofs.Tops.{greatest_is, none_is}
use Rattle.vos_newest.specs.Newest.{later_of}
use Rattle.vos_newest.proofs.Greatest.{later_assoc}
use Rattle.vos_path.specs.Objects.{Objects, Values, akey_path, objects_owner, objects_versions}
use Rattle.vos_reads.specs.Ways.{IsSettled, akey_of, below_object, dkey_of, last_punch, later_moment, moment_of_single, punched_at, single_answer, start_of}
use Rattle.vos_reads.proofs.Arrays.{index_law}
use Rattle.vos_reads.proofs.Covered.{single_law}
use Rattle.vos_reads.proofs.Rising.{earlier_before, key_at}
use Rattle.vos_lists.specs.declared.view.View.{View}
use Rattle.vos_lists.specs.Stands.{has_extent, has_single, is_there, outlasts, values_stand}
use Rattle.vos_lists.specs.Unders.{over_akeys}
use Rattle.vos_lists.proofs.Walking.{any_found}

-- ---- the last of three punches

moment_later : (x y : Option Moment) → later_moment x y ≡ later_of (key_at []) x y
moment_later None y = refl
moment_later (Some a) None = refl
moment_later (Some a) (Some b) = ap (λ (t : Bool). if t then Some a else Some b) (sym (earlier_before [] b a))

pub later_moments : (x y z : Option Moment) → later_moment (later_moment x y) z ≡ later_moment x (later_moment y z)
later_moments x y z =
    moment_later (later_moment x y) z
    ∙ (ap (λ t. later_of (key_at []) t z) (moment_later x y)
    ∙ (later_assoc (key_at []) x y z ∙ (ap (later_of (key_at []) x) (sym (moment_later y z)) ∙ sym (moment_later x (later_moment y z)))))

-- ---- single values

single_same : (q : Option Moment) (x : Option SingleVersion) (y : Option (List ℕ)) → single_answer q x ≡ value_answer y → outlasts q (option_map moment_of_single x) ≡ is_some y
single_same q None None h = refl
single_same q None (Some b) h = absurd (let n : ⊥ = cc in n)
single_same q (Some v) y h = by (hides q (moment_of_single v)) y h
  where
    by : (t : Bool) (z : Option (List ℕ)) → (if t then Absent else Bytes v.bytes) ≡ value_answer z → not t ≡ is_some z
    by true None e = refl
    by true (Some b) e = absurd (let n : ⊥ = cc in n)
    by false None e = absurd (let n : ⊥ = cc in n)
    by false (Some b) e = refl

moments_same : (x : Option StoredSingle) → option_map moment_of_stored x ≡ option_map moment_of_single (option_map version_of x)
moments_same None = refl
moments_same (Some s) = refl

-- ---- extents

-- one that passes a test
pub record AnyAt {A : Type 0} (test : A → Bool) (xs : List A) : Type 0 where
  pub thing : A
  pub left : List A
  pub right : List A
  pub is : xs ≡ left ++ thing ∷ right
  pub passes : test thing ≡ true

pub any_at : {A : Type 0} (test : A → Bool) (xs : List A) → list_any test xs ≡ true → AnyAt test xs
any_at test [] h = absurd (let n : ⊥ = cc in n)
any_at {A = A} test (x ∷ xs) h = by (test x) refl h (any_at test xs)
  where
    by : (t : Bool) → test x ≡ t → (t || list_any test xs) ≡ true → (list_any test xs ≡ true → AnyAt test xs) → AnyAt test (x ∷ xs)
    by true e k r = record { thing = x; left = []; right = xs; is = refl; passes = e }
    by false e k r = let s = r k in record { thing = s.thing; left = x ∷ s.left; right = s.right; is = ap (λ z. x ∷ z) s.is; passes = s.passes }

any_map : {A B : Type 0} (test : B → Bool) (f : A → B) (xs : List A) → list_any (λ x. test (f x)) xs ≡ list_any test (map f xs)
any_map test f [] = refl
any_map test f (x ∷ xs) = ap (λ b. test (f x) || b) (any_map test f xs)

either : (s t : Bool) → s ≡ true → t ≡ true → (s && t) ≡ true
either true t h k = k
either false t h k = absurd (let n : ⊥ = cc in n)

-- an extent covers an index just where it has a record
first_covered : (unit low len : ℕ) → 1 ≤ unit → nat_le unit len ≡ true → (nat_le low low && nat_lt low (low + len / unit)) ≡ true
first_covered unit low len some h =
    let long : unit ≤ len = grind (arith, nat_tests) in
    let one : 1 ≤ len / unit = (le-div_iff_mul-le {k = unit} {x = 1} {y = len} (omega (arith, some))).1 (omega (arith, long)) in
    grind (arith, nat_tests)

covered_long : (unit low len i : ℕ) → 1 ≤ unit → (nat_le low i && nat_lt i (low + len / unit)) ≡ true → nat_le unit len ≡ true
covered_long unit low len i some h =
    let one : 1 ≤ len / unit = grind (arith, nat_tests) in
    let long : 1 * unit ≤ len = (le-div_iff_mul-le {k = unit} {x = 1} {y = len} (omega (arith, some))).0 one in
    let short : unit ≤ len = omega (arith, long) in
    grind (arith, nat_tests)

before_both : (a b c : Moment) → is_earlier a c ≡ true → is_earlier a b ≡ false → is_earlier b c ≡ true
before_both a b c h k = grind (arith, nat_tests)

module _ (w : View) (some : 1 ≤ w.unit) (q : Option Moment) where
  abbrev seen : ℕ → ExtentVersion → Bool
  seen i v = is_seen w.unit (start_of w.below) i v

  abbrev fits : ExtentVersion → Bool
  fits v = is_there w q (length v.bytes) (moment_of v)

  -- the greatest extent isn't hidden where one that is no later isn't
  stays : (v x : ExtentVersion) → is_earlier (moment_of v) (moment_of x) ≡ false → is_hidden q x ≡ false → is_hidden q v ≡ false
  stays v x later open_ = by q open_
    where
      by : (p : Option Moment) → hides p (moment_of x) ≡ false → hides p (moment_of v) ≡ false
      by None h = refl
      by (Some p) h = split (is_earlier (moment_of v) p) refl
        where
          split : (t : Bool) → is_earlier (moment_of v) p ≡ t → is_earlier (moment_of v) p ≡ false
          split false e = e
          split true e = clash (is_earlier (moment_of x) p) (before_both (moment_of v) (moment_of x) p e later) h

  not_hidden : (t : Bool) → not t ≡ true → t ≡ false
  not_hidden true h = absurd (let n : ⊥ = cc in n)
  not_hidden false h = refl

  -- an index shows something
  pub there_shown : (vs left : List ExtentVersion) (x : ExtentVersion) (right : List ExtentVersion) → vs ≡ left ++ x ∷ right → fits x ≡ true → is_some (shown_of w.unit q x.low (greatest (seen x.low) vs)) ≡ true
  there_shown vs left x right is h =
      let front = and_left (nat_le w.unit (length x.bytes) && is_earlier (moment_of x) (start_of w.below)) (not (hides q (moment_of x))) h in
      let open_ : is_hidden q x ≡ false = not_hidden (hides q (moment_of x)) (and_right (nat_le w.unit (length x.bytes) && is_earlier (moment_of x) (start_of w.below)) (not (hides q (moment_of x))) h) in
      let covers_it : covers w.unit x.low x ≡ true = first_covered w.unit x.low (length x.bytes) some (and_left (nat_le w.unit (length x.bytes)) (is_earlier (moment_of x) (start_of w.below)) front) in
      let passes : seen x.low x ≡ true = either (covers w.unit x.low x) (is_earlier (moment_of x) (start_of w.below)) covers_it (and_right (nat_le w.unit (length x.bytes)) (is_earlier (moment_of x) (start_of w.below)) front) in
      by passes open_ (greatest (seen x.low) vs) refl
    where
      by : seen x.low x ≡ true → is_hidden q x ≡ false → (o : Option ExtentVersion) → greatest (seen x.low) vs ≡ o → is_some (shown_of w.unit q x.low o) ≡ true
      by passes open_ None e = clash (list_any (seen x.low) vs) (ap (list_any (seen x.low)) is ∙ any_found (seen x.low) left x right passes) (none_is None (seen x.low) vs e)
      by passes open_ (Some v) e =
          let top = (greatest_is (seen x.low) vs v e).top x (record { left = left; right = right; is = is; passes = passes }) in
          ap (λ (t : Bool). is_some (if t then None else Some (record_in w.unit x.low v))) (stays v x top open_)

  -- what an index shows is there
  pub shown_there : (vs : List ExtentVersion) (i : ℕ) → is_some (shown_of w.unit q i (greatest (seen i) vs)) ≡ true → list_any fits vs ≡ true
  shown_there vs i h = by (greatest (seen i) vs) refl h
    where
      by : (o : Option ExtentVersion) → greatest (seen i) vs ≡ o → is_some (shown_of w.unit q i o) ≡ true → list_any fits vs ≡ true
      by None e k = absurd (let n : ⊥ = cc in n)
      by (Some v) e k =
          let among = (greatest_is (seen i) vs v e).among in
          let long = covered_long w.unit v.low (length v.bytes) i some (and_left (covers w.unit i v) (is_earlier (moment_of v) (start_of w.below)) among.passes) in
          let before = and_right (covers w.unit i v) (is_earlier (moment_of v) (start_of w.below)) among.passes in
          let open_ : not (is_hidden q v) ≡ true = open_so (is_hidden q v) k in
          let good : fits v ≡ true = either (nat_le w.unit (length v.bytes) && is_earlier (moment_of v) (start_of w.below)) (not (hides q (moment_of v))) (either (nat_le w.unit (length v.bytes)) (is_earlier (moment_of v) (start_of w.below)) long before) open_ in
          ap (list_any fits) among.is ∙ any_found fits among.left v among.right good
        where
          open_so : (t : Bool) → is_some (if t then None else Some (record_in w.unit i v)) ≡ true → not t ≡ true
          open_so true z = absurd (let n : ⊥ = cc in n)
          open_so false z = refl

  pub extents_any : (g : Extents) → has_extent w q g ≡ list_any fits (extents g)
  extents_any g = any_map fits extent_of (things g)

pub same_tests : (s t : Bool) → (s ≡ true → t ≡ true) → (t ≡ true → s ≡ true) → s ≡ t
same_tests true t f h = sym (f refl)
same_tests false true f h = h refl
same_tests false false f h = refl

-- ---- paths

-- what it says of a path that it is led to
pub record Parts (p r : Path) : Type 0 where
  pub cont : (p.cont.0 == r.cont.0) ≡ true
  pub obj : (is_none p.obj || option_eq same_object p.obj r.obj) ≡ true
  pub dkey : (is_none p.dkey || option_eq same_key p.dkey r.dkey) ≡ true
  pub akey : (is_none p.akey || option_eq same_key p.akey r.akey) ≡ true

pub parts_of : (p r : Path) → leads_to p r ≡ true → Parts p r
unfolding leads_to
parts_of p r h =
    let c = p.cont.0 == r.cont.0 in
    let x = is_none p.obj || option_eq same_object p.obj r.obj in
    let y = is_none p.dkey || option_eq same_key p.dkey r.dkey in
    let z = is_none p.akey || option_eq same_key p.akey r.akey in
    let three : (c && x && y) ≡ true = and_left (c && x && y) z h in
    let two : (c && x) ≡ true = and_left (c && x) y three in
    record { cont = and_left c x two; obj = and_right c x two; dkey = and_right (c && x) y three; akey = and_right (c && x && y) z h }

eq_true : (a b : ℕ) → (a == b) ≡ true → a ≡ b
eq_true a b h = grind (arith, nat_tests)

pub same_name : (k : List ℕ) (x : Option (List ℕ)) → option_eq same_key (Some k) x ≡ true → Some k ≡ x
same_name k x h = (option_eq-Decides same_key same_key-Decides (Some k) x).0 h

pub full_path : (o : ObjectKey) (d a : List ℕ) (r : Path) → leads_to (akey_path o d a) r ≡ true → r ≡ akey_path o d a
full_path o d a r h =
    let parts = parts_of (akey_path o d a) r h in
    let cont = eq_true o.cont.0 r.cont.0 parts.cont in
    let obj = (option_eq-Decides same_object same_object-Decides (Some o.obj) r.obj).0 parts.obj in
    let dkey = same_name d r.dkey parts.dkey in
    let akey = same_name a r.akey parts.akey in
    sym (λ i. record { cont = record { 0 = cont i }; obj = obj i; dkey = dkey i; akey = akey i })

-- ---- what the map holds at a cell

pub held_some : (m : List CellValue) (c : Cell) → is_some (value_at m c) ≡ true → Held m c
held_some m c h = by (value_at m c) refl h
  where
    by : (x : Option (List ℕ)) → value_at m c ≡ x → is_some x ≡ true → Held m c
    by None e k = absurd (let n : ⊥ = cc in n)
    by (Some b) e k = record { bytes = b; is = e }

pub some_held : (m : List CellValue) (c : Cell) → Held m c → is_some (value_at m c) ≡ true
some_held m c h = ap is_some h.is

-- ---- the law

module _ (m : Blocks) (g : Objects) (o : ObjectKey) (d a : List ℕ) (held : Holds objects_owner m g) (object : IsObjectKey Two o) (dkey : IsName d) (akey : IsName a) (e : Epoch) (settled : IsSettled (akey_path o d a) e g) where
  abbrev w : View
  w = record { unit = o.obj.unit; below = e }

  abbrev v2 : Values
  v2 = akey_of o d a g

  abbrev p : Path
  p = akey_path o d a

  abbrev map_of : List CellValue
  map_of = map_below (in_order version_key (objects_versions g)) e.0

  abbrev q : Option Moment
  q = last_punch e (below_object o g).0 (dkey_of o d g).0 v2.0

  some_unit : 1 ≤ o.obj.unit
  some_unit = let s = object.size in grind (arith, nat_tests)

  single_held : has_single w q v2.1.0 ≡ is_some (value_at map_of (single_cell p))
  single_held =
      let x = find_last (is_under (start_of e)) (things v2.1.0) in
      ap (outlasts q) (moments_same x)
      ∙ single_same q (option_map version_of x) (value_at map_of (single_cell p)) (single_law m g o d a held object dkey akey e settled)

  extent_held : has_extent w q v2.1.1 ≡ true → has_cell_below p map_of ≡ true
  extent_held h =
      let s = any_at (fits w some_unit q) (extents v2.1.1) (sym (extents_any w some_unit q v2.1.1) ∙ h) in
      let shown = there_shown w some_unit q (extents v2.1.1) s.left s.thing s.right s.is s.passes in
      let here : is_some (value_at map_of (index_cell p s.thing.low)) ≡ true = ap is_some (index_law m g o d a held object dkey akey e settled s.thing.low) ∙ shown in
      has-under p map_of (index_cell p s.thing.low) (leads_to-refl p) (held_some map_of (index_cell p s.thing.low) here)

  cell_there : (i : Option ℕ) → Held map_of (cell_at p i) → (has_single w q v2.1.0 || has_extent w q v2.1.1) ≡ true
  cell_there None h = ap (λ (b : Bool). b || has_extent w q v2.1.1) (single_held ∙ some_held map_of (single_cell p) h)
  cell_there (Some i) h =
      let shown = ap is_some (sym (index_law m g o d a held object dkey akey e settled i)) ∙ some_held map_of (index_cell p i) h in
      or_from_right (has_single w q v2.1.0) (has_extent w q v2.1.1) (extents_any w some_unit q v2.1.1 ∙ shown_there w some_unit q (extents v2.1.1) i shown)

  forth : has_cell_below p map_of ≡ true → (has_single w q v2.1.0 || has_extent w q v2.1.1) ≡ true
  forth h =
      let s = under-has p map_of h in
      let same : s.0 ≡ cell_at p s.0.index = λ i. record { path = full_path o d a s.0.path s.1 i; index = s.0.index } in
      cell_there s.0.index (subst (Held map_of) same s.2)

  back : (has_single w q v2.1.0 || has_extent w q v2.1.1) ≡ true → has_cell_below p map_of ≡ true
  back h = by (has_single w q v2.1.0) refl h
    where
      by : (t : Bool) → has_single w q v2.1.0 ≡ t → (t || has_extent w q v2.1.1) ≡ true → has_cell_below p map_of ≡ true
      by true f k = has-under p map_of (single_cell p) (leads_to-refl p) (held_some map_of (single_cell p) (sym single_held ∙ f))
      by false f k = extent_held k

  pub akey_law : has_cell_below (akey_path o d a) (map_below (in_order version_key (objects_versions g)) e.0) ≡ values_stand (record { unit = o.obj.unit; below = e }) (over_akeys (record { unit = o.obj.unit; below = e }) o d g) (akey_of o d a g)
  akey_law =
      same_tests (has_cell_below p map_of) (has_single w q v2.1.0 || has_extent w q v2.1.1) forth back
      ∙ ap (λ z. has_single w z v2.1.0 || has_extent w z v2.1.1) (sym (later_moments (punched_at e (below_object o g).0) (punched_at e (dkey_of o d g).0) (punched_at e v2.0)))
