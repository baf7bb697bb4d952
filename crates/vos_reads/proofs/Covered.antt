-- A single value below an epoch is that of its newest version, unless a punch of its akey, dkey or object is later.
use Rattle.std.proofs.Common.{◌≡◌, ℕ, ◌+◌, ◌==◌, ◌&&◌, ◌||◌, nat_lt, not, Bool, true, false, List, [], ◌∷◌, ◌++◌, Option, Some, None, map, refl, sym, ap, ◌∙◌, subst, arith}
use Rattle.std.specs.Prelude.{All, filter, if◌then◌else◌}
use Rattle.std.specs.List.{find, list_any}
use Rattle.std.specs.Option.{option_map}
use Rattle.std.proofs.lemmas.Bool.Decides.{nat_tests}
use Rattle.std.proofs.lemmas.List.Elements.{All-cons, All-head, All-nil, All-tail}
use Rattle.base_types.specs.Operations.{write_path}
use Rattle.base_types.specs.PathLaws.{same_key-Decides, same_object-Decides}
use Rattle.base_types.specs.Paths.{leads_to, overlaps, same_path}
use Rattle.base_types.specs.declared.answer.Answer.TheVariants.{Absent, Bytes}
use Rattle.base_types.specs.declared.epoch.Epoch.{Epoch}
use Rattle.base_types.specs.declared.operation.Read.TheVariants as read
use Rattle.base_types.specs.declared.operation.Write.{Write}
use Rattle.base_types.specs.declared.operation.Write.TheVariants.{Extent, PunchAkey, PunchDkey, PunchObject, Single}
use Rattle.base_types.specs.declared.path.Path.{Path}
use Rattle.daos_model.specs.Answers.{answer, is_before, value_answer}
use Rattle.daos_model.specs.Cells.{cell_at, is_of, same_cell, single_cell, value_at}
use Rattle.daos_model.specs.Durables.{object_key as object_order, version_key}
use Rattle.daos_model.specs.Effect.{record_cells, records_of}
use Rattle.base_types.specs.Paths.{record_size}
use Rattle.daos_model.specs.Ordered.{in_order}
use Rattle.daos_model.specs.Prunes.{is_punch as is_punch_write, touches, values_of}
use Rattle.daos_model.specs.Sameness.{same_cell-Decides}
use Rattle.daos_model.specs.Versions.{blocks_read, first_blocking, map_below, sees, version_path}
use Rattle.daos_model.specs.declared.cell.Cell.{Cell}
use Rattle.daos_model.specs.declared.durable.Version.{Version}
use Rattle.pmem_pages.specs.Blocks.{Blocks}
use Rattle.pmem_pages.specs.Owners.{Holds}
use Rattle.pmem_pages.specs.Shape.{entries}
use Rattle.vos_values.specs.declared.keys.Layout.TheVariants.{Two}
use Rattle.vos_values.specs.declared.keys.Moment.{Moment}
use Rattle.vos_values.specs.declared.keys.ObjectKey.{ObjectKey}
use Rattle.vos_values.specs.Keys.{IsName, IsObjectKey, name_key, object_key}
use Rattle.vos_levels.specs.Levels.{find_last, hung, is_level, things}
use Rattle.vos_levels.specs.Moments.{Rise, is_earlier}
use Rattle.vos_levels.proofs.Moments.{things_rise}
use Rattle.vos_ilog.specs.declared.ilog.LogEntry.{LogEntry}
use Rattle.vos_ilog.specs.Logs.{Log, is_punch_below, is_under as is_entry_under, log_level, log_owner, moment_of}
use Rattle.vos_single.specs.declared.single.SingleVersion.{SingleVersion}
use Rattle.vos_single.specs.Singles.{Singles, Stored, is_under, moment_of as moment_of_stored, single_level, single_owner, version_of, versions}
use Rattle.vos_extent.specs.declared.extent.ExtentVersion.{ExtentVersion}
use Rattle.vos_extent.specs.Extents.{extents}
use Rattle.vos_path.specs.Objects.{Akey, Below, Dkey, Object, Objects, Values, akey_level, akey_path, akey_versions, akeys_versions, below_dkey_versions, below_object_versions, below_owner, dkey_level, dkey_path, dkey_versions, dkeys_versions, extent_version, held_below, held_values, is_punch, listed, no_below, no_values, object_level, object_path, object_versions, objects_owner, objects_versions, punch_version, punches, single_version, values_owner, values_versions}
use Rattle.vos_path.proofs.AkeyWrites.{akey_holds}
use Rattle.vos_path.proofs.DkeyWrites.{dkey_holds, object_holds, objects_exact}
use Rattle.vos_path.proofs.Finding.{listed_found}
use Rattle.vos_path.proofs.Naming.{name_exact}
use Rattle.vos_path.proofs.NewVersions.{all_left, all_listed, all_right}
use Rattle.vos_path.proofs.Putting.{level_equal}
use Rattle.vos_path.proofs.Written.{holds_first, holds_log, holds_second, holds_single}
use Rattle.vos_newest.specs.Newest.{later_of, newest, speaks, told}
use Rattle.vos_newest.proofs.Greatest.{later_assoc, newest_append, newest_none}
use Rattle.vos_newest.proofs.Speaking.{cell_holds}
use Rattle.vos_reads.specs.Ways.{akey_of, dkey_of, IsSettled, below_akey, below_dkey, below_object, last_punch, later_moment, moment_of_single, punched_at, single_answer, start_of}
use Rattle.vos_reads.proofs.Quiet.{any_false, dkey_paths, leads_akey, leads_dkey, leads_object, level_own, newest_one, object_paths, speaks_leads, values_paths}
use Rattle.vos_reads.proofs.Rising.{AgreeOn, IsPunchAt, earlier_before, last_filter, later_punch, mapped_punch, rise_filter, rising_newest}

clash : {X : Type 0} (b : Bool) → b ≡ true → b ≡ false → X
clash true h k = absurd (let n : ⊥ = cc in n)
clash false h k = absurd (let n : ⊥ = cc in n)

eq_refl : (n : ℕ) → (n == n) ≡ true
eq_refl n = grind (arith, nat_tests)

-- ---- what covers a path

four : (a b c d : Bool) → a ≡ true → b ≡ true → c ≡ true → d ≡ true → (a && b && c && d) ≡ true
four true true true true h i j k = refl
four false b c d h i j k = absurd (let n : ⊥ = cc in n)
four true false c d h i j k = absurd (let n : ⊥ = cc in n)
four true true false d h i j k = absurd (let n : ⊥ = cc in n)
four true true true false h i j k = absurd (let n : ⊥ = cc in n)

module _ (o : ObjectKey) (d a : List ℕ) where
  abbrev p : Path
  p = akey_path o d a

  object_leads : leads_to (object_path o) p ≡ true
  unfolding leads_to
  object_leads = four _ _ _ _ (eq_refl o.cont.0) ((same_object-Decides o.obj o.obj).1 refl) refl refl

  dkey_leads : leads_to (dkey_path o d) p ≡ true
  unfolding leads_to
  dkey_leads = four _ _ _ _ (eq_refl o.cont.0) ((same_object-Decides o.obj o.obj).1 refl) ((same_key-Decides d d).1 refl) refl

  pub akey_leads : leads_to (akey_path o d a) p ≡ true
  unfolding leads_to
  akey_leads = four _ _ _ _ (eq_refl o.cont.0) ((same_object-Decides o.obj o.obj).1 refl) ((same_key-Decides d d).1 refl) ((same_key-Decides a a).1 refl)

or_true : (s t : Bool) → t ≡ true → (s || t) ≡ true
or_true true t h = refl
or_true false t h = h

over : (p q : Path) → leads_to q p ≡ true → overlaps p q ≡ true
unfolding overlaps
over p q h = or_true (leads_to p q) (leads_to q p) h

-- ---- settled versions

none_blocks : (p : Path) (e : ℕ) (vs : List Version) → find (blocks_read p e) vs ≡ None → All (λ v. blocks_read p e v ≡ false) vs
none_blocks p e [] h = All-nil _
none_blocks p e (v ∷ vs) h = by (blocks_read p e v) refl h (none_blocks p e vs)
  where
    by : (b : Bool) → blocks_read p e v ≡ b → (if b then Some v else find (blocks_read p e) vs) ≡ None → (find (blocks_read p e) vs ≡ None → All (λ u. blocks_read p e u ≡ false) vs) → All (λ u. blocks_read p e u ≡ false) (v ∷ vs)
    by true q f r = absurd (let n : ⊥ = cc in n)
    by false q f r = All-cons (λ u. blocks_read p e u ≡ false) v vs q (r f)

all_settled : (p : Path) (e : Epoch) (g : Objects) → IsSettled p e g → All (λ v. blocks_read p e.0 v ≡ false) (objects_versions g)
unfolding first_blocking
all_settled p e g h = none_blocks p e.0 (objects_versions g) h

settled_bits : (done lt ov : Bool) → (not done && lt && ov) ≡ false → ov ≡ true → (done && lt) ≡ lt
settled_bits true lt ov h k = refl
settled_bits false false ov h k = refl
settled_bits false true true h k = absurd (let n : ⊥ = cc in n)
settled_bits false true false h k = absurd (let n : ⊥ = cc in n)

settled_sees : (p : Path) (e : ℕ) (v : Version) → blocks_read p e v ≡ false → overlaps p (version_path v) ≡ true → sees e v ≡ nat_lt v.epoch.0 e
unfolding blocks_read sees
settled_sees p e v h k = settled_bits v.done (nat_lt v.epoch.0 e) (overlaps p (version_path v)) h k

under_is : (e : Epoch) (m : Moment) → nat_lt m.epoch.0 e.0 ≡ is_earlier m (start_of e)
under_is e m = grind (arith, nat_tests)

pub speaks_so : (e : Epoch) (c : Cell) (v : Version) → blocks_read c.path e.0 v ≡ false → leads_to (version_path v) c.path ≡ true → touches c v.write ≡ true → speaks e.0 c v ≡ is_earlier (record { epoch = v.epoch; minor = v.minor }) (start_of e)
speaks_so e c v h l t =
    ap (λ (b : Bool). sees e.0 v && b) t ∙ (and_true (sees e.0 v) ∙ (settled_sees c.path e.0 v h (over c.path (version_path v) l) ∙ under_is e (record { epoch = v.epoch; minor = v.minor })))
  where
    and_true : (b : Bool) → (b && true) ≡ b
    and_true true = refl
    and_true false = refl

-- ---- the parts

punch_touches : (c : Cell) (w : Write) → is_punch_write w ≡ true → leads_to (write_path w) c.path ≡ true → touches c w ≡ true
unfolding touches
punch_touches c w k h = ap (λ (b : Bool). if b then leads_to (write_path w) c.path else list_any (is_of c) (values_of w)) k ∙ h

module _ (e : Epoch) (c : Cell) where
  abbrev N : List Version → Option Version
  N vs = newest version_key (speaks e.0 c) vs

  agree_punches : (w : Write) → touches c w ≡ true → leads_to (write_path w) c.path ≡ true → (xs : List LogEntry) → All (λ v. blocks_read c.path e.0 v ≡ false) (map (punch_version w) xs) → AgreeOn (λ x. speaks e.0 c (punch_version w x)) (is_entry_under (start_of e)) xs
  agree_punches w t l [] h = tt
  agree_punches w t l (x ∷ xs) h = (
    speaks_so e c (punch_version w x) (All-head (λ v. blocks_read c.path e.0 v ≡ false) (punch_version w x) (map (punch_version w) xs) h) l t,
    agree_punches w t l xs (All-tail (λ v. blocks_read c.path e.0 v ≡ false) (punch_version w x) (map (punch_version w) xs) h),
  )

  pub newest_punch : (w : Write) → is_punch_write w ≡ true → leads_to (write_path w) c.path ≡ true → (m : Blocks) (g : Log) → Holds log_owner m g → All (λ v. blocks_read c.path e.0 v ≡ false) (punches w g)
      → N (punches w g) ≡ option_map (punch_version w) (find_last (is_punch_below (start_of e)) (things g))
  newest_punch w k l m g h settled =
      let rise : Rise moment_of (things g) = things_rise log_level moment_of (λ v good. good.moment) (λ v. refl) (entries g.0) g.1 h.here.1.leads h.here.1.rises in
      rising_newest moment_of (punch_version w) (object_order (write_path w).cont (write_path w).obj) (λ x. refl) (speaks e.0 c) (is_entry_under (start_of e)) (filter is_punch (things g)) (rise_filter moment_of is_punch (things g) rise) (agree_punches w (punch_touches c w k l) l (filter is_punch (things g)) settled)
      ∙ ap (option_map (punch_version w)) (last_filter is_punch (is_entry_under (start_of e)) (things g))

single_touches : (p : Path) (bytes : List ℕ) → touches (single_cell p) (Single p bytes) ≡ true
unfolding touches
single_touches p bytes = ap (λ b. b || false) ((same_cell-Decides (single_cell p) (single_cell p)).1 refl)

map_map : {A B C : Type 0} (f : B → C) (g : A → B) (xs : List A) → map f (map g xs) ≡ map (λ x. f (g x)) xs
map_map f g [] = refl
map_map f g (x ∷ xs) = ap (λ z. f (g x) ∷ z) (map_map f g xs)

option_twice : {A B C : Type 0} (f : B → C) (g : A → B) (x : Option A) → option_map (λ z. f (g z)) x ≡ option_map f (option_map g x)
option_twice f g None = refl
option_twice f g (Some a) = refl

agree_singles : (e : Epoch) (p : Path) → leads_to p p ≡ true → (xs : List Stored) → All (λ v. blocks_read p e.0 v ≡ false) (map (λ x. single_version p (version_of x)) xs) → AgreeOn (λ x. speaks e.0 (single_cell p) (single_version p (version_of x))) (is_under (start_of e)) xs
agree_singles e p l [] h = tt
agree_singles e p l (x ∷ xs) h = (
  speaks_so e (single_cell p) (single_version p (version_of x)) (All-head (λ v. blocks_read p e.0 v ≡ false) (single_version p (version_of x)) (map (λ y. single_version p (version_of y)) xs) h) l (single_touches p x.version.bytes),
  agree_singles e p l xs (All-tail (λ v. blocks_read p e.0 v ≡ false) (single_version p (version_of x)) (map (λ y. single_version p (version_of y)) xs) h),
)

newest_version : (e : Epoch) (p : Path) → leads_to p p ≡ true → (m : Blocks) (g : Singles) → Holds single_owner m g → All (λ v. blocks_read p e.0 v ≡ false) (map (single_version p) (versions g))
    → newest version_key (speaks e.0 (single_cell p)) (map (single_version p) (versions g)) ≡ option_map (single_version p) (option_map version_of (find_last (is_under (start_of e)) (things g)))
newest_version e p l m g h settled =
    let rise : Rise moment_of_stored (things g) = things_rise single_level moment_of_stored (λ v good. good.moment) (λ v. refl) (entries g.0) g.1 h.here.1.leads h.here.1.rises in
    let flat = map_map (single_version p) version_of (things g) in
    ap (newest version_key (speaks e.0 (single_cell p))) flat
    ∙ (rising_newest moment_of_stored (λ x. single_version p (version_of x)) (object_order p.cont p.obj) (λ x. refl) (speaks e.0 (single_cell p)) (is_under (start_of e)) (things g) rise (agree_singles e p l (things g) (subst (All (λ v. blocks_read p e.0 v ≡ false)) flat settled))
    ∙ option_twice (single_version p) version_of (find_last (is_under (start_of e)) (things g)))

-- extents set no single value
no_index : (p q : Path) (i : ℕ) (rs : List (List ℕ)) → list_any (is_of (single_cell p)) (record_cells q i rs) ≡ false
unfolding same_cell
no_index p q i [] = refl
no_index p q i (r ∷ rs) = by (same_path q p) (no_index p q (i + 1) rs)
  where
    by : (b : Bool) → list_any (is_of (single_cell p)) (record_cells q (i + 1) rs) ≡ false → ((b && false) || list_any (is_of (single_cell p)) (record_cells q (i + 1) rs)) ≡ false
    by true h = h
    by false h = h

extent_silent : (e : ℕ) (p q : Path) (low : ℕ) (bytes : List ℕ) (s : Bool) → (s && touches (single_cell p) (Extent q low bytes)) ≡ false
unfolding touches
extent_silent e p q low bytes true = no_index p q low (records_of (record_size q) bytes)
extent_silent e p q low bytes false = refl

no_extent : (e : ℕ) (p q : Path) (g : List ExtentVersion) → list_any (speaks e (single_cell p)) (map (extent_version q) g) ≡ false
no_extent e p q [] = refl
no_extent e p q (v ∷ vs) = by (speaks e (single_cell p) (extent_version q v)) (extent_silent e p q v.low v.bytes (sees e (extent_version q v))) (no_extent e p q vs)
  where
    by : (b : Bool) → b ≡ false → list_any (speaks e (single_cell p)) (map (extent_version q) vs) ≡ false → (b || list_any (speaks e (single_cell p)) (map (extent_version q) vs)) ≡ false
    by true h r = absurd (let n : ⊥ = cc in n)
    by false h r = r

-- ---- the answer

told_single : (p : Path) (v : SingleVersion) → told (single_cell p) (Some (single_version p v)) ≡ Some v.bytes
told_single p v = ap (λ (b : Bool). if b then Some v.bytes else None) ((same_cell-Decides (single_cell p) (single_cell p)).1 refl)

pub told_punch : (c : Cell) (x : Version) → is_punch_write x.write ≡ true → told c (Some x) ≡ None
told_punch c x h = ap (λ (b : Bool). if b then None else value_at (values_of x.write) c) h

pub covered_answer : (o : ObjectKey) (d a : List ℕ) (x : Option Version) (q : Option Moment) (s : Option SingleVersion) → IsPunchAt (object_order o.cont (Some o.obj)) x q
    → value_answer (told (single_cell (akey_path o d a)) (later_of version_key x (option_map (single_version (akey_path o d a)) s))) ≡ single_answer q s
covered_answer o d a None None None h = refl
covered_answer o d a None (Some m) s h = absurd h
covered_answer o d a (Some x) None s h = absurd h
covered_answer o d a None None (Some v) h = ap value_answer (told_single (akey_path o d a) v)
covered_answer o d a (Some x) (Some m) None h = ap value_answer (told_punch (single_cell (akey_path o d a)) x h.0)
covered_answer o d a (Some x) (Some m) (Some v) h =
    by (is_before (version_key (single_version (akey_path o d a) v)) (version_key x)) (is_earlier (moment_of_single v) m)
    (ap (is_before (version_key (single_version (akey_path o d a) v))) h.1 ∙ earlier_before (object_order o.cont (Some o.obj)) (moment_of_single v) m)
  where
    by : (s b : Bool) → s ≡ b → value_answer (told (single_cell (akey_path o d a)) (if s then Some x else Some (single_version (akey_path o d a) v))) ≡ (if b then Absent else Bytes v.bytes)
    by true true e = ap value_answer (told_punch (single_cell (akey_path o d a)) x h.0)
    by false false e = ap value_answer (told_single (akey_path o d a) v)
    by true false e = absurd (let n : ⊥ = cc in n)
    by false true e = absurd (let n : ⊥ = cc in n)

module _ (m : Blocks) (g : Objects) (o : ObjectKey) (d a : List ℕ) (held : Holds objects_owner m g) (object : IsObjectKey Two o) (dkey : IsName d) (akey : IsName a) (e : Epoch) (settled : IsSettled (akey_path o d a) e g) (idx : Option ℕ) where
  abbrev c : Cell
  c = cell_at (akey_path o d a) idx

  abbrev Fine : Version → Type 0
  Fine v = blocks_read (akey_path o d a) e.0 v ≡ false

  abbrev b0 : Below Dkey
  b0 = below_object o g

  abbrev b1 : Below Akey
  b1 = below_dkey d b0.1

  abbrev b2 : Values
  b2 = below_akey a b1.1

  pub holds0 : Holds (below_owner dkey_level) m b0
  holds0 = object_holds m g o held

  pub holds1 : Holds (below_owner akey_level) m b1
  holds1 = dkey_holds m b0.1 d (holds_second log_owner (hung dkey_level) m b0 holds0)

  pub holds2 : Holds values_owner m b2
  holds2 = akey_holds m b1.1 a (holds_second log_owner (hung akey_level) m b1 holds1)

  -- ---- from all versions to those of the akey

  pub listed0 : listed object_versions (find (is_level object_level (object_key o)) (things g)) ≡ below_object_versions o b0
  listed0 = listed_found 1 held_below (below_owner dkey_level) object_level.key object_level.value object_level.Good (object_key o) m g held no_below object_versions (below_object_versions o) refl (λ b ok level. ap (λ z. below_object_versions z b.holds) (objects_exact o object b ok level))

  dkey_exact : (b : Dkey) → IsName b.name → is_level dkey_level (name_key d) b ≡ true → b.name ≡ d
  dkey_exact b ok level = sym (name_exact d b.name dkey ok (level_equal dkey_level (name_key d) b level))

  pub listed1 : listed (dkey_versions o) (find (is_level dkey_level (name_key d)) (things b0.1)) ≡ below_dkey_versions o d b1
  listed1 = listed_found 2 held_below (below_owner akey_level) dkey_level.key dkey_level.value dkey_level.Good (name_key d) m b0.1 (holds_second log_owner (hung dkey_level) m b0 holds0) no_below (dkey_versions o) (below_dkey_versions o d) refl (λ b ok level. ap (λ z. below_dkey_versions o z b.holds) (dkey_exact b ok level))

  akey_exact : (b : Akey) → IsName b.name → is_level akey_level (name_key a) b ≡ true → b.name ≡ a
  akey_exact b ok level = sym (name_exact a b.name akey ok (level_equal akey_level (name_key a) b level))

  pub listed2 : listed (akey_versions o d) (find (is_level akey_level (name_key a)) (things b1.1)) ≡ values_versions (akey_path o d a) b2
  listed2 = listed_found 3 held_values values_owner akey_level.key akey_level.value akey_level.Good (name_key a) m b1.1 (holds_second log_owner (hung akey_level) m b1 holds1) no_values (akey_versions o d) (values_versions (akey_path o d a)) refl (λ b ok level. ap (λ z. values_versions (akey_path o d z) b.holds) (akey_exact b ok level))

  quiet0 : (x : Object) → object_level.Good x → is_level object_level (object_key o) x ≡ false → list_any (speaks e.0 c) (object_versions x) ≡ false
  quiet0 x ok no_level =
      any_false (speaks e.0 c) (λ v. leads_to (version_path v) c.path ≡ true → x.name ≡ o) (object_versions x)
      (object_paths (λ q. leads_to q c.path ≡ true → x.name ≡ o) x.name x.holds (leads_object x.name o (object_path x.name) c.path refl refl refl refl)
      (λ y. leads_object x.name o (dkey_path x.name y) c.path refl refl refl refl) (λ y z. leads_object x.name o (akey_path x.name y z) c.path refl refl refl refl))
      (λ v named s. clash (is_level object_level (object_key o) x) (level_own object_level (object_key o) x (ap object_key (named (speaks_leads e.0 c v s)))) no_level)

  quiet1 : (x : Dkey) → dkey_level.Good x → is_level dkey_level (name_key d) x ≡ false → list_any (speaks e.0 c) (dkey_versions o x) ≡ false
  quiet1 x ok no_level =
      any_false (speaks e.0 c) (λ v. leads_to (version_path v) c.path ≡ true → x.name ≡ d) (dkey_versions o x)
      (dkey_paths (λ q. leads_to q c.path ≡ true → x.name ≡ d) o x.name x.holds (leads_dkey x.name d (dkey_path o x.name) c.path refl refl) (λ y. leads_dkey x.name d (akey_path o x.name y) c.path refl refl))
      (λ v named s. clash (is_level dkey_level (name_key d) x) (level_own dkey_level (name_key d) x (ap name_key (named (speaks_leads e.0 c v s)))) no_level)

  quiet2 : (x : Akey) → akey_level.Good x → is_level akey_level (name_key a) x ≡ false → list_any (speaks e.0 c) (akey_versions o d x) ≡ false
  quiet2 x ok no_level =
      any_false (speaks e.0 c) (λ v. leads_to (version_path v) c.path ≡ true → x.name ≡ a) (akey_versions o d x)
      (values_paths (λ q. leads_to q c.path ≡ true → x.name ≡ a) o (akey_path o d x.name) x.holds (leads_akey x.name a (akey_path o d x.name) c.path refl refl))
      (λ v named s. clash (is_level akey_level (name_key a) x) (level_own akey_level (name_key a) x (ap name_key (named (speaks_leads e.0 c v s)))) no_level)

  -- ---- all of them are settled

  fine0 : All Fine (below_object_versions o b0)
  fine0 = subst (All Fine) listed0 (all_listed Fine object_versions (is_level object_level (object_key o)) (things g) (all_settled (akey_path o d a) e g settled))

  fine1 : All Fine (below_dkey_versions o d b1)
  fine1 = subst (All Fine) listed1 (all_listed Fine (dkey_versions o) (is_level dkey_level (name_key d)) (things b0.1) (all_right Fine (punches (PunchObject (object_path o)) b0.0) (dkeys_versions o b0.1) fine0))

  fine2 : All Fine (values_versions (akey_path o d a) b2)
  fine2 = subst (All Fine) listed2 (all_listed Fine (akey_versions o d) (is_level akey_level (name_key a)) (things b1.1) (all_right Fine (punches (PunchDkey (dkey_path o d)) b1.0) (akeys_versions o d b1.1) fine1))

  -- ---- the newest of each part

  abbrev last : Log → Option LogEntry
  last l = find_last (is_punch_below (start_of e)) (things l)

  part0 : N e c (objects_versions g) ≡ later_of version_key (option_map (punch_version (PunchObject (object_path o))) (last b0.0)) (N e c (dkeys_versions o b0.1))
  part0 =
      newest_one object_level (object_key o) (speaks e.0 c) object_versions quiet0 m g held
      ∙ (ap (N e c) listed0
      ∙ (newest_append version_key (speaks e.0 c) (punches (PunchObject (object_path o)) b0.0) (dkeys_versions o b0.1)
      ∙ ap (λ z. later_of version_key z (N e c (dkeys_versions o b0.1))) (newest_punch e c (PunchObject (object_path o)) refl (object_leads o d a) m b0.0 (holds_first log_owner (hung dkey_level) m b0 holds0) (all_left Fine (punches (PunchObject (object_path o)) b0.0) (dkeys_versions o b0.1) fine0))))

  part1 : N e c (dkeys_versions o b0.1) ≡ later_of version_key (option_map (punch_version (PunchDkey (dkey_path o d))) (last b1.0)) (N e c (akeys_versions o d b1.1))
  part1 =
      newest_one dkey_level (name_key d) (speaks e.0 c) (dkey_versions o) quiet1 m b0.1 (holds_second log_owner (hung dkey_level) m b0 holds0)
      ∙ (ap (N e c) listed1
      ∙ (newest_append version_key (speaks e.0 c) (punches (PunchDkey (dkey_path o d)) b1.0) (akeys_versions o d b1.1)
      ∙ ap (λ z. later_of version_key z (N e c (akeys_versions o d b1.1))) (newest_punch e c (PunchDkey (dkey_path o d)) refl (dkey_leads o d a) m b1.0 (holds_first log_owner (hung akey_level) m b1 holds1) (all_left Fine (punches (PunchDkey (dkey_path o d)) b1.0) (akeys_versions o d b1.1) fine1))))

  abbrev singles_of : List Version
  singles_of = map (single_version (akey_path o d a)) (versions b2.1.0)

  abbrev extents_of : List Version
  extents_of = map (extent_version (akey_path o d a)) (extents b2.1.1)

  part2 : N e c (akeys_versions o d b1.1) ≡ later_of version_key (option_map (punch_version (PunchAkey (akey_path o d a))) (last b2.0)) (N e c (singles_of ++ extents_of))
  part2 =
      let p = akey_path o d a in
      let ps = punches (PunchAkey p) b2.0 in
      newest_one akey_level (name_key a) (speaks e.0 c) (akey_versions o d) quiet2 m b1.1 (holds_second log_owner (hung akey_level) m b1 holds1)
      ∙ (ap (N e c) listed2
      ∙ (newest_append version_key (speaks e.0 c) ps (singles_of ++ extents_of)
      ∙ ap (λ z. later_of version_key z (N e c (singles_of ++ extents_of))) (newest_punch e c (PunchAkey p) refl (akey_leads o d a) m b2.0 (holds_log m b2 holds2) (all_left Fine ps (singles_of ++ extents_of) fine2))))

  pub settled_singles : All Fine singles_of
  settled_singles = all_left Fine singles_of extents_of (all_right Fine (punches (PunchAkey (akey_path o d a)) b2.0) (singles_of ++ extents_of) fine2)

  pub settled_extents : All Fine extents_of
  settled_extents = all_right Fine singles_of extents_of (all_right Fine (punches (PunchAkey (akey_path o d a)) b2.0) (singles_of ++ extents_of) fine2)

  -- the newest punch, and what the cell holds by it and the newest update
  abbrev pub punch : Option Version
  punch = later_of version_key (option_map (punch_version (PunchObject (object_path o))) (last b0.0)) (later_of version_key (option_map (punch_version (PunchDkey (dkey_path o d))) (last b1.0)) (option_map (punch_version (PunchAkey (akey_path o d a))) (last b2.0)))

  pub punch_is : IsPunchAt (object_order o.cont (Some o.obj)) punch (last_punch e b0.0 b1.0 b2.0)
  punch_is =
      let K = object_order o.cont (Some o.obj) in
      let x0 = option_map (punch_version (PunchObject (object_path o))) (last b0.0) in
      let x1 = option_map (punch_version (PunchDkey (dkey_path o d))) (last b1.0) in
      let x2 = option_map (punch_version (PunchAkey (akey_path o d a))) (last b2.0) in
      later_punch K x0 (later_of version_key x1 x2) (punched_at e b0.0) (later_moment (punched_at e b1.0) (punched_at e b2.0)) (mapped_punch K (punch_version (PunchObject (object_path o))) moment_of (λ z. refl) (λ z. refl) (last b0.0))
      (later_punch K x1 x2 (punched_at e b1.0) (punched_at e b2.0) (mapped_punch K (punch_version (PunchDkey (dkey_path o d))) moment_of (λ z. refl) (λ z. refl) (last b1.0)) (mapped_punch K (punch_version (PunchAkey (akey_path o d a))) moment_of (λ z. refl) (λ z. refl) (last b2.0)))

  pub value_is : (s : Option Version) → N e c (singles_of ++ extents_of) ≡ s → value_at (map_below (in_order version_key (objects_versions g)) e.0) c ≡ told c (later_of version_key punch s)
  value_is s is =
      let x0 = option_map (punch_version (PunchObject (object_path o))) (last b0.0) in
      let x1 = option_map (punch_version (PunchDkey (dkey_path o d))) (last b1.0) in
      let x2 = option_map (punch_version (PunchAkey (akey_path o d a))) (last b2.0) in
      let all : N e c (objects_versions g) ≡ later_of version_key punch s =
      part0 ∙ (ap (later_of version_key x0) (part1 ∙ ap (later_of version_key x1) (part2 ∙ ap (later_of version_key x2) is))
      ∙ (ap (later_of version_key x0) (sym (later_assoc version_key x1 x2 s)) ∙ sym (later_assoc version_key x0 (later_of version_key x1 x2) s))) in
      cell_holds (objects_versions g) e.0 c ∙ ap (told c) all

-- ---- a single value

pub none_after : (x : Option Version) → later_of version_key x None ≡ x
none_after None = refl
none_after (Some v) = refl

module _ (m : Blocks) (g : Objects) (o : ObjectKey) (d a : List ℕ) (held : Holds objects_owner m g) (object : IsObjectKey Two o) (dkey : IsName d) (akey : IsName a) (e : Epoch) (settled : IsSettled (akey_path o d a) e g) where
  abbrev v2 : Values
  v2 = akey_of o d a g

  abbrev single : Option SingleVersion
  single = option_map version_of (find_last (is_under (start_of e)) (things v2.1.0))

  pub single_law : single_answer (last_punch e (below_object o g).0 (dkey_of o d g).0 v2.0) single ≡ answer (read.Single (akey_path o d a)) (map_below (in_order version_key (objects_versions g)) e.0)
  single_law =
      let p = akey_path o d a in
      let ss = map (single_version p) (versions v2.1.0) in
      let xs = map (extent_version p) (extents v2.1.1) in
      let newest_is : newest version_key (speaks e.0 (single_cell p)) (ss ++ xs) ≡ option_map (single_version p) single =
      newest_append version_key (speaks e.0 (single_cell p)) ss xs
      ∙ (ap (later_of version_key (newest version_key (speaks e.0 (single_cell p)) ss)) (newest_none version_key (speaks e.0 (single_cell p)) xs (no_extent e.0 p p (extents v2.1.1)))
      ∙ (none_after (newest version_key (speaks e.0 (single_cell p)) ss)
      ∙ newest_version e p (akey_leads o d a) m v2.1.0 (holds_single m v2 (holds2 m g o d a held object dkey akey e settled None)) (settled_singles m g o d a held object dkey akey e settled None))) in
      sym (ap value_answer (value_is m g o d a held object dkey akey e settled None (option_map (single_version p) single) newest_is)
      ∙ covered_answer o d a (punch m g o d a held object dkey akey e settled None) (last_punch e (below_object o g).0 (dkey_of o d g).0 v2.0) single (punch_is m g o d a held object dkey akey e settled None))
