-- Of the versions that stand in blocks one at most that is done has a name.
use Rattle.std.proofs.Common.{◌≡◌, ◌≤◌, ◌+◌, ◌==◌, ℕ, Bool, true, false, List, [], ◌∷◌, ◌++◌, Option, Some, None, map, refl, sym, ap, ◌∙◌, inl, inr, arith}
use Rattle.std.specs.Prelude.{filter, if◌then◌else◌}
use Rattle.std.specs.List.{find, list_any}
use Rattle.std.proofs.lemmas.Bool.Decides.{nat_tests}
use Rattle.base_types.specs.Paths.{same_path}
use Rattle.base_types.specs.declared.id.ObjId.{ObjId}
use Rattle.base_types.specs.declared.operation.Write.{Write}
use Rattle.base_types.specs.declared.operation.Write.TheVariants.{PunchAkey, PunchDkey, PunchObject}
use Rattle.base_types.specs.declared.path.Path.{Path}
use Rattle.daos_model.specs.BoolLaws.{and_left, and_right}
use Rattle.daos_model.specs.declared.durable.Version.{Version}
use Rattle.pmem_pages.specs.Blocks.{Blocks}
use Rattle.pmem_pages.specs.Owners.{Holds, both}
use Rattle.pmem_pages.specs.Shape.{entries}
use Rattle.pmem_pages.specs.declared.node.TreeKey.{TreeKey}
use Rattle.vos_pool_settle.specs.vos_levels.vos_values.declared.keys.Moment.{Moment}
use Rattle.vos_pool_settle.specs.vos_levels.vos_values.declared.keys.ObjectKey.{ObjectKey}
use Rattle.vos_pool_settle.specs.vos_levels.vos_values.Keys.{extent_key, moment_key, name_key, object_key}
use Rattle.vos_pool_settle.specs.vos_levels.Changes.{sum_those}
use Rattle.vos_pool_settle.specs.vos_levels.Levels.{Hung, Level, hung, is_level, things}
use Rattle.vos_pool_settle.specs.vos_levels.Moments.{same_moment}
use Rattle.vos_pool_settle.proofs.vos_levels.Settling.{sum_none, sum_spot}
use Rattle.vos_pool_settle.proofs.vos_levels.Spots.{look}
use Rattle.vos_pool_settle.specs.vos_pool_base.vos_path.vos_ilog.Logs.{Log, log_level, log_owner}
use Rattle.vos_pool_settle.specs.vos_pool_base.vos_path.vos_single.Singles as single
use Rattle.vos_pool_settle.specs.vos_pool_base.vos_path.vos_extent.declared.extent.ExtentVersion.{ExtentVersion}
use Rattle.vos_pool_settle.specs.vos_pool_base.vos_path.vos_extent.Extents as extent
use Rattle.vos_pool_settle.specs.vos_pool_base.vos_path.Objects.{Akey, Below, Dkey, Objects, Values, akey_level, akey_path, akey_versions, akeys_versions, below_dkey_versions, below_object_versions, below_owner, dkey_level, dkey_path, dkey_versions, dkeys_versions, extent_version, is_punch, object_level, object_path, object_versions, objects_owner, objects_versions, or_none, punch_version, punches, single_version, values_owner, values_versions}
use Rattle.vos_pool_settle.specs.vos_pool_base.vos_path.Writes.{IsAtObject}
use Rattle.vos_pool_settle.proofs.vos_pool_base.vos_path.Putting.{tells_level}
use Rattle.vos_pool_settle.proofs.vos_pool_base.vos_path.Written.{holds_first, holds_second}
use Rattle.vos_pool_settle.specs.vos_settle.declared.task.Task.{Task}
use Rattle.vos_pool_settle.specs.vos_settle.declared.task.WriteKind.{WriteKind}
use Rattle.vos_pool_settle.specs.vos_settle.declared.task.WriteKind.TheVariants as kind
use Rattle.vos_pool_settle.specs.vos_settle.Tasks.{place_at}
use Rattle.vos_pool_settle.specs.vos_settle.Versions.{is_version_taken, object_in}
use Rattle.vos_pool_settle.proofs.vos_settle.Flat.{any_together}
use Rattle.vos_pool_settle.proofs.vos_settle.FreedVersions.{one_of}
use Rattle.vos_pool_settle.proofs.vos_settle.VersionTurns.{named_level, none_akeys, none_below_dkey, none_below_object, none_dkeys, none_values, none_written, not_same, other_akey, other_dkey, other_name, other_write, some_inside}

-- so many pass a test
abbrev pub count : {A : Type 0} → (A → Bool) → List A → ℕ
count test xs = sum_those test (λ x. 1) xs

count_append : {A : Type 0} (test : A → Bool) (xs ys : List A) → count test (xs ++ ys) ≡ count test xs + count test ys
count_append test [] ys = omega arith
count_append test (x ∷ xs) ys = omega (arith, count_append test xs ys)

-- what is shown of things passes no more often than they do
shown_count : {A V : Type 0} (seen : A → Bool) (shown : A → V) (test : V → Bool) (taken : A → Bool) → ((a : A) → test (shown a) ≡ true → taken a ≡ true) → (xs : List A) → count test (map shown (filter seen xs)) ≤ count taken xs
shown_count seen shown test taken to [] = omega arith
shown_count {V = V} seen shown test taken to (x ∷ xs) = by (seen x) (test (shown x)) (taken x) refl refl (shown_count seen shown test taken to xs)
  where
    by : (s b d : Bool) → test (shown x) ≡ b → taken x ≡ d → count test (map shown (filter seen xs)) ≤ count taken xs → count test (map shown (if s then x ∷ filter seen xs else filter seen xs)) ≤ (if d then 1 else 0) + count taken xs
    by true true true is at rest = rw is (omega (arith, rest))
    by true true false is at rest = absurd (let yes = to x is in let never : true ≡ false = sym yes ∙ at in cc)
    by true false d is at rest = rw is (omega (arith, rest))
    by false b d is at rest = omega (arith, rest)

shown_twice : {A B V : Type 0} (first : A → B) (shown : B → V) (xs : List A) → map shown (map first xs) ≡ map (λ a. shown (first a)) (filter (λ x. true) xs)
shown_twice first shown [] = refl
shown_twice first shown (x ∷ xs) = ap (λ z. shown (first x) ∷ z) (shown_twice first shown xs)

-- one thing of a level has a key
one_has : {A : Type 0} (L : Level A) (k : TreeKey) (m : Blocks) (g : Hung A) → Holds (hung L) m g → count (is_level L k) (things g) ≤ 1
one_has L k m g held = elim (look L k (is_level L k) (tells_level L k) (entries g.0) g.1 held.here.1.leads held.here.1.rises) [
  | inl s ↦ let t = s.1.1 in let are = ap (count (is_level L k)) t.things_are in let one = sum_spot (is_level L k) (λ a. 1) t.left s.1.0 t.right t.none_left t.passes t.none_right in omega (arith, are, one)
  | inr n ↦ let none = sum_none (is_level L k) (λ a. 1) (things g) n.none in omega (arith, none)
]

-- what is found, or nothing, is one at most
one_or_none : {A : Type 0} (x : Option A) → or_none (λ a. 1) 0 x ≤ 1
one_or_none None = omega arith
one_or_none (Some a) = omega arith

same_number : (a b : ℕ) → (a == b) ≡ true → a ≡ b
same_number a b h = grind (arith, nat_tests)

moment_is : (a m : Moment) → same_moment a m ≡ true → m ≡ a
moment_is a m h =
    let epoch = same_number a.epoch.0 m.epoch.0 (and_left _ _ h) in
    let minor = same_number a.minor m.minor (and_right (a.epoch.0 == m.epoch.0) _ h) in
    λ i. record { epoch = record { 0 = sym epoch i }; minor = sym minor i }

module _ (t : Task) (p : Path) where
  abbrev taken : WriteKind → Version → Bool
  taken k v = is_version_taken k t p v

  none : (k : WriteKind) (vs : List Version) → list_any (taken k) vs ≡ false → count (taken k) vs ≡ 0
  none k vs n = sum_none (taken k) (λ v. 1) vs n

  moment_of : (k : WriteKind) (v : Version) → taken k v ≡ true → t.at ≡ record { epoch = v.epoch; minor = v.minor }
  moment_of k v h = moment_is (record { epoch = v.epoch; minor = v.minor }) t.at (and_right _ _ (and_left _ _ h))

  -- ---- what stands in one tree

  one_punch : (k : WriteKind) (w : Write) (m : Blocks) (g : Log) → Holds log_owner m g → count (taken k) (punches w g) ≤ 1
  one_punch k w m g held =
      let shown = shown_count is_punch (punch_version w) (taken k) (is_level log_level (moment_key t.at)) (λ e h. named_level moment_key t.at (record { epoch = e.epoch; minor = e.minor }) (moment_of k (punch_version w e) h)) (things g) in
      let one = one_has log_level (moment_key t.at) m g held in
      omega (arith, shown, one)

  one_single : (k : WriteKind) (q : Path) (m : Blocks) (g : single.Singles) → Holds single.single_owner m g → count (taken k) (map (single_version q) (single.versions g)) ≤ 1
  one_single k q m g held =
      let are = ap (count (taken k)) (shown_twice single.version_of (single_version q) (things g)) in
      let shown = shown_count (λ s. true) (λ s. single_version q (single.version_of s)) (taken k) (is_level single.single_level (moment_key t.at)) (λ s h. named_level moment_key t.at (single.moment_of s) (moment_of k (single_version q s.version) h)) (things g) in
      let one = one_has single.single_level (moment_key t.at) m g held in
      omega (arith, are, shown, one)

  -- an extent of the name begins where the name says
  extent_place : (low : ℕ) (q : Path) (v : ExtentVersion) → taken (kind.Extent low) (extent_version q v) ≡ true → place_at t.at low ≡ extent.place_of v
  extent_place low q v h =
      let at = moment_of (kind.Extent low) (extent_version q v) h in
      let begins = same_number v.low low (and_right (same_path p q) _ (and_left _ _ (and_left _ _ h))) in
      λ i. record { low = sym begins i; epoch = (at i).epoch; minor = (at i).minor }

  one_extent : (low : ℕ) (q : Path) (m : Blocks) (g : extent.Extents) → Holds extent.extent_owner m g → count (taken (kind.Extent low)) (map (extent_version q) (extent.extents g)) ≤ 1
  one_extent low q m g held =
      let are = ap (count (taken (kind.Extent low))) (shown_twice extent.extent_of (extent_version q) (things g)) in
      let shown = shown_count (λ s. true) (λ s. extent_version q (extent.extent_of s)) (taken (kind.Extent low)) (is_level extent.extent_level (extent_key (place_at t.at low))) (λ s h. named_level extent_key (place_at t.at low) (extent.place_of s.extent) (extent_place low q s.extent h)) (things g) in
      let one = one_has extent.extent_level (extent_key (place_at t.at low)) m g held in
      omega (arith, are, shown, one)

  -- ---- an akey

  one_value : (k : WriteKind) (q : Path) (m : Blocks) (a : Values) → Holds values_owner m a → count (taken k) (values_versions q a) ≤ 1
  one_value k q m a held =
      let P = punches (PunchAkey q) a.0 in
      let S = map (single_version q) (single.versions a.1.0) in
      let E = map (extent_version q) (extent.extents a.1.1) in
      let first = count_append (taken k) P (S ++ E) in
      let next = count_append (taken k) S E in
      let rest = holds_second log_owner (both single.single_owner extent.extent_owner) m a held in
      let each = by k in
      omega (arith, first, next, each)
    where
      by : (k : WriteKind) → count (taken k) (punches (PunchAkey q) a.0) + (count (taken k) (map (single_version q) (single.versions a.1.0)) + count (taken k) (map (extent_version q) (extent.extents a.1.1))) ≤ 1
      by kind.Punch =
          let s = none kind.Punch (map (single_version q) (single.versions a.1.0)) (none_written t p kind.Punch (single_version q) (single.versions a.1.0) (λ v. refl)) in
          let e = none kind.Punch (map (extent_version q) (extent.extents a.1.1)) (none_written t p kind.Punch (extent_version q) (extent.extents a.1.1) (λ v. refl)) in
          let one = one_punch kind.Punch (PunchAkey q) m a.0 (holds_first log_owner (both single.single_owner extent.extent_owner) m a held) in
          omega (arith, s, e, one)
      by kind.Single =
          let z = none kind.Single (punches (PunchAkey q) a.0) (none_written t p kind.Single (punch_version (PunchAkey q)) (filter is_punch (things a.0)) (λ e. refl)) in
          let e = none kind.Single (map (extent_version q) (extent.extents a.1.1)) (none_written t p kind.Single (extent_version q) (extent.extents a.1.1) (λ v. refl)) in
          let one = one_single kind.Single q m a.1.0 (holds_first single.single_owner extent.extent_owner m a.1 (holds_second log_owner (both single.single_owner extent.extent_owner) m a held)) in
          omega (arith, z, e, one)
      by (kind.Extent low) =
          let z = none (kind.Extent low) (punches (PunchAkey q) a.0) (none_written t p (kind.Extent low) (punch_version (PunchAkey q)) (filter is_punch (things a.0)) (λ e. refl)) in
          let s = none (kind.Extent low) (map (single_version q) (single.versions a.1.0)) (none_written t p (kind.Extent low) (single_version q) (single.versions a.1.0) (λ v. refl)) in
          let one = one_extent low q m a.1.1 (holds_second single.single_owner extent.extent_owner m a.1 (holds_second log_owner (both single.single_owner extent.extent_owner) m a held)) in
          omega (arith, z, s, one)

  -- ---- the way down

  akeys_one : (k : WriteKind) (o : ObjectKey) (d name : List ℕ) (m : Blocks) (g : Hung Akey) → Holds (hung akey_level) m g → p.akey ≡ Some name → count (taken k) (akeys_versions o d g) ≤ 1
  akeys_one k o d name m g held akey =
      let few = one_of akey_level (name_key name) m g held (akey_versions o d) false (taken k) (λ v. 1) (λ a. 1)
      (λ a other. none_values t p k (akey_path o d a.name) a.holds (other_akey t p (akey_path o d a.name) (Some name) akey (λ e. other_name name_key name a.name other (sym (some_inside a.name name e)))))
      (λ a stands ok level. one_value k (akey_path o d a.name) m a.holds (record { here = stands.here; apart = stands.apart })) in
      let one = one_or_none (find (is_level akey_level (name_key name)) (things g)) in
      omega (arith, few, one)

  dkey_one : (k : WriteKind) (o : ObjectKey) (d : List ℕ) (m : Blocks) (g : Below Akey) → Holds (below_owner akey_level) m g → (x : Option (List ℕ)) → p.akey ≡ x → count (taken k) (below_dkey_versions o d g) ≤ 1
  dkey_one k o d m g held None akey =
      let mine = one_punch k (PunchDkey (dkey_path o d)) m g.0 (holds_first log_owner (hung akey_level) m g held) in
      let rest = none k (akeys_versions o d g.1) (none_akeys t p k o d g.1 (λ a. other_akey t p (akey_path o d a) None akey (λ e. let n : ⊥ = cc in n))) in
      omega (arith, mine, rest, count_append (taken k) (punches (PunchDkey (dkey_path o d)) g.0) (akeys_versions o d g.1))
  dkey_one k o d m g held (Some name) akey =
      let mine = akeys_one k o d name m g.1 (holds_second log_owner (hung akey_level) m g held) akey in
      let rest = none k (punches (PunchDkey (dkey_path o d)) g.0) (none_written t p k (punch_version (PunchDkey (dkey_path o d))) (filter is_punch (things g.0)) (λ e. other_write t p k (PunchDkey (dkey_path o d)) (other_akey t p (dkey_path o d) (Some name) akey (λ f. let n : ⊥ = cc in n)))) in
      omega (arith, mine, rest, count_append (taken k) (punches (PunchDkey (dkey_path o d)) g.0) (akeys_versions o d g.1))

  dkeys_one : (k : WriteKind) (o : ObjectKey) (name : List ℕ) (m : Blocks) (g : Hung Dkey) → Holds (hung dkey_level) m g → p.dkey ≡ Some name → count (taken k) (dkeys_versions o g) ≤ 1
  dkeys_one k o name m g held dkey =
      let few = one_of dkey_level (name_key name) m g held (dkey_versions o) false (taken k) (λ v. 1) (λ a. 1)
      (λ d other.
      let differs : Some d.name ≡ Some name → ⊥ = λ e. other_name name_key name d.name other (sym (some_inside d.name name e)) in
      none_below_dkey t p k o d.name d.holds (other_dkey t p name (dkey_path o d.name) dkey differs) (λ a. other_dkey t p name (akey_path o d.name a) dkey differs))
      (λ a stands ok level. dkey_one k o a.name m a.holds (record { here = stands.here; apart = stands.apart }) p.akey refl) in
      let one = one_or_none (find (is_level dkey_level (name_key name)) (things g)) in
      omega (arith, few, one)

  object_one : (k : WriteKind) (o : ObjectKey) (m : Blocks) (g : Below Dkey) → Holds (below_owner dkey_level) m g → (x : Option (List ℕ)) → p.dkey ≡ x → count (taken k) (below_object_versions o g) ≤ 1
  object_one k o m g held None dkey =
      let other : (q : Path) → (q.dkey ≡ None → ⊥) → same_path p q ≡ false = λ q differs. not_same t p q (λ e. differs (sym (ap (λ r. r.dkey) e) ∙ dkey)) in
      let mine = one_punch k (PunchObject (object_path o)) m g.0 (holds_first log_owner (hung dkey_level) m g held) in
      let rest = none k (dkeys_versions o g.1) (none_dkeys t p k o g.1 (λ d. other (dkey_path o d) (λ e. let n : ⊥ = cc in n)) (λ d a. other (akey_path o d a) (λ e. let n : ⊥ = cc in n))) in
      omega (arith, mine, rest, count_append (taken k) (punches (PunchObject (object_path o)) g.0) (dkeys_versions o g.1))
  object_one k o m g held (Some name) dkey =
      let mine = dkeys_one k o name m g.1 (holds_second log_owner (hung dkey_level) m g held) dkey in
      let rest = none k (punches (PunchObject (object_path o)) g.0) (none_written t p k (punch_version (PunchObject (object_path o))) (filter is_punch (things g.0)) (λ e. other_write t p k (PunchObject (object_path o)) (other_dkey t p name (object_path o) dkey (λ f. let n : ⊥ = cc in n)))) in
      omega (arith, mine, rest, count_append (taken k) (punches (PunchObject (object_path o)) g.0) (dkeys_versions o g.1))

  objects_one : (k : WriteKind) (o : ObjectKey) (m : Blocks) (g : Objects) → Holds objects_owner m g → IsAtObject o p → count (taken k) (objects_versions g) ≤ 1
  objects_one k o m g held at =
      let few = one_of object_level (object_key o) m g held object_versions false (taken k) (λ v. 1) (λ a. 1)
      (λ a other.
      let differs : (q : Path) → q.cont ≡ a.name.cont → q.obj ≡ Some a.name.obj → p ≡ q → ⊥ = λ q c b e.
      other_name object_key o a.name other (λ i. record { cont = (sym at.cont ∙ (ap (λ r. r.cont) e ∙ c)) i; obj = some_inside o.obj a.name.obj (sym at.obj ∙ (ap (λ r. r.obj) e ∙ b)) i }) in
      none_below_object t p k a.name a.holds (not_same t p (object_path a.name) (differs (object_path a.name) refl refl)) (λ d. not_same t p (dkey_path a.name d) (differs (dkey_path a.name d) refl refl)) (λ d b. not_same t p (akey_path a.name d b) (differs (akey_path a.name d b) refl refl)))
      (λ a stands ok level. object_one k a.name m a.holds (record { here = stands.here; apart = stands.apart }) p.dkey refl) in
      let one = one_or_none (find (is_level object_level (object_key o)) (things g)) in
      omega (arith, few, one)

  -- a path that leads to no object leads to none of them
  no_objects : (k : WriteKind) (g : Objects) → p.obj ≡ None → list_any (taken k) (objects_versions g) ≡ false
  no_objects k g nothing =
      let other : (q : Path) → (q.obj ≡ None → ⊥) → same_path p q ≡ false = λ q differs. not_same t p q (λ e. differs (sym (ap (λ r. r.obj) e) ∙ nothing)) in
      any_together (taken k) object_versions (things g) (λ a.
      none_below_object t p k a.name a.holds (other (object_path a.name) (λ e. let n : ⊥ = cc in n)) (λ d. other (dkey_path a.name d) (λ e. let n : ⊥ = cc in n)) (λ d b. other (akey_path a.name d b) (λ e. let n : ⊥ = cc in n)))

  -- of those that a change takes of a name there is one at most
  pub one_taken : (m : Blocks) (g : Objects) → Holds objects_owner m g → count (taken t.kind) (objects_versions g) ≤ 1
  one_taken m g held = by p.obj refl
    where
      by : (x : Option ObjId) → p.obj ≡ x → count (taken t.kind) (objects_versions g) ≤ 1
      by None nothing = let no_one = none t.kind (objects_versions g) (no_objects t.kind g nothing) in omega (arith, no_one)
      by (Some obj) at = objects_one t.kind (object_in p obj) m g held (record { cont = refl; obj = at })
