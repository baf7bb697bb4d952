-- The blocks that go with the version of a write are among those given back.
use Rattle.std.proofs.Common.{◌≡◌, ◌≤◌, ◌+◌, ◌==◌, ◌&&◌, ℕ, Bool, true, false, List, [], ◌∷◌, ◌++◌, Option, Some, None, map, refl, sym, ap, ◌∙◌, subst, inl, inr, arith}
use Rattle.std.specs.Prelude.{IfSome, filter, if◌then◌else◌}
use Rattle.std.specs.List.{find, list_any}
use Rattle.base_types.specs.declared.id.ObjId.{ObjId}
use Rattle.base_types.specs.declared.operation.Write.{Write}
use Rattle.base_types.specs.declared.operation.Write.TheVariants.{PunchAkey, PunchDkey, PunchObject}
use Rattle.base_types.specs.declared.path.Path.{Path}
use Rattle.base_types.specs.Paths.{same_path}
use Rattle.daos_model.specs.declared.durable.Version.{Version}
use Rattle.pmem_pages.specs.Blocks.{Blocks}
use Rattle.pmem_pages.specs.Owners.{Holds}
use Rattle.pmem_pages.specs.Shape.{entries}
use Rattle.pmem_pages.specs.declared.node.TreeKey.{TreeKey}
use Rattle.vos_values.specs.declared.keys.Layout.TheVariants.{Two}
use Rattle.vos_values.specs.declared.keys.ObjectKey.{ObjectKey}
use Rattle.vos_values.specs.Keys.{IsName, IsObjectKey, name_key, object_key}
use Rattle.vos_levels.specs.Changes.{freed_by, keeps, sum_those, takes}
use Rattle.vos_levels.specs.Levels.{Hung, Level, hung, is_level, things}
use Rattle.vos_levels.specs.Moments.{same_moment}
use Rattle.vos_levels.proofs.Settling.{none_freed, spot_stands}
use Rattle.vos_levels.proofs.Spots.{find_spot, look}
use Rattle.vos_ilog.specs.declared.ilog.LogEntry.{LogEntry}
use Rattle.vos_ilog.specs.Logs.{is_at, log_owner, one_block}
use Rattle.vos_path.specs.vos_single.Singles as single
use Rattle.vos_path.specs.vos_extent.Extents as extent
use Rattle.vos_path.specs.Objects.{Akey, Below, Dkey, Objects, Values, akey_level, akey_path, akey_versions, akeys_versions, below_dkey_versions, below_object_versions, below_owner, dkey_level, dkey_path, dkey_versions, dkeys_versions, extent_version, is_punch, object_level, object_path, object_versions, objects_owner, objects_versions, or_none, punch_version, punches, single_version, together, values_versions}
use Rattle.vos_path.specs.Writes.{IsAtObject, NamesAreKeys}
use Rattle.vos_path.proofs.Lists.{together_append}
use Rattle.vos_path.proofs.Naming.{name_exact, object_exact}
use Rattle.vos_path.proofs.Putting.{level_equal, tells_level}
use Rattle.vos_path.proofs.Written.{holds_second}
use Rattle.vos_settle.specs.declared.task.Task.{Task}
use Rattle.vos_settle.specs.declared.task.Which.TheVariants as which
use Rattle.vos_settle.specs.declared.task.WriteKind.{WriteKind}
use Rattle.vos_settle.specs.declared.task.WriteKind.TheVariants as kind
use Rattle.vos_settle.specs.Nodes.{akey_freed, akeys_freed, below_dkey_freed, below_object_freed, dkey_freed, dkeys_freed, object_freed, one_object_freed, values_count}
use Rattle.vos_settle.specs.Tasks.{is_taken, log_freed, place_at, punched_freed, which_of}
use Rattle.vos_settle.specs.Versions.{fits_kind, freed_in, is_version_taken, is_write, object_in, version_blocks, versions_freed, write_freed}
use Rattle.vos_settle.proofs.Flat.{any_among}
use Rattle.vos_settle.proofs.VersionTurns.{no_akey, none_akeys, none_below_dkey, none_below_object, none_dkeys, none_values, none_written, not_same, other_akey, other_dkey, other_name, other_write, path_of_akey, path_of_dkey, path_of_object, punch_alone, same_is, some_inside}

-- ---- sums

sum_append : {V : Type 0} (test : V → Bool) (size : V → ℕ) (xs ys : List V) → sum_those test size (xs ++ ys) ≡ sum_those test size xs + sum_those test size ys
sum_append test size [] ys = omega arith
sum_append test size (x ∷ xs) ys = omega (arith, sum_append test size xs ys)

freed_append : {V : Type 0} (keeps : Bool) (test : V → Bool) (size : V → ℕ) (xs ys : List V) → freed_by keeps test size (xs ++ ys) ≡ freed_by keeps test size xs + freed_by keeps test size ys
freed_append true test size xs ys = refl
freed_append false test size xs ys = sum_append test size xs ys

module _ {A V : Type 0} (seen : A → Bool) (shown : A → V) (taken : A → Bool) (size_of : A → ℕ) (test : V → Bool) (size : V → ℕ) (same : (a : A) → seen a ≡ true → test (shown a) ≡ taken a) (sizes : (a : A) → seen a ≡ true → size (shown a) ≡ size_of a) where
  seen_sum : (xs : List A) → sum_those test size (map shown (filter seen xs)) ≤ sum_those taken size_of xs
  seen_sum [] = omega arith
  seen_sum (a ∷ xs) = by (seen a) refl (seen_sum xs)
    where
      by : (s : Bool) → seen a ≡ s → sum_those test size (map shown (filter seen xs)) ≤ sum_those taken size_of xs → sum_those test size (map shown (if s then a ∷ filter seen xs else filter seen xs)) ≤ sum_those taken size_of (a ∷ xs)
      by true e r =
          let one : (if test (shown a) then size (shown a) else 0) ≡ (if taken a then size_of a else 0) = ap (λ (t : Bool). if t then size (shown a) else 0) (same a e) ∙ ap (λ n. if taken a then n else 0) (sizes a e) in
          omega (arith, one, r)
      by false e r = omega (arith, r)

  pub seen_freed : (keeps : Bool) (xs : List A) → freed_by keeps test size (map shown (filter seen xs)) ≤ freed_by keeps taken size_of xs
  seen_freed true xs = omega arith
  seen_freed false xs = seen_sum xs

module _ {A V : Type 0} (shown : A → V) (taken : A → Bool) (size_of : A → ℕ) (test : V → Bool) (size : V → ℕ) (same : (a : A) → test (shown a) ≡ taken a) (sizes : (a : A) → size (shown a) ≡ size_of a) where
  all_sum : (xs : List A) → sum_those test size (map shown xs) ≡ sum_those taken size_of xs
  all_sum [] = refl
  all_sum (a ∷ xs) =
      let one : (if test (shown a) then size (shown a) else 0) ≡ (if taken a then size_of a else 0) = ap (λ (t : Bool). if t then size (shown a) else 0) (same a) ∙ ap (λ n. if taken a then n else 0) (sizes a) in
      omega (arith, one, all_sum xs)

  pub all_freed : (keeps : Bool) (xs : List A) → freed_by keeps test size (map shown xs) ≡ freed_by keeps taken size_of xs
  all_freed true xs = refl
  all_freed false xs = all_sum xs

-- one thing of a level
module _ {A V : Type 0} (L : Level A) (k : TreeKey) (m : Blocks) (g : Hung A) (held : Holds (hung L) m g) (shown : A → List V) (keeps : Bool) (test : V → Bool) (size : V → ℕ) (f : A → ℕ)
    (others : (a : A) → is_level L k a ≡ false → list_any test (shown a) ≡ false) (one : (a : A) → Holds L.owner m a → L.Good a → is_level L k a ≡ true → freed_by keeps test size (shown a) ≤ f a) where
  pub one_of : freed_by keeps test size (together shown (things g)) ≤ or_none f 0 (find (is_level L k) (things g))
  one_of =
      elim (look L k (is_level L k) (tells_level L k) (entries g.0) g.1 held.here.1.leads held.here.1.rises) [
        | inl s ↦
            let a = s.1.0 in
            let t = s.1.1 in
            let found = ap (or_none f 0) (ap (find (is_level L k)) t.things_are ∙ find_spot (is_level L k) t.left a t.right t.none_left t.passes) in
            let split = ap (λ xs. freed_by keeps test size (together shown xs)) t.things_are ∙ ap (freed_by keeps test size) (together_append shown t.left (a ∷ t.right)) in
            let first = freed_append keeps test size (together shown t.left) (shown a ++ together shown t.right) in
            let next = freed_append keeps test size (shown a) (together shown t.right) in
            let left = none_freed test size keeps (together shown t.left) (any_among test (is_level L k) shown t.left t.none_left others) in
            let right = none_freed test size keeps (together shown t.right) (any_among test (is_level L k) shown t.right t.none_right others) in
            let mine = one a (spot_stands L k (is_level L k) m g s.0 a held t) t.leads.good t.passes in
            omega (arith, found, split, first, next, left, right, mine)
        | inr n ↦
            let none = none_freed test size keeps (together shown (things g)) (any_among test (is_level L k) shown (things g) n.none others) in
            omega (arith, none)
      ]

and_assoc : (a b c : Bool) → (a && (b && c)) ≡ ((a && b) && c)
and_assoc true b c = refl
and_assoc false b c = refl

module _ (t : Task) (p : Path) where
  abbrev taken : WriteKind → Version → Bool
  taken k v = is_version_taken k t p v

  abbrev freed : WriteKind → List Version → ℕ
  freed k vs = freed_by (keeps t.change) (taken k) version_blocks vs

  none : (k : WriteKind) (vs : List Version) → list_any (taken k) vs ≡ false → freed k vs ≡ 0
  none k vs n = none_freed (taken k) version_blocks (keeps t.change) vs n

  both_freed : (k : WriteKind) (xs ys : List Version) → freed k (xs ++ ys) ≡ freed k xs + freed k ys
  both_freed k xs ys = freed_append (keeps t.change) (taken k) version_blocks xs ys

  -- the punch of a log's own path
  punch_part : (w : Write) (es : List LogEntry) → is_write p t.kind w ≡ true → ((e : LogEntry) → version_blocks (punch_version w e) ≡ 1) → freed t.kind (map (punch_version w) (filter is_punch es)) ≤ punched_freed t es
  punch_part w es so one =
      seen_freed is_punch (punch_version w) (is_taken which.Punch t.change t.at) one_block (taken t.kind) version_blocks
      (λ e s. ap (λ (b : Bool). (b && is_at t.at e) && takes t.change e.by e.done) so ∙ sym (ap (λ (b : Bool). is_at t.at e && (b && takes t.change e.by e.done)) s)) (λ e s. one e) (keeps t.change) es

  -- ---- an akey

  values_by : (k : WriteKind) (q : Path) (a : Values) → same_path p q ≡ true → freed k (values_versions q a) ≤ values_count k t a + log_freed (which_of k t.by) t.change t.at (things a.0)
  values_by kind.Punch q a so =
      let P = punches (PunchAkey q) a.0 in
      let S = map (single_version q) (single.versions a.1.0) in
      let E = map (extent_version q) (extent.extents a.1.1) in
      let first = both_freed kind.Punch P (S ++ E) in
      let next = both_freed kind.Punch S E in
      let s = none kind.Punch S (none_written t p kind.Punch (single_version q) (single.versions a.1.0) (λ v. refl)) in
      let e = none kind.Punch E (none_written t p kind.Punch (extent_version q) (extent.extents a.1.1) (λ v. refl)) in
      let mine = seen_freed is_punch (punch_version (PunchAkey q)) (is_taken which.Punch t.change t.at) one_block (taken kind.Punch) version_blocks
      (λ e s. ap (λ (b : Bool). (b && is_at t.at e) && takes t.change e.by e.done) so ∙ sym (ap (λ (b : Bool). is_at t.at e && (b && takes t.change e.by e.done)) s)) (λ e s. refl) (keeps t.change) (things a.0) in
      omega (arith, first, next, s, e, mine)
  values_by kind.Single q a so =
      let P = punches (PunchAkey q) a.0 in
      let S = map (single_version q) (single.versions a.1.0) in
      let E = map (extent_version q) (extent.extents a.1.1) in
      let first = both_freed kind.Single P (S ++ E) in
      let next = both_freed kind.Single S E in
      let s = none kind.Single P (none_written t p kind.Single (punch_version (PunchAkey q)) (filter is_punch (things a.0)) (λ e. refl)) in
      let e = none kind.Single E (none_written t p kind.Single (extent_version q) (extent.extents a.1.1) (λ v. refl)) in
      let mine = all_freed (single_version q) (single.is_taken t.change t.at) single.blocks_of_version (taken kind.Single) version_blocks (λ v. ap (λ (b : Bool). (b && single.is_version_at t.at v) && takes t.change v.by v.done) so) (λ v. refl) (keeps t.change) (single.versions a.1.0) in
      omega (arith, first, next, s, e, mine)
  values_by (kind.Extent low) q a so =
      let P = punches (PunchAkey q) a.0 in
      let S = map (single_version q) (single.versions a.1.0) in
      let E = map (extent_version q) (extent.extents a.1.1) in
      let first = both_freed (kind.Extent low) P (S ++ E) in
      let next = both_freed (kind.Extent low) S E in
      let s = none (kind.Extent low) P (none_written t p (kind.Extent low) (punch_version (PunchAkey q)) (filter is_punch (things a.0)) (λ e. refl)) in
      let e = none (kind.Extent low) S (none_written t p (kind.Extent low) (single_version q) (single.versions a.1.0) (λ v. refl)) in
      let mine = all_freed (extent_version q) (extent.is_taken t.change (place_at t.at low)) extent.blocks_of_extent (taken (kind.Extent low)) version_blocks
      (λ v. ap (λ (b : Bool). ((b && (v.low == low)) && same_moment (record { epoch = v.epoch; minor = v.minor }) t.at) && takes t.change v.by v.done) so ∙ ap (λ (b : Bool). b && takes t.change v.by v.done) (and_assoc (v.low == low) (v.epoch.0 == t.at.epoch.0) (v.minor == t.at.minor))) (λ v. refl) (keeps t.change) (extent.extents a.1.1) in
      omega (arith, first, next, s, e, mine)

  -- ---- the way down

  akeys_by : (o : ObjectKey) (d name : List ℕ) (m : Blocks) (g : Hung Akey) → Holds (hung akey_level) m g → p ≡ akey_path o d name → IsName name → freed t.kind (akeys_versions o d g) ≤ akeys_freed t name g
  akeys_by o d name m g held at good =
      one_of akey_level (name_key name) m g held (akey_versions o d) (keeps t.change) (taken t.kind) version_blocks (akey_freed t)
      (λ a other. none_values t p t.kind (akey_path o d a.name) a.holds (not_same t p (akey_path o d a.name) (λ e. other_name name_key name a.name other (some_inside name a.name (ap (λ q. q.akey) (sym at ∙ e))))))
      (λ a stands ok level.
      let is : name ≡ a.name = name_exact name a.name good ok (level_equal akey_level (name_key name) a level) in
      values_by t.kind (akey_path o d a.name) a.holds (same_is t p (akey_path o d a.name) (at ∙ ap (akey_path o d) is)))

  dkey_by : (o : ObjectKey) (d : List ℕ) (m : Blocks) (g : Below Akey) → Holds (below_owner akey_level) m g → IsAtObject o p → p.dkey ≡ Some d → fits_kind t.kind p ≡ true → (x : Option (List ℕ)) → p.akey ≡ x → IfSome x IsName → freed t.kind (below_dkey_versions o d g) ≤ below_dkey_freed t x g
  dkey_by o d m g held at dkey fits None akey good =
      let is = path_of_dkey t p o d at dkey akey in
      let so : is_write p t.kind (PunchDkey (dkey_path o d)) ≡ true = ap (λ z. is_write p z (PunchDkey (dkey_path o d))) (punch_alone t p t.kind fits akey) ∙ same_is t p (dkey_path o d) is in
      let mine = punch_part (PunchDkey (dkey_path o d)) (things g.0) so (λ e. refl) in
      let rest = none t.kind (akeys_versions o d g.1) (none_akeys t p t.kind o d g.1 (λ a. other_akey t p (akey_path o d a) None akey (λ e. let n : ⊥ = cc in n))) in
      omega (arith, mine, rest, both_freed t.kind (punches (PunchDkey (dkey_path o d)) g.0) (akeys_versions o d g.1))
  dkey_by o d m g held at dkey fits (Some name) akey good =
      let mine = akeys_by o d name m g.1 (holds_second log_owner (hung akey_level) m g held) (path_of_akey t p o d name at dkey akey) good in
      let rest = none t.kind (punches (PunchDkey (dkey_path o d)) g.0) (none_written t p t.kind (punch_version (PunchDkey (dkey_path o d))) (filter is_punch (things g.0)) (λ e. other_write t p t.kind (PunchDkey (dkey_path o d)) (other_akey t p (dkey_path o d) (Some name) akey (λ f. let n : ⊥ = cc in n)))) in
      omega (arith, mine, rest, both_freed t.kind (punches (PunchDkey (dkey_path o d)) g.0) (akeys_versions o d g.1))

  dkeys_by : (o : ObjectKey) (name : List ℕ) (m : Blocks) (g : Hung Dkey) → Holds (hung dkey_level) m g → IsAtObject o p → p.dkey ≡ Some name → fits_kind t.kind p ≡ true → IsName name → IfSome p.akey IsName → freed t.kind (dkeys_versions o g) ≤ dkeys_freed t name p.akey g
  dkeys_by o name m g held at dkey fits good akey =
      one_of dkey_level (name_key name) m g held (dkey_versions o) (keeps t.change) (taken t.kind) version_blocks (dkey_freed t p.akey)
      (λ d other.
      let differs : Some d.name ≡ Some name → ⊥ = λ e. other_name name_key name d.name other (sym (some_inside d.name name e)) in
      none_below_dkey t p t.kind o d.name d.holds (other_dkey t p name (dkey_path o d.name) dkey differs) (λ a. other_dkey t p name (akey_path o d.name a) dkey differs))
      (λ a stands ok level.
      let is : name ≡ a.name = name_exact name a.name good ok (level_equal dkey_level (name_key name) a level) in
      dkey_by o a.name m a.holds (record { here = stands.here; apart = stands.apart }) at (dkey ∙ ap (λ z. Some z) is) fits p.akey refl akey)

  object_by : (o : ObjectKey) (m : Blocks) (g : Below Dkey) → Holds (below_owner dkey_level) m g → IsAtObject o p → fits_kind t.kind p ≡ true → IfSome p.akey IsName → (x : Option (List ℕ)) → p.dkey ≡ x → IfSome x IsName → freed t.kind (below_object_versions o g) ≤ below_object_freed t x p.akey g
  object_by o m g held at fits akey None dkey good =
      let nothing = no_akey t p t.kind fits dkey in
      let is = path_of_object t p o at dkey nothing in
      let so : is_write p t.kind (PunchObject (object_path o)) ≡ true = ap (λ z. is_write p z (PunchObject (object_path o))) (punch_alone t p t.kind fits nothing) ∙ same_is t p (object_path o) is in
      let other : (q : Path) → (q.dkey ≡ None → ⊥) → same_path p q ≡ false = λ q differs. not_same t p q (λ e. differs (sym (ap (λ r. r.dkey) e) ∙ dkey)) in
      let mine = punch_part (PunchObject (object_path o)) (things g.0) so (λ e. refl) in
      let rest = none t.kind (dkeys_versions o g.1) (none_dkeys t p t.kind o g.1 (λ d. other (dkey_path o d) (λ e. let n : ⊥ = cc in n)) (λ d a. other (akey_path o d a) (λ e. let n : ⊥ = cc in n))) in
      omega (arith, mine, rest, both_freed t.kind (punches (PunchObject (object_path o)) g.0) (dkeys_versions o g.1))
  object_by o m g held at fits akey (Some name) dkey good =
      let mine = dkeys_by o name m g.1 (holds_second log_owner (hung dkey_level) m g held) at dkey fits good akey in
      let rest = none t.kind (punches (PunchObject (object_path o)) g.0) (none_written t p t.kind (punch_version (PunchObject (object_path o))) (filter is_punch (things g.0)) (λ e. other_write t p t.kind (PunchObject (object_path o)) (other_dkey t p name (object_path o) dkey (λ f. let n : ⊥ = cc in n)))) in
      omega (arith, mine, rest, both_freed t.kind (punches (PunchObject (object_path o)) g.0) (dkeys_versions o g.1))

  objects_by : (o : ObjectKey) (m : Blocks) (g : Objects) → Holds objects_owner m g → IsAtObject o p → fits_kind t.kind p ≡ true → NamesAreKeys p → IsObjectKey Two o → versions_freed t p (objects_versions g) ≤ one_object_freed t o p g
  objects_by o m g held at fits names good =
      one_of object_level (object_key o) m g held object_versions (keeps t.change) (taken t.kind) version_blocks (object_freed t p)
      (λ a other.
      let differs : (q : Path) → q.cont ≡ a.name.cont → q.obj ≡ Some a.name.obj → p ≡ q → ⊥ = λ q c b e.
      other_name object_key o a.name other (λ i. record { cont = (sym at.cont ∙ (ap (λ r. r.cont) e ∙ c)) i; obj = some_inside o.obj a.name.obj (sym at.obj ∙ (ap (λ r. r.obj) e ∙ b)) i }) in
      none_below_object t p t.kind a.name a.holds (not_same t p (object_path a.name) (differs (object_path a.name) refl refl)) (λ d. not_same t p (dkey_path a.name d) (differs (dkey_path a.name d) refl refl)) (λ d b. not_same t p (akey_path a.name d b) (differs (akey_path a.name d b) refl refl)))
      (λ a stands ok level.
      let is : o ≡ a.name = object_exact o a.name good ok (level_equal object_level (object_key o) a level) in
      object_by a.name m a.holds (record { here = stands.here; apart = stands.apart }) (subst (λ z. IsAtObject z p) is at) fits names.akey p.dkey refl names.dkey)

-- what was given back of an object is what was given back of the path
pub freed_is : (t : Task) (p : Path) (g : Objects) (o : ObjId) → p.obj ≡ Some o → write_freed t p g ≡ one_object_freed t (object_in p o) p g
freed_is t p g o e = ap (λ z. freed_in z t p g) e

pub gives_back : (t : Task) (p : Path) (m : Blocks) (g : Objects) (o : ObjId) → Holds objects_owner m g → p.obj ≡ Some o → fits_kind t.kind p ≡ true → NamesAreKeys p → IsObjectKey Two (object_in p o) → versions_freed t p (objects_versions g) ≤ one_object_freed t (object_in p o) p g
gives_back t p m g o held obj fits names good = objects_by t p (object_in p o) m g held (record { cont = refl; obj = obj }) fits names good
