-- Where an object has no version of an epoch and number, nothing of that moment stands below it but creations.
use Rattle.std.proofs.Common.{◌≡◌, ◌≢◌, ℕ, ◌==◌, ◌&&◌, ◌||◌, Bool, true, false, List, [], ◌∷◌, ◌++◌, Some, map, refl, ap, subst}
use Rattle.std.specs.Prelude.{All, filter, if◌then◌else◌}
use Rattle.std.specs.List.{find, list_any}
use Rattle.std.proofs.lemmas.List.Elements.{All-cons, All-head, All-nil, All-tail}
use Rattle.base_types.specs.declared.operation.Write.{Write}
use Rattle.base_types.specs.declared.operation.Write.TheVariants.{PunchAkey, PunchDkey, PunchObject}
use Rattle.base_types.specs.declared.path.Path.{Path}
use Rattle.base_types.specs.Operations.{write_path}
use Rattle.daos_model.specs.declared.durable.Version.{Version}
use Rattle.daos_model.specs.Durables.{object_key as object_order, version_key}
use Rattle.vos_values.specs.declared.keys.Layout.TheVariants.{Two}
use Rattle.vos_values.specs.declared.keys.ObjectKey.{ObjectKey}
use Rattle.vos_values.specs.Keys.{IsObjectKey, object_key}
use Rattle.vos_extent.specs.vos_levels.Levels.{is_level, things}
use Rattle.vos_ilog.specs.declared.ilog.LogEntry.{LogEntry}
use Rattle.vos_ilog.specs.Logs.{is_at as is_entry_at, moment_of as moment_of_entry}
use Rattle.vos_single.specs.Singles.{Stored as StoredSingle, is_at as is_single_at, moment_of as moment_of_single, version_of}
use Rattle.vos_extent.specs.Extents.{Stored as StoredExtent, extent_of, is_at as is_extent_at}
use Rattle.vos_path.specs.declared.stamp.Stamp.{Stamp}
use Rattle.vos_path.specs.Objects.{Akey, Below, Dkey, Objects, Values, akey_path, akey_versions, below_dkey_versions, below_object_versions, below_or_none, dkey_path, dkey_versions, extent_version, is_punch, listed, object_level, object_path, object_versions, punch_version, punches, single_version, together, values_versions}
use Rattle.vos_path.specs.Writes.{BelowDkeyIsNew, BelowObjectIsNew, IsAtObject, IsNewIn, ValuesAreNew, fresh, has_punch_at, place_at}
use Rattle.pmem_pages.specs.Blocks.{Blocks}
use Rattle.pmem_pages.specs.Owners.{Holds}
use Rattle.vos_path.specs.Objects.{below_owner, dkey_level, held_below, no_below, objects_owner}
use Rattle.vos_path.proofs.DkeyWrites.{object_at, objects_exact}
use Rattle.vos_path.proofs.Finding.{listed_found}
use Rattle.vos_path.proofs.Forming.{both_true}
use Rattle.vos_path.proofs.Noting.{moments_same}

pub all_left : {A : Type 0} (P : A → Type 0) (xs ys : List A) → All P (xs ++ ys) → All P xs
all_left P [] ys h = All-nil P
all_left P (x ∷ xs) ys h = All-cons P x xs (All-head P x (xs ++ ys) h) (all_left P xs ys (All-tail P x (xs ++ ys) h))

pub all_right : {A : Type 0} (P : A → Type 0) (xs ys : List A) → All P (xs ++ ys) → All P ys
all_right P [] ys h = h
all_right P (x ∷ xs) ys h = all_right P xs ys (All-tail P x (xs ++ ys) h)

false_if : (t : Bool) → (t ≡ true → ⊥) → t ≡ false
false_if true h = absurd (h refl)
false_if false h = refl

or_false : (s t : Bool) → s ≡ false → t ≡ false → (s || t) ≡ false
or_false true t h k = absurd (let n : ⊥ = cc in n)
or_false false t h k = k

no_first : (a b : Bool) → a ≡ false → (a && b) ≡ false
no_first true b h = absurd (let n : ⊥ = cc in n)
no_first false b h = refl

and_true : (a b : Bool) → a ≡ true → b ≡ true → (a && b) ≡ true
and_true true b h k = k
and_true false b h k = absurd (let n : ⊥ = cc in n)

same_extent : (v : StoredExtent) (s : Stamp) (low : ℕ) → is_extent_at (place_at s low) v ≡ true → (v.extent.epoch.0 ≡ s.at.epoch.0) × (v.extent.minor ≡ s.at.minor)
same_extent v s low h =
    let p = both_true ((v.extent.low == low) && (v.extent.epoch.0 == s.at.epoch.0)) (v.extent.minor == s.at.minor) h in
    let q = both_true (v.extent.low == low) (v.extent.epoch.0 == s.at.epoch.0) p.0 in
    let e = moments_same (record { epoch = v.extent.epoch; minor = v.extent.minor }) s.at (and_true (v.extent.epoch.0 == s.at.epoch.0) (v.extent.minor == s.at.minor) q.1 p.1) in
    (ap (λ m. m.epoch.0) e, ap (λ m. m.minor) e)

-- what is different from every version of an object
module _ (s : Stamp) (o : ObjectKey) where
  abbrev order : List ℕ
  order = s.at.epoch.0 ∷ s.at.minor ∷ object_order o.cont (Some o.obj)

  abbrev differs : Version → Type 0
  differs u = version_key u ≢ order

  punch_new : (w : Write) → object_order (write_path w).cont (write_path w).obj ≡ object_order o.cont (Some o.obj) → (es : List LogEntry) → All differs (map (punch_version w) (filter is_punch es)) → has_punch_at s.at es ≡ false
  punch_new w path [] h = refl
  punch_new w path (e ∷ es) h = by (is_punch e) refl h (punch_new w path es)
    where
      by : (t : Bool) → is_punch e ≡ t → All differs (map (punch_version w) (if t then e ∷ filter is_punch es else filter is_punch es)) → (All differs (map (punch_version w) (filter is_punch es)) → has_punch_at s.at es ≡ false) → ((is_punch e && is_entry_at s.at e) || has_punch_at s.at es) ≡ false
      by true p k r =
          let this : (is_punch e && is_entry_at s.at e) ≡ false = false_if (is_punch e && is_entry_at s.at e) (λ yes.
          let m = moments_same (moment_of_entry e) s.at (both_true (is_punch e) (is_entry_at s.at e) yes).1 in
          All-head differs (punch_version w e) (map (punch_version w) (filter is_punch es)) k (λ i. (m i).epoch.0 ∷ (m i).minor ∷ path i)) in
          or_false (is_punch e && is_entry_at s.at e) (has_punch_at s.at es) this (r (All-tail differs (punch_version w e) (map (punch_version w) (filter is_punch es)) k))
      by false p k r = or_false (is_punch e && is_entry_at s.at e) (has_punch_at s.at es) (no_first (is_punch e) (is_entry_at s.at e) p) (r k)

  single_new : (p : Path) → object_order p.cont p.obj ≡ object_order o.cont (Some o.obj) → (xs : List StoredSingle) → All differs (map (single_version p) (map version_of xs)) → list_any (is_single_at s.at) xs ≡ false
  single_new p path [] h = refl
  single_new p path (x ∷ xs) h =
      or_false (is_single_at s.at x) (list_any (is_single_at s.at) xs)
      (false_if (is_single_at s.at x) (λ yes. let m = moments_same (moment_of_single x) s.at yes in All-head differs (single_version p (version_of x)) (map (single_version p) (map version_of xs)) h (λ i. (m i).epoch.0 ∷ (m i).minor ∷ path i)))
      (single_new p path xs (All-tail differs (single_version p (version_of x)) (map (single_version p) (map version_of xs)) h))

  extent_new : (p : Path) → object_order p.cont p.obj ≡ object_order o.cont (Some o.obj) → (low : ℕ) (xs : List StoredExtent) → All differs (map (extent_version p) (map extent_of xs)) → list_any (is_extent_at (place_at s low)) xs ≡ false
  extent_new p path low [] h = refl
  extent_new p path low (x ∷ xs) h =
      or_false (is_extent_at (place_at s low) x) (list_any (is_extent_at (place_at s low)) xs)
      (false_if (is_extent_at (place_at s low) x) (λ yes. let m = same_extent x s low yes in All-head differs (extent_version p (extent_of x)) (map (extent_version p) (map extent_of xs)) h (λ i. m.0 i ∷ m.1 i ∷ path i)))
      (extent_new p path low xs (All-tail differs (extent_version p (extent_of x)) (map (extent_version p) (map extent_of xs)) h))

  values_new : (p : Path) → object_order p.cont p.obj ≡ object_order o.cont (Some o.obj) → (a : Values) → All differs (values_versions p a) → ValuesAreNew s a
  values_new p path a h =
      let front = punches (PunchAkey p) a.0 in
      let mid = map (single_version p) (map version_of (things a.1.0)) in
      let back = map (extent_version p) (map extent_of (things a.1.1)) in
      let rest = all_right differs front (mid ++ back) h in
      record {
        punch = punch_new (PunchAkey p) path (things a.0) (all_left differs front (mid ++ back) h);
        single = single_new p path (things a.1.0) (all_left differs mid back rest);
        extent = λ low. extent_new p path low (things a.1.1) (all_right differs mid back rest);
      }

  akeys_new : (d : List ℕ) (xs : List Akey) → All differs (together (akey_versions o d) xs) → All (λ a. ValuesAreNew s a.holds) xs
  akeys_new d [] h = All-nil (λ a. ValuesAreNew s a.holds)
  akeys_new d (a ∷ xs) h =
      All-cons (λ b. ValuesAreNew s b.holds) a xs (values_new (akey_path o d a.name) refl a.holds (all_left differs (akey_versions o d a) (together (akey_versions o d) xs) h))
      (akeys_new d xs (all_right differs (akey_versions o d a) (together (akey_versions o d) xs) h))

  below_dkey_new : (d : List ℕ) (b : Below Akey) → All differs (below_dkey_versions o d b) → BelowDkeyIsNew s b
  below_dkey_new d b h =
      let front = punches (PunchDkey (dkey_path o d)) b.0 in
      let back = together (akey_versions o d) (things b.1) in
      record { punch = punch_new (PunchDkey (dkey_path o d)) refl (things b.0) (all_left differs front back h); akeys = akeys_new d (things b.1) (all_right differs front back h) }

  dkeys_new : (xs : List Dkey) → All differs (together (dkey_versions o) xs) → All (λ k. BelowDkeyIsNew s k.holds) xs
  dkeys_new [] h = All-nil (λ k. BelowDkeyIsNew s k.holds)
  dkeys_new (k ∷ xs) h =
      All-cons (λ b. BelowDkeyIsNew s b.holds) k xs (below_dkey_new k.name k.holds (all_left differs (dkey_versions o k) (together (dkey_versions o) xs) h))
      (dkeys_new xs (all_right differs (dkey_versions o k) (together (dkey_versions o) xs) h))

  below_object_new : (b : Below Dkey) → All differs (below_object_versions o b) → BelowObjectIsNew s b
  below_object_new b h =
      let front = punches (PunchObject (object_path o)) b.0 in
      let back = together (dkey_versions o) (things b.1) in
      record { punch = punch_new (PunchObject (object_path o)) refl (things b.0) (all_left differs front back h); dkeys = dkeys_new (things b.1) (all_right differs front back h) }

-- what holds of all versions holds of those of one
pub all_listed : {A V : Type 0} (P : V → Type 0) (f : A → List V) (test : A → Bool) (xs : List A) → All P (together f xs) → All P (listed f (find test xs))
all_listed P f test [] h = h
all_listed {A = A} {V = V} P f test (x ∷ xs) h = by (test x) (all_listed P f test xs (all_right P (f x) (together f xs) h))
  where
    by : (t : Bool) → All P (listed f (find test xs)) → All P (listed f (if t then Some x else find test xs))
    by true r = all_left P (f x) (together f xs) h
    by false r = r

pub object_new : (s : Stamp) (w : Write) (m : Blocks) (g : Objects) (o : ObjectKey) → Holds objects_owner m g → IsObjectKey Two o → IsAtObject o (write_path w) → IsNewIn (fresh s w) g → BelowObjectIsNew s (below_or_none (object_at o g))
object_new s w m g o held good at h =
    let x = object_at o g in
    let mine = all_listed (λ u. version_key u ≢ version_key (fresh s w)) object_versions (is_level object_level (object_key o)) (things g) h in
    let same = listed_found 1 held_below (below_owner dkey_level) object_level.key object_level.value object_level.Good (object_key o) m g held no_below object_versions (below_object_versions o) refl (λ b ok level. ap (λ z. below_object_versions z b.holds) (objects_exact o good b ok level)) in
    let key : version_key (fresh s w) ≡ order s o = λ i. s.at.epoch.0 ∷ s.at.minor ∷ object_order (at.cont i) (at.obj i) in
    below_object_new s o (below_or_none x) (subst (λ z. All (λ u. version_key u ≢ z) (below_object_versions o (below_or_none x))) key (subst (λ z. All (λ u. version_key u ≢ version_key (fresh s w)) z) same mine))
