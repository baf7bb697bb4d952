-- What the change of one write makes of the versions below an akey, a dkey, an object, and of all.
use Rattle.std.proofs.Common.{◌≡◌, ◌==◌, ◌&&◌, ◌||◌, ℕ, Bool, true, false, not, List, [], ◌∷◌, ◌++◌, Option, Some, None, map, refl, sym, ap, ◌∙◌, subst}
use Rattle.std.specs.Prelude.{IfSome, filter, is_none, is_some, if◌then◌else◌}
use Rattle.std.specs.List.{list_any}
use Rattle.std.specs.Ordering.{ordering_reverse}
use Rattle.std.specs.declared.cmp.Ordering.{Ordering}
use Rattle.std.specs.declared.cmp.Ordering.TheVariants.{Less, Equal, Greater}
use Rattle.base_types.specs.PathLaws.{same_path-Decides}
use Rattle.base_types.specs.Operations.{write_path}
use Rattle.base_types.specs.Paths.{same_path}
use Rattle.base_types.specs.declared.id.ObjId.{ObjId}
use Rattle.base_types.specs.declared.operation.Write.{Write}
use Rattle.base_types.specs.declared.operation.Write.TheVariants.{Single, Extent, PunchObject, PunchDkey, PunchAkey}
use Rattle.base_types.specs.declared.path.Path.{Path}
use Rattle.daos_model.specs.BoolLaws.{and_left, and_right}
use Rattle.daos_model.specs.declared.durable.Version.{Version}
use Rattle.pmem_pages.specs.Blocks.{Blocks}
use Rattle.pmem_pages.specs.Node.{key_cmp}
use Rattle.pmem_pages.specs.Owners.{Holds}
use Rattle.pmem_pages.specs.Shape.{chosen}
use Rattle.pmem_pages.specs.declared.node.TreeKey.{TreeKey}
use Rattle.pmem_pages.proofs.Lists.{key_total}
use Rattle.vos_values.specs.declared.keys.Layout.TheVariants.{Two}
use Rattle.vos_values.specs.declared.keys.ObjectKey.{ObjectKey}
use Rattle.vos_values.specs.Keys.{IsName, IsObjectKey, name_key, object_key}
use Rattle.vos_levels.specs.Changes.{changed_by, keeps, takes}
use Rattle.vos_levels.specs.Levels.{Hung, hung, hung_root, things}
use Rattle.vos_levels.specs.Moments.{same_moment}
use Rattle.vos_levels.proofs.Settling.{list_same}
use Rattle.vos_ilog.specs.declared.ilog.LogEntry.{LogEntry}
use Rattle.vos_ilog.specs.Logs.{done_entry, is_at}
use Rattle.vos_path.specs.vos_single.declared.single.SingleVersion.{SingleVersion}
use Rattle.vos_path.specs.vos_single.Singles as single
use Rattle.vos_path.specs.vos_extent.declared.extent.ExtentVersion.{ExtentVersion}
use Rattle.vos_path.specs.vos_extent.Extents as extent
use Rattle.vos_path.specs.Objects.{Akey, Below, Dkey, Objects, Values, akey_level, akey_path, akey_versions, akeys_versions, below_dkey_versions, below_object_versions, below_owner, dkey_level, dkey_path, dkey_versions, dkeys_versions, extent_version, is_punch, object_level, object_path, object_versions, objects_owner, objects_versions, punch_version, punches, single_version, values_versions}
use Rattle.vos_path.specs.Writes.{IsAtObject, NamesAreKeys}
use Rattle.vos_path.proofs.Naming.{name_exact, object_exact}
use Rattle.vos_path.proofs.Putting.{level_equal}
use Rattle.vos_path.proofs.Written.{holds_second}
use Rattle.vos_ilog.specs.Logs.{log_owner}
use Rattle.vos_settle.specs.declared.task.Task.{Task}
use Rattle.vos_settle.specs.declared.task.Which.TheVariants as which
use Rattle.vos_settle.specs.declared.task.WriteKind.{WriteKind}
use Rattle.vos_settle.specs.declared.task.WriteKind.TheVariants as kind
use Rattle.vos_settle.specs.Tasks.{extents_by, is_taken, is_update, log_after, noted_after, place_at, punched_after, singles_by, which_of}
use Rattle.vos_settle.specs.Nodes.{AkeyTurn, AkeysTurn, BranchTurn, DkeyTurn, DkeysTurn, ObjectTurn, OneObjectTurn, Turned, ValuesTurn, is_akey, is_dkey, is_object}
use Rattle.vos_settle.specs.Versions.{WriteTurn, done_version, fits_kind, is_version_taken, is_write, object_in, versions_after}
use Rattle.vos_settle.proofs.Flat.{all_changed, any_append, any_together, changed_append, seen_changed, together_changed, unseen_changed}

-- ---- keys

itself : (o : Ordering) → o ≡ ordering_reverse o → o ≡ Equal
itself Less h = absurd (let n : ⊥ = cc in n)
itself Equal h = refl
itself Greater h = absurd (let n : ⊥ = cc in n)

-- the key of a name is that of a thing of the name
pub named_level : {N : Type 0} (key : N → TreeKey) (name other : N) → name ≡ other → chosen (key_cmp (key name) (key other)) false true false ≡ true
named_level key name other e =
    ap (λ z. chosen (key_cmp (key name) (key z)) false true false) (sym e) ∙ ap (λ o. chosen o false true false) (itself (key_cmp (key name) (key name)) (key_total.antisymm (key name) (key name)))

pub other_name : {N : Type 0} (key : N → TreeKey) (name other : N) → chosen (key_cmp (key name) (key other)) false true false ≡ false → name ≡ other → ⊥
other_name key name other below e = let level = named_level key name other e in let n : ⊥ = cc in n

-- ---- tests

and_assoc : (a b c : Bool) → (a && (b && c)) ≡ ((a && b) && c)
and_assoc true b c = refl
and_assoc false b c = refl

not_true : (a : Bool) → not a ≡ true → a ≡ false
not_true true h = absurd (let n : ⊥ = cc in n)
not_true false h = refl

pub some_inside : {A : Type 0} (a b : A) → Some a ≡ Some b → a ≡ b
some_inside a b h = cc

module _ (t : Task) (p : Path) where
  abbrev taken : WriteKind → Version → Bool
  taken k v = is_version_taken k t p v

  abbrev after : List Version → List Version
  after vs = versions_after t p vs

  pub not_same : (q : Path) → (p ≡ q → ⊥) → same_path p q ≡ false
  not_same q differs = by (same_path p q) refl
    where
      by : (b : Bool) → same_path p q ≡ b → same_path p q ≡ false
      by true e = absurd (differs ((same_path-Decides p q).0 e))
      by false e = e

  pub other_write : (k : WriteKind) (w : Write) → same_path p (write_path w) ≡ false → is_write p k w ≡ false
  other_write kind.Punch (Single q bytes) h = refl
  other_write kind.Punch (Extent q low bytes) h = refl
  other_write kind.Punch (PunchObject q) h = h
  other_write kind.Punch (PunchDkey q) h = h
  other_write kind.Punch (PunchAkey q) h = h
  other_write kind.Single (Single q bytes) h = h
  other_write kind.Single (Extent q low bytes) h = refl
  other_write kind.Single (PunchObject q) h = refl
  other_write kind.Single (PunchDkey q) h = refl
  other_write kind.Single (PunchAkey q) h = refl
  other_write (kind.Extent at) (Single q bytes) h = refl
  other_write (kind.Extent at) (Extent q low bytes) h = ap (λ (b : Bool). b && (low == at)) h
  other_write (kind.Extent at) (PunchObject q) h = refl
  other_write (kind.Extent at) (PunchDkey q) h = refl
  other_write (kind.Extent at) (PunchAkey q) h = refl

  not_taken : (k : WriteKind) (v : Version) → is_write p k v.write ≡ false → taken k v ≡ false
  not_taken k v h = ap (λ (b : Bool). (b && same_moment (record { epoch = v.epoch; minor = v.minor }) t.at) && takes t.change v.by v.done) h

  -- versions of other writes
  pub none_written : {A : Type 0} (k : WriteKind) (f : A → Version) (es : List A) → ((a : A) → is_write p k (f a).write ≡ false) → list_any (taken k) (map f es) ≡ false
  none_written k f [] h = refl
  none_written k f (e ∷ es) h = rw (not_taken k (f e) (h e), none_written k f es h) refl

  -- and of other paths
  pub none_values : (k : WriteKind) (q : Path) (a : Values) → same_path p q ≡ false → list_any (taken k) (values_versions q a) ≡ false
  none_values k q a h =
      any_append (taken k) (punches (PunchAkey q) a.0) (map (single_version q) (single.versions a.1.0) ++ map (extent_version q) (extent.extents a.1.1)) (none_written k (punch_version (PunchAkey q)) (filter is_punch (things a.0)) (λ e. other_write k (PunchAkey q) h))
      (any_append (taken k) (map (single_version q) (single.versions a.1.0)) (map (extent_version q) (extent.extents a.1.1)) (none_written k (single_version q) (single.versions a.1.0) (λ v. other_write k (Single q v.bytes) h)) (none_written k (extent_version q) (extent.extents a.1.1) (λ v. other_write k (Extent q v.low v.bytes) h)))

  pub none_akeys : (k : WriteKind) (o : ObjectKey) (d : List ℕ) (g : Hung Akey) → ((a : List ℕ) → same_path p (akey_path o d a) ≡ false) → list_any (taken k) (akeys_versions o d g) ≡ false
  none_akeys k o d g h = any_together (taken k) (akey_versions o d) (things g) (λ a. none_values k (akey_path o d a.name) a.holds (h a.name))

  pub none_below_dkey : (k : WriteKind) (o : ObjectKey) (d : List ℕ) (b : Below Akey) → same_path p (dkey_path o d) ≡ false → ((a : List ℕ) → same_path p (akey_path o d a) ≡ false) → list_any (taken k) (below_dkey_versions o d b) ≡ false
  none_below_dkey k o d b h i =
      any_append (taken k) (punches (PunchDkey (dkey_path o d)) b.0) (akeys_versions o d b.1) (none_written k (punch_version (PunchDkey (dkey_path o d))) (filter is_punch (things b.0)) (λ e. other_write k (PunchDkey (dkey_path o d)) h)) (none_akeys k o d b.1 i)

  pub none_dkeys : (k : WriteKind) (o : ObjectKey) (g : Hung Dkey) → ((d : List ℕ) → same_path p (dkey_path o d) ≡ false) → ((d a : List ℕ) → same_path p (akey_path o d a) ≡ false) → list_any (taken k) (dkeys_versions o g) ≡ false
  none_dkeys k o g h i = any_together (taken k) (dkey_versions o) (things g) (λ d. none_below_dkey k o d.name d.holds (h d.name) (i d.name))

  pub none_below_object : (k : WriteKind) (o : ObjectKey) (b : Below Dkey) → same_path p (object_path o) ≡ false → ((d : List ℕ) → same_path p (dkey_path o d) ≡ false) → ((d a : List ℕ) → same_path p (akey_path o d a) ≡ false) → list_any (taken k) (below_object_versions o b) ≡ false
  none_below_object k o b h i j =
      any_append (taken k) (punches (PunchObject (object_path o)) b.0) (dkeys_versions o b.1) (none_written k (punch_version (PunchObject (object_path o))) (filter is_punch (things b.0)) (λ e. other_write k (PunchObject (object_path o)) h)) (none_dkeys k o b.1 i j)

  -- ---- logs

  -- a list in which nothing is taken
  stays_so : (k : WriteKind) (vs : List Version) → list_any (taken k) vs ≡ false → vs ≡ changed_by (keeps t.change) (taken k) done_version vs
  stays_so k vs n = list_same (taken k) done_version (keeps t.change) vs n

  -- the punch of a log's own path
  punched : (k : WriteKind) (w : Write) (es : List LogEntry) → is_write p k w ≡ true → map (punch_version w) (filter is_punch (punched_after t es)) ≡ changed_by (keeps t.change) (taken k) done_version (map (punch_version w) (filter is_punch es))
  punched k w es so = seen_changed is_punch (punch_version w) (is_taken which.Punch t.change t.at) done_entry (taken k) done_version same (λ e. refl) (λ e. refl) (keeps t.change) es
    where
      same : (e : LogEntry) → is_punch e ≡ true → taken k (punch_version w e) ≡ is_taken which.Punch t.change t.at e
      same e s = ap (λ (b : Bool). (b && is_at t.at e) && takes t.change e.by e.done) so ∙ sym (ap (λ (b : Bool). is_at t.at e && (b && takes t.change e.by e.done)) s)

  -- creations are no versions
  unseen : (es : List LogEntry) → filter is_punch (log_after (which.Creation t.by) t.change t.at es) ≡ filter is_punch es
  unseen es = unseen_changed is_punch (is_taken (which.Creation t.by) t.change t.at) done_entry no_punch (λ e. refl) (keeps t.change) es
    where
      no_punch : (e : LogEntry) → is_taken (which.Creation t.by) t.change t.at e ≡ true → is_punch e ≡ false
      no_punch e h = not_true e.punch (and_left _ _ (and_left _ _ (and_right (is_at t.at e) _ h)))

  noted_unseen : (es : List LogEntry) → filter is_punch (noted_after t es) ≡ filter is_punch es
  noted_unseen es = by (is_update t.kind)
    where
      by : (b : Bool) → filter is_punch (if b then log_after (which.Creation t.by) t.change t.at es else es) ≡ filter is_punch es
      by true = unseen es
      by false = refl

  -- ---- an akey

  values_punches : (k : WriteKind) (q : Path) (es : List LogEntry) → same_path p q ≡ true → map (punch_version (PunchAkey q)) (filter is_punch (log_after (which_of k t.by) t.change t.at es)) ≡ changed_by (keeps t.change) (taken k) done_version (map (punch_version (PunchAkey q)) (filter is_punch es))
  values_punches kind.Punch q es so = punched kind.Punch (PunchAkey q) es so
  values_punches kind.Single q es so = ap (map (punch_version (PunchAkey q))) (unseen es) ∙ stays_so kind.Single (map (punch_version (PunchAkey q)) (filter is_punch es)) (none_written kind.Single (punch_version (PunchAkey q)) (filter is_punch es) (λ e. refl))
  values_punches (kind.Extent low) q es so = ap (map (punch_version (PunchAkey q))) (unseen es) ∙ stays_so (kind.Extent low) (map (punch_version (PunchAkey q)) (filter is_punch es)) (none_written (kind.Extent low) (punch_version (PunchAkey q)) (filter is_punch es) (λ e. refl))

  values_singles : (k : WriteKind) (q : Path) (vs : List SingleVersion) → same_path p q ≡ true → map (single_version q) (singles_by k t vs) ≡ changed_by (keeps t.change) (taken k) done_version (map (single_version q) vs)
  values_singles kind.Punch q vs so = stays_so kind.Punch (map (single_version q) vs) (none_written kind.Punch (single_version q) vs (λ v. refl))
  values_singles kind.Single q vs so = all_changed (single_version q) (single.is_taken t.change t.at) single.done_version (taken kind.Single) done_version same (λ v. refl) (keeps t.change) vs
    where
      same : (v : SingleVersion) → taken kind.Single (single_version q v) ≡ single.is_taken t.change t.at v
      same v = ap (λ (b : Bool). (b && single.is_version_at t.at v) && takes t.change v.by v.done) so
  values_singles (kind.Extent low) q vs so = stays_so (kind.Extent low) (map (single_version q) vs) (none_written (kind.Extent low) (single_version q) vs (λ v. refl))

  values_extents : (k : WriteKind) (q : Path) (vs : List ExtentVersion) → same_path p q ≡ true → map (extent_version q) (extents_by k t vs) ≡ changed_by (keeps t.change) (taken k) done_version (map (extent_version q) vs)
  values_extents kind.Punch q vs so = stays_so kind.Punch (map (extent_version q) vs) (none_written kind.Punch (extent_version q) vs (λ v. refl))
  values_extents kind.Single q vs so = stays_so kind.Single (map (extent_version q) vs) (none_written kind.Single (extent_version q) vs (λ v. refl))
  values_extents (kind.Extent low) q vs so = all_changed (extent_version q) (extent.is_taken t.change (place_at t.at low)) extent.done_extent (taken (kind.Extent low)) done_version same (λ v. refl) (keeps t.change) vs
    where
      same : (v : ExtentVersion) → taken (kind.Extent low) (extent_version q v) ≡ extent.is_taken t.change (place_at t.at low) v
      same v =
          ap (λ (b : Bool). ((b && (v.low == low)) && same_moment (record { epoch = v.epoch; minor = v.minor }) t.at) && takes t.change v.by v.done) so
          ∙ ap (λ (b : Bool). b && takes t.change v.by v.done) (and_assoc (v.low == low) (v.epoch.0 == t.at.epoch.0) (v.minor == t.at.minor))

  -- two lists, one after the other
  both_after : (k : WriteKind) (xs ys vs ws : List Version) → vs ≡ changed_by (keeps t.change) (taken k) done_version xs → ws ≡ changed_by (keeps t.change) (taken k) done_version ys → vs ++ ws ≡ changed_by (keeps t.change) (taken k) done_version (xs ++ ys)
  both_after k xs ys vs ws e f = ap (λ z. z ++ ws) e ∙ (ap (λ z. changed_by (keeps t.change) (taken k) done_version xs ++ z) f ∙ sym (changed_append (taken k) done_version (keeps t.change) xs ys))

  values_after : (q : Path) (a b : Values) → same_path p q ≡ true → ValuesTurn t a b → values_versions q b ≡ after (values_versions q a)
  values_after q a b so v =
      both_after t.kind (punches (PunchAkey q) a.0) (map (single_version q) (single.versions a.1.0) ++ map (extent_version q) (extent.extents a.1.1)) (punches (PunchAkey q) b.0) (map (single_version q) (single.versions b.1.0) ++ map (extent_version q) (extent.extents b.1.1))
      (ap (λ es. map (punch_version (PunchAkey q)) (filter is_punch es)) v.log ∙ values_punches t.kind q (things a.0) so)
      (both_after t.kind (map (single_version q) (single.versions a.1.0)) (map (extent_version q) (extent.extents a.1.1)) (map (single_version q) (single.versions b.1.0)) (map (extent_version q) (extent.extents b.1.1))
      (ap (map (single_version q)) v.singles ∙ values_singles t.kind q (single.versions a.1.0) so)
      (ap (map (extent_version q)) v.extents ∙ values_extents t.kind q (extent.extents a.1.1) so))

  pub same_is : (q : Path) → p ≡ q → same_path p q ≡ true
  same_is q e = (same_path-Decides p q).1 e

  -- ---- the akeys of a dkey

  akeys_after : (o : ObjectKey) (d name : List ℕ) (m : Blocks) (g h : Hung Akey) → Holds (hung akey_level) m g → p ≡ akey_path o d name → IsName name → AkeysTurn t name g h → akeys_versions o d h ≡ after (akeys_versions o d g)
  akeys_after o d name m g h held at good turn =
      together_changed akey_level m g held (akey_versions o d) (is_akey name) (AkeyTurn t) (keeps t.change) (taken t.kind) done_version
      (λ a other. none_values t.kind (akey_path o d a.name) a.holds (not_same (akey_path o d a.name) (λ e. other_name name_key name a.name other (some_inside name a.name (ap (λ q. q.akey) (sym at ∙ e))))))
      (λ a b stands ok level q.
      let is : name ≡ a.name = name_exact name a.name good ok (level_equal akey_level (name_key name) a level) in
      ap (λ z. values_versions (akey_path o d z) b.holds) q.name ∙ values_after (akey_path o d a.name) a.holds b.holds (same_is (akey_path o d a.name) (at ∙ ap (akey_path o d) is)) q.holds)
      (things h) turn

  -- ---- paths

  pub path_of_akey : (o : ObjectKey) (d a : List ℕ) → IsAtObject o p → p.dkey ≡ Some d → p.akey ≡ Some a → p ≡ akey_path o d a
  path_of_akey o d a h x y = λ i. record { cont = h.cont i; obj = h.obj i; dkey = x i; akey = y i }

  pub path_of_dkey : (o : ObjectKey) (d : List ℕ) → IsAtObject o p → p.dkey ≡ Some d → p.akey ≡ None → p ≡ dkey_path o d
  path_of_dkey o d h x y = λ i. record { cont = h.cont i; obj = h.obj i; dkey = x i; akey = y i }

  pub path_of_object : (o : ObjectKey) → IsAtObject o p → p.dkey ≡ None → p.akey ≡ None → p ≡ object_path o
  path_of_object o h x y = λ i. record { cont = h.cont i; obj = h.obj i; dkey = x i; akey = y i }

  -- a path of another dkey, and of another level
  pub other_dkey : (name : List ℕ) (q : Path) → p.dkey ≡ Some name → (q.dkey ≡ Some name → ⊥) → same_path p q ≡ false
  other_dkey name q x differs = not_same q (λ e. differs (sym (ap (λ r. r.dkey) e) ∙ x))

  pub other_akey : (q : Path) (x : Option (List ℕ)) → p.akey ≡ x → (q.akey ≡ x → ⊥) → same_path p q ≡ false
  other_akey q x y differs = not_same q (λ e. differs (sym (ap (λ r. r.akey) e) ∙ y))

  -- a path that ends above an akey is that of a punch
  pub punch_alone : (k : WriteKind) → fits_kind k p ≡ true → p.akey ≡ None → k ≡ kind.Punch
  punch_alone kind.Punch h e = refl
  punch_alone kind.Single h e = let some : is_some p.akey ≡ true = and_right (is_some p.obj && is_some p.dkey) (is_some p.akey) h in let none : is_some p.akey ≡ false = ap is_some e in let n : ⊥ = cc in absurd n
  punch_alone (kind.Extent low) h e = let some : is_some p.akey ≡ true = and_right (is_some p.obj && is_some p.dkey) (is_some p.akey) h in let none : is_some p.akey ≡ false = ap is_some e in let n : ⊥ = cc in absurd n

  -- a path with no dkey has no akey
  pub no_akey : (k : WriteKind) → fits_kind k p ≡ true → p.dkey ≡ None → p.akey ≡ None
  no_akey kind.Punch h e = by p.akey refl
    where
      form : (is_none p.akey || is_some p.dkey) ≡ true
      form = and_right (is_none p.dkey || is_some p.obj) (is_none p.akey || is_some p.dkey) (and_left _ (is_some p.obj) h)

      by : (x : Option (List ℕ)) → p.akey ≡ x → p.akey ≡ None
      by None f = f
      by (Some a) f = let bad : (is_none p.akey || is_some p.dkey) ≡ false = rw (f, e) refl in let n : ⊥ = cc in absurd n
  no_akey kind.Single h e = let some : is_some p.dkey ≡ true = and_right (is_some p.obj) (is_some p.dkey) (and_left _ (is_some p.akey) h) in let none : is_some p.dkey ≡ false = ap is_some e in let n : ⊥ = cc in absurd n
  no_akey (kind.Extent low) h e = let some : is_some p.dkey ≡ true = and_right (is_some p.obj) (is_some p.dkey) (and_left _ (is_some p.akey) h) in let none : is_some p.dkey ≡ false = ap is_some e in let n : ⊥ = cc in absurd n

  -- ---- a dkey

  dkey_after : (o : ObjectKey) (d : List ℕ) (m : Blocks) (g h : Below Akey) → Holds (below_owner akey_level) m g → IsAtObject o p → p.dkey ≡ Some d → fits_kind t.kind p ≡ true
      → (x : Option (List ℕ)) → p.akey ≡ x → IfSome x IsName → DkeyTurn t x g h → below_dkey_versions o d h ≡ after (below_dkey_versions o d g)
  dkey_after o d m g h held at dkey fits None akey good turn =
      let is = path_of_dkey o d at dkey akey in
      let k = punch_alone t.kind fits akey in
      let so : is_write p t.kind (PunchDkey (dkey_path o d)) ≡ true = ap (λ z. is_write p z (PunchDkey (dkey_path o d))) k ∙ same_is (dkey_path o d) is in
      both_after t.kind (punches (PunchDkey (dkey_path o d)) g.0) (akeys_versions o d g.1) (punches (PunchDkey (dkey_path o d)) h.0) (akeys_versions o d h.1)
      (ap (λ es. map (punch_version (PunchDkey (dkey_path o d))) (filter is_punch es)) turn.log ∙ punched t.kind (PunchDkey (dkey_path o d)) (things g.0) so)
      (ap (akeys_versions o d) turn.tree ∙ stays_so t.kind (akeys_versions o d g.1) (none_akeys t.kind o d g.1 (λ a. other_akey (akey_path o d a) None akey (λ e. let n : ⊥ = cc in n))))
  dkey_after o d m g h held at dkey fits (Some name) akey good turn =
      both_after t.kind (punches (PunchDkey (dkey_path o d)) g.0) (akeys_versions o d g.1) (punches (PunchDkey (dkey_path o d)) h.0) (akeys_versions o d h.1)
      (ap (λ es. map (punch_version (PunchDkey (dkey_path o d))) (filter is_punch es)) turn.log ∙ (ap (map (punch_version (PunchDkey (dkey_path o d)))) (noted_unseen (things g.0))
      ∙ stays_so t.kind (punches (PunchDkey (dkey_path o d)) g.0) (none_written t.kind (punch_version (PunchDkey (dkey_path o d))) (filter is_punch (things g.0)) (λ e. other_write t.kind (PunchDkey (dkey_path o d)) (other_akey (dkey_path o d) (Some name) akey (λ f. let n : ⊥ = cc in n))))))
      (akeys_after o d name m g.1 h.1 (holds_second log_owner (hung akey_level) m g held) (path_of_akey o d name at dkey akey) good turn.tree)

  -- ---- the dkeys of an object

  dkeys_after : (o : ObjectKey) (name : List ℕ) (m : Blocks) (g h : Hung Dkey) → Holds (hung dkey_level) m g → IsAtObject o p → p.dkey ≡ Some name → fits_kind t.kind p ≡ true → IsName name → IfSome p.akey IsName → DkeysTurn t name p.akey g h → dkeys_versions o h ≡ after (dkeys_versions o g)
  dkeys_after o name m g h held at dkey fits good akey turn =
      together_changed dkey_level m g held (dkey_versions o) (is_dkey name) (BranchTurn (DkeyTurn t p.akey)) (keeps t.change) (taken t.kind) done_version
      (λ d other.
      let differs : Some d.name ≡ Some name → ⊥ = λ e. other_name name_key name d.name other (sym (some_inside d.name name e)) in
      none_below_dkey t.kind o d.name d.holds (other_dkey name (dkey_path o d.name) dkey differs) (λ a. other_dkey name (akey_path o d.name a) dkey differs))
      (λ a b stands ok level q.
      let is : name ≡ a.name = name_exact name a.name good ok (level_equal dkey_level (name_key name) a level) in
      ap (λ z. below_dkey_versions o z b.holds) q.name ∙ dkey_after o a.name m a.holds b.holds (record { here = stands.here; apart = stands.apart }) at (dkey ∙ ap (λ z. Some z) is) fits p.akey refl akey q.holds)
      (things h) turn

  -- ---- an object

  object_after : (o : ObjectKey) (m : Blocks) (g h : Below Dkey) → Holds (below_owner dkey_level) m g → IsAtObject o p → fits_kind t.kind p ≡ true → IfSome p.akey IsName
      → (x : Option (List ℕ)) → p.dkey ≡ x → IfSome x IsName → ObjectTurn t x p.akey g h → below_object_versions o h ≡ after (below_object_versions o g)
  object_after o m g h held at fits akey None dkey good turn =
      let none = no_akey t.kind fits dkey in
      let is = path_of_object o at dkey none in
      let k = punch_alone t.kind fits none in
      let so : is_write p t.kind (PunchObject (object_path o)) ≡ true = ap (λ z. is_write p z (PunchObject (object_path o))) k ∙ same_is (object_path o) is in
      let other : (q : Path) → (q.dkey ≡ None → ⊥) → same_path p q ≡ false = λ q differs. not_same q (λ e. differs (sym (ap (λ r. r.dkey) e) ∙ dkey)) in
      both_after t.kind (punches (PunchObject (object_path o)) g.0) (dkeys_versions o g.1) (punches (PunchObject (object_path o)) h.0) (dkeys_versions o h.1)
      (ap (λ es. map (punch_version (PunchObject (object_path o))) (filter is_punch es)) turn.log ∙ punched t.kind (PunchObject (object_path o)) (things g.0) so)
      (ap (dkeys_versions o) turn.tree ∙ stays_so t.kind (dkeys_versions o g.1) (none_dkeys t.kind o g.1 (λ d. other (dkey_path o d) (λ e. let n : ⊥ = cc in n)) (λ d a. other (akey_path o d a) (λ e. let n : ⊥ = cc in n))))
  object_after o m g h held at fits akey (Some name) dkey good turn =
      both_after t.kind (punches (PunchObject (object_path o)) g.0) (dkeys_versions o g.1) (punches (PunchObject (object_path o)) h.0) (dkeys_versions o h.1)
      (ap (λ es. map (punch_version (PunchObject (object_path o))) (filter is_punch es)) turn.log ∙ (ap (map (punch_version (PunchObject (object_path o)))) (noted_unseen (things g.0))
      ∙ stays_so t.kind (punches (PunchObject (object_path o)) g.0) (none_written t.kind (punch_version (PunchObject (object_path o))) (filter is_punch (things g.0)) (λ e. other_write t.kind (PunchObject (object_path o)) (other_dkey name (object_path o) dkey (λ f. let n : ⊥ = cc in n))))))
      (dkeys_after o name m g.1 h.1 (holds_second log_owner (hung dkey_level) m g held) at dkey fits good akey turn.tree)

  -- ---- all objects

  pub objects_after : (o : ObjectKey) (m : Blocks) (g h : Objects) → Holds objects_owner m g → IsAtObject o p → fits_kind t.kind p ≡ true → NamesAreKeys p → IsObjectKey Two o → OneObjectTurn t o p g h → objects_versions h ≡ after (objects_versions g)
  objects_after o m g h held at fits names good turn =
      together_changed object_level m g held object_versions (is_object o) (BranchTurn (ObjectTurn t p.dkey p.akey)) (keeps t.change) (taken t.kind) done_version
      (λ a other.
      let differs : (q : Path) → q.cont ≡ a.name.cont → q.obj ≡ Some a.name.obj → p ≡ q → ⊥ = λ q c b e.
      other_name object_key o a.name other (λ i. record { cont = (sym at.cont ∙ (ap (λ r. r.cont) e ∙ c)) i; obj = some_inside o.obj a.name.obj (sym at.obj ∙ (ap (λ r. r.obj) e ∙ b)) i }) in
      none_below_object t.kind a.name a.holds (not_same (object_path a.name) (differs (object_path a.name) refl refl)) (λ d. not_same (dkey_path a.name d) (differs (dkey_path a.name d) refl refl)) (λ d k. not_same (akey_path a.name d k) (differs (akey_path a.name d k) refl refl)))
      (λ a b stands ok level q.
      let is : o ≡ a.name = object_exact o a.name good ok (level_equal object_level (object_key o) a level) in
      let there : IsAtObject a.name p = subst (λ z. IsAtObject z p) is at in
      ap (λ z. below_object_versions z b.holds) q.name ∙ object_after a.name m a.holds b.holds (record { here = stands.here; apart = stands.apart }) there fits names.akey p.dkey refl names.dkey q.holds)
      (things h) turn

-- what became of the nodes on the way tells what became of all versions
pub write_turned : (t : Task) (p : Path) (m n : Blocks) (g : Objects) (o : ObjId) (root : ℕ) → Holds objects_owner m g → p.obj ≡ Some o → fits_kind t.kind p ≡ true → NamesAreKeys p → IsObjectKey Two (object_in p o)
    → Turned objects_owner hung_root m g n root (OneObjectTurn t (object_in p o) p) → WriteTurn t p m g n root
write_turned t p m n g o root held obj fits names good turn = record {
  now = turn.now;
  changed = turn.changed;
  root_is = turn.roots_are;
  versions = objects_after t p (object_in p o) m g turn.now held (record { cont = refl; obj = obj }) fits names good turn.so;
  nodes = λ q e. subst (λ z. OneObjectTurn t (object_in p z) p g turn.now) (some_inside o q (sym obj ∙ e)) turn.so;
}
