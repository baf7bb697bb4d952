-- Whose a write is, on the way down and among all versions.
use Rattle.std.proofs.Common.{◌≡◌, ◌==◌, ◌&&◌, ℕ, ◌<◌, ◌^◌, Bool, true, false, List, ◌++◌, Option, Some, None, map, refl, sym, ap, ◌∙◌, subst}
use Rattle.std.specs.Prelude.{IfSome, filter}
use Rattle.std.specs.List.{find, list_any}
use Rattle.std.specs.Option.{option_map}
use Rattle.base_types.specs.declared.id.AttemptId.{AttemptId}
use Rattle.base_types.specs.declared.id.ObjId.{ObjId}
use Rattle.base_types.specs.declared.operation.Write.{Write}
use Rattle.base_types.specs.declared.operation.Write.TheVariants.{PunchObject, PunchDkey, PunchAkey}
use Rattle.base_types.specs.declared.path.Path.{Path}
use Rattle.base_types.specs.Paths.{same_path}
use Rattle.daos_model.specs.declared.durable.Version.{Version}
use Rattle.pmem_pages.specs.Blocks.{Blocks}
use Rattle.pmem_pages.specs.Owners.{Holds}
use Rattle.vos_values.specs.declared.keys.Layout.TheVariants.{Two}
use Rattle.vos_values.specs.declared.keys.Moment.{Moment}
use Rattle.vos_values.specs.declared.keys.ObjectKey.{ObjectKey}
use Rattle.vos_values.specs.Keys.{IsMoment, IsName, IsObjectKey, extent_key, moment_key, name_key, object_key}
use Rattle.vos_levels.specs.Levels.{Hung, hung, things}
use Rattle.vos_levels.specs.Moments.{same_moment}
use Rattle.vos_levels.proofs.Settling.{sum_none}
use Rattle.vos_levels.proofs.Spots.{find_none}
use Rattle.vos_levels.proofs.Testing.{found_missing}
use Rattle.vos_ilog.specs.declared.ilog.LogEntry.{LogEntry}
use Rattle.vos_ilog.specs.Logs.{Log, is_at, log_level, log_owner, mark_of}
use Rattle.vos_ilog.proofs.Adding as log_adding
use Rattle.vos_single.specs.Singles as single
use Rattle.vos_single.proofs.Reading as single_reading
use Rattle.vos_extent.specs.Extents as extent
use Rattle.vos_extent.proofs.Places as places
use Rattle.vos_path.specs.Objects.{Akey, Below, Dkey, Objects, Values, akey_level, akey_path, akey_versions, akeys_versions, below_dkey_versions, below_object_versions, below_owner, dkey_level, dkey_path, dkey_versions, dkeys_versions, extent_version, is_punch, object_level, object_path, object_versions, objects_owner, objects_versions, punch_version, punches, single_version, values_owner, values_versions}
use Rattle.vos_path.specs.Writes.{IsAtObject, NamesAreKeys}
use Rattle.vos_path.proofs.Naming.{name_exact, object_exact}
use Rattle.vos_path.proofs.Putting.{level_equal}
use Rattle.vos_path.proofs.Written.{holds_extent, holds_first, holds_log, holds_second, holds_single}
use Rattle.vos_settle.specs.declared.task.Task.{Task}
use Rattle.vos_settle.specs.declared.task.WriteKind.{WriteKind}
use Rattle.vos_settle.specs.declared.task.WriteKind.TheVariants as kind
use Rattle.vos_settle.specs.Tasks.{place_at}
use Rattle.vos_settle.specs.Versions.{fits_kind, is_write, object_in, version_blocks, write_freed}
use Rattle.vos_settle.proofs.Flat.{any_append}
use Rattle.vos_settle.proofs.VersionTurns.{no_akey, none_akeys, none_below_dkey, none_below_object, none_dkeys, none_values, none_written, not_same, other_akey, other_dkey, other_name, other_write, path_of_akey, path_of_dkey, path_of_object, punch_alone, same_is, some_inside}
use Rattle.vos_prune.specs.Removals.{done_blocks, pruning, removed_freed}
use Rattle.vos_prune.specs.Writers.{HasPlace, akey_writer, akeys_writer, dkey_writer, dkeys_writer, done_punch, done_version, extent_writer, is_done_of, log_writer, object_writer, objects_writer, one_dkey_writer, one_object_writer, single_writer, values_writer, version_by, writer_of}
use Rattle.vos_prune.proofs.Finding.{all_seen, find_left, find_right, find_seen, find_together, map_map, when}

and_assoc : (a b c : Bool) → ((a && b) && c) ≡ (a && (b && c))
and_assoc true b c = refl
and_assoc false b c = refl

abbrev nobody : AttemptId
nobody = record { client = 0; command = 0; attempt = 0 }

module _ (p : Path) (k : WriteKind) (m_at : Moment) (moment : IsMoment m_at) where
  -- the same change for whomever: a prune takes what is done
  abbrev task : Task
  task = pruning k m_at nobody

  abbrev test : Version → Bool
  test v = is_done_of p k m_at v

  abbrev first_by : List Version → Option AttemptId
  first_by vs = option_map version_by (find test vs)

  none_by : (vs : List Version) → list_any test vs ≡ false → find test vs ≡ None
  none_by vs n = find_none test vs n

  -- ---- leaves

  when_punch : (x : Option LogEntry) → when (λ e. is_punch e && e.done) (λ e. e.by) x ≡ done_punch (option_map mark_of x)
  when_punch None = refl
  when_punch (Some e) = refl

  log_first : (w : Write) (m : Blocks) (g : Log) → Holds log_owner m g → is_write p k w ≡ true → log_writer m_at (things g) ≡ first_by (punches w g)
  log_first w m g held so =
      sym (when_punch (find (is_at m_at) (things g)))
      ∙ find_seen (is_at m_at) is_punch (λ e. e.done) (punch_version w) test version_by (λ e s. ap (λ (b : Bool). (b && is_at m_at e) && e.done) so) log_level (moment_key m_at) (log_adding.tells_at m_at moment) m g held

module _ (p : Path) (m_at : Moment) (moment : IsMoment m_at) where
  when_single : (x : Option single.Stored) → when (λ s. true && s.version.done) (λ s. s.version.by) x ≡ done_version (option_map single.mark_of x)
  when_single None = refl
  when_single (Some s) = refl

  single_first : (q : Path) (m : Blocks) (g : single.Singles) → Holds single.single_owner m g → same_path p q ≡ true → single_writer m_at (things g) ≡ first_by p kind.Single m_at moment (map (single_version q) (single.versions g))
  single_first q m g held so =
      sym (when_single (find (single.is_at m_at) (things g)))
      ∙ (find_seen (single.is_at m_at) (λ s. true) (λ s. s.version.done) (λ s. single_version q s.version) (test p kind.Single m_at moment) version_by (λ s e. ap (λ (b : Bool). (b && single.is_at m_at s) && s.version.done) so) single.single_level (moment_key m_at) (single_reading.tells_at m_at moment) m g held
      ∙ ap (first_by p kind.Single m_at moment) (ap (map (λ s. single_version q s.version)) (all_seen (things g)) ∙ sym (map_map (single_version q) single.version_of (things g))))

  when_extent : (x : Option extent.Stored) → when (λ s. true && s.extent.done) (λ s. s.extent.by) x ≡ done_version (option_map extent.mark_of x)
  when_extent None = refl
  when_extent (Some s) = refl

  extent_first : (low : ℕ) (q : Path) (m : Blocks) (g : extent.Extents) → low < 2 ^ 32 → Holds extent.extent_owner m g → same_path p q ≡ true → extent_writer (place_at m_at low) (things g) ≡ first_by p (kind.Extent low) m_at moment (map (extent_version q) (extent.extents g))
  extent_first low q m g few held so =
      sym (when_extent (find (extent.is_at (place_at m_at low)) (things g)))
      ∙ (find_seen (extent.is_at (place_at m_at low)) (λ s. true) (λ s. s.extent.done) (λ s. extent_version q s.extent) (test p (kind.Extent low) m_at moment) version_by
      (λ s e. ap (λ (b : Bool). ((b && (s.extent.low == low)) && same_moment (record { epoch = s.extent.epoch; minor = s.extent.minor }) m_at) && s.extent.done) so
      ∙ ap (λ (b : Bool). b && s.extent.done) (sym (and_assoc (s.extent.low == low) (s.extent.epoch.0 == m_at.epoch.0) (s.extent.minor == m_at.minor))))
      extent.extent_level (extent_key (place_at m_at low)) (places.tells_at (place_at m_at low) (record { low = few; epoch = moment.epoch; minor = moment.minor })) m g held
      ∙ ap (first_by p (kind.Extent low) m_at moment) (ap (map (λ s. extent_version q s.extent)) (all_seen (things g)) ∙ sym (map_map (extent_version q) extent.extent_of (things g))))

  -- ---- an akey

  values_first : (k : WriteKind) (q : Path) (m : Blocks) (g : Values) → HasPlace k → Holds values_owner m g → same_path p q ≡ true → values_writer k m_at g ≡ first_by p k m_at moment (values_versions q g)
  values_first kind.Punch q m g place held so =
      log_first p kind.Punch m_at moment (PunchAkey q) m g.0 (holds_log m g held) so
      ∙ ap (option_map version_by) (sym (find_left (test p kind.Punch m_at moment) (punches (PunchAkey q) g.0) (map (single_version q) (single.versions g.1.0) ++ map (extent_version q) (extent.extents g.1.1))
      (any_append (test p kind.Punch m_at moment) (map (single_version q) (single.versions g.1.0)) (map (extent_version q) (extent.extents g.1.1)) (none_written (pruning kind.Punch m_at nobody) p kind.Punch (single_version q) (single.versions g.1.0) (λ v. refl)) (none_written (pruning kind.Punch m_at nobody) p kind.Punch (extent_version q) (extent.extents g.1.1) (λ v. refl)))))
  values_first kind.Single q m g place held so =
      single_first q m g.1.0 (holds_single m g held) so
      ∙ ap (option_map version_by) (sym (find_right (test p kind.Single m_at moment) (punches (PunchAkey q) g.0) (map (single_version q) (single.versions g.1.0) ++ map (extent_version q) (extent.extents g.1.1)) (none_written (pruning kind.Single m_at nobody) p kind.Single (punch_version (PunchAkey q)) (filter is_punch (things g.0)) (λ e. refl))
      ∙ find_left (test p kind.Single m_at moment) (map (single_version q) (single.versions g.1.0)) (map (extent_version q) (extent.extents g.1.1)) (none_written (pruning kind.Single m_at nobody) p kind.Single (extent_version q) (extent.extents g.1.1) (λ v. refl))))
  values_first (kind.Extent low) q m g place held so =
      extent_first low q m g.1.1 place (holds_extent m g held) so
      ∙ ap (option_map version_by) (sym (find_right (test p (kind.Extent low) m_at moment) (punches (PunchAkey q) g.0) (map (single_version q) (single.versions g.1.0) ++ map (extent_version q) (extent.extents g.1.1)) (none_written (pruning (kind.Extent low) m_at nobody) p (kind.Extent low) (punch_version (PunchAkey q)) (filter is_punch (things g.0)) (λ e. refl))
      ∙ find_right (test p (kind.Extent low) m_at moment) (map (single_version q) (single.versions g.1.0)) (map (extent_version q) (extent.extents g.1.1)) (none_written (pruning (kind.Extent low) m_at nobody) p (kind.Extent low) (single_version q) (single.versions g.1.0) (λ v. refl))))

-- ---- the way down

module _ (p : Path) (k : WriteKind) (m_at : Moment) (moment : IsMoment m_at) (place : HasPlace k) (fits : fits_kind k p ≡ true) where
  abbrev first : List Version → Option AttemptId
  first vs = first_by p k m_at moment vs

  abbrev is_it : Version → Bool
  is_it v = test p k m_at moment v

  abbrev t : Task
  t = pruning k m_at nobody

  akeys_first : (o : ObjectKey) (d name : List ℕ) (m : Blocks) (g : Hung Akey) → Holds (hung akey_level) m g → p ≡ akey_path o d name → IsName name → akeys_writer k m_at name g ≡ first (akeys_versions o d g)
  akeys_first o d name m g held at good =
      find_together akey_level (name_key name) m g held (akey_versions o d) is_it version_by (akey_writer k m_at)
      (λ a other. none_values t p k (akey_path o d a.name) a.holds (not_same t p (akey_path o d a.name) (λ e. other_name name_key name a.name other (some_inside name a.name (ap (λ q. q.akey) (sym at ∙ e))))))
      (λ a stands ok level.
      let is : name ≡ a.name = name_exact name a.name good ok (level_equal akey_level (name_key name) a level) in
      values_first p m_at moment k (akey_path o d a.name) m a.holds place (record { here = stands.here; apart = stands.apart }) (same_is t p (akey_path o d a.name) (at ∙ ap (akey_path o d) is)))

  dkey_first : (o : ObjectKey) (d : List ℕ) (m : Blocks) (g : Below Akey) → Holds (below_owner akey_level) m g → IsAtObject o p → p.dkey ≡ Some d → (x : Option (List ℕ)) → p.akey ≡ x → IfSome x IsName → dkey_writer k m_at x g ≡ first (below_dkey_versions o d g)
  dkey_first o d m g held at dkey None akey good =
      let is = path_of_dkey t p o d at dkey akey in
      let so : is_write p k (PunchDkey (dkey_path o d)) ≡ true = ap (λ z. is_write p z (PunchDkey (dkey_path o d))) (punch_alone t p k fits akey) ∙ same_is t p (dkey_path o d) is in
      log_first p k m_at moment (PunchDkey (dkey_path o d)) m g.0 (holds_first log_owner (hung akey_level) m g held) so
      ∙ ap (option_map version_by) (sym (find_left is_it (punches (PunchDkey (dkey_path o d)) g.0) (akeys_versions o d g.1) (none_akeys t p k o d g.1 (λ a. other_akey t p (akey_path o d a) None akey (λ e. let n : ⊥ = cc in n)))))
  dkey_first o d m g held at dkey (Some name) akey good =
      akeys_first o d name m g.1 (holds_second log_owner (hung akey_level) m g held) (path_of_akey t p o d name at dkey akey) good
      ∙ ap (option_map version_by) (sym (find_right is_it (punches (PunchDkey (dkey_path o d)) g.0) (akeys_versions o d g.1) (none_written t p k (punch_version (PunchDkey (dkey_path o d))) (filter is_punch (things g.0)) (λ e. other_write t p k (PunchDkey (dkey_path o d)) (other_akey t p (dkey_path o d) (Some name) akey (λ f. let n : ⊥ = cc in n))))))

  dkeys_first : (o : ObjectKey) (name : List ℕ) (m : Blocks) (g : Hung Dkey) → Holds (hung dkey_level) m g → IsAtObject o p → p.dkey ≡ Some name → IsName name → IfSome p.akey IsName → dkeys_writer k m_at name p.akey g ≡ first (dkeys_versions o g)
  dkeys_first o name m g held at dkey good akey =
      find_together dkey_level (name_key name) m g held (dkey_versions o) is_it version_by (one_dkey_writer k m_at p.akey)
      (λ d other.
      let differs : Some d.name ≡ Some name → ⊥ = λ e. other_name name_key name d.name other (sym (some_inside d.name name e)) in
      none_below_dkey t p k o d.name d.holds (other_dkey t p name (dkey_path o d.name) dkey differs) (λ a. other_dkey t p name (akey_path o d.name a) dkey differs))
      (λ a stands ok level.
      let is : name ≡ a.name = name_exact name a.name good ok (level_equal dkey_level (name_key name) a level) in
      dkey_first o a.name m a.holds (record { here = stands.here; apart = stands.apart }) at (dkey ∙ ap (λ z. Some z) is) p.akey refl akey)

  object_first : (o : ObjectKey) (m : Blocks) (g : Below Dkey) → Holds (below_owner dkey_level) m g → IsAtObject o p → IfSome p.akey IsName → (x : Option (List ℕ)) → p.dkey ≡ x → IfSome x IsName → object_writer k m_at x p.akey g ≡ first (below_object_versions o g)
  object_first o m g held at akey None dkey good =
      let none = no_akey t p k fits dkey in
      let is = path_of_object t p o at dkey none in
      let so : is_write p k (PunchObject (object_path o)) ≡ true = ap (λ z. is_write p z (PunchObject (object_path o))) (punch_alone t p k fits none) ∙ same_is t p (object_path o) is in
      let other : (q : Path) → (q.dkey ≡ None → ⊥) → same_path p q ≡ false = λ q differs. not_same t p q (λ e. differs (sym (ap (λ r. r.dkey) e) ∙ dkey)) in
      log_first p k m_at moment (PunchObject (object_path o)) m g.0 (holds_first log_owner (hung dkey_level) m g held) so
      ∙ ap (option_map version_by) (sym (find_left is_it (punches (PunchObject (object_path o)) g.0) (dkeys_versions o g.1) (none_dkeys t p k o g.1 (λ d. other (dkey_path o d) (λ e. let n : ⊥ = cc in n)) (λ d a. other (akey_path o d a) (λ e. let n : ⊥ = cc in n)))))
  object_first o m g held at akey (Some name) dkey good =
      dkeys_first o name m g.1 (holds_second log_owner (hung dkey_level) m g held) at dkey good akey
      ∙ ap (option_map version_by) (sym (find_right is_it (punches (PunchObject (object_path o)) g.0) (dkeys_versions o g.1) (none_written t p k (punch_version (PunchObject (object_path o))) (filter is_punch (things g.0)) (λ e. other_write t p k (PunchObject (object_path o)) (other_dkey t p name (object_path o) dkey (λ f. let n : ⊥ = cc in n))))))

  objects_first : (o : ObjectKey) (m : Blocks) (g : Objects) → Holds objects_owner m g → IsAtObject o p → NamesAreKeys p → IsObjectKey Two o → objects_writer k m_at o p g ≡ first (objects_versions g)
  objects_first o m g held at names good =
      find_together object_level (object_key o) m g held object_versions is_it version_by (one_object_writer k m_at p)
      (λ a other.
      let differs : (q : Path) → q.cont ≡ a.name.cont → q.obj ≡ Some a.name.obj → p ≡ q → ⊥ = λ q c b e.
      other_name object_key o a.name other (λ i. record { cont = (sym at.cont ∙ (ap (λ r. r.cont) e ∙ c)) i; obj = some_inside o.obj a.name.obj (sym at.obj ∙ (ap (λ r. r.obj) e ∙ b)) i }) in
      none_below_object t p k a.name a.holds (not_same t p (object_path a.name) (differs (object_path a.name) refl refl)) (λ d. not_same t p (dkey_path a.name d) (differs (dkey_path a.name d) refl refl)) (λ d b. not_same t p (akey_path a.name d b) (differs (akey_path a.name d b) refl refl)))
      (λ a stands ok level.
      let is : o ≡ a.name = object_exact o a.name good ok (level_equal object_level (object_key o) a level) in
      object_first a.name m a.holds (record { here = stands.here; apart = stands.apart }) (subst (λ z. IsAtObject z p) is at) names.akey p.dkey refl names.dkey)

-- what is found on the way down is whose the version is
pub writer_is : (p : Path) (k : WriteKind) (at : Moment) (o : ObjId) (m : Blocks) (g : Objects) → Holds objects_owner m g → p.obj ≡ Some o → fits_kind k p ≡ true → NamesAreKeys p → IsObjectKey Two (object_in p o) → IsMoment at → HasPlace k
    → objects_writer k at (object_in p o) p g ≡ writer_of p k at (objects_versions g)
writer_is p k at o m g held obj fits names good moment place = objects_first p k at moment place fits (object_in p o) m g held (record { cont = refl; obj = obj }) names good

-- where it is nobody's, no block goes with it
pub nobody_freed : (p : Path) (k : WriteKind) (at : Moment) (vs : List Version) → None ≡ writer_of p k at vs → done_blocks p k at vs ≡ 0
nobody_freed p k at vs h = sum_none (is_done_of p k at) version_blocks vs (found_missing (is_done_of p k at) vs (unmapped (find (is_done_of p k at) vs) h))
  where
    unmapped : (x : Option Version) → None ≡ option_map version_by x → x ≡ None
    unmapped None h = refl
    unmapped (Some v) h = absurd (let n : ⊥ = cc in n)

pub nobody_removed : (x : Option AttemptId) (k : WriteKind) (at : Moment) (p : Path) (g : Objects) → x ≡ None → removed_freed x k at p g ≡ 0
nobody_removed x k at p g e = ap (λ z. removed_freed z k at p g) e

pub somebody_removed : (x : Option AttemptId) (by : AttemptId) (k : WriteKind) (at : Moment) (p : Path) (g : Objects) → x ≡ Some by → removed_freed x k at p g ≡ write_freed (pruning k at by) p g
somebody_removed x by k at p g e = ap (λ z. removed_freed z k at p g) e
