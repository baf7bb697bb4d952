-- What the layout asks of versions: of single values, extents and punches alike.
use Rattle.std.proofs.Common.{◌≡◌, ℕ, ◌≤◌, Bool, true, false, ◌&&◌, List, length}
use Rattle.std.specs.Prelude.{All, filter, map}
use Rattle.base_types.specs.declared.operation.Write.{Write}
use Rattle.base_types.specs.declared.operation.Write.TheVariants.{Extent, PunchAkey, PunchDkey, PunchObject, Single}
use Rattle.base_types.specs.declared.path.Path.{Path}
use Rattle.base_types.specs.Paths.{record_size}
use Rattle.daos_model.specs.declared.durable.Version.{Version}
use Rattle.daos_model.specs.Forms.{ends_at_akey, fits_records, is_length, is_write_in_form}
use Rattle.vos_image.specs.vos_extent.Extents.{Stored as StoredExtent, extent_of, extents}
use Rattle.vos_ilog.specs.declared.ilog.LogEntry.{LogEntry}
use Rattle.vos_image.specs.Content.{Content}
use Rattle.vos_image.specs.Fits.{AkeyFits, DkeyFits, ExtentFits, LogFits, ObjectFits, SingleFits}
use Rattle.vos_levels.specs.Changes.{keeps}
use Rattle.vos_levels.specs.Levels.{HasMore, things}
use Rattle.vos_image.specs.vos_path.declared.stamp.Stamp.{Stamp}
use Rattle.vos_image.specs.vos_path.Objects.{Akey, Dkey, Object, Objects, akey_path, akey_versions, dkey_path, dkey_versions, extent_version, is_punch, object_path, object_versions, objects_versions, punch_version, punches, single_version}
use Rattle.vos_image.specs.vos_path.Writes.{fresh}
use Rattle.vos_settle.specs.declared.task.Task.{Task}
use Rattle.vos_settle.specs.Versions.{done_version, is_version_taken, versions_after}
use Rattle.vos_image.specs.vos_single.Singles.{Stored as StoredSingle, version_of, versions}
use Rattle.vos_values.specs.declared.keys.ObjectKey.{ObjectKey}
use Rattle.vos_fitting.specs.Fitting.{MayStand}
use Rattle.vos_fitting.proofs.Alls.{all_together, from_map, joined, of_changed, of_filter, of_map, on_all, with_more}

abbrev pub WriteFits : Write → Type 0
WriteFits (Single p bytes) = Unit {0}
WriteFits (Extent p low bytes) = fits_records (record_size p) low (length bytes) ≡ true
WriteFits (PunchObject p) = Unit {0}
WriteFits (PunchDkey p) = Unit {0}
WriteFits (PunchAkey p) = Unit {0}

pub record VersionFits (c : Content) (v : Version) : Type 0 where
  pub epoch : v.epoch.0 ≤ c.covered
  pub write : WriteFits v.write

-- ---- the versions of what fits

module _ (c : Content) where
  punch_fits : (w : Write) → WriteFits w → (es : List LogEntry) → All (LogFits c) es → All (VersionFits c) (map (punch_version w) (filter is_punch es))
  punch_fits w fits es all = of_map (VersionFits c) (punch_version w) (filter is_punch es) (on_all (LogFits c) (λ e. VersionFits c (punch_version w e)) (λ e h. record { epoch = h; write = fits }) (filter is_punch es) (of_filter (LogFits c) is_punch es all))

  single_fits : (p : Path) (xs : List StoredSingle) → All (SingleFits c) xs → All (VersionFits c) (map (single_version p) (map version_of xs))
  single_fits p xs all =
      of_map (VersionFits c) (single_version p) (map version_of xs)
      (of_map (λ v. VersionFits c (single_version p v)) version_of xs (on_all (SingleFits c) (λ s. VersionFits c (single_version p (version_of s))) (λ s h. record { epoch = h; write = tt }) xs all))

  extent_fits : (p : Path) (xs : List StoredExtent) → All (ExtentFits c (record_size p)) xs → All (VersionFits c) (map (extent_version p) (map extent_of xs))
  extent_fits p xs all =
      of_map (VersionFits c) (extent_version p) (map extent_of xs)
      (of_map (λ v. VersionFits c (extent_version p v)) extent_of xs (on_all (ExtentFits c (record_size p)) (λ s. VersionFits c (extent_version p (extent_of s))) (λ s h. record { epoch = h.epoch; write = h.records }) xs all))

  akey_fits : (o : ObjectKey) (d : List ℕ) (a : Akey) → AkeyFits c o.obj.unit a → All (VersionFits c) (akey_versions o d a)
  akey_fits o d a h =
      let p = akey_path o d a.name in
      joined (VersionFits c) (punches (PunchAkey p) a.holds.0) _ (punch_fits (PunchAkey p) tt (things a.holds.0) h.log)
      (joined (VersionFits c) (map (single_version p) (versions a.holds.1.0)) (map (extent_version p) (extents a.holds.1.1)) (single_fits p (things a.holds.1.0) h.singles) (extent_fits p (things a.holds.1.1) h.extents))

  dkey_fits : (o : ObjectKey) (k : Dkey) → DkeyFits c o.obj.unit k → All (VersionFits c) (dkey_versions o k)
  dkey_fits o k h =
      joined (VersionFits c) (punches (PunchDkey (dkey_path o k.name)) k.holds.0) _ (punch_fits (PunchDkey (dkey_path o k.name)) tt (things k.holds.0) h.log)
      (all_together (VersionFits c) (akey_versions o k.name) (things k.holds.1) (on_all (AkeyFits c o.obj.unit) (λ a. All (VersionFits c) (akey_versions o k.name a)) (akey_fits o k.name) (things k.holds.1) h.akeys))

  object_fits : (o : Object) → ObjectFits c o → All (VersionFits c) (object_versions o)
  object_fits o h =
      joined (VersionFits c) (punches (PunchObject (object_path o.name)) o.holds.0) _ (punch_fits (PunchObject (object_path o.name)) tt (things o.holds.0) h.log)
      (all_together (VersionFits c) (dkey_versions o.name) (things o.holds.1) (on_all (DkeyFits c o.name.obj.unit) (λ k. All (VersionFits c) (dkey_versions o.name k)) (dkey_fits o.name) (things o.holds.1) h.dkeys))

  pub versions_fit : (g : Objects) → All (ObjectFits c) (things g) → All (VersionFits c) (objects_versions g)
  versions_fit g all = all_together (VersionFits c) object_versions (things g) (on_all (ObjectFits c) (λ o. All (VersionFits c) (object_versions o)) object_fits (things g) all)

  -- ---- and back

  pub singles_of : (p : Path) (xs : List StoredSingle) → All (VersionFits c) (map (single_version p) (map version_of xs)) → All (SingleFits c) xs
  singles_of p xs all = on_all (λ s. VersionFits c (single_version p (version_of s))) (SingleFits c) (λ s h. h.epoch) xs (from_map (λ v. VersionFits c (single_version p v)) version_of xs (from_map (VersionFits c) (single_version p) (map version_of xs) all))

  pub extents_of : (p : Path) (xs : List StoredExtent) → All (VersionFits c) (map (extent_version p) (map extent_of xs)) → All (ExtentFits c (record_size p)) xs
  extents_of p xs all = on_all (λ s. VersionFits c (extent_version p (extent_of s))) (ExtentFits c (record_size p)) (λ s h. record { epoch = h.epoch; records = h.write }) xs (from_map (λ v. VersionFits c (extent_version p v)) extent_of xs (from_map (VersionFits c) (extent_version p) (map extent_of xs) all))

  -- ---- changes

  last_of : (a b : Bool) → (a && b) ≡ true → b ≡ true
  last_of true b h = h
  last_of false b h = absurd (cc)

  write_fits : (w : Write) → is_write_in_form w ≡ true → WriteFits w
  unfolding is_write_in_form
  write_fits (Single p bytes) form = tt
  write_fits (Extent p low bytes) form = last_of (ends_at_akey p && is_length (length bytes)) (fits_records (record_size p) low (length bytes)) form
  write_fits (PunchObject p) form = tt
  write_fits (PunchDkey p) form = tt
  write_fits (PunchAkey p) form = tt

  pub with_write : (s : Stamp) (w : Write) (vs ws : List Version) → MayStand c s w → HasMore (fresh s w) vs ws → All (VersionFits c) vs → All (VersionFits c) ws
  with_write s w vs ws may more all = with_more (VersionFits c) (fresh s w) vs ws more (record { epoch = may.epoch; write = write_fits w may.form }) all

  pub after_write : (t : Task) (p : Path) (vs : List Version) → All (VersionFits c) vs → All (VersionFits c) (versions_after t p vs)
  after_write t p vs all = of_changed (VersionFits c) (keeps t.change) (is_version_taken t.kind t p) done_version (λ v h. record { epoch = h.epoch; write = h.write }) vs all
