-- What a layout asks of what stands in blocks, the second layout asks no more.
use Rattle.std.proofs.Common.{◌≡◌, ℕ, ◌==◌, ◌&&◌, ◌||◌, Bool, true, false, nat_le, List, sym, refl, subst, arith}
use Rattle.vos_pool_base.specs.vos_places.vos_ilog.declared.ilog.LogEntry.{LogEntry}
use Rattle.vos_pool_base.specs.vos_places.vos_single.Singles.{Stored as StoredSingle}
use Rattle.vos_pool_base.specs.vos_places.vos_extent.Extents.{Stored as StoredExtent}
use Rattle.vos_pool_base.specs.vos_path.Objects.{Akey, Dkey, Object, Objects}
use Rattle.vos_pool_base.specs.vos_places.vos_entries.Entries.{Entries, Stored as StoredEntry}
use Rattle.vos_pool_base.specs.vos_image.Content.{Content}
use Rattle.vos_pool_base.specs.vos_image.Kinds.{fits_targets}
use Rattle.vos_pool_base.specs.vos_image.Fits.{AkeyFits, AllFit, DkeyFits, EntryFits, ExtentFits, LogFits, ObjectFits, SingleFits}
use Rattle.vos_pool_base.specs.vos_image.Nodes.{Node, nodes_in}
use Rattle.vos_pool_base.proofs.vos_standing.Fitting.{all_on}
use Rattle.vos_levels.specs.Levels.{things}
use Rattle.vos_values.specs.declared.keys.Layout.{Layout}
use Rattle.vos_values.specs.declared.keys.Layout.TheVariants.{One, Two}
use Rattle.vos_values.specs.Keys.{is_size}

-- a record size of one layout is one of the second
size_on : (l : Layout) (unit : ℕ) → is_size l unit ≡ true → is_size Two unit ≡ true
size_on Two unit h = h
size_on One unit h = by (nat_le 1 unit) (nat_le unit 64) (unit == 1) h
  where
    by : (a b e : Bool) → (a && b && (false || e)) ≡ true → (a && b && (true || e)) ≡ true
    by true true e h = refl
    by true false e h = h
    by false b e h = h

-- a content of the second layout says the same of its lease and of its targets
pub record RaisedTo (c d : Content) : Type 0 where
  pub layout : d.layout ≡ Two
  pub covered : d.covered ≡ c.covered
  pub targets : d.targets ≡ c.targets

module _ (c d : Content) (r : RaisedTo c d) where
  log_on : (v : LogEntry) → LogFits c v → LogFits d v
  log_on v h = omega (arith, h, r.covered)

  single_on : (s : StoredSingle) → SingleFits c s → SingleFits d s
  single_on s h = omega (arith, h, r.covered)

  extent_on : (unit : ℕ) (s : StoredExtent) → ExtentFits c unit s → ExtentFits d unit s
  extent_on unit s h = record { epoch = omega (arith, h.epoch, r.covered); records = h.records }

  akey_on : (unit : ℕ) (a : Akey) → AkeyFits c unit a → AkeyFits d unit a
  akey_on unit a h = record {
    log = all_on (LogFits c) (LogFits d) log_on (things a.holds.0) h.log;
    singles = all_on (SingleFits c) (SingleFits d) single_on (things a.holds.1.0) h.singles;
    extents = all_on (ExtentFits c unit) (ExtentFits d unit) (extent_on unit) (things a.holds.1.1) h.extents;
  }

  dkey_on : (unit : ℕ) (k : Dkey) → DkeyFits c unit k → DkeyFits d unit k
  dkey_on unit k h = record {
    log = all_on (LogFits c) (LogFits d) log_on (things k.holds.0) h.log;
    akeys = all_on (AkeyFits c unit) (AkeyFits d unit) (akey_on unit) (things k.holds.1) h.akeys;
  }

  object_on : (o : Object) → ObjectFits c o → ObjectFits d o
  object_on o h = record {
    size = subst (λ (l : Layout). is_size l o.name.obj.unit ≡ true) (sym r.layout) (size_on c.layout o.name.obj.unit h.size);
    log = all_on (LogFits c) (LogFits d) log_on (things o.holds.0) h.log;
    dkeys = all_on (DkeyFits c o.name.obj.unit) (DkeyFits d o.name.obj.unit) (dkey_on o.name.obj.unit) (things o.holds.1) h.dkeys;
  }

  targets_on : (bits : ℕ) → fits_targets c bits ≡ true → fits_targets d bits ≡ true
  targets_on bits h = subst (λ (n : ℕ). fits_targets (record c { targets = n }) bits ≡ true) (sym r.targets) h

  entry_on : (nodes : List Node) (s : StoredEntry) → EntryFits c nodes s → EntryFits d nodes s
  entry_on nodes s h = record {
    leader = omega (arith, h.leader, r.targets);
    members = targets_on s.entry.members h.members;
    confirmed = targets_on s.entry.confirmed h.confirmed;
    epoch = omega (arith, h.epoch, r.covered);
    are_nodes = h.are_nodes;
    once = h.once;
  }

  pub all_fit_raised : (o : Objects) (e : Entries) → AllFit c o e → AllFit d o e
  all_fit_raised o e h = record {
    objects = all_on (ObjectFits c) (ObjectFits d) object_on (things o) h.objects;
    entries = all_on (EntryFits c (nodes_in o)) (EntryFits d (nodes_in o)) (entry_on (nodes_in o)) (things e) h.entries;
  }
