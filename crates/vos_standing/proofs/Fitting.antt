-- What the layout asks of what stands in blocks holds under a greater lease, and where what isn't asked changes.
use Rattle.std.proofs.Common.{◌≡◌, ℕ, true, List, [], ◌∷◌, sym, ap, ◌∙◌, subst, arith}
use Rattle.std.specs.Prelude.{All}
use Rattle.std.proofs.lemmas.List.Elements.{All-cons, All-head, All-nil, All-tail}
use Rattle.vos_places.specs.vos_ilog.declared.ilog.LogEntry.{LogEntry}
use Rattle.vos_places.specs.vos_single.Singles.{Stored as StoredSingle}
use Rattle.vos_places.specs.vos_extent.Extents.{Stored as StoredExtent}
use Rattle.vos_places.specs.vos_path.Objects.{Akey, Dkey, Object, Objects}
use Rattle.vos_places.specs.vos_entries.Entries.{Entries, Stored as StoredEntry}
use Rattle.vos_places.specs.vos_image.Content.{Content}
use Rattle.vos_places.specs.vos_image.Kinds.{fits_targets}
use Rattle.vos_places.specs.vos_image.Fits.{AkeyFits, AllFit, DkeyFits, EntryFits, ExtentFits, LogFits, ObjectFits, SingleFits}
use Rattle.vos_places.specs.vos_image.Nodes.{Node, nodes_in}
use Rattle.vos_levels.specs.Levels.{things}
use Rattle.vos_values.specs.Keys.{is_size}
use Rattle.vos_standing.specs.Standing.{AllowsMore}

pub all_on : {A : Type 0} (P Q : A → Type 0) → ((a : A) → P a → Q a) → (xs : List A) → All P xs → All Q xs
all_on P Q on [] all = All-nil Q
all_on P Q on (x ∷ xs) all = All-cons Q x xs (on x (All-head P x xs all)) (all_on P Q on xs (All-tail P x xs all))

module _ (c d : Content) (more : AllowsMore c d) where
  log_on : (v : LogEntry) → LogFits c v → LogFits d v
  log_on v h = omega (arith, h, more.covered)

  single_on : (s : StoredSingle) → SingleFits c s → SingleFits d s
  single_on s h = omega (arith, h, more.covered)

  extent_on : (unit : ℕ) (s : StoredExtent) → ExtentFits c unit s → ExtentFits d unit s
  extent_on unit s h = record { epoch = omega (arith, h.epoch, more.covered); records = h.records }

  akey_on : (unit : ℕ) (a : Akey) → AkeyFits c unit a → AkeyFits d unit a
  akey_on unit a h = record {
    log = all_on (LogFits c) (LogFits d) log_on (things a.holds.0) h.log;
    singles = all_on (SingleFits c) (SingleFits d) single_on (things a.holds.1.0) h.singles;
    extents = all_on (ExtentFits c unit) (ExtentFits d unit) (extent_on unit) (things a.holds.1.1) h.extents;
  }

  dkey_on : (unit : ℕ) (k : Dkey) → DkeyFits c unit k → DkeyFits d unit k
  dkey_on unit k h = record {
    log = all_on (LogFits c) (LogFits d) log_on (things k.holds.0) h.log;
    akeys = all_on (AkeyFits c unit) (AkeyFits d unit) (akey_on unit) (things k.holds.1) h.akeys;
  }

  object_on : (o : Object) → ObjectFits c o → ObjectFits d o
  object_on o h = record {
    size = ap (λ l. is_size l o.name.obj.unit) more.layout ∙ h.size;
    log = all_on (LogFits c) (LogFits d) log_on (things o.holds.0) h.log;
    dkeys = all_on (DkeyFits c o.name.obj.unit) (DkeyFits d o.name.obj.unit) (dkey_on o.name.obj.unit) (things o.holds.1) h.dkeys;
  }

  targets_on : (bits : ℕ) → fits_targets c bits ≡ true → fits_targets d bits ≡ true
  targets_on bits h = subst (λ (n : ℕ). fits_targets (record c { targets = n }) bits ≡ true) (sym more.targets) h

  entry_on : (nodes : List Node) (s : StoredEntry) → EntryFits c nodes s → EntryFits d nodes s
  entry_on nodes s h = record {
    leader = omega (arith, h.leader, more.targets);
    members = targets_on s.entry.members h.members;
    confirmed = targets_on s.entry.confirmed h.confirmed;
    epoch = omega (arith, h.epoch, more.covered);
    are_nodes = h.are_nodes;
    once = h.once;
  }

  pub all_fit_on : (o : Objects) (e : Entries) → AllFit c o e → AllFit d o e
  all_fit_on o e h = record {
    objects = all_on (ObjectFits c) (ObjectFits d) object_on (things o) h.objects;
    entries = all_on (EntryFits c (nodes_in o)) (EntryFits d (nodes_in o)) (entry_on (nodes_in o)) (things e) h.entries;
  }
