-- What the layout asks of all that stands in blocks, besides that it stands there.
use Rattle.std.specs.Prelude.{◌≡◌, ◌≤◌, ◌<◌, ℕ, true, All, List, length}
use Rattle.std.specs.List.{list_any}
use Rattle.daos_model.specs.Forms.{fits_records}
use Rattle.pmem_pages.specs.Owners.{times}
use Rattle.vos_values.specs.Keys.{is_size}
use Rattle.vos_entries.specs.vos_levels.Levels.{things}
use Rattle.vos_path.specs.vos_ilog.declared.ilog.LogEntry.{LogEntry}
use Rattle.vos_path.specs.vos_single.Singles.{Stored as StoredSingle}
use Rattle.vos_path.specs.vos_extent.Extents.{Stored as StoredExtent}
use Rattle.vos_path.specs.Objects.{Akey, Dkey, Object, Objects}
use Rattle.vos_entries.specs.Entries.{Entries, Stored as StoredEntry}
use Rattle.vos_image.specs.Content.{Content}
use Rattle.vos_image.specs.Kinds.{fits_targets}
use Rattle.vos_image.specs.Nodes.{Node, is_of, nodes_in}

-- the lease covers the epochs of log entries, of single versions and of extents
abbrev pub LogFits : Content → LogEntry → Type 0
LogFits c v = v.epoch.0 ≤ c.covered

abbrev pub SingleFits : Content → StoredSingle → Type 0
SingleFits c s = s.version.epoch.0 ≤ c.covered

-- and the bytes of an extent are whole records, which end at the index 2^32 - 1 at most
pub record ExtentFits (c : Content) (unit : ℕ) (s : StoredExtent) : Type 0 where
  pub epoch : s.extent.epoch.0 ≤ c.covered
  pub records : fits_records unit s.extent.low (length s.extent.bytes) ≡ true

pub record AkeyFits (c : Content) (unit : ℕ) (a : Akey) : Type 0 where
  pub log : All (LogFits c) (things a.holds.0)
  pub singles : All (SingleFits c) (things a.holds.1.0)
  pub extents : All (ExtentFits c unit) (things a.holds.1.1)

pub record DkeyFits (c : Content) (unit : ℕ) (d : Dkey) : Type 0 where
  pub log : All (LogFits c) (things d.holds.0)
  pub akeys : All (AkeyFits c unit) (things d.holds.1)

-- the first layout has objects of record size 1 alone
pub record ObjectFits (c : Content) (o : Object) : Type 0 where
  pub size : is_size c.layout o.name.obj.unit ≡ true
  pub log : All (LogFits c) (things o.holds.0)
  pub dkeys : All (DkeyFits c o.name.obj.unit) (things o.holds.1)

-- An entry names targets that there are, the lease covers its epoch, and it lists, each once, blocks of nodes of its attempt and
-- epoch.
pub record EntryFits (c : Content) (nodes : List Node) (s : StoredEntry) : Type 0 where
  pub leader : s.entry.leader < c.targets
  pub members : fits_targets c s.entry.members ≡ true
  pub confirmed : fits_targets c s.entry.confirmed ≡ true
  pub epoch : s.entry.epoch.0 ≤ c.covered
  pub are_nodes : All (λ b. list_any (is_of s.entry.attempt s.entry.epoch b) nodes ≡ true) s.nodes
  pub once : (q : ℕ) → times q s.nodes ≤ 1

pub record AllFit (c : Content) (o : Objects) (e : Entries) : Type 0 where
  pub objects : All (ObjectFits c) (things o)
  pub entries : All (EntryFits c (nodes_in o)) (things e)
