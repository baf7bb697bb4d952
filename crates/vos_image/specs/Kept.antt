-- What an image stands for.
use Rattle.std.specs.Prelude.{◌≡◌, ℕ, Bool, ◌==◌, ◌&&◌, ◌||◌, not, List, [], filter, Result, Ok, Err}
use Rattle.std.specs.List.{list_any}
use Rattle.base_outside.specs.Images.{Image}
use Rattle.base_types.specs.declared.entry.Entry.{Entry}
use Rattle.daos_model.specs.declared.durable.Durable.{Durable}
use Rattle.daos_model.specs.declared.durable.Version.{Version}
use Rattle.daos_model.specs.Durables.{cont_key, empty_durable, entry_key, same_attempt, snap_key, version_key}
use Rattle.daos_model.specs.Ordered.{in_order}
use Rattle.pmem_pages.specs.Owners.{Owner, both}
use Rattle.vos_path.specs.Objects.{Objects, objects_owner, objects_versions}
use Rattle.vos_entries.specs.Entries.{Entries, entries_in, entries_owner}
use Rattle.vos_image.specs.Steps.{Step, ◌>>=◌, give, read_of}
use Rattle.vos_image.specs.Content.{Content, content_of}
use Rattle.vos_image.specs.Nodes.{nodes_in}
use Rattle.vos_image.specs.Trees.{read_tree}
use Rattle.vos_image.specs.Kinds.{entries, objects}
use Rattle.vos_image.specs.Places.{Places, read_places}

-- what stands in the blocks: objects with all that is below them, and entries with their lists
abbrev pub Stored : Type 0
Stored = Objects × Entries

-- no block is led to twice
abbrev pub stored_owner : Owner Stored
stored_owner = both objects_owner entries_owner

-- all that an image says: its fixed places, and what stands in its blocks
pub record Whole : Type 0 where
  pub places : Places
  pub stored : Stored

-- by place, then the objects and then the entries, each in key order and a node before what it leads to
unfoldable pub read_whole : ℕ → Content → Step Whole
read_whole target c =
    read_places target c
    >>= λ p. read_tree objects c p.header.objects
    >>= λ o. read_tree (entries (nodes_in o)) c p.header.entries
    >>= λ e. give (record { places = p; stored = (o, e) })

-- What a content says, for a target and a size, or the place of the byte at fault. A content is an image whose log was rolled back,
-- with the gate byte and the log body as zero.
unfoldable pub read_content : ℕ → ℕ → Image → Result Whole ℕ
read_content target size f = read_of (read_whole target (content_of size f) [])

-- a content is of the layout, or has a byte that isn't allowed at this place
abbrev pub IsOfLayout : ℕ → ℕ → Image → Type 0
IsOfLayout target size f = (x : Whole) × (read_content target size f ≡ Ok x)

abbrev pub IsForeignAt : ℕ → ℕ → Image → ℕ → Type 0
IsForeignAt target size f at = read_content target size f ≡ Err at

-- ---- what is kept

-- an entry that is prepared at a version's epoch, of its attempt
abbrev pub is_prepared_for : Version → Entry → Bool
is_prepared_for v e = same_attempt e.attempt v.by && ((e.epoch.0 == v.epoch.0) && not e.committed)

-- a version counts where it is done or has a prepared entry
unfoldable pub counts : List Entry → Version → Bool
counts es v = v.done || list_any (is_prepared_for v) es

-- the durable that fixed places and what stands in blocks make
unfoldable pub durable_of : Whole → Durable
durable_of x = record {
  versions = in_order version_key (filter (counts (entries_in x.stored.1)) (objects_versions x.stored.0));
  entries = in_order entry_key (entries_in x.stored.1);
  conts = in_order cont_key x.places.conts;
  snaps = in_order snap_key x.places.snaps;
  lease = x.places.header.lease;
  incarnation = x.places.header.incarnation;
}

abbrev pub kept_of : Result Whole ℕ → Durable
kept_of (Ok x) = durable_of x
kept_of (Err at) = empty_durable 0

-- what a content keeps; one that isn't of the layout, as zeros, keeps nothing
unfoldable pub kept : ℕ → ℕ → Image → Durable
kept target size f = kept_of (read_content target size f)
