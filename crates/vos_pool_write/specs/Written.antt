-- What is asked of a write and of an entry that are staged, and what they make.
use Rattle.std.specs.Prelude.{◌≡◌, ◌<◌, ◌+◌, ℕ, Bool, true, false, []}
use Rattle.base_types.specs.declared.entry.Entry.{Entry}
use Rattle.base_types.specs.declared.operation.Write.{Write}
use Rattle.base_types.specs.Operations.{write_path}
use Rattle.base_types.specs.Paths.{record_size}
use Rattle.daos_model.specs.Forms.{is_unit, is_write_in_form}
use Rattle.base_outside.specs.Images.{Image}
use Rattle.pmem_alloc.specs.Blocks.{BlocksState}
use Rattle.pmem_alloc.specs.Pages.{left, shown}
use Rattle.pmem_pages.specs.Blocks.{Blocks}
use Rattle.vos_chain.specs.Made.{chain_blocks}
use Rattle.vos_entries.specs.Entries.{Entries, entries_owner, has_entry_at, listings}
use Rattle.vos_levels.specs.Calls.{Becomes, OfThing}
use Rattle.vos_levels.specs.Levels.{HasMore, hung_root, things}
use Rattle.vos_path.specs.declared.stamp.Stamp.{Stamp}
use Rattle.vos_path.specs.Calls.{SpendsAtMost, Turns, for_pair}
use Rattle.vos_path.specs.Nodes.{ObjectsNoted}
use Rattle.vos_path.specs.Objects.{Objects, objects_owner, objects_versions}
use Rattle.vos_path.specs.Small.{PathIsSmall}
use Rattle.vos_path.specs.Writes.{IsAtObject, IsNewIn, NamesAreKeys, data_blocks, fresh, object_pairs}
use Rattle.vos_values.specs.declared.keys.ObjectKey.{ObjectKey}
use Rattle.vos_versions.specs.Marks.{StagesFor}

-- a write that objects can take: its number is below 64, its form is right, the record size of its object is from 1 to 64, and its names
-- are keys
pub record MayBeStaged (s : Stamp) (w : Write) : Type 0 where
  pub minor : s.at.minor < 64
  pub form : is_write_in_form w ≡ true
  pub size : is_unit (record_size (write_path w)) ≡ true
  pub names : NamesAreKeys (write_path w)

-- the blocks that it takes at most: one for each piece of its bytes, and one for each pair that comes into a tree
abbrev pub blocks_at_most : Write → ℕ
blocks_at_most w = data_blocks w + object_pairs w 1

-- there is one version more, and no other changed
abbrev pub WriteComes : Stamp → Write → Blocks → Objects → Blocks → ℕ → Type 0
WriteComes s w m g n at =
    (o : ObjectKey) → IsAtObject o (write_path w)
    → Turns objects_owner hung_root objects_versions m g n at (HasMore (fresh s w)) (ObjectsNoted s w o (write_path w).dkey (write_path w).akey)

-- whether blocks stopped
abbrev pub has_stopped : {R : Type 0} → BlocksState R → Bool
has_stopped b = b.undo.stopped

-- how often the outside, or a fuse, failed the region of blocks
abbrev pub counts_of : {R : Type 0} → (R → ℕ) → BlocksState R → ℕ
counts_of count b = count b.undo.region

-- a write that came to the objects below a root staged no more than so many ranges and bytes
abbrev pub WriteSpends : {R : Type 0} → Bool → (R → Image) → ℕ → Stamp → Write → BlocksState R → BlocksState R → Type 0
WriteSpends tells image root s w b n =
    OfThing tells objects_owner hung_root (shown image b) root (λ g. IsNewIn (fresh s w) g → (d : ℕ) → PathIsSmall d (write_path w) g → SpendsAtMost (data_blocks w) (object_pairs w (for_pair d)) (left b) (left n))

-- ---- an entry that lists no nodes

-- there is one entry more, and no other changed
abbrev pub EntryComes : Entry → Blocks → Entries → Blocks → ℕ → Type 0
EntryComes e m g n at = Becomes entries_owner hung_root listings m g n at (HasMore (record { entry = e; nodes = [] }))

abbrev pub EntrySpends : {R : Type 0} → Bool → (R → Image) → ℕ → Entry → BlocksState R → BlocksState R → Type 0
EntrySpends tells image root e b n =
    OfThing tells entries_owner hung_root (shown image b) root (λ g. has_entry_at e.attempt (things g) ≡ false → StagesFor (chain_blocks 0) g.0 (left b) (left n))
