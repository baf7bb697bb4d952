-- What fits the layout stays fitting, where no entry lists nodes: where a write or an entry comes, is settled or goes.
use Rattle.std.specs.Prelude.{◌≡◌, ◌≤◌, ◌<◌, ℕ, All, true, [], List, is_some}
use Rattle.std.specs.Int.{IsBitSet}
use Rattle.base_types.specs.declared.entry.Entry.{Entry}
use Rattle.base_types.specs.declared.id.AttemptId.{AttemptId}
use Rattle.base_types.specs.declared.operation.Write.{Write}
use Rattle.base_types.specs.declared.path.Path.{Path}
use Rattle.base_types.specs.Operations.{write_path}
use Rattle.base_types.specs.Paths.{record_size}
use Rattle.daos_model.specs.Forms.{is_unit, is_write_in_form}
use Rattle.pmem_pages.specs.Blocks.{Blocks}
use Rattle.vos_entries.specs.Entries.{Entries, IsCommittedAt, IsConfirmedAt, IsGoneAt, Listing, entries_owner, listings}
use Rattle.vos_image.specs.Content.{Content}
use Rattle.vos_image.specs.Fits.{AllFit}
use Rattle.vos_image.specs.Kinds.{fits_targets}
use Rattle.vos_levels.specs.Calls.{Becomes}
use Rattle.vos_levels.specs.Levels.{HasMore, hung_root, things}
use Rattle.vos_image.specs.vos_path.declared.stamp.Stamp.{Stamp}
use Rattle.vos_image.specs.vos_path.Calls.{Turns}
use Rattle.vos_image.specs.vos_path.Nodes.{ObjectsNoted}
use Rattle.vos_image.specs.vos_path.Objects.{Objects, objects_owner, objects_versions}
use Rattle.vos_image.specs.vos_path.Writes.{IsAtObject, fresh}
use Rattle.vos_settle.specs.declared.task.Task.{Task}
use Rattle.vos_settle.specs.Versions.{WriteTurn}
use Rattle.vos_values.specs.declared.keys.Layout.TheVariants.{Two}
use Rattle.vos_values.specs.declared.keys.ObjectKey.{ObjectKey}

-- no entry lists nodes
abbrev pub ListNothing : Entries → Type 0
ListNothing e = All (λ s. s.nodes ≡ []) (things e)

-- A write may stand in a content of the second layout whose lease covers its epoch: its form is right, and the record size of its object is
-- from 1 to 64.
pub record MayStand (c : Content) (s : Stamp) (w : Write) : Type 0 where
  pub layout : c.layout ≡ Two
  pub epoch : s.at.epoch.0 ≤ c.covered
  pub form : is_write_in_form w ≡ true
  pub size : is_unit (record_size (write_path w)) ≡ true

-- an entry may stand there: it names targets that there are, and the lease covers its epoch
pub record EntryMayStand (c : Content) (e : Entry) : Type 0 where
  pub leader : e.leader < c.targets
  pub members : fits_targets c e.members ≡ true
  pub confirmed : fits_targets c e.confirmed ≡ true
  pub epoch : e.epoch.0 ≤ c.covered

-- ---- writes

-- All fits where a write came.
abbrev pub FitsWithWrite : Type 0
FitsWithWrite =
    (c : Content) (s : Stamp) (w : Write) (o : ObjectKey) (m n : Blocks) (at : ℕ) (g : Objects) (e : Entries) → MayStand c s w → IsAtObject o (write_path w)
    → (turn : Turns objects_owner hung_root objects_versions m g n at (HasMore (fresh s w)) (ObjectsNoted s w o (write_path w).dkey (write_path w).akey))
    → ListNothing e → AllFit c g e → AllFit c turn.now e

-- All fits where one became done, or went.
abbrev pub FitsAfterWrite : Type 0
FitsAfterWrite =
    (c : Content) (t : Task) (p : Path) (m n : Blocks) (at : ℕ) (g : Objects) (e : Entries) → is_some p.obj ≡ true → (turn : WriteTurn t p m g n at)
    → ListNothing e → AllFit c g e → AllFit c turn.now e

-- ---- entries

-- All fits, and still no entry lists nodes.
pub record StillFit (c : Content) (g : Objects) (e : Entries) : Type 0 where
  pub fits : AllFit c g e
  pub nothing : ListNothing e

abbrev pub BecomesSo : (List Listing → List Listing → Type 0) → Blocks → Entries → Blocks → ℕ → Type 0
BecomesSo R m e n at = Becomes entries_owner hung_root listings m e n at R

-- So it is where an entry came that lists none, and where that of an attempt became committed, was confirmed by a target that there is, or went.
abbrev pub FitsWithEntry : Type 0
FitsWithEntry =
    (c : Content) (x : Entry) (m n : Blocks) (at : ℕ) (g : Objects) (e : Entries) → EntryMayStand c x → (turn : BecomesSo (HasMore (record { entry = x; nodes = [] })) m e n at)
    → ListNothing e → AllFit c g e → StillFit c g turn.now

abbrev pub FitsCommitted : Type 0
FitsCommitted = (c : Content) (a : AttemptId) (m n : Blocks) (at : ℕ) (g : Objects) (e : Entries) → (turn : BecomesSo (IsCommittedAt a) m e n at) → ListNothing e → AllFit c g e → StillFit c g turn.now

abbrev pub FitsConfirmed : Type 0
FitsConfirmed =
    (c : Content) (a : AttemptId) (t : ℕ) (m n : Blocks) (at : ℕ) (g : Objects) (e : Entries) → t < c.targets → (turn : BecomesSo (IsConfirmedAt a t) m e n at)
    → ListNothing e → AllFit c g e → StillFit c g turn.now

abbrev pub FitsWithoutEntry : Type 0
FitsWithoutEntry = (c : Content) (a : AttemptId) (m n : Blocks) (at : ℕ) (g : Objects) (e : Entries) → (turn : BecomesSo (IsGoneAt a) m e n at) → ListNothing e → AllFit c g e → StillFit c g turn.now

-- a member is a target that there is
abbrev pub MembersAreTargets : Type 0
MembersAreTargets = (c : Content) (members t : ℕ) → fits_targets c members ≡ true → IsBitSet members t → t < c.targets
