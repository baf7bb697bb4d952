-- Each version belongs to a decided attempt or to one that is prepared, and those that count stand for the decided transactions.
use Rattle.std.specs.Prelude.{ℕ, ◌≡◌, ◌≢◌, ◌⊎◌, ◌+◌, ◌≤◌, ◌/◌, Bool, true, false, ◌&&◌, ◌==◌, max, List, [], Contains, slice_get, Some, ◌<◌}
use Rattle.base_types.specs.declared.entry.Entry.{Entry}
use Rattle.base_types.specs.declared.epoch.Epoch.{Epoch}
use Rattle.base_types.specs.declared.id.AttemptId.{AttemptId}
use Rattle.base_types.specs.declared.id.ContId.{ContId}
use Rattle.base_types.specs.declared.operation.MinorWrite.{MinorWrite}
use Rattle.base_types.specs.Operations.{write_path}
use Rattle.base_types.specs.Placement.{path_members}
use Rattle.model_laws.specs.Dated.{AreSingleInOrder, map_of}
use Rattle.model_laws.specs.Decided.{AreDecided}
use Rattle.model_laws.specs.Matches.{Matches, GivesAsOf, counts_under}
use Rattle.model_laws.specs.Targets.{ArePlaced, is_own}
use Rattle.daos_model.specs.declared.cell.Cell.{Cell}
use Rattle.daos_model.specs.declared.durable.Durable.{Durable}
use Rattle.daos_model.specs.declared.durable.Version.{Version}
use Rattle.daos_model.specs.Durables.{IsInForm, entry_of, row_of}
use Rattle.daos_model.specs.Opening.{Opening, top, kept_map}
use Rattle.daos_model.specs.Versions.{version_of, version_path}
use Rattle.world_commit.specs.attempts.Attempts.{writes_of}
use Rattle.world_commit.specs.attempts.History.{Decided, History}
use Rattle.world_commit.specs.world_base.declared.target.TargetState.{TargetState}
use Rattle.world_commit.specs.world_base.declared.world.World.{World}
use Rattle.world_commit.specs.world_base.Events.{Rules}
use Rattle.world_contents.specs.reads.Transactions.{counts_by, transactions}
use Rattle.base_types.specs.declared.snapshot.Snap.{Snap}
use Rattle.daos_model.specs.declared.cell.CellValue.{CellValue}
use Rattle.daos_model.specs.Cells.{value_at}

-- a target's own cells of a container
abbrev pub is_own_in : ℕ → ℕ → ContId → Cell → Bool
is_own_in targets t cont c = is_own targets t c && (c.path.cont.0 == cont.0)

-- from where on a target's versions of a container are told one by one: above the opening, and above what was aggregated
abbrev pub mark_of : Opening → Durable → ContId → ℕ
mark_of o d cont = max (top o) (row_of d cont).aggregated.0 + 1

-- a write of an attempt that a target of so many holds
pub record IsWriteAt (r : Rules) (x : AttemptId) (t : ℕ) (w : MinorWrite) : Type 0 where
  pub of_it : Contains (writes_of r x) w
  pub here : Contains (path_members (write_path w.write) r.script.targets) t

-- a version is of one of its attempt's writes at a target
pub record IsVersionOf (r : Rules) (t : ℕ) (v : Version) : Type 0 where
  pub write : MinorWrite
  pub at : IsWriteAt r v.by t write
  pub minor : v.minor ≡ write.minor
  pub same : v.write ≡ write.write

-- an entry that is found for an attempt isn't committed, and is of this epoch
pub record IsPreparedAt (d : Durable) (x : AttemptId) (e : Epoch) : Type 0 where
  pub entry : Entry
  pub found : entry_of d x ≡ Some entry
  pub open' : entry.committed ≡ false
  pub epoch : entry.epoch ≡ e

-- at own cells the versions that count, below an epoch, hold what a map holds
abbrev pub HoldsMap : (Cell → Bool) → (Version → Bool) → List Version → ℕ → List CellValue → Type 0
HoldsMap own p vs e m = (c : Cell) → own c ≡ true → value_at (map_of (counts_under p e) vs) c ≡ value_at m c

-- What holds of the snapshots that a target has frozen: no write at or below one is stored any more, the lease covers it, and its map
-- is there: of one that an earlier run created that which the opening keeps, and of one of this run the map as of its epoch.
pub record SnapshotsStand (r : Rules) (o : Opening) (h : History) (t : ℕ) (d : Durable) : Type 0 where
  pub floored : (s : Snap) → Contains d.snaps s → s.epoch.0 ≤ (row_of d s.cont).floor.0
  pub leased : (s : Snap) → Contains d.snaps s → s.epoch.0 / 256 ≤ d.lease
  pub kept : (s : Snap) (m : List CellValue) → Contains d.snaps s → s.epoch.0 ≤ top o → kept_map s.cont s.epoch.0 o.stand.snaps ≡ Some m
      → HoldsMap (is_own_in r.script.targets t s.cont) (counts_by h) d.versions s.epoch.0 m
  pub given : (s : Snap) → Contains d.snaps s → top o < s.epoch.0 → GivesAsOf (is_own_in r.script.targets t s.cont) (counts_by h) d.versions o.stand (transactions r.script h) s.epoch.0

-- what holds of what one target keeps
pub record VersionsStand (r : Rules) (o : Opening) (held : List Version) (h : History) (t : ℕ) (d : Durable) : Type 0 where
  pub form : IsInForm d
  pub single : AreSingleInOrder d.versions
  pub placed : ArePlaced r.script.targets t d.versions
  -- a done version is of the opening, or of a decided attempt, and then one of its writes
  pub done : (v : Version) → Contains d.versions v → v.done ≡ true → Contains held v ⊎ (Decided h v.by v.epoch × IsVersionOf r t v)
  -- an unsettled one belongs to a prepared entry here, and is one of its attempt's writes
  pub unsettled : (v : Version) → Contains d.versions v → v.done ≡ false → IsPreparedAt d v.by v.epoch
  pub only : (v : Version) → Contains d.versions v → v.done ≡ false → IsVersionOf r t v
  -- a prepared entry has exactly the attempt's writes of this target's groups
  pub whole : (e : Entry) (m : MinorWrite) → Contains d.entries e → e.committed ≡ false → IsWriteAt r e.attempt t m → Contains d.versions (version_of e m)
  -- a committed entry is of a decided attempt, and that of a decided attempt has its epoch
  pub settled : (x : AttemptId) (e : Entry) → entry_of d x ≡ Some e → e.committed ≡ true → Decided h x e.epoch
  pub epochs : (x : AttemptId) (e : Entry) (f : Epoch) → entry_of d x ≡ Some e → Decided h x f → e.epoch ≡ f
  -- the versions that count stand for the decided transactions, in each container
  pub matches : (cont : ContId) → Matches (is_own_in r.script.targets t cont) (counts_by h) d.versions o.stand (transactions r.script h) (mark_of o d cont)
  pub leased : (v : Version) → Contains d.versions v → v.epoch.0 / 256 ≤ d.lease
  -- what was aggregated lies at or below the floor, or the opening; each unsettled version lies above it
  pub aggregated : (cont : ContId) → (row_of d cont).aggregated.0 ≤ max (top o) (row_of d cont).floor.0
  pub clear : (v : Version) → Contains d.versions v → v.done ≡ false → (row_of d (version_path v).cont).aggregated.0 < v.epoch.0
  pub snapshots : SnapshotsStand r o h t d

-- of every target; `held` is what each had at the opening
pub record Versions (r : Rules) (o : Opening) (held : ℕ → List Version) (h : History) (w : World) : Type 0 where
  pub stand : (t : ℕ) (s : TargetState) → slice_get w.targets t ≡ Some s → VersionsStand r o (held t) h t s.durable
  -- no two that are decided have one epoch
  pub apart : AreDecided (transactions r.script h)
  -- what is decided was issued, and writes something
  pub issued : (x : AttemptId) (e : Epoch) → Decided h x e → Contains w.issued (x, e)
  pub written : (x : AttemptId) (e : Epoch) → Decided h x e → writes_of r x ≢ []
