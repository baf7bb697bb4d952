-- What is frozen where, and who has answered a Freeze.
use Rattle.std.specs.Prelude.{ℕ, ◌≡◌, ◌≤◌, ◌<◌, ◌⊎◌, Bool, true, List, find, slice_get, Some, None}
use Rattle.base_types.specs.declared.epoch.Epoch.{Epoch}
use Rattle.base_types.specs.declared.id.AttemptId.{AttemptId}
use Rattle.base_types.specs.declared.id.ContId.{ContId}
use Rattle.base_types.specs.declared.key.Key.{Key}
use Rattle.base_types.specs.declared.outcome.Outcome.TheVariants.{Committed}
use Rattle.base_types.specs.declared.report.Line.TheVariants as line
use Rattle.base_types.specs.declared.script.OldDecl.{OldDecl}
use Rattle.base_messages.specs.declared.message.Message.TheVariants as message
use Rattle.model_laws.specs.Members.{Has}
use Rattle.daos_model.specs.declared.durable.Durable.{Durable}
use Rattle.daos_model.specs.Durables.{is_frozen}
use Rattle.base_types.specs.declared.report.Attempt.{Attempt}
use Rattle.daos_model.specs.Attempts.{EachTry, is_unsure}
use Rattle.daos_model.specs.Snapshots.{HasSnapshotLine, Made}
use Rattle.daos_model.specs.declared.cell.CellValue.{CellValue}
use Rattle.daos_model.specs.Opening.{Opening, kept_map, top}
use Rattle.daos_model.specs.ReadsLegal.{is_named}
use Rattle.dtx_base.specs.Members.{has_target}
use Rattle.world_base.specs.declared.client.ClientState.{ClientState}
use Rattle.world_base.specs.declared.client.KnownSnap.{KnownSnap}
use Rattle.world_base.specs.declared.letter.Letter.{Letter}
use Rattle.world_base.specs.declared.target.Collection.{Collection}
use Rattle.world_base.specs.declared.target.TargetState.{TargetState}
use Rattle.world_base.specs.declared.world.World.{World}
use Rattle.world_base.specs.Events.{Rules, client_plan}
use Rattle.world_base.specs.Letters.{reset_message}
use Rattle.world_making.specs.freezings.Knowing.{IsUndated}
use Rattle.world_making.specs.making.Snapshots.{holds_created}
use Rattle.world_letters.specs.snapshots.Makings.{IsSnapIn, IsSnapOf}

-- a snapshot is frozen at a target
abbrev pub KeepsFrozen : World → ℕ → ContId → Epoch → Type 0
KeepsFrozen w t c s = (z : TargetState) → slice_get w.targets t ≡ Some z → is_frozen z.durable c s ≡ true

-- an attempt that makes a snapshot of a container was issued this epoch
abbrev pub IsOfSnap : Rules → List (AttemptId × Epoch) → ContId → Epoch → Type 0
IsOfSnap r is c s = (x : AttemptId) × Has (x, s) is × IsSnapIn r x c

-- the snapshot that an attempt makes of a container, at the epoch that was issued to it, is frozen at a target
abbrev pub IsHeldAt : World → ℕ → AttemptId → ContId → Type 0
IsHeldAt w t x c = (s : Epoch) × Has (x, s) w.issued × KeepsFrozen w t c s

-- the snapshot that a target collects is frozen where it keeps this, and at each target that it counts
abbrev pub IsCountedSo : World → Durable → Collection → Type 0
IsCountedSo w d n = (is_frozen d n.cont n.epoch ≡ true) × ((u : ℕ) → has_target n.held u ≡ true → KeepsFrozen w u n.cont n.epoch)

-- a snapshot is created at target 0
abbrev pub IsCreatedFirst : World → ContId → Epoch → Type 0
IsCreatedFirst w c s = (z : TargetState) → slice_get w.targets 0 ≡ Some z → holds_created z.durable c s ≡ true

-- A client knows a snapshot: one that an earlier run created and the opening keeps, as the script declares it; or one that a committed attempt
-- of its own made, of which a line tells.
pub data IsKnownSo (r : Rules) (o : Opening) (w : World) (n : ℕ) (k : KnownSnap) : Type 0 where
  IsFromBefore : (d : OldDecl) (m : List CellValue) → find (is_named k.name) r.script.olds ≡ Some d → d.epoch ≡ k.epoch → d.epoch.0 ≤ top o
      → kept_map d.cont d.epoch.0 o.stand.snaps ≡ Some m → IsCreatedFirst w d.cont d.epoch → IsKnownSo r o w n k
  IsOwnMade : (a : Attempt) → a.id.client ≡ n → Has (line.Try a) w.lines → (m : Made r.script k.name k.epoch a) → Has (line.Snapshot k.name m.cont k.epoch) w.lines → IsKnownSo r o w n k

-- What became of an attempt that made a snapshot, or is to become of it: its client is told that it is committed, or that its request got no
-- answer; or the attempt has its line, as a committed one, or as one of which its client isn't sure what became.
pub data IsFated (w : World) (x : AttemptId) (s : Epoch) : Type 0 where
  EndComes : (l : Letter) → Has l w.messages → l.message ≡ message.Ended x (Some s) Committed → IsFated w x s
  LossComes : (l : Letter) (t : ℕ) (down : Bool) (c : ContId) (name : Key) (k : Epoch) → Has l w.messages → l.message ≡ reset_message t down (message.Snap x c name k) → IsFated w x s
  HasItsLine : (a : Attempt) → Has (line.Try a) w.lines → a.id ≡ x → a.epoch ≡ Some s → (a.outcome ≡ Committed) ⊎ (is_unsure a ≡ true) → IsFated w x s

-- so it is of an attempt that makes a snapshot of a container, to which this epoch was issued
pub record IsFatedSnap (r : Rules) (w : World) (c : ContId) (s : Epoch) : Type 0 where
  pub x : AttemptId
  pub issued : Has (x, s) w.issued
  pub snaps : IsSnapIn r x c
  pub fate : IsFated w x s

-- The fact.
pub record Freezings (r : Rules) (o : Opening) (w : World) : Type 0 where
  -- who answered a Freeze holds its snapshot frozen
  pub held : (l : Letter) (x : AttemptId) (c : ContId) → Has l w.messages → l.message ≡ message.Held x None → IsSnapIn r x c → IsHeldAt w l.from.number x c
  -- so do the target that collects a snapshot, and those that it counts
  pub counted : (t : ℕ) (z : TargetState) (n : Collection) (name : Key) → slice_get w.targets t ≡ Some z → Has n z.memory.collecting → n.name ≡ Some name → IsCountedSo w z.durable n
  -- what target 0 keeps as created is frozen at every target
  pub everywhere : (z : TargetState) (c : ContId) (s : Epoch) → slice_get w.targets 0 ≡ Some z → holds_created z.durable c s ≡ true → (t : ℕ) → KeepsFrozen w t c s
  -- what is frozen is of before the run, or an attempt's that makes it
  pub origin : (t : ℕ) (z : TargetState) (c : ContId) (s : Epoch) → slice_get w.targets t ≡ Some z → is_frozen z.durable c s ≡ true → (s.0 ≤ top o) ⊎ IsOfSnap r w.issued c s
  -- the snapshots of which lines tell are created at target 0
  pub lines : (name : List ℕ) (c : ContId) (s : Epoch) → Has (line.Snapshot name c s) w.lines → IsCreatedFirst w c s
  -- of a snapshot a line tells by when its attempt is told that it is committed
  pub ended : (l : Letter) (x : AttemptId) (s : Epoch) (name : List ℕ) (c : ContId) → Has l w.messages → l.message ≡ message.Ended x (Some s) Committed → IsSnapOf r x name c → Has (line.Snapshot name c s) w.lines
  -- what clients know was there, or was made so
  pub known : (n : ℕ) (c : ClientState) (k : KnownSnap) → slice_get w.clients n ≡ Some c → Has k c.known → IsKnownSo r o w n k
  -- and they know what their committed attempts made
  pub knows : (n : ℕ) (c : ClientState) (a : Attempt) (name : List ℕ) (e : Epoch) → slice_get w.clients n ≡ Some c → Has (line.Try a) w.lines → a.id.client ≡ n → Made r.script name e a → Has (record { name = name; epoch = e }) c.known
  -- a client knows no epoch of its attempt that makes a snapshot
  pub undated : (n : ℕ) (c : ClientState) → slice_get w.clients n ≡ Some c → IsUndated (client_plan r n) c
  -- a committed attempt that makes a snapshot has its line behind that of the snapshot
  pub committed : EachTry (HasSnapshotLine r.script) w.lines
  -- a snapshot that target 0 created in this run is that of an attempt that is committed, or of which it isn't sure what became
  pub fated : (z : TargetState) (c : ContId) (s : Epoch) → slice_get w.targets 0 ≡ Some z → holds_created z.durable c s ≡ true → top o < s.0 → IsFatedSnap r w c s

-- each attempt has at most one epoch
abbrev pub HaveOneEpoch : World → Type 0
HaveOneEpoch w = (x : AttemptId) (e f : Epoch) → Has (x, e) w.issued → Has (x, f) w.issued → e ≡ f
