-- What else holds of the world, of which the facts of versions and reads make use. Other crates prove it.
use Rattle.std.specs.Prelude.{ℕ, ◌≡◌, ◌≢◌, ◌≤◌, ◌<◌, Bool, false, true, List, [], Contains, slice_get, Option, Some, None, find}
use Rattle.base_types.specs.declared.answer.Answer.{Answer}
use Rattle.base_types.specs.declared.epoch.Epoch.{Epoch}
use Rattle.base_types.specs.declared.id.AttemptId.{AttemptId}
use Rattle.base_types.specs.declared.id.ObjId.{ObjId}
use Rattle.base_types.specs.declared.operation.MinorWrite.{MinorWrite}
use Rattle.base_types.specs.declared.operation.Read.{Read}
use Rattle.base_types.specs.declared.operation.Write.{Write}
use Rattle.base_types.specs.declared.outcome.Outcome.{Outcome}
use Rattle.base_types.specs.declared.outcome.Outcome.TheVariants.{Committed}
use Rattle.base_types.specs.Operations.{read_path, write_path}
use Rattle.base_types.specs.Placement.{ClassFits, groups}
use Rattle.model_laws.specs.Members.{Has}
use Rattle.base_messages.specs.declared.message.Message.{Message}
use Rattle.base_messages.specs.declared.message.Message.TheVariants as message
use Rattle.daos_model.specs.declared.durable.Version.{Version}
use Rattle.daos_model.specs.Forms.{AreWritesInForm, is_read_in_form}
use Rattle.daos_model.specs.Opening.{Opening, top, kept_map}
use Rattle.world_commit.specs.dtx_base.declared.member.Parked.{Parked}
use Rattle.world_commit.specs.attempts.Attempts.{leader_of, writes_of}
use Rattle.world_commit.specs.world_base.declared.letter.Letter.{Letter}
use Rattle.world_commit.specs.world_base.declared.target.TargetState.{TargetState}
use Rattle.world_commit.specs.world_base.declared.target.Life.TheVariants.{Running}
use Rattle.world_commit.specs.world_base.declared.world.World.{World}
use Rattle.world_commit.specs.world_base.Events.{Rules, target_plan}
use Rattle.world_commit.specs.world_base.Letters.{target}
use Rattle.world_contents.specs.reads.Reads.{IsOfAttempt}
use Rattle.world_commit.specs.world_base.Requests.{request_epoch}
use Rattle.base_types.specs.declared.id.ContId.{ContId}
use Rattle.base_types.specs.declared.script.OldDecl.{OldDecl}
use Rattle.daos_model.specs.declared.cell.CellValue.{CellValue}
use Rattle.daos_model.specs.declared.durable.Durable.{Durable}
use Rattle.daos_model.specs.Attempts.{snapshot_of}
use Rattle.daos_model.specs.Durables.{is_frozen}
use Rattle.daos_model.specs.ReadsLegal.{is_named}
use Rattle.world_commit.specs.world_letters.clients.Snapshots.{is_at_snapshot}

-- an epoch is an attempt's: it is above the opening, no other attempt has it, and one that goes with a request was issued
pub record IsItsEpoch (o : Opening) (w : World) (x : AttemptId) (ep : Option Epoch) (e : Epoch) : Type 0 where
  pub above : top o < e.0
  pub alone : (y : AttemptId) (f : Epoch) → Contains w.issued (y, f) → f.0 ≡ e.0 → y ≡ x
  pub own : (f : Epoch) → ep ≡ Some f → Contains w.issued (x, f)

-- the epoch of a request: its own, or one that is issued at a reading of the clock
abbrev pub HasItsEpoch : Rules → Opening → World → ℕ → TargetState → AttemptId → Option Epoch → Epoch → Type 0
HasItsEpoch r o w t s x ep tracker = (reading : ℕ) (e : Epoch) → request_epoch (target_plan r t) s.memory reading tracker ep ≡ Some e → IsItsEpoch o w x ep e

-- An attempt reads at a snapshot of a container, of this epoch: at one that an earlier run created and the opening keeps, by the name
-- that the script declares; or at one of this run.
pub data IsItsSnapshot (r : Rules) (o : Opening) (x : AttemptId) (cont : ContId) (e : Epoch) : Type 0 where
  IsKept : (name : List ℕ) (d : OldDecl) (m : List CellValue) → snapshot_of r.script x ≡ Some name → find (is_named name) r.script.olds ≡ Some d → d.cont ≡ cont → d.epoch ≡ e → e.0 ≤ top o
      → kept_map cont e.0 o.stand.snaps ≡ Some m → IsItsSnapshot r o x cont e
  IsMade : (name : List ℕ) → snapshot_of r.script x ≡ Some name → find (is_named name) r.script.olds ≡ None → top o < e.0 → IsItsSnapshot r o x cont e

-- the epoch of a read: of one at a snapshot that of the snapshot, which is frozen where it is read; of any other its attempt's
abbrev pub IsReadEpoch : Rules → Opening → World → Durable → AttemptId → ContId → Option Epoch → Bool → Epoch → Type 0
IsReadEpoch r o w d x cont ep true e = IsItsSnapshot r o x cont e × (is_frozen d cont e ≡ true)
IsReadEpoch r o w d x cont ep false e = IsItsEpoch o w x ep e

abbrev pub HasReadEpoch : Rules → Opening → World → ℕ → TargetState → AttemptId → ContId → Option Epoch → Epoch → Bool → Type 0
HasReadEpoch r o w t s x cont ep tracker snapshot =
    (reading : ℕ) (e : Epoch) → request_epoch (target_plan r t) s.memory reading tracker ep ≡ Some e → IsReadEpoch r o w s.durable x cont ep snapshot e

-- a class fits the targets of a write's object
abbrev pub FitsTargets : Rules → Write → Type 0
FitsTargets r w = (obj : ObjId) × ((write_path w).obj ≡ Some obj) × ClassFits obj.class r.script.targets

-- what a target is asked to commit: an attempt's writes, of which there are some, and which it leads
pub record IsCommitRight (r : Rules) (t : ℕ) (x : AttemptId) (ws : List MinorWrite) : Type 0 where
  pub its : ws ≡ writes_of r x
  pub some : ws ≢ []
  pub leads : t ≡ leader_of r x

-- what is asked of a target: what an operation of the attempt asks there, of a group of an object; and at a snapshot where the attempt reads at one
pub record IsFetchRight (r : Rules) (t : ℕ) (x : AttemptId) (op group : ℕ) (read : Read) (snapshot : Bool) : Type 0 where
  pub at : snapshot ≡ is_at_snapshot r x
  pub form : is_read_in_form read ≡ true
  pub asked : (e : Epoch) (b : Answer) → IsOfAttempt r (record { by = x; op = op; group = group; target = t; read = read; epoch = e; answer = b })
  pub obj : ObjId
  pub of_object : (read_path read).obj ≡ Some obj
  pub fits : ClassFits obj.class r.script.targets
  pub within : group < groups obj.class r.script.targets

-- a refusal isn't that an attempt is committed
abbrev pub IsRefusalRight : Option Outcome → Type 0
IsRefusalRight None = Unit {0}
IsRefusalRight (Some how) = how ≢ Committed

-- what a target is asked, or answered; what else letters between targets say is so (`Attempts`)
abbrev pub IsMessageRight : Rules → Opening → World → ℕ → TargetState → Message → Type 0
IsMessageRight r o w t s (message.Fetch x op group ep first tracker read snapshot) = IsFetchRight r t x op group read snapshot × HasReadEpoch r o w t s x (read_path read).cont ep tracker snapshot
IsMessageRight r o w t s (message.Commit x ep first tracker ws) = IsCommitRight r t x ws × HasItsEpoch r o w t s x ep tracker
IsMessageRight r o w t s (message.Ack x inc refusal) = IsRefusalRight refusal
IsMessageRight r o w t s m = Unit {0}

-- a Fetch that waits at a target which keeps this: it is right, and has an epoch, which is its attempt's, or its snapshot's
pub record IsWaitingRight (r : Rules) (o : Opening) (w : World) (t : ℕ) (d : Durable) (x : AttemptId) (op group : ℕ) (ep : Option Epoch) (read : Read) (snapshot : Bool) : Type 0 where
  pub right : IsFetchRight r t x op group read snapshot
  pub epoch : Epoch
  pub has : ep ≡ Some epoch
  pub its : IsReadEpoch r o w d x (read_path read).cont ep snapshot epoch

abbrev pub IsParkedRight : Rules → Opening → World → ℕ → Durable → Message → Type 0
IsParkedRight r o w t d (message.Fetch x op group ep first tracker read snapshot) = IsWaitingRight r o w t d x op group ep read snapshot
IsParkedRight r o w t d m = ⊥

-- The opening's versions are below the run, and what is issued above it, to one attempt each; the writes of attempts are in form, of
-- objects for which there are targets enough; and all that a running target is asked is right, also what waits there.
pub record Given (r : Rules) (o : Opening) (held : ℕ → List Version) (w : World) : Type 0 where
  pub before : (t : ℕ) (v : Version) → Contains (held t) v → v.epoch.0 ≤ top o
  pub above : (x : AttemptId) (e : Epoch) → Contains w.issued (x, e) → top o < e.0
  pub apart : (x y : AttemptId) (e f : Epoch) → Contains w.issued (x, e) → Contains w.issued (y, f) → e.0 ≡ f.0 → x ≡ y
  pub forms : (x : AttemptId) → AreWritesInForm (writes_of r x)
  pub fits : (x : AttemptId) (m : MinorWrite) → Contains (writes_of r x) m → FitsTargets r m.write
  pub few : r.script.targets ≤ 64
  pub asked : (l : Letter) (t : ℕ) (s : TargetState) → Contains w.messages l → l.to ≡ target t → slice_get w.targets t ≡ Some s → s.life ≡ Running → IsMessageRight r o w t s l.message
  pub waiting : (t : ℕ) (s : TargetState) (p : Parked) → slice_get w.targets t ≡ Some s → s.life ≡ Running → Has p s.memory.member.parked → IsParkedRight r o w t s.durable p.ask
