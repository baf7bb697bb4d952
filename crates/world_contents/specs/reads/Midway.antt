-- What holds of a target in a turn, between two of its changes.
use Rattle.std.specs.Prelude.{ℕ, ◌≡◌, ◌⊎◌, ◌≤◌, ◌/◌, ◌++◌, true, false, List, Contains}
use Rattle.base_types.specs.declared.epoch.Epoch.{Epoch}
use Rattle.base_types.specs.declared.id.AttemptId.{AttemptId}
use Rattle.base_types.specs.declared.outcome.FloorWhy.{FloorWhy}
use Rattle.base_types.specs.declared.shown.Shown.{Shown}
use Rattle.base_types.specs.Operations.{read_path}
use Rattle.base_types.specs.Paths.{overlaps}
use Rattle.model_laws.specs.Members.{Has}
use Rattle.base_messages.specs.declared.message.Message.{Message}
use Rattle.daos_model.specs.declared.durable.Durable.{Durable}
use Rattle.daos_model.specs.declared.durable.Version.{Version}
use Rattle.daos_model.specs.Forms.{is_read_in_form}
use Rattle.daos_model.specs.Opening.{Opening}
use Rattle.daos_model.specs.Versions.{version_path}
use Rattle.world_commit.specs.dtx_base.declared.member.Parked.{Parked}
use Rattle.vos_store.specs.Answers.{floor_of}
use Rattle.world_commit.specs.attempts.History.{History, Served}
use Rattle.world_commit.specs.world_base.declared.did.Did.{Did}
use Rattle.world_commit.specs.world_base.declared.target.TargetMemory.{TargetMemory}
use Rattle.world_commit.specs.world_base.declared.world.World.{World}
use Rattle.world_commit.specs.world_base.Events.{Rules, listed}
use Rattle.world_contents.specs.reads.Adds.{AreAnswered}
use Rattle.world_contents.specs.reads.Growing.{Decides}
use Rattle.world_contents.specs.reads.Reads.{IsAnsweredRight, IsOfAttempt}
use Rattle.world_contents.specs.reads.Versions.{VersionsStand}
use Rattle.world_commit.specs.world_base.Changes.{Kept}
use Rattle.world_commit.specs.world_letters.clients.Snapshots.{is_at_snapshot}

-- a write that would change what was served is refused: by the floor, or by a timestamp
abbrev pub IsGuardedBy : Epoch × FloorWhy → Durable → List Shown → Served → Type 0
IsGuardedBy opening d stamps q = (q.epoch.0 ≤ (floor_of opening d (read_path q.read).cont).0.0) ⊎ Contains stamps (record { by = q.by; epoch = q.epoch; path = read_path q.read })

-- a timestamp is of a served read, at no snapshot
abbrev pub IsStampOf : Rules → Shown → Served → Type 0
IsStampOf r z q = (q.by ≡ z.by) × (q.epoch ≡ z.epoch) × (read_path q.read ≡ z.path) × (is_at_snapshot r q.by ≡ false)

-- what it served is guarded, of the reads that were served
pub record Shows (r : Rules) (served : List Served) (opening : Epoch × FloorWhy) (t : ℕ) (d : Durable) (stamps : List Shown) : Type 0 where
  pub guarded : (q : Served) → Has q served → q.target ≡ t → IsGuardedBy opening d stamps q
  pub leased : (q : Served) → Has q served → q.target ≡ t → q.epoch.0 / 256 ≤ d.lease
  pub barred : (q : Served) (v : Version) → Has q served → q.target ≡ t → Contains d.versions v → v.done ≡ false → overlaps (version_path v) (read_path q.read) ≡ true → q.epoch.0 ≤ v.epoch.0
  pub stamped : (z : Shown) → Contains stamps z → (q : Served) × Has q served × (q.target ≡ t) × IsStampOf r z q

-- what it keeps stands for the decided transactions, and what it served is guarded, of these reads
pub record Sound (r : Rules) (o : Opening) (held : List Version) (h : History) (served : List Served) (opening : Epoch × FloorWhy) (t : ℕ) (d : Durable) (stamps : List Shown) : Type 0 where
  pub stand : VersionsStand r o held h t d
  pub shows : Shows r served opening t d stamps

-- a read that a target serves in a turn, after which these epochs are issued
pub record IsServedRight (r : Rules) (o : Opening) (h : History) (t : ℕ) (issued : List (AttemptId × Epoch)) (q : Served) : Type 0 where
  pub here : q.target ≡ t
  pub asked : IsOfAttempt r q
  pub form : is_read_in_form q.read ≡ true
  pub right : IsAnsweredRight r o h q
  pub its : is_at_snapshot r q.by ≡ false → Contains issued (q.by, q.epoch)

-- What a turn of a target leaves, in which it may serve reads: what it keeps and knows is sound of what was decided before, each
-- answer that it sends is that of a read which it served, and it decides at most one attempt.
pub record TurnLeaves (r : Rules) (o : Opening) (held : List Version) (h : History) (w : World) (opening : Epoch × FloorWhy) (t : ℕ) (heard : Message) (parked : List Parked) (new : Kept) (left : TargetMemory × Did) : Type 0 where
  pub more : List Served
  pub right : (q : Served) → Has q more → IsServedRight r o h t (w.issued ++ listed left.1.issued) q
  pub sound : Sound r o held h (more ++ h.served) opening t new.durable left.0.stamps
  pub answered : AreAnswered (more ++ h.served) t heard parked left.1.posts
  pub told : List (AttemptId × Epoch)
  pub decides : Decides r o h (w.issued ++ listed left.1.issued) left.1.posts told
