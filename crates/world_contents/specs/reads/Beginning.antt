-- What holds of a target where a turn of it begins.
use Rattle.std.specs.Prelude.{ℕ, ◌≡◌, ◌≤◌, ◌<◌, List, Contains, Some}
use Rattle.base_types.specs.declared.entry.Entry.{Entry}
use Rattle.base_types.specs.declared.epoch.Epoch.{Epoch}
use Rattle.base_types.specs.declared.id.AttemptId.{AttemptId}
use Rattle.base_types.specs.declared.operation.MinorWrite.{MinorWrite}
use Rattle.model_laws.specs.Decided.{AreDecided}
use Rattle.daos_model.specs.declared.durable.Version.{Version}
use Rattle.daos_model.specs.Durables.{entry_of}
use Rattle.daos_model.specs.Forms.{AreWritesInForm}
use Rattle.daos_model.specs.Opening.{Opening, top}
use Rattle.world_commit.specs.dtx_base.declared.leading.Undecided.{Undecided}
use Rattle.world_commit.specs.dtx_base.Leading.{undecided_attempt}
use Rattle.world_commit.specs.dtx_base.Rows.{row_of}
use Rattle.world_commit.specs.attempts.Attempts.{members_of, writes_of}
use Rattle.world_commit.specs.attempts.History.{Decided, History}
use Rattle.world_commit.specs.world_base.declared.target.TargetState.{TargetState}
use Rattle.world_commit.specs.world_base.declared.world.World.{World}
use Rattle.world_commit.specs.world_base.Events.{Rules}
use Rattle.world_contents.specs.reads.ChangeLaws.{WasDecided}
use Rattle.world_contents.specs.reads.FetchLaws.{AreKnown}
use Rattle.world_contents.specs.reads.Given.{FitsTargets}
use Rattle.world_contents.specs.reads.Midway.{Sound}
use Rattle.world_contents.specs.reads.StoreLaws.{AreIssued}
use Rattle.world_contents.specs.reads.Transactions.{transactions}

-- of an attempt with a row the entry is here, with its members and an epoch that was issued to it
pub record HasOpenRow (r : Rules) (w : World) (t : ℕ) (s : TargetState) (x : AttemptId) : Type 0 where
  pub entry : Entry
  pub found : entry_of s.durable x ≡ Some entry
  pub leads : entry.leader ≡ t
  pub members : entry.members ≡ members_of r x
  pub issued : Contains w.issued (x, entry.epoch)

-- an attempt with a row at a target isn't decided
abbrev pub IsUndecidedAt : History → TargetState → AttemptId → Type 0
IsUndecidedAt h s x = (u : Undecided) → row_of undecided_attempt x s.memory.leader.undecided ≡ Some u → WasDecided h x → ⊥

-- what holds of what was decided and issued, and of a target
pub record TurnBegins (r : Rules) (o : Opening) (held : List Version) (h : History) (w : World) (t : ℕ) (s : TargetState) : Type 0 where
  pub sound : Sound r o held h h.served s.opening t s.durable s.memory.stamps
  pub apart : AreDecided (transactions r.script h)
  pub decided : (x : AttemptId) (e : Epoch) → Decided h x e → Contains w.issued (x, e)
  pub before : (v : Version) → Contains held v → v.epoch.0 ≤ top o
  pub above : (x : AttemptId) (e : Epoch) → Contains w.issued (x, e) → top o < e.0
  pub alone : (x y : AttemptId) (e f : Epoch) → Contains w.issued (x, e) → Contains w.issued (y, f) → e.0 ≡ f.0 → x ≡ y
  pub forms : (x : AttemptId) → AreWritesInForm (writes_of r x)
  pub fits : (x : AttemptId) (m : MinorWrite) → Contains (writes_of r x) m → FitsTargets r m.write
  pub issued : AreIssued w s.durable
  pub known : AreKnown h s.memory.leader.decided
  pub rows : (x : AttemptId) (u : Undecided) → row_of undecided_attempt x s.memory.leader.undecided ≡ Some u → HasOpenRow r w t s x
