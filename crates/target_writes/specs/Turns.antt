-- Turns in which writes are stored, from a stage on; `opening` is the floor that the last opening set.
use Rattle.std.specs.Prelude.{ℕ, ◌≡◌, List, Option, None, Result}
use Rattle.base_types.specs.declared.entry.Entry.{Entry}
use Rattle.base_types.specs.declared.epoch.Epoch.{Epoch}
use Rattle.base_types.specs.declared.operation.MinorWrite.{MinorWrite}
use Rattle.base_types.specs.declared.outcome.FloorWhy.{FloorWhy}
use Rattle.base_messages.specs.declared.actor.ActorId.{ActorId}
use Rattle.daos_model.specs.declared.durable.Durable.{Durable}
use Rattle.daos_model.specs.Durables.{entry_of}
use Rattle.vos_store.specs.Calls.{State}
use Rattle.world_base.specs.declared.did.Did.{Did}
use Rattle.world_base.specs.declared.request.CommitRequest.{CommitRequest}
use Rattle.world_base.specs.declared.request.PrepareRequest.{PrepareRequest}
use Rattle.world_base.specs.declared.target.TargetMemory.{TargetMemory}
use Rattle.world_base.specs.declared.target.TargetPlan.{TargetPlan}
use Rattle.world_base.specs.Commits as commit
use Rattle.world_base.specs.CutTurns.{UnstoredNext}
use Rattle.world_base.specs.Further.{CommitDown}
use Rattle.world_base.specs.Prepares as prepare
use Rattle.world_base.specs.Requests.{issued_for, sends}
use Rattle.world_base.specs.Roles.{leads_on}
use Rattle.world_base.specs.Turns.{Whole}
pub use Rattle.target_parts.specs.world_contents.posts.Forms.{IsPrepareInForm}
use Rattle.target_parts.specs.declared.stop.TargetStop.{TargetStop}
use Rattle.target_parts.specs.Parts.{kept}
use Rattle.target_parts.specs.Stops.{Turn, commit_issued, never}
use Rattle.target_writes.specs.Checks.{AreEnlisted, AreNew}

abbrev pub CommitTurn : TargetPlan → Epoch × FloorWhy → TargetMemory → ℕ → CommitRequest → ActorId → commit.CommitStage → Durable → State → Option Durable → State → (Durable → Type 0) → TargetMemory → Result Did TargetStop → Type 0
CommitTurn t opening m reading q from start d h new k finds left result =
    Turn (commit.CommitNext t opening m reading q) (commit_issued q) start (kept d h)
    (λ did l. Whole (commit.CommitNext t opening m reading q) (commit.CommitEnds t opening m reading q from) start (kept d h) l (left, did)) new k finds result

-- A turn in which a Commit is heard with a member that is known to be down: it ends before its writes are checked, and nothing is stored,
-- also where it is cut.
abbrev pub DownTurn : TargetPlan → Epoch × FloorWhy → TargetMemory → ℕ → CommitRequest → ActorId → Durable → State → Option Durable → State → (Durable → Type 0) → TargetMemory → Result Did TargetStop → Type 0
DownTurn t opening m reading q from d h new k finds left result =
    Turn (UnstoredNext t opening m reading q) (commit_issued q) commit.Asked (kept d h)
    (λ did l. Whole (UnstoredNext t opening m reading q) (CommitDown t m reading q from) commit.Asked (kept d h) l (left, did)) new k finds result

-- what a target knows, and what follows, once an attempt began at an epoch that it heard of
abbrev pub begun_of : TargetPlan → TargetMemory → CommitRequest → ActorId → Epoch → Durable → TargetMemory × Did
begun_of t n q from e d = (leads_on (commit.begins_at t n q from e d) n, sends (commit.begins_at t n q from e d).posts (issued_for q.attempt q.ep e))

abbrev pub PrepareTurn : TargetPlan → Epoch × FloorWhy → TargetMemory → PrepareRequest → prepare.PrepareStage → Durable → State → Option Durable → State → (Durable → Type 0) → TargetMemory → Result Did TargetStop → Type 0
PrepareTurn t opening m q start d h new k finds left result =
    Turn (prepare.PrepareNext t opening m q) never start (kept d h)
    (λ did l. Whole (prepare.PrepareNext t opening m q) (prepare.PrepareEnds t opening m q) start (kept d h) l (left, did)) new k finds result

-- an attempt's writes can be prepared: their containers are here, the attempt has no entry here, and the places of the writes are free
pub record CanPrepareHere (e : Entry) (ws : List MinorWrite) (d : Durable) : Type 0 where
  pub enlisted : AreEnlisted ws d
  pub absent : entry_of d e.attempt ≡ None
  pub new : AreNew e.epoch ws d
