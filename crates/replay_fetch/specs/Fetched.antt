-- A target heard a Fetch so.
use Rattle.std.specs.Prelude.{ℕ, Bool, if◌then◌else◌, Option, IfSome}
use Rattle.base_types.specs.declared.epoch.Epoch.{Epoch}
use Rattle.base_messages.specs.declared.actor.ActorId.{ActorId}
use Rattle.daos_model.specs.declared.durable.Durable.{Durable}
use Rattle.world_base.specs.declared.did.Did.{Did}
use Rattle.world_base.specs.declared.request.FetchRequest.{FetchRequest}
use Rattle.world_base.specs.declared.target.TargetMemory.{TargetMemory}
use Rattle.world_base.specs.declared.target.TargetPlan.{TargetPlan}
use Rattle.world_base.specs.declared.target.TargetState.{TargetState}
use Rattle.world_base.specs.Reads.{Asked, FetchEnds, FetchNext, FetchStage, Known, Reading}
use Rattle.world_base.specs.Turns.{Whole}
use Rattle.replay_base.specs.declared.told.Left.{Left}
use Rattle.replay_base.specs.Heard.{CanRead}
use Rattle.replay_base.specs.Leaving.{Comes}
use Rattle.replay_base.specs.Onward.{keeps}

-- at some reading of its clock it comes from one state to another by a Fetch, and this follows
abbrev pub FetchesSo : TargetPlan → ActorId → FetchRequest → TargetState → TargetState → Did → Type 0
FetchesSo t from q s new did =
    (reading : ℕ) × Whole (FetchNext t s.memory reading q) (FetchEnds t s.memory reading q from) Asked (keeps s.durable s.free) (keeps new.durable new.free) (new.memory, did)

-- where a Fetch of this epoch begins: at a snapshot it reads at once, else the lease is to cover the epoch
abbrev pub begins_at : FetchRequest → Epoch → TargetMemory → FetchStage
begins_at q e m = if q.snapshot then Reading e m.leader.decided else Known e

-- from a stage on a Fetch leaves this, whatever the clock reads; and what it leaves can be read again
pub record FetchLeaves (t : TargetPlan) (from : ActorId) (q : FetchRequest) (m : TargetMemory) (stage : FetchStage) (d : Durable) (changed : Bool) (o : Option Left) : Type 0 where
  pub comes : (reading : ℕ) → Comes (FetchNext t m reading q) (FetchEnds t m reading q from) stage d changed o
  pub read : IfSome o (λ l. CanRead t l.durable l.memory.leader.decided)
