-- A target heard a Commit, or a Prepare, so.
use Rattle.std.specs.Prelude.{ℕ, ◌≡◌, ◌<◌, true, IfSome}
use Rattle.base_types.specs.declared.operation.MinorWrite.{MinorWrite}
use Rattle.base_types.specs.Operations.{write_path}
use Rattle.base_types.specs.Placement.{ClassFits}
use Rattle.daos_model.specs.Forms.{is_write_in_form}
use Rattle.base_messages.specs.declared.actor.ActorId.{ActorId}
use Rattle.world_base.specs.declared.did.Did.{Did}
use Rattle.world_base.specs.declared.request.CommitRequest.{CommitRequest}
use Rattle.world_base.specs.declared.request.PrepareRequest.{PrepareRequest}
use Rattle.world_base.specs.declared.target.TargetPlan.{TargetPlan}
use Rattle.world_base.specs.declared.target.TargetState.{TargetState}
use Rattle.world_base.specs.Commits.{Asked, CommitEnds, CommitNext}
use Rattle.world_base.specs.Prepares as prepare
use Rattle.world_base.specs.Turns.{Whole}
use Rattle.replay_base.specs.Onward.{keeps}

-- at some reading of its clock it comes from one state to another by a Commit, and this follows
abbrev pub CommitsSo : TargetPlan → ActorId → CommitRequest → TargetState → TargetState → Did → Type 0
CommitsSo t from q s new did =
    (reading : ℕ) × Whole (CommitNext t s.opening s.memory reading q) (CommitEnds t s.opening s.memory reading q from) Asked (keeps s.durable s.free) (keeps new.durable new.free) (new.memory, did)

-- it does by a Prepare
abbrev pub PreparesSo : TargetPlan → PrepareRequest → TargetState → TargetState → Did → Type 0
PreparesSo t q s new did =
    Whole (prepare.PrepareNext t s.opening s.memory q) (prepare.PrepareEnds t s.opening s.memory q) prepare.Heard (keeps s.durable s.free) (keeps new.durable new.free) (new.memory, did)

-- a write is in form
pub record IsOne (w : MinorWrite) : Type 0 where
  pub form : is_write_in_form w.write ≡ true
  pub minor : w.minor < 64

-- its object fits so many targets
abbrev pub FitsIn : ℕ → MinorWrite → Type 0
FitsIn targets w = IfSome (write_path w.write).obj (λ o. ClassFits o.class targets)
