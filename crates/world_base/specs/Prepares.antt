-- A target hears a Prepare: it stores the writes of its groups of an attempt that another target leads.
use Rattle.std.specs.Prelude.{ℕ, ◌≡◌, ◌/◌, ◌≤◌, ◌<◌, [], ◌∷◌, Option, Some, None}
use Rattle.base_types.specs.declared.epoch.Epoch.{Epoch}
use Rattle.base_types.specs.declared.outcome.Cause.{Cause}
use Rattle.base_types.specs.declared.outcome.FloorWhy.{FloorWhy}
use Rattle.base_types.specs.declared.outcome.Outcome.{Outcome}
use Rattle.base_types.specs.declared.outcome.Outcome.TheVariants.{Restart, NoSpace}
use Rattle.base_types.specs.Epochs.{lease_for}
use Rattle.base_messages.specs.declared.message.Message.TheVariants.{Ack}
use Rattle.daos_model.specs.Blocks.{blocks}
use Rattle.dtx_base.specs.Leading.{to_target}
use Rattle.world_base.specs.declared.did.Did.{Did}
use Rattle.world_base.specs.declared.request.PrepareRequest.{PrepareRequest}
use Rattle.world_base.specs.declared.target.TargetMemory.{TargetMemory}
use Rattle.world_base.specs.declared.target.TargetPlan.{TargetPlan}
use Rattle.world_base.specs.Changes.{Change, Extends, Kept, Prepares}
use Rattle.world_base.specs.Commits.{IsAllowed, IsRefusedBy}
use Rattle.world_base.specs.Requests.{sends, with_ticks}

-- the lease is to cover the epoch; the writes are checked; or they are stored
pub data PrepareStage : Type 0 where
  Heard : PrepareStage
  Checking : PrepareStage
  Stored : PrepareStage

-- the steps of a Prepare
pub data PrepareNext (t : TargetPlan) (opening : Epoch × FloorWhy) (m : TargetMemory) (q : PrepareRequest) : PrepareStage → Kept → Option Change → PrepareStage → Type 0 where
  ExtendsLease : (k : Kept) (lease : ℕ) → k.durable.lease < q.entry.epoch.0 / 256 → lease_for (q.entry.epoch.0 / 256) ≡ Some lease
      → PrepareNext t opening m q Heard k (Some (Extends lease)) Heard
  IsCovered : (k : Kept) → q.entry.epoch.0 / 256 ≤ k.durable.lease → PrepareNext t opening m q Heard k None Checking
  Stores : (k : Kept) → IsAllowed t opening q.first q.entry.epoch k.durable m.stamps q.writes → blocks q.writes ≤ k.free
      → PrepareNext t opening m q Checking k (Some (Prepares q.entry q.writes)) Stored

-- the leader is told a refusal, or that all is well
abbrev pub acks : PrepareRequest → Option Outcome → Did
acks q refusal = sends (to_target q.entry.leader (Ack q.entry.attempt q.inc refusal) ∷ []) None

-- what a Prepare ends with: the writes are refused; there is no space for them; or they are stored
pub data PrepareEnds (t : TargetPlan) (opening : Epoch × FloorWhy) (m : TargetMemory) (q : PrepareRequest) : PrepareStage → Kept → TargetMemory × Did → Type 0 where
  IsRefused : (k : Kept) (c : Cause) (left : TargetMemory × Did) → IsRefusedBy t opening q.first q.entry.epoch k.durable m.stamps q.writes c
      → left ≡ (with_ticks q.entry.epoch m, acks q (Some (Restart c))) → PrepareEnds t opening m q Checking k left
  HasNoSpace : (k : Kept) (left : TargetMemory × Did) → IsAllowed t opening q.first q.entry.epoch k.durable m.stamps q.writes → k.free < blocks q.writes
      → left ≡ (with_ticks q.entry.epoch m, acks q (Some (NoSpace t.me (blocks q.writes) k.free))) → PrepareEnds t opening m q Checking k left
  IsPrepared : (k : Kept) (left : TargetMemory × Did) → left ≡ (with_ticks q.entry.epoch m, acks q None) → PrepareEnds t opening m q Stored k left
