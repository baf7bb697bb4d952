-- The steps and the ends of a Commit, stage by stage.
use Rattle.std.proofs.Common.{ℕ, ◌≡◌, ◌≤◌, ◌<◌, ◌/◌, refl, Option, Some, None, List}
use Rattle.base_types.specs.declared.epoch.Epoch.{Epoch}
use Rattle.base_types.specs.declared.operation.MinorWrite.{MinorWrite}
use Rattle.base_types.specs.declared.outcome.Cause.{Cause}
use Rattle.base_types.specs.declared.outcome.FloorWhy.{FloorWhy}
use Rattle.base_types.specs.declared.outcome.Outcome.TheVariants as outcome
use Rattle.base_messages.specs.declared.actor.ActorId.{ActorId}
use Rattle.base_messages.specs.declared.message.Message.TheVariants as message
use Rattle.daos_model.specs.Blocks.{blocks}
use Rattle.world_base.specs.declared.did.Did.{Did}
use Rattle.world_base.specs.declared.request.CommitRequest.{CommitRequest}
use Rattle.world_base.specs.declared.target.TargetMemory.{TargetMemory}
use Rattle.world_base.specs.declared.target.TargetPlan.{TargetPlan}
use Rattle.world_base.specs.Changes.{Change, Kept, Prepares}
use Rattle.world_base.specs.Commits.{Asked, Checking, CommitEnds, CommitNext, CommitStage, ExtendsLease, HasEpoch, HasBegun, HasNoSpace, IsAllowed, IsCovered, IsRefused, IsRefusedBy, IsSpent, Known, Stored, Stores, ends_at, led_entry, begins_at, own_writes}
use Rattle.world_base.specs.Requests.{issued_for, request_epoch, says, sends, with_ticks}
use Rattle.world_base.specs.Roles.{leads_on}
use Rattle.replay_base.proofs.Asking.{Begins}
use Rattle.replay_base.proofs.Covering.{CoverStep, Covering, Extending}

module _ (t : TargetPlan) (opening : Epoch × FloorWhy) (m : TargetMemory) (reading : ℕ) (q : CommitRequest) (from : ActorId) where
  abbrev pub ws : List MinorWrite
  ws = own_writes t q.writes

  -- the writes are stored
  pub record StoresAll (e : Epoch) (k : Kept) (o : Option Change) (u : CommitStage) : Type 0 where
    pub allowed : IsAllowed t opening q.first e k.durable m.stamps ws
    pub space : blocks ws ≤ k.free
    pub change : o ≡ Some (Prepares (led_entry t q e) ws)
    pub there : u ≡ Stored e

  abbrev pub NextAt : CommitStage → Kept → Option Change → CommitStage → Type 0
  NextAt Asked k o u = Begins (request_epoch t m reading q.tracker q.ep) Known o u
  NextAt (Known e) k o u = CoverStep (e.0 / 256) (Known e) (Checking e) k o u
  NextAt (Checking e) k o u = StoresAll e k o u
  NextAt (Stored e) k o u = ⊥

  pub next_at : (s : CommitStage) (k : Kept) (o : Option Change) (u : CommitStage) → CommitNext t opening m reading q s k o u → NextAt s k o u
  next_at s k o u (HasEpoch j e asked) = record { epoch = e; asked = asked; silent = refl; there = refl }
  next_at s k o u (ExtendsLease j e lease low is) = Extending lease low is
  next_at s k o u (IsCovered j e le) = Covering le
  next_at s k o u (Stores j e allowed space) = record { allowed = allowed; space = space; change = refl; there = refl }

  abbrev pub spent : TargetMemory × Did
  spent = (m, says from (message.Ended q.attempt None outcome.EpochsSpent) None)

  abbrev pub refused : Epoch → Cause → TargetMemory × Did
  refused e c = (with_ticks e m, ends_at q from e (outcome.Restart c))

  abbrev pub spaceless : Epoch → Kept → TargetMemory × Did
  spaceless e k = (with_ticks e m, ends_at q from e (outcome.NoSpace t.me (blocks ws) k.free))

  abbrev pub stored : Epoch → Kept → TargetMemory × Did
  stored e k = (leads_on (begins_at t m q from e k.durable) (with_ticks e m), sends (begins_at t m q from e k.durable).posts (issued_for q.attempt q.ep e))

  -- the writes are refused, or there is no space for them
  pub data Turned (e : Epoch) (k : Kept) (left : TargetMemory × Did) : Type 0 where
    Refused : (c : Cause) → IsRefusedBy t opening q.first e k.durable m.stamps ws c → left ≡ refused e c → Turned e k left
    Spaceless : IsAllowed t opening q.first e k.durable m.stamps ws → k.free < blocks ws → left ≡ spaceless e k → Turned e k left

  abbrev pub EndsAt : CommitStage → Kept → TargetMemory × Did → Type 0
  EndsAt Asked k left = (request_epoch t m reading q.tracker q.ep ≡ None) × (left ≡ spent)
  EndsAt (Known e) k left = ⊥
  EndsAt (Checking e) k left = Turned e k left
  EndsAt (Stored e) k left = left ≡ stored e k

  pub ends_at_stage : (s : CommitStage) (k : Kept) (left : TargetMemory × Did) → CommitEnds t opening m reading q from s k left → EndsAt s k left
  ends_at_stage s k left (IsSpent j l none is) = (none, is)
  ends_at_stage s k left (IsRefused j e c l why is) = Refused c why is
  ends_at_stage s k left (HasNoSpace j e l allowed lacks is) = Spaceless allowed lacks is
  ends_at_stage s k left (HasBegun j e l is) = is
