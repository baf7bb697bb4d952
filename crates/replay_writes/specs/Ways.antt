-- How a target ends a turn in which it checks writes, and stores them, once the lease covers their epoch.
use Rattle.std.specs.Prelude.{ℕ, ◌≡◌, ◌≤◌, ◌<◌, ◌+◌, Bool, true, false, List, [], ◌∷◌, Option, Some, None}
use Rattle.base_types.specs.declared.operation.MinorWrite.{MinorWrite}
use Rattle.base_types.specs.declared.outcome.Cause.{Cause}
use Rattle.base_types.specs.declared.outcome.Outcome.{Outcome}
use Rattle.base_types.specs.declared.outcome.Outcome.TheVariants as outcome
use Rattle.base_messages.specs.declared.message.Message.{Message}
use Rattle.base_messages.specs.declared.message.Message.TheVariants as message
use Rattle.base_messages.specs.declared.message.Post.{Post}
use Rattle.daos_model.specs.Blocks.{blocks}
use Rattle.daos_model.specs.Changes.{prepared}
use Rattle.dtx_base.specs.Leading.{to_target}
use Rattle.replay_base.specs.Onward.{FreeAfter}
use Rattle.replay_base.specs.declared.leases.Covered.{Covered}
use Rattle.replay_writes.specs.declared.ways.Storing.{Storing}
use Rattle.replay_writes.specs.declared.ways.Tells.{Tells}
use Rattle.replay_writes.specs.declared.ways.Tells.TheVariants as tells
use Rattle.world_base.specs.declared.did.Did.{Did}
use Rattle.world_base.specs.declared.target.TargetMemory.{TargetMemory}
use Rattle.world_base.specs.declared.target.TargetPlan.{TargetPlan}
use Rattle.world_base.specs.declared.target.TargetState.{TargetState}
use Rattle.world_base.specs.Commits.{IsAllowed, IsRefusedBy}
use Rattle.world_base.specs.Requests.{says, sends, with_ticks}

-- ---- who is told what

-- that writes are refused: the client whose attempt it is, or the attempt's leader
abbrev pub refusal_told : Tells → Outcome → Did
refusal_told (tells.Client to a e issued) how = says to (message.Ended a (Some e) how) issued
refusal_told (tells.Leader leader a inc) how = sends (to_target leader (message.Ack a inc (Some how)) ∷ []) None

-- how it ended, as it is told
abbrev pub ended_of : Message → Option Outcome
ended_of (message.Ended x ep how) = Some how
ended_of (message.Ack x inc refusal) = refusal
ended_of m = None

abbrev pub outcome_of : List Post → Option Outcome
outcome_of [] = None
outcome_of (p ∷ ps) = ended_of p.message

-- a cause to restart, or want of space
abbrev pub restart_of : Outcome → Option Cause
restart_of (outcome.Restart c) = Some c
restart_of how = None

abbrev pub is_no_space : Outcome → Bool
is_no_space (outcome.NoSpace target need free) = true
is_no_space how = false

-- neither of them
abbrev pub is_stored : Option Outcome → Bool
is_stored (Some (outcome.Restart c)) = false
is_stored (Some (outcome.NoSpace target need free)) = false
is_stored how = true

-- ---- the ways

-- free blocks once writes that may take so many were stored, where there was space for them
abbrev pub StoresFree : Bool → ℕ → ℕ → ℕ → Type 0
StoresFree false need before after = (need ≤ before) × (before ≤ after + need)
StoresFree true need before after = before ≤ after + need

-- the writes are refused for this cause
pub record RefusesSo (t : TargetPlan) (x : Storing) (ws : List MinorWrite) (start : Covered) (s new : TargetState) (did : Did) (c : Cause) : Type 0 where
  pub refused : IsRefusedBy t s.opening x.first x.entry.epoch start.durable s.memory.stamps ws c
  pub durable : new.durable ≡ start.durable
  pub free : FreeAfter start.changed s.free new.free
  pub left : ◌≡◌ {A = TargetMemory × Did} (new.memory, did) (with_ticks x.entry.epoch s.memory, refusal_told x.tells (outcome.Restart c))

-- they are allowed, and there is no space for them
pub record LacksSpaceSo (t : TargetPlan) (x : Storing) (ws : List MinorWrite) (start : Covered) (s new : TargetState) (did : Did) : Type 0 where
  pub allowed : IsAllowed t s.opening x.first x.entry.epoch start.durable s.memory.stamps ws
  pub durable : new.durable ≡ start.durable
  pub free : FreeAfter start.changed s.free new.free
  pub lacks : new.free < blocks ws
  pub left : ◌≡◌ {A = TargetMemory × Did} (new.memory, did) (with_ticks x.entry.epoch s.memory, refusal_told x.tells (outcome.NoSpace t.me (blocks ws) new.free))

-- they are allowed and stored, and this is known and follows then
pub record StoresSo (t : TargetPlan) (x : Storing) (ws : List MinorWrite) (done : TargetMemory × Did) (start : Covered) (s new : TargetState) (did : Did) : Type 0 where
  pub allowed : IsAllowed t s.opening x.first x.entry.epoch start.durable s.memory.stamps ws
  pub durable : new.durable ≡ prepared x.entry ws start.durable
  pub free : StoresFree start.changed (blocks ws) s.free new.free
  pub left : ◌≡◌ {A = TargetMemory × Did} (new.memory, did) done

-- one of these ways, by the outcome that is told
abbrev pub EndsAs : TargetPlan → Storing → List MinorWrite → TargetMemory × Did → Covered → TargetState → TargetState → Did → Option Outcome → Type 0
EndsAs t x ws done start s new did (Some (outcome.Restart c)) = RefusesSo t x ws start s new did c
EndsAs t x ws done start s new did (Some (outcome.NoSpace target need free)) = LacksSpaceSo t x ws start s new did
EndsAs t x ws done start s new did how = StoresSo t x ws done start s new did
