-- A target's turn in which it hears a message, and a world after a target's turn.
use Rattle.std.specs.Prelude.{ℕ, ◌≡◌, Bool, ◌+◌, ◌++◌, ◌∷◌, take, drop, Option, Some, None}
use Rattle.base_messages.specs.declared.actor.ActorId.{ActorId}
use Rattle.base_messages.specs.declared.message.Message.{Message}
use Rattle.base_messages.specs.declared.message.Message.TheVariants.{Commit, Prepare}
use Rattle.replay_base.specs.Heard.{CanHear}
use Rattle.replay_base.specs.Onward.{keeps}
use Rattle.world_base.specs.declared.did.Did.{Did}
use Rattle.world_base.specs.declared.request.CommitRequest.{CommitRequest}
use Rattle.world_base.specs.declared.request.PrepareRequest.{PrepareRequest}
use Rattle.world_base.specs.declared.target.TargetPlan.{TargetPlan}
use Rattle.world_base.specs.declared.target.TargetState.{TargetState}
use Rattle.world_base.specs.declared.world.World.{World}
use Rattle.world_list.specs.Following.{IsTold}
use Rattle.world_list.specs.declared.follow.Follow.{Follow}
use Rattle.world_base.specs.TargetTurns.{Hears, IdlesWhole}

-- at some reading of its clock a target comes from one state to another by a message that it can hear, and this follows
pub record HearsSo (t : TargetPlan) (from : ActorId) (m : Message) (s new : TargetState) (did : Did) : Type 0 where
  pub form : CanHear t s.durable s.memory m
  pub turn : (reading : ℕ) × Hears t s.opening s.memory reading from m (keeps s.durable s.free) (keeps new.durable new.free) (new.memory, did)

-- by its idle work, in the settling phase or before it, it comes from one state to another, and this follows
abbrev pub IdlesSo : TargetPlan → TargetState → TargetState → Did → Type 0
IdlesSo t s new did = (settling : Bool) × IdlesWhole settling t s.memory (keeps s.durable s.free) (keeps new.durable new.free) (new.memory, did)

-- a target's turn changes neither the floor of its opening nor whether it runs
pub record StaysOpen (s new : TargetState) : Type 0 where
  pub opening : new.opening ≡ s.opening
  pub life : new.life ≡ s.life

-- a world after a target's turn, but for the letters in flight
pub record IsAfterTarget (w : World) (t : ℕ) (s : TargetState) (f : Follow) (v : World) : Type 0 where
  pub clients : v.clients ≡ w.clients
  pub targets : v.targets ≡ take t w.targets ++ (s ∷ drop (t + 1) w.targets)
  pub told : IsTold w f v

-- what a Commit asks, or a Prepare
abbrev pub commit_in : Message → Option CommitRequest
commit_in (Commit x ep first tracker ws) = Some (record { attempt = x; ep = ep; first = first; tracker = tracker; writes = ws })
commit_in m = None

abbrev pub prepare_in : Message → Option PrepareRequest
prepare_in (Prepare e first ws inc) = Some (record { entry = e; first = first; writes = ws; inc = inc })
prepare_in m = None
