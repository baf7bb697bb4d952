-- What a turn that is made again leaves.
use Rattle.std.specs.Prelude.{ℕ, ◌≡◌, Bool, Option, Some, None}
use Rattle.base_messages.specs.declared.actor.ActorId.{ActorId}
use Rattle.base_messages.specs.declared.message.Message.{Message}
use Rattle.daos_model.specs.declared.durable.Durable.{Durable}
use Rattle.world_base.specs.declared.did.Did.{Did}
use Rattle.world_base.specs.declared.target.TargetMemory.{TargetMemory}
use Rattle.world_base.specs.declared.target.TargetPlan.{TargetPlan}
use Rattle.world_base.specs.declared.target.TargetState.{TargetState}
use Rattle.world_base.specs.Changes.{Change, Kept}
use Rattle.world_base.specs.TargetTurns.{Hears, IdlesWhole}
use Rattle.replay_base.specs.Onward.{FreeAfter, Iff, Onward, keeps}
use Rattle.replay_base.specs.declared.told.Left.{Left}

-- this is kept, as many blocks are free as there may be, and this is known and follows
pub record IsLeft (l : Left) (free : ℕ) (new : Kept) (left : TargetMemory × Did) : Type 0 where
  pub durable : new.durable ≡ l.durable
  pub may : FreeAfter l.changed free new.free
  pub rest : left ≡ (l.memory, l.did)

-- a turn that can't go to its end leaves nothing
abbrev pub IsLeftIf : Option Left → ℕ → Kept → TargetMemory × Did → Type 0
IsLeftIf None free new left = ⊥
IsLeftIf (Some l) free new left = IsLeft l free new left

-- From a stage on, with this kept, a turn leaves this and nothing else. Only how many blocks are free is open.
abbrev pub Comes : {S : Type 0} → (S → Kept → Option Change → S → Type 0) → (S → Kept → TargetMemory × Did → Type 0) → S → Durable → Bool → Option Left → Type 0
Comes Next Ends stage d changed o = (free : ℕ) (new : Kept) (left : TargetMemory × Did) → Iff (Onward Next Ends stage d changed free new left) (IsLeftIf o free new left)

-- so a turn in which a target hears a message leaves this and nothing else, whatever the clock reads
abbrev pub HearsAs : TargetPlan → ActorId → Message → TargetState → Option Left → Type 0
HearsAs t from q s o =
    (reading : ℕ) (new : Kept) (left : TargetMemory × Did) → Iff (Hears t s.opening s.memory reading from q (keeps s.durable s.free) new left) (IsLeftIf o s.free new left)

-- and so does its idle work
abbrev pub IdlesAs : Bool → TargetPlan → TargetState → Option Left → Type 0
IdlesAs settling t s o = (new : Kept) (left : TargetMemory × Did) → Iff (IdlesWhole settling t s.memory (keeps s.durable s.free) new left) (IsLeftIf o s.free new left)
