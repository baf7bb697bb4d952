-- A target does its idle work: it settles the decided attempts that it leads, in their order, tells the other members of what is
-- committed, and in the settling phase asks other leaders what became of what is prepared here.
use Rattle.std.specs.Prelude.{◌≡◌, ◌++◌, ◌==◌, Bool, true, false, ◌&&◌, ◌||◌, not, length, List, [], ◌∷◌, Option, Some, None}
use Rattle.base_types.specs.declared.entry.Settle.TheVariants.{Commit}
use Rattle.base_types.specs.declared.id.AttemptId.{AttemptId}
use Rattle.daos_model.specs.declared.durable.Durable.{Durable}
use Rattle.dtx_base.specs.Joining as member
use Rattle.dtx_base.specs.Leading.{LeaderStep, batched, is_batch_due}
use Rattle.world_base.specs.declared.did.Did.{Did}
use Rattle.world_base.specs.declared.target.TargetMemory.{TargetMemory}
use Rattle.world_base.specs.declared.target.TargetPlan.{TargetPlan}
use Rattle.world_base.specs.Changes.{Change, Kept, Settles}
use Rattle.world_base.specs.Requests.{sends}
use Rattle.world_base.specs.Roles.{joins_on, leader_at, leads_on, member_at, with_unsettled}

-- the steps of idle work; a stage is the attempts that are left to settle
pub data IdleNext : List AttemptId → Kept → Option Change → List AttemptId → Type 0 where
  SettlesFirst : (k : Kept) (a : AttemptId) (rest : List AttemptId) → IdleNext (a ∷ rest) k (Some (Settles a Commit)) rest

-- each other member is sent one Mark with all that it is to be told, where all that was decided is settled
abbrev pub batch_of : TargetPlan → TargetMemory → Durable → LeaderStep
batch_of t m d = batched (leader_at t (with_unsettled [] m) d)

-- in the settling phase, the leader of each prepared entry is asked, unless idle work asked it already
abbrev pub inquiry_of : Bool → TargetPlan → TargetMemory → Durable → member.MemberStep
inquiry_of false t m d = member.quietly (member_at t m)
inquiry_of true t m d = member.inquired d.entries (member_at t m)

abbrev pub idle_memory : Bool → TargetPlan → TargetMemory → Durable → TargetMemory
idle_memory settling t m d = joins_on (inquiry_of settling t m d).member (leads_on (batch_of t m d) m)

abbrev pub idle_told : Bool → TargetPlan → TargetMemory → Durable → Did
idle_told settling t m d = sends ((batch_of t m d).posts ++ (inquiry_of settling t m d).freed.posts) None

-- idle work ends when none is left
pub data IdleEnds (settling : Bool) (t : TargetPlan) (m : TargetMemory) : List AttemptId → Kept → TargetMemory × Did → Type 0 where
  AllSettled : (k : Kept) (left : TargetMemory × Did) → left ≡ (idle_memory settling t m k.durable, idle_told settling t m k.durable) → IdleEnds settling t m [] k left

-- a target has idle work: a decided attempt to settle, a Mark to send, or in the settling phase a Query
unfoldable pub has_idle : Bool → TargetPlan → TargetMemory → Durable → Bool
has_idle settling t m d = not (length m.leader.decided == 0) || is_batch_due (leader_at t m d) || (settling && member.is_inquiry_due d.entries (member_at t m))
