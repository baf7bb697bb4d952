-- A leader hears what members answer: an Ack, or a Marked.
use Rattle.std.specs.Prelude.{ℕ, ◌≡◌, Bool, true, false, ◌&&◌, ◌==◌, is_some, List, [], ◌∷◌, Option, Some, None, if◌then◌else◌}
use Rattle.base_types.specs.declared.entry.Entry.{Entry}
use Rattle.base_types.specs.declared.entry.Settle.TheVariants.{Abort, Confirm}
use Rattle.base_types.specs.declared.id.AttemptId.{AttemptId}
use Rattle.base_types.specs.declared.outcome.Outcome.{Outcome}
use Rattle.daos_model.specs.declared.durable.Durable.{Durable}
use Rattle.dtx_base.specs.declared.leading.Undecided.{Undecided}
use Rattle.dtx_base.specs.Leading.{LeaderOf, LeaderStep, ack_heard, entry_led, marked_heard, may_confirm, undecided_of}
use Rattle.dtx_base.specs.Members.{is_other_member}
use Rattle.world_base.specs.declared.did.Did.{Did}
use Rattle.world_base.specs.declared.target.TargetMemory.{TargetMemory}
use Rattle.world_base.specs.declared.target.TargetPlan.{TargetPlan}
use Rattle.world_base.specs.Changes.{Change, Kept, Settles}
use Rattle.world_base.specs.Requests.{nothing_follows, sends}
use Rattle.world_base.specs.Roles.{leader_at, leads_on}

-- ---- an Ack

abbrev pub is_awaited_of : ℕ → Option Entry → Option Undecided → Bool
is_awaited_of member None u = false
is_awaited_of member (Some e) None = false
is_awaited_of member (Some e) (Some u) = is_other_member e member

-- an Ack counts: it is of this incarnation, of an attempt that is undecided here, and of another member of it
unfoldable pub is_awaited : ℕ → AttemptId → ℕ → LeaderOf → Bool
is_awaited member a inc l = (inc == l.incarnation) && is_awaited_of member (entry_led a l) (undecided_of a l)

-- it counts, and refuses
abbrev pub is_refusing : ℕ → AttemptId → ℕ → Option Outcome → LeaderOf → Bool
is_refusing member a inc refusal l = is_awaited member a inc l && is_some refusal

-- nothing is done; or what follows is known, and what it aborts is settled
pub data AckStage : Type 0 where
  Heard : AckStage
  Followed : (s : LeaderStep) → AckStage

-- the steps of an Ack: the attempt that it refuses is aborted; any other Ack changes nothing that is kept
pub data AckNext (t : TargetPlan) (m : TargetMemory) (member : ℕ) (a : AttemptId) (inc : ℕ) (refusal : Option Outcome) : AckStage → Kept → Option Change → AckStage → Type 0 where
  Aborts : (k : Kept) → is_refusing member a inc refusal (leader_at t m k.durable) ≡ true
      → AckNext t m member a inc refusal Heard k (Some (Settles a Abort)) (Followed (ack_heard member a inc refusal (leader_at t m k.durable)))
  Counts : (k : Kept) → is_refusing member a inc refusal (leader_at t m k.durable) ≡ false
      → AckNext t m member a inc refusal Heard k None (Followed (ack_heard member a inc refusal (leader_at t m k.durable)))

-- an Ack ends with what follows from it
pub data AckEnds (m : TargetMemory) : AckStage → Kept → TargetMemory × Did → Type 0 where
  IsFollowed : (k : Kept) (s : LeaderStep) (left : TargetMemory × Did) → left ≡ (leads_on s m, sends s.posts None) → AckEnds m (Followed s) k left

-- ---- a Marked

-- the attempts whose commit the sender may have to confirm: none where it answers an older incarnation
abbrev pub to_confirm : ℕ → List AttemptId → Durable → List AttemptId
to_confirm inc ids d = if inc == d.incarnation then ids else []

-- the steps of a Marked; a stage is the attempts that are left: one is confirmed where it is committed and the sender a member
pub data MarkedNext (t : TargetPlan) (m : TargetMemory) (member : ℕ) : List AttemptId → Kept → Option Change → List AttemptId → Type 0 where
  Confirms : (k : Kept) (a : AttemptId) (rest : List AttemptId) → may_confirm member (entry_led a (leader_at t m k.durable)) ≡ true
      → MarkedNext t m member (a ∷ rest) k (Some (Settles a (Confirm member))) rest
  PassesBy : (k : Kept) (a : AttemptId) (rest : List AttemptId) → may_confirm member (entry_led a (leader_at t m k.durable)) ≡ false
      → MarkedNext t m member (a ∷ rest) k None rest

-- a Marked ends when none is left: the Mark got its answer
pub data MarkedEnds (t : TargetPlan) (m : TargetMemory) (member inc : ℕ) (ids : List AttemptId) : List AttemptId → Kept → TargetMemory × Did → Type 0 where
  AllConfirmed : (k : Kept) (left : TargetMemory × Did) → left ≡ (leads_on (marked_heard member inc ids (leader_at t m k.durable)) m, nothing_follows) → MarkedEnds t m member inc ids [] k left
