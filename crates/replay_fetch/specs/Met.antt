-- What a read meets, while some decided attempts aren't settled.
use Rattle.std.specs.Prelude.{ℕ, ◌≡◌, true, List, Option, Some, None, Ok, Err, Contains, filter}
use Rattle.base_types.specs.declared.answer.Answer.{Answer}
use Rattle.base_types.specs.declared.entry.Settle.TheVariants.{Commit}
use Rattle.base_types.specs.declared.epoch.Epoch.{Epoch}
use Rattle.base_types.specs.declared.id.AttemptId.{AttemptId}
use Rattle.base_types.specs.declared.outcome.Cause.{Cause}
use Rattle.base_types.specs.declared.outcome.Cause.TheVariants as cause
use Rattle.base_types.specs.declared.outcome.Outcome.TheVariants as outcome
use Rattle.base_messages.specs.declared.actor.ActorId.{ActorId}
use Rattle.base_messages.specs.declared.message.Reply.TheVariants as reply
use Rattle.daos_model.specs.declared.durable.Durable.{Durable}
use Rattle.daos_model.specs.Changes.{settled}
use Rattle.dtx_base.specs.Joining.{parking}
use Rattle.vos_store.specs.Answers.{fetched}
use Rattle.vos_store.specs.declared.refusal.FetchNo.TheVariants.{Unsettled}
use Rattle.world_base.specs.declared.did.Did.{Did}
use Rattle.world_base.specs.declared.request.FetchRequest.{FetchRequest}
use Rattle.world_base.specs.declared.target.TargetMemory.{TargetMemory}
use Rattle.world_base.specs.declared.target.TargetPlan.{TargetPlan}
use Rattle.world_base.specs.Changes.{Kept}
use Rattle.world_base.specs.Reads.{FetchEnds, FetchNext, Reading, asks_leader, fetch_at, fetch_cause, stamps_with, tells}
use Rattle.world_base.specs.Requests.{is_other_attempt}
use Rattle.world_base.specs.Roles.{joins_on, member_at, other_leader, with_unsettled}
use Rattle.replay_base.specs.Heard.{CanRead}
use Rattle.replay_base.specs.Onward.{Iff, Onward}
use Rattle.replay_fetch.specs.declared.meets.Ending.{Ending}
use Rattle.replay_fetch.specs.declared.meets.Ending.TheVariants as ending
use Rattle.replay_fetch.specs.declared.meets.Met.{Met}
use Rattle.replay_fetch.specs.declared.meets.Met.TheVariants as met
use Rattle.replay_fetch.specs.declared.reads.End.{End}
use Rattle.replay_fetch.specs.declared.reads.Work.{Work}

-- What a read ends with: what refuses it; that an attempt isn't resolved, which this target leads and which isn't one of these; that it
-- waits for one that another target leads; or its answer.
pub data IsEnding (t : TargetPlan) (q : FetchRequest) (e : Epoch) (d : Durable) (decided : List AttemptId) (r : Ending) : Type 0 where
  IsRefused : (c : Cause) → fetch_cause t q e d ≡ Some c → r ≡ ending.Replies (reply.Outcome (outcome.Restart c)) → IsEnding t q e d decided r
  IsUnresolved : (a : AttemptId) → fetch_cause t q e d ≡ None → fetched q.read e d ≡ Err (Unsettled a) → (Contains decided a → ⊥) → other_leader t a d ≡ None
      → r ≡ ending.Replies (reply.Outcome (outcome.Restart (cause.Unresolved a))) → IsEnding t q e d decided r
  IsParked : (a : AttemptId) (leader : ℕ) → fetch_cause t q e d ≡ None → fetched q.read e d ≡ Err (Unsettled a) → other_leader t a d ≡ Some leader
      → r ≡ ending.Parks a leader → IsEnding t q e d decided r
  IsAnswered : (b : Answer) → fetch_cause t q e d ≡ None → fetched q.read e d ≡ Ok b → r ≡ ending.Replies (reply.Answer b) → IsEnding t q e d decided r

-- one of the decided attempts is in its way
pub record IsInTheWay (t : TargetPlan) (q : FetchRequest) (e : Epoch) (d : Durable) (decided : List AttemptId) (a : AttemptId) : Type 0 where
  pub free : fetch_cause t q e d ≡ None
  pub meets : fetched q.read e d ≡ Err (Unsettled a)
  pub own : Contains decided a

-- neither an attempt nor an answer
pub record IsStuck (t : TargetPlan) (q : FetchRequest) (e : Epoch) (d : Durable) : Type 0 where
  pub free : fetch_cause t q e d ≡ None
  pub unmet : (a : AttemptId) → fetched q.read e d ≡ Err (Unsettled a) → ⊥
  pub unanswered : (b : Answer) → fetched q.read e d ≡ Ok b → ⊥

-- what a read meets
abbrev pub IsMet : TargetPlan → FetchRequest → Epoch → Durable → List AttemptId → Met → Type 0
IsMet t q e d decided (met.Settles a) = IsInTheWay t q e d decided a
IsMet t q e d decided (met.Ends r) = IsEnding t q e d decided r
IsMet t q e d decided met.Stuck = IsStuck t q e d

-- what is met where this attempt stands in a read's way: it is one of the decided ones; else another target leads it, or this one does
pub data MeetsAttempt (t : TargetPlan) (d : Durable) (decided : List AttemptId) (a : AttemptId) (r : Met) : Type 0 where
  AsOwn : Contains decided a → r ≡ met.Settles a → MeetsAttempt t d decided a r
  AsOthers : (leader : ℕ) → other_leader t a d ≡ Some leader → r ≡ met.Ends (ending.Parks a leader) → MeetsAttempt t d decided a r
  AsOpen : (Contains decided a → ⊥) → other_leader t a d ≡ None → r ≡ met.Ends (ending.Replies (reply.Outcome (outcome.Restart (cause.Unresolved a)))) → MeetsAttempt t d decided a r

-- what a target then knows, which knew this before with the epoch's ticks, and what follows
abbrev pub left_by : TargetPlan → FetchRequest → ActorId → Epoch → Ending → TargetMemory → TargetMemory × Did
left_by t q from e (ending.Replies (reply.Answer b)) n = (record n { stamps = stamps_with q e n.stamps }, tells q from e (reply.Answer b))
left_by t q from e (ending.Replies (reply.Outcome o)) n = (n, tells q from e (reply.Outcome o))
left_by t q from e (ending.Parks a leader) n = (joins_on (parking (fetch_at q e) a leader (member_at t n)) n, asks_leader q e a leader)

-- from a stage of a read on, a turn goes to its end so
abbrev pub ReadsFrom : TargetPlan → FetchRequest → Epoch → TargetMemory → ActorId → Work → ℕ → ℕ → Kept → TargetMemory × Did → Type 0
ReadsFrom t q e m from w free reading new left = Onward (FetchNext t m reading q) (FetchEnds t m reading q from) (Reading e w.memory.leader.decided) w.durable w.changed free new left

-- a read goes on from one stage to another
abbrev pub ReadsOn : TargetPlan → FetchRequest → Epoch → Work → Work → Type 0
ReadsOn t q e old new = (m : TargetMemory) (from : ActorId) (free reading : ℕ) (k : Kept) (left : TargetMemory × Did) → Iff (ReadsFrom t q e m from old free reading k left) (ReadsFrom t q e m from new free reading k left)

-- it went on so far: only which decided attempts aren't settled is another
pub record HasGone (t : TargetPlan) (q : FetchRequest) (e : Epoch) (old new : Work) : Type 0 where
  pub on : ReadsOn t q e old new
  pub knows : new.memory ≡ with_unsettled new.memory.leader.decided old.memory
  pub read : CanRead t new.durable new.memory.leader.decided

-- a read comes to its end, or doesn't go on
abbrev pub ComesTo : TargetPlan → FetchRequest → Epoch → Durable → List AttemptId → Option Ending → Type 0
ComesTo t q e d decided None = IsStuck t q e d
ComesTo t q e d decided (Some r) = IsEnding t q e d decided r

-- it went on as far as it goes
pub record HasRead (t : TargetPlan) (q : FetchRequest) (e : Epoch) (old : Work) (x : End) : Type 0 where
  pub gone : HasGone t q e old x.work
  pub comes : ComesTo t q e x.work.durable x.work.memory.leader.decided x.ending

-- one of the decided attempts was settled, and isn't among them any more
pub record IsSettled (a : AttemptId) (old new : Work) : Type 0 where
  pub durable : new.durable ≡ settled a Commit old.durable
  pub memory : new.memory ≡ with_unsettled (filter (is_other_attempt a) old.memory.leader.decided) old.memory
  pub changed : new.changed ≡ true
