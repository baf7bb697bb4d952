-- What a read meets, and what it comes to.
use Rattle.std.specs.Prelude.{ℕ, ◌≡◌, true, List, Option, Some, None, Ok, Err, Contains}
use Rattle.base_types.specs.declared.epoch.Epoch.{Epoch}
use Rattle.base_types.specs.declared.id.AttemptId.{AttemptId}
use Rattle.base_types.specs.declared.operation.Read.{Read}
use Rattle.base_types.specs.declared.outcome.Cause.TheVariants as cause
use Rattle.base_types.specs.declared.outcome.Outcome.TheVariants as outcome
use Rattle.base_messages.specs.declared.actor.ActorId.{ActorId}
use Rattle.base_messages.specs.declared.message.Reply.TheVariants as reply
use Rattle.daos_model.specs.declared.durable.Durable.{Durable}
use Rattle.daos_model.specs.Kinds.{is_of_kind}
use Rattle.dtx_base.specs.Joining.{parking}
use Rattle.vos_store.specs.Answers.{fetched}
use Rattle.vos_store.specs.declared.refusal.FetchNo.TheVariants.{Unsettled}
use Rattle.world_base.specs.declared.did.Did.{Did}
use Rattle.world_base.specs.declared.request.FetchRequest.{FetchRequest}
use Rattle.world_base.specs.declared.target.TargetMemory.{TargetMemory}
use Rattle.world_base.specs.declared.target.TargetPlan.{TargetPlan}
use Rattle.world_base.specs.Changes.{Kept}
use Rattle.world_base.specs.Reads.{FetchNext, Reading, asks_leader, fetch_at, fetch_cause, stamps_with, tells}
use Rattle.world_base.specs.Roles.{joins_on, member_at, other_leader}
use Rattle.world_base.specs.Turns.{Reached}
use Rattle.target_reads.specs.declared.reads.Met.{Met}
use Rattle.target_reads.specs.declared.reads.Met.TheVariants as met
use Rattle.target_reads.specs.declared.reads.Served.{Served}
use Rattle.target_reads.specs.declared.reads.Served.TheVariants as served

-- what a read meets at an epoch: what refuses it; else an attempt that isn't settled; else its answer
abbrev pub Meets : TargetPlan → FetchRequest → Epoch → Durable → Met → Type 0
Meets t q e d (met.Refused c) = fetch_cause t q e d ≡ Some c
Meets t q e d (met.Unsettled a) = (fetch_cause t q e d ≡ None) × (fetched q.read e d ≡ Err (Unsettled a))
Meets t q e d (met.Answer b) = (fetch_cause t q e d ≡ None) × (fetched q.read e d ≡ Ok b)

-- an answer is of the kind of its read, whatever the store keeps
abbrev pub MeetsKind : Read → Met → Type 0
MeetsKind r (met.Answer b) = is_of_kind r b ≡ true
MeetsKind r m = Unit {0}

abbrev pub ServesKind : Read → Served → Type 0
ServesKind r (served.Answer b) = is_of_kind r b ≡ true
ServesKind r s = Unit {0}

-- what a read comes to, while these decided attempts aren't settled: it is answered; it is refused; it meets an attempt that this
-- target leads and hasn't decided; or one that another target leads
abbrev pub ComesTo : TargetPlan → FetchRequest → Epoch → List AttemptId → Durable → Served → Type 0
ComesTo t q e decided d (served.Answer b) = (fetch_cause t q e d ≡ None) × (fetched q.read e d ≡ Ok b)
ComesTo t q e decided d (served.Refused c) = fetch_cause t q e d ≡ Some c
ComesTo t q e decided d (served.Unresolved a) =
    (fetch_cause t q e d ≡ None) × (fetched q.read e d ≡ Err (Unsettled a)) × (Contains decided a → ⊥) × (other_leader t a d ≡ None)
ComesTo t q e decided d (served.Waits a leader) =
    (fetch_cause t q e d ≡ None) × (fetched q.read e d ≡ Err (Unsettled a)) × (other_leader t a d ≡ Some leader)

-- what a read comes to that meets an attempt which isn't settled nor decided here, by the other target that leads it
abbrev pub beside_of : AttemptId → Option ℕ → Served
beside_of a None = served.Unresolved a
beside_of a (Some leader) = served.Waits a leader

-- a read came to this, once the decided attempts in its way were settled
pub record Serves (t : TargetPlan) (m : TargetMemory) (reading : ℕ) (q : FetchRequest) (e : Epoch) (first decided : List AttemptId) (old : Kept) (s : Served) (l : Kept) : Type 0 where
  pub reached : Reached (FetchNext t m reading q) (Reading e first) old (Reading e decided) l
  pub comes : ComesTo t q e decided l.durable s

-- what a target then knows, and what follows
abbrev pub told_of : TargetPlan → FetchRequest → ActorId → Epoch → Served → TargetMemory → TargetMemory × Did
told_of t q from e (served.Answer b) n = (record n { stamps = stamps_with q e n.stamps }, tells q from e (reply.Answer b))
told_of t q from e (served.Refused c) n = (n, tells q from e (reply.Outcome (outcome.Restart c)))
told_of t q from e (served.Unresolved a) n = (n, tells q from e (reply.Outcome (outcome.Restart (cause.Unresolved a))))
told_of t q from e (served.Waits a leader) n = (joins_on (parking (fetch_at q e) a leader (member_at t n)) n, asks_leader q e a leader)
