-- Turns of a target in which it answers no read.
use Rattle.std.specs.Prelude.{ℕ, ◌≡◌, Bool, true, false, List, [], ◌∷◌, Option, Some, refl, if◌then◌else◌}
use Rattle.std.proofs.Common.{sym, ◌∙◌, ap, subst, inl, inr}
use Rattle.base_types.specs.declared.entry.Entry.{Entry}
use Rattle.base_types.specs.declared.epoch.Epoch.{Epoch}
use Rattle.base_types.specs.declared.id.AttemptId.{AttemptId}
use Rattle.base_types.specs.declared.operation.MinorWrite.{MinorWrite}
use Rattle.base_types.specs.declared.outcome.FloorWhy.{FloorWhy}
use Rattle.base_types.specs.declared.outcome.Outcome.{Outcome}
use Rattle.base_types.specs.declared.outcome.Outcome.TheVariants.{Committed}
use Rattle.base_messages.specs.declared.actor.ActorId.{ActorId}
use Rattle.base_messages.specs.declared.message.Message.TheVariants as message
use Rattle.base_messages.specs.declared.message.Post.{Post}
use Rattle.world_base.specs.dtx_base.Leading.{LeaderOf, begun, begun_alone, begun_with_others, prepare_to}
use Rattle.world_base.specs.dtx_base.Members.{other_members}
use Rattle.world_base.specs.dtx_base.Rows.{is_empty}
use Rattle.model_laws.specs.Members.{Has, has-from_map}
use Rattle.world_base.specs.declared.did.Did.{Did}
use Rattle.world_base.specs.declared.request.CommitRequest.{CommitRequest}
use Rattle.world_base.specs.declared.request.PrepareRequest.{PrepareRequest}
use Rattle.world_base.specs.declared.target.TargetMemory.{TargetMemory}
use Rattle.world_base.specs.declared.target.TargetPlan.{TargetPlan}
use Rattle.world_base.specs.Acks as ack
use Rattle.world_base.specs.Changes.{Change, Kept, Steps}
use Rattle.world_base.specs.Commits as commit
use Rattle.world_base.specs.Marks as mark
use Rattle.world_base.specs.PathLaws.{reached-keeps}
use Rattle.world_base.specs.Prepares as prepare
use Rattle.world_base.specs.Requests.{with_ticks}
use Rattle.world_base.specs.Roles.{leader_at}
use Rattle.world_base.specs.Turns.{Whole}
use Rattle.world_base.specs.Verdicts as verdict
use Rattle.world_causes.specs.world_contents.reads.AckLaws.{AckTells, Nothing, Refused, TellsCommit, ack-tells, refusal-silent}
use Rattle.world_causes.specs.world_contents.reads.Adds.{NoneIs, is_answer}

-- one message is sent, which is no answer
pub one-silent : (p : Post) → is_answer p.message ≡ false → NoneIs is_answer (p ∷ [])
one-silent p silent q (inl same) = ap (λ z. is_answer z.message) same ∙ silent
one-silent p silent q (inr i) = absurd i

abbrev IsSilent : TargetMemory × Did → Type 0
IsSilent left = NoneIs is_answer left.1.posts

-- ---- a Commit and a Prepare

begun-silent : (e : Entry) (first : Option Epoch) (from : ActorId) (ws : List MinorWrite) (l : LeaderOf) → NoneIs is_answer (begun e first from ws l).posts
unfolding begun
begun-silent e first from ws l = by (is_empty (other_members e))
  where
    by : (alone : Bool) → NoneIs is_answer (if alone then begun_alone e from l else begun_with_others e first from ws l).posts
    by true = one-silent _ refl
    by false = λ p i. let z = has-from_map (prepare_to l.targets l.incarnation e first ws) (other_members e) p i in ap (λ y. is_answer y.message) (sym z.2)

pub commit-silent : (t : TargetPlan) (opening : Epoch × FloorWhy) (m : TargetMemory) (reading : ℕ) (q : CommitRequest) (from : ActorId) (s : commit.CommitStage) (k : Kept) (left : TargetMemory × Did) → commit.CommitEnds t opening m reading q from s k left → IsSilent left
commit-silent t opening m reading q from s k left (commit.IsSpent k' z none is) = subst IsSilent (sym is) (one-silent _ refl)
commit-silent t opening m reading q from s k left (commit.IsRefused k' e why z by is) = subst IsSilent (sym is) (one-silent _ refl)
commit-silent t opening m reading q from s k left (commit.HasNoSpace k' e z allowed few is) = subst IsSilent (sym is) (one-silent _ refl)
commit-silent t opening m reading q from s k left (commit.HasBegun k' e z is) = subst IsSilent (sym is) (begun-silent (commit.led_entry t q e) q.first from q.writes (leader_at t (with_ticks e m) k.durable))

pub prepare-silent : (t : TargetPlan) (opening : Epoch × FloorWhy) (m : TargetMemory) (q : PrepareRequest) (s : prepare.PrepareStage) (k : Kept) (left : TargetMemory × Did) → prepare.PrepareEnds t opening m q s k left → IsSilent left
prepare-silent t opening m q s k left (prepare.IsRefused k' c z why is) = subst IsSilent (sym is) (one-silent _ refl)
prepare-silent t opening m q s k left (prepare.HasNoSpace k' z allowed few is) = subst IsSilent (sym is) (one-silent _ refl)
prepare-silent t opening m q s k left (prepare.IsPrepared k' z is) = subst IsSilent (sym is) (one-silent _ refl)

-- ---- what targets tell one another

-- what follows from an Ack, or from what is held as one
tells-silent : (member : ℕ) (a : AttemptId) (refusal : Option Outcome) (l : LeaderOf) (posts : List Post) → AckTells member a refusal l posts → NoneIs is_answer posts
tells-silent member a refusal l posts (Nothing none) = λ p i. absurd (subst (Has p) none i)
tells-silent member a refusal l posts (TellsCommit e u client found row other is) = subst (NoneIs is_answer) (sym is) (one-silent (record { to = client; message = message.Ended a (Some e.epoch) Committed }) refl)
tells-silent member a refusal l posts (Refused e u how is all) = subst (NoneIs is_answer) (sym all) (refusal-silent u.client a e.epoch how l.incarnation (other_members e))

abbrev FollowsSilently : ack.AckStage → Kept → Type 0
FollowsSilently ack.Heard k = Unit {0}
FollowsSilently (ack.Followed s) k = NoneIs is_answer s.posts

ack-step : (t : TargetPlan) (m : TargetMemory) (member : ℕ) (a : AttemptId) (inc : ℕ) (refusal : Option Outcome) (s : ack.AckStage) (k : Kept) (o : Option Change) (u : ack.AckStage) (l : Kept)
    → ack.AckNext t m member a inc refusal s k o u → Steps o k l → FollowsSilently s k → FollowsSilently u l
ack-step t m member a inc refusal s k o u l (ack.Aborts k' is) steps p = tells-silent member a refusal (leader_at t m k.durable) _ (ack-tells member a inc refusal (leader_at t m k.durable))
ack-step t m member a inc refusal s k o u l (ack.Counts k' is) steps p = tells-silent member a refusal (leader_at t m k.durable) _ (ack-tells member a inc refusal (leader_at t m k.durable))

ack-ends : (m : TargetMemory) (s : ack.AckStage) (k : Kept) (left : TargetMemory × Did) → ack.AckEnds m s k left → FollowsSilently s k → IsSilent left
ack-ends m s k left (ack.IsFollowed k' z y is) p = subst IsSilent (sym is) p

pub ack-silent : (t : TargetPlan) (m : TargetMemory) (member : ℕ) (a : AttemptId) (inc : ℕ) (refusal : Option Outcome) (old new : Kept) (left : TargetMemory × Did)
    → Whole (ack.AckNext t m member a inc refusal) (ack.AckEnds m) ack.Heard old new left → IsSilent left
ack-silent t m member a inc refusal old new left w =
    ack-ends m w.last new left w.ends (reached-keeps (ack.AckNext t m member a inc refusal) FollowsSilently (ack-step t m member a inc refusal) ack.Heard old w.last new w.reached tt)

pub mark-silent : (m : TargetMemory) (from : ActorId) (inc : ℕ) (marks last : List (AttemptId × Bool)) (k : Kept) (left : TargetMemory × Did) → mark.MarkEnds m from inc marks last k left → IsSilent left
mark-silent m from inc marks last k left (mark.AllMarked k' z is) = subst IsSilent (sym is) (one-silent _ refl)

pub marked-silent : (t : TargetPlan) (m : TargetMemory) (member inc : ℕ) (ids last : List AttemptId) (k : Kept) (left : TargetMemory × Did) → ack.MarkedEnds t m member inc ids last k left → IsSilent left
marked-silent t m member inc ids last k left (ack.AllConfirmed k' z is) = subst IsSilent (sym is) (λ p i. absurd i)

pub query-silent : (t : TargetPlan) (m : TargetMemory) (from : ActorId) (a : AttemptId) (ask : Option AttemptId) (s : verdict.QueryStage) (k : Kept) (left : TargetMemory × Did) → verdict.QueryEnds t m from a ask s k left → IsSilent left
query-silent t m from a ask s k left (verdict.IsTold k' z is) = subst IsSilent (sym is) (one-silent _ refl)
