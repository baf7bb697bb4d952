-- What is known when a target hears a letter, on which it rests that what it then sends shows its causes.
use Rattle.std.specs.Prelude.{ℕ, ◌≡◌, slice_get, Option, Some}
use Rattle.base_types.specs.declared.entry.Verdict.{Verdict}
use Rattle.base_types.specs.declared.entry.Verdict.TheVariants as verdicts
use Rattle.base_types.specs.declared.id.AttemptId.{AttemptId}
use Rattle.base_types.specs.declared.outcome.Outcome.{Outcome}
use Rattle.base_messages.specs.declared.message.Message.TheVariants as message
use Rattle.model_laws.specs.Members.{contains-from_has}
use Rattle.daos_model.specs.Opening.{Opening, top}
use Rattle.dtx_base.specs.Leading.{query_answer}
use Rattle.world_base.specs.declared.letter.Letter.{Letter}
use Rattle.world_base.specs.declared.request.CommitRequest.{CommitRequest}
use Rattle.world_base.specs.declared.request.FetchRequest.{FetchRequest}
use Rattle.world_base.specs.declared.request.PrepareRequest.{PrepareRequest}
use Rattle.world_base.specs.declared.target.TargetState.{TargetState}
use Rattle.world_base.specs.declared.world.World.{World}
use Rattle.world_base.specs.Events.{Rules, kept, target_plan}
use Rattle.world_base.specs.Letters.{client}
use Rattle.world_base.specs.Requests.{fetch_message}
use Rattle.world_base.specs.Roles.{leader_at}
use Rattle.world_contents.specs.world_letters.talks.Asked.{commit_of}
use Rattle.world_causes.specs.causes.AtFloors.{IsTarget}
use Rattle.world_causes.specs.causes.Causes.{Stored}
use Rattle.world_causes.specs.causes.CommitTurns.{IsCommit}
use Rattle.world_causes.specs.causes.MemberTurns.{IsAck}
use Rattle.world_causes.specs.causes.Paths.{AreOpen}
use Rattle.world_causes.specs.causes.Premises.{AreOfReads}
use Rattle.world_causes.specs.causes.PrepareTurns.{IsPrepare}
use Rattle.world_causes.specs.causes.ReadTurns.{IsFetch}
use Rattle.world_causes.specs.causes.Shown.{Causes, IsOpenToAll}
use Rattle.world_causes.specs.causes.Turns.{AllMeet}

-- of the target: its floors are told, its timestamps are of reads, and what isn't settled there a read may meet
pub record IsKnownAt (r : Rules) (o : Opening) (w : World) (t : ℕ) (s : TargetState) : Type 0 where
  pub target : IsTarget r o w.issued w.lines t s.opening (kept s)
  pub stamps : AreOfReads r w.issued s.memory.stamps
  pub opens : AreOpen r.script (target_plan r t) w.lines (top o) s.durable s.memory.leader.decided

-- of the letter, as far as it is of its kind
pub record IsHeardAs (r : Rules) (o : Opening) (stored : Stored) (w : World) (t : ℕ) (s : TargetState) (l : Letter) : Type 0 where
  pub at : IsKnownAt r o w t s
  pub fetch : (q : FetchRequest) → l.message ≡ fetch_message q → IsFetch r o w.issued w.lines (target_plan r t) q × (l.from ≡ client q.attempt.client)
  pub commit : (q : CommitRequest) → l.message ≡ commit_of q → IsCommit r o w.issued w.lines t (kept s) q × (l.from ≡ client q.attempt.client)
  pub prepare : (q : PrepareRequest) → l.message ≡ message.Prepare q.entry q.first q.writes q.inc → IsPrepare r o w.issued w.lines t (kept s) q
  pub ack : (a : AttemptId) (inc : ℕ) (refusal : Option Outcome) → l.message ≡ message.Ack a inc refusal → IsAck r o stored w.issued w.lines a refusal (leader_at (target_plan r t) s.memory s.durable)
  -- where a leader answers that an attempt isn't decided, it is open to any other
  pub query : (a : AttemptId) (ask : Option AttemptId) → l.message ≡ message.Query a ask → query_answer a (leader_at (target_plan r t) s.memory s.durable) ≡ verdicts.Undecided → IsOpenToAll r.script w.lines a
  -- it is no Verdict, which frees Fetches
  pub verdict : (a : AttemptId) (ask : Option AttemptId) (inc : ℕ) (v : Verdict) → l.message ≡ message.Verdict a ask inc v → ⊥

-- what waits at a target meets what it waits for
pub meet-at : (r : Rules) (o : Opening) (stored : Stored) (w : World) (t : ℕ) (s : TargetState) → Causes r o stored w → slice_get w.targets t ≡ Some s → AllMeet r w.issued s.memory.member.parked
meet-at r o stored w t s C here p i x e b = C.waiting.meets t s p x e here (contains-from_has s.memory.member.parked p i) b
