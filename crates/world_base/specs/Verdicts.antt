-- A leader hears a Query, and another target the Verdict on it.
use Rattle.std.specs.Prelude.{ℕ, ◌≡◌, ◌++◌, Bool, true, false, List, [], ◌∷◌, Option, Some, None}
use Rattle.base_types.specs.declared.entry.Settle.{Settle}
use Rattle.base_types.specs.declared.entry.Settle.TheVariants.{Abort, Commit}
use Rattle.base_types.specs.declared.entry.Verdict.{Verdict}
use Rattle.base_types.specs.declared.entry.Verdict.TheVariants as verdict
use Rattle.base_types.specs.declared.epoch.Epoch.{Epoch}
use Rattle.base_types.specs.declared.id.AttemptId.{AttemptId}
use Rattle.base_types.specs.declared.operation.Read.{Read}
use Rattle.base_messages.specs.declared.actor.ActorId.{ActorId}
use Rattle.base_messages.specs.declared.message.Message.{Message}
use Rattle.base_messages.specs.declared.message.Message.TheVariants as message
use Rattle.base_messages.specs.declared.message.Post.{Post}
use Rattle.daos_model.specs.declared.durable.Durable.{Durable}
use Rattle.dtx_base.specs.Joining.{MemberStep, verdict_heard}
use Rattle.dtx_base.specs.Leading.{query_answer}
use Rattle.world_base.specs.declared.did.Did.{Did}
use Rattle.world_base.specs.declared.request.FetchRequest.{FetchRequest}
use Rattle.world_base.specs.declared.target.TargetMemory.{TargetMemory}
use Rattle.world_base.specs.declared.target.TargetPlan.{TargetPlan}
use Rattle.world_base.specs.Changes.{Change, Kept, Settles}
use Rattle.world_base.specs.Reads.{Asked, FetchEnds, FetchNext, FetchStage}
use Rattle.world_base.specs.Requests.{says, sends}
use Rattle.world_base.specs.Roles.{joins_on, leader_at, member_at}

-- ---- a Query

-- a leader answers at once, and changes nothing that it keeps
pub data QueryStage : Type 0 where
  IsAsked : QueryStage
  IsAnswered : QueryStage

abbrev pub verdict_message : TargetPlan → TargetMemory → AttemptId → Option AttemptId → Durable → Message
verdict_message t m a ask d = message.Verdict a ask d.incarnation (query_answer a (leader_at t m d))

pub data QueryNext : QueryStage → Kept → Option Change → QueryStage → Type 0 where
  Answers : (k : Kept) → QueryNext IsAsked k None IsAnswered

-- a Query ends with what the leader knows of the attempt
pub data QueryEnds (t : TargetPlan) (m : TargetMemory) (from : ActorId) (a : AttemptId) (ask : Option AttemptId) : QueryStage → Kept → TargetMemory × Did → Type 0 where
  IsTold : (k : Kept) (left : TargetMemory × Did) → left ≡ (m, says from (verdict_message t m a ask k.durable) None) → QueryEnds t m from a ask IsAnswered k left

-- ---- a Verdict

-- how an attempt is settled by a Verdict on it
abbrev pub step_by : Verdict → Option Settle
step_by verdict.Committed = Some Commit
step_by verdict.Aborted = Some Abort
step_by verdict.Undecided = None

abbrev pub step_if : Bool → Option Settle → Option Settle
step_if false step = None
step_if true step = step

-- an attempt is settled so, where it is due
abbrev pub settles_by : (AttemptId → Durable → Bool) → Verdict → AttemptId → Durable → Option Settle
settles_by is_due v a d = step_if (is_due a d) (step_by v)

abbrev pub settling_change : AttemptId → Option Settle → Option Change
settling_change a None = None
settling_change a (Some step) = Some (Settles a step)

-- the client that a Fetch came from
abbrev pub fetcher : FetchRequest → ActorId
fetcher q = record { client = true; number = q.attempt.client }

-- nothing is done; these Fetches are left to be tried again, while this is known and is to be sent; or one of them is tried
pub data VerdictStage : Type 0 where
  Heard : VerdictStage
  Freed : (asks : List Message) (m : TargetMemory) (posts : List Post) → VerdictStage
  Trying : (q : FetchRequest) (s : FetchStage) (asks : List Message) (m : TargetMemory) (posts : List Post) → VerdictStage

-- what a Verdict sets free
abbrev pub freed_by : MemberStep → TargetMemory → VerdictStage
freed_by s m = Freed s.freed.again (joins_on s.member m) s.freed.posts

-- The steps of a Verdict: the attempt is settled, where it is due, as of a Mark; then the Fetches that wait for it are tried again, in
-- the order in which they were parked, each as a Fetch at its own epoch, with what is known after the one before. This is what is
-- known once the attempt is settled.
pub data VerdictNext (is_due : AttemptId → Durable → Bool) (t : TargetPlan) (m : TargetMemory) (reading : ℕ) (a : AttemptId) (ask : Option AttemptId) (v : Verdict) : VerdictStage → Kept → Option Change → VerdictStage → Type 0 where
  SettlesBy : (k : Kept) (o : Option Change) → o ≡ settling_change a (settles_by is_due v a k.durable) → VerdictNext is_due t m reading a ask v Heard k o (freed_by (verdict_heard a ask v (member_at t m)) m)
  TriesNext : (k : Kept) (n : TargetMemory) (posts : List Post) (rest : List Message) (x : AttemptId) (op group : ℕ) (ep first : Option Epoch) (tracker : Epoch) (r : Read) (snapshot : Bool)
      → VerdictNext is_due t m reading a ask v (Freed (message.Fetch x op group ep first tracker r snapshot ∷ rest) n posts) k None
      (Trying (record { attempt = x; op = op; group = group; ep = ep; first = first; tracker = tracker; read = r; snapshot = snapshot }) Asked rest n posts)
  GoesOn : (k : Kept) (n : TargetMemory) (posts : List Post) (rest : List Message) (q : FetchRequest) (s u : FetchStage) (o : Option Change) → FetchNext t n reading q s k o u
      → VerdictNext is_due t m reading a ask v (Trying q s rest n posts) k o (Trying q u rest n posts)
  IsDone : (k : Kept) (n : TargetMemory) (posts : List Post) (rest : List Message) (q : FetchRequest) (s : FetchStage) (left : TargetMemory × Did) → FetchEnds t n reading q (fetcher q) s k left
      → VerdictNext is_due t m reading a ask v (Trying q s rest n posts) k None (Freed rest left.0 (posts ++ left.1.posts))

-- a Verdict ends when no Fetch is left
pub data VerdictEnds : VerdictStage → Kept → TargetMemory × Did → Type 0 where
  AllTried : (k : Kept) (n : TargetMemory) (posts : List Post) (left : TargetMemory × Did) → left ≡ (n, sends posts None) → VerdictEnds (Freed [] n posts) k left
