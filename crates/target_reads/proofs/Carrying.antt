-- Of no read more goes about behind a turn than before it.
use Rattle.std.specs.Prelude.{ℕ, ◌≡◌, ◌≤◌, ◌+◌, ◌++◌, true, IfOk, List, [], ◌∷◌, Option, Some, None, Result, Ok, Err, refl}
use Rattle.std.proofs.Common.{sym, ◌∙◌, ap, subst, arith}
use Rattle.base_types.specs.declared.entry.Verdict.{Verdict}
use Rattle.base_types.specs.declared.epoch.Epoch.{Epoch}
use Rattle.base_types.specs.declared.id.AttemptId.{AttemptId}
use Rattle.base_types.specs.declared.operation.Read.{Read}
use Rattle.base_types.specs.declared.outcome.Cause.TheVariants as cause
use Rattle.base_types.specs.declared.outcome.Outcome.{Outcome}
use Rattle.base_types.specs.declared.outcome.Outcome.TheVariants as outcome
use Rattle.base_messages.specs.declared.actor.ActorId.{ActorId}
use Rattle.base_messages.specs.declared.message.Message.{Message}
use Rattle.base_messages.specs.declared.message.Post.{Post}
use Rattle.base_messages.specs.declared.message.Reply.TheVariants as reply
use Rattle.dtx_base.specs.declared.member.Freed.{Freed}
use Rattle.dtx_base.specs.declared.member.MemberMemory.{MemberMemory}
use Rattle.dtx_base.specs.Joining.{MemberOf, member_step, query_for, verdict_heard}
use Rattle.world_base.specs.declared.did.Did.{Did}
use Rattle.world_base.specs.declared.request.FetchRequest.{FetchRequest}
use Rattle.world_base.specs.declared.target.TargetMemory.{TargetMemory}
use Rattle.world_base.specs.declared.target.TargetPlan.{TargetPlan}
use Rattle.world_base.specs.Reads.{fetch_at, fetched_message}
use Rattle.world_base.specs.Requests.{fetch_message, says}
use Rattle.world_ended.specs.world_letters.kinds.Loads.{AnswersOnce, load, parked_load, post_load, total}
use Rattle.world_ended.specs.world_letters.kinds.LoadLaws.{answer-carries, end-carries, total-append}
use Rattle.world_ended.specs.world_letters.kinds.PostLaws.{FreesOnce, queries-carry, verdicts-free}
use Rattle.target_parts.specs.declared.stop.TargetStop.{TargetStop}
use Rattle.target_reads.specs.declared.reads.Served.{Served}
use Rattle.target_reads.specs.declared.reads.Served.TheVariants as served
use Rattle.target_reads.specs.Again.{TriesOnce}
use Rattle.target_reads.specs.Meets.{ServesKind, beside_of, told_of}

-- ---- a Fetch is heard

-- what a read meets that is answered by no store is of each kind
pub beside-kind : (r : Read) (a : AttemptId) (o : Option ℕ) (s : Served) → s ≡ beside_of a o → ServesKind r s
beside-kind r a None s is = subst (ServesKind r) (sym is) tt
beside-kind r a (Some leader) s is = subst (ServesKind r) (sym is) tt

-- a Fetch is answered
answered : (q : FetchRequest) (from : ActorId) (m : Message) (issued : Option (AttemptId × Epoch)) (before : MemberMemory) → ((x : AttemptId) (r : Read) → load x r m ≤ load x r (fetch_message q)) → AnswersOnce (fetch_message q ∷ []) before before (says from m issued).posts
answered q from m issued before less x r = let one = less x r in omega (arith, one)

-- by how its attempt ended
ended : (q : FetchRequest) (from : ActorId) (e : Option Epoch) (how : Outcome) (issued : Option (AttemptId × Epoch)) (before : MemberMemory) → AnswersOnce (fetch_message q ∷ []) before before (says from (fetched_message q e (reply.Outcome how)) issued).posts
ended q from e how issued before =
    answered q from (fetched_message q e (reply.Outcome how)) issued before (λ x r. end-carries x q.attempt r q.read q.op q.group q.op q.group e q.ep q.first q.tracker q.snapshot how)

-- one that waits carries as much at its epoch
waits : (q : FetchRequest) (e : Epoch) (x : AttemptId) (r : Read) → load x r (fetch_at q e) ≡ load x r (fetch_message q)
unfolding load
waits q e x r = refl

parks : (t : TargetPlan) (q : FetchRequest) (from : ActorId) (e : Epoch) (a : AttemptId) (leader : ℕ) (n : TargetMemory)
    → AnswersOnce (fetch_message q ∷ []) n.member (told_of t q from e (served.Waits a leader) n).0.member (told_of t q from e (served.Waits a leader) n).1.posts
parks t q from e a leader n x r =
    let all = total-append (parked_load x r) n.member.parked (record { on = a; leader = leader; ask = fetch_at q e } ∷ []) in
    let none = queries-carry (fetch_at q e) a leader x r in
    let same = waits q e x r in
    omega (arith, all, none, same)

-- what a read came to is told, or the Fetch waits
told-reads : (t : TargetPlan) (q : FetchRequest) (from : ActorId) (e : Epoch) (s : Served) (n : TargetMemory) → ServesKind q.read s → AnswersOnce (fetch_message q ∷ []) n.member (told_of t q from e s n).0.member (told_of t q from e s n).1.posts
told-reads t q from e (served.Answer b) n kind =
    answered q from (fetched_message q (Some e) (reply.Answer b)) None n.member (λ x r. answer-carries x q.attempt r q.read q.op q.group q.op q.group (Some e) q.ep q.first q.tracker q.snapshot b kind)
told-reads t q from e (served.Refused c) n kind = ended q from (Some e) (outcome.Restart c) None n.member
told-reads t q from e (served.Unresolved a) n kind = ended q from (Some e) (outcome.Restart (cause.Unresolved a)) None n.member
told-reads t q from e (served.Waits a leader) n kind = parks t q from e a leader n

-- a turn that tells what a read came to
pub served-reads : (t : TargetPlan) (q : FetchRequest) (from : ActorId) (e : Epoch) (s : Served) (before : MemberMemory) (n left : TargetMemory) (result : Result Did TargetStop) → ServesKind q.read s → n.member ≡ before
    → IfOk result (λ did. (left, did) ≡ told_of t q from e s n) → IfOk result (λ did. AnswersOnce (fetch_message q ∷ []) before left.member did.posts)
served-reads t q from e s before n left (Ok did) kind same told =
    subst (λ m. AnswersOnce (fetch_message q ∷ []) m left.member did.posts) same
    (subst (λ (x : TargetMemory × Did). AnswersOnce (fetch_message q ∷ []) n.member x.0.member x.1.posts) (sym told) (told-reads t q from e s n kind))
served-reads t q from e s before n left (Err stop) kind same told = told

-- a turn in which no ticks are left
pub spent-reads : (q : FetchRequest) (from : ActorId) (m : Message) (how : Outcome) (before after : MemberMemory) (result : Result Did TargetStop) → m ≡ fetched_message q None (reply.Outcome how) → after ≡ before → IfOk result (λ did. did ≡ says from m None)
    → IfOk result (λ did. AnswersOnce (fetch_message q ∷ []) before after did.posts)
spent-reads q from m how before after (Ok did) is same told =
    subst (λ z. AnswersOnce (fetch_message q ∷ []) before z did.posts) (sym same)
    (subst (λ (z : Did). AnswersOnce (fetch_message q ∷ []) before before z.posts) (sym (told ∙ ap (λ z. says from z None) is)) (ended q from None how None before))
spent-reads q from m how before after (Err stop) is same told = told

-- a turn that goes on from a memory that is the same, for the same message
pub reads-on : (given given' : List Message) (before mid after : MemberMemory) (result : Result Did TargetStop) → mid ≡ before → given ≡ given' → IfOk result (λ did. AnswersOnce given mid after did.posts) → IfOk result (λ did. AnswersOnce given' before after did.posts)
reads-on given given' before mid after result same is k =
    subst (λ g. IfOk result (λ did. AnswersOnce g before after did.posts)) is (subst (λ m. IfOk result (λ did. AnswersOnce given m after did.posts)) same k)

-- ---- Fetches that waited are tried again

-- how far they were tried: what is left of them
pub record TriedSoFar (asks : List Message) (first : List Post) (before now : MemberMemory) (rest : List Message) (posts : List Post) : Type 0 where
  pub once : (x : AttemptId) (r : Read)
      → total (post_load x r) posts + total (parked_load x r) now.parked + total (load x r) rest ≤ total (parked_load x r) before.parked + total (load x r) asks + total (post_load x r) first

pub tried-none : (asks : List Message) (first : List Post) (before : MemberMemory) (rest : List Message) → rest ≡ asks → TriedSoFar asks first before before rest first
tried-none asks first before rest is = record { once = λ x r. let same : total (load x r) rest ≡ total (load x r) asks = ap (total (load x r)) is in omega (arith, same) }

pub tried-one : (asks : List Message) (first : List Post) (before mid now : MemberMemory) (ask : Message) (rest left : List Message) (posts more all : List Post) → rest ≡ ask ∷ left → TriedSoFar asks first before mid rest posts
    → AnswersOnce (ask ∷ []) mid now more → all ≡ posts ++ more → TriedSoFar asks first before now left all
tried-one asks first before mid now ask rest left posts more all is k one sent = record {
  once = λ x r.
      let so-far = k.once x r in
      let here = one x r in
      let split : total (load x r) rest ≡ load x r ask + total (load x r) left = ap (total (load x r)) is in
      let both : total (post_load x r) all ≡ total (post_load x r) posts + total (post_load x r) more = ap (total (post_load x r)) sent ∙ total-append (post_load x r) posts more in
      omega (arith, so-far, here, split, both);
}

pub tried-each : (asks : List Message) (first : List Post) (before now : MemberMemory) (rest : List Message) (posts sent : List Post) → sent ≡ posts → TriedSoFar asks first before now rest posts → TriesOnce asks first before now sent
tried-each asks first before now rest posts sent is k x r =
    let so-far = k.once x r in
    let same : total (post_load x r) sent ≡ total (post_load x r) posts = ap (total (post_load x r)) is in
    omega (arith, so-far, same)

-- what a Verdict frees is answered or tried again
pub verdict-reads : (a : AttemptId) (ask : Option AttemptId) (v : Verdict) (old new : MemberOf) (freed : Freed) (mid after : MemberMemory) (result : Result Did TargetStop) → member_step new freed ≡ verdict_heard a ask v old → mid ≡ new.memory
    → IfOk result (λ did. TriesOnce freed.again freed.posts mid after did.posts) → IfOk result (λ did. AnswersOnce [] old.memory after did.posts)
verdict-reads a ask v old new freed mid after (Ok did) is same k = λ x r.
    let free : FreesOnce old.memory new.memory freed.posts freed.again x r = subst (λ s. FreesOnce old.memory s.member.memory s.freed.posts s.freed.again x r) (sym is) (verdicts-free a ask v old x r) in
    let once = free.once in
    let tries = k x r in
    let kept : total (parked_load x r) mid.parked ≡ total (parked_load x r) new.memory.parked = ap (λ (m : MemberMemory). total (parked_load x r) m.parked) same in
    omega (arith, once, tries, kept)
verdict-reads a ask v old new freed mid after (Err stop) is same k = k
