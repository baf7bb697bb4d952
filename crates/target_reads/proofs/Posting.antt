use Rattle.world_ended.specs.Asking.{Asked, EndsAsked, PostsGoWith}
use Rattle.world_ended.specs.PostLaws.{queries-end, verdicts-end}
use Rattle.world_ended.specs.PostLaws.{one-posted as one-ends, waits-on as ends-on}
-- What is posted has its form.
use Rattle.std.proofs.Common.{ℕ, ◌≡◌, ◌∙◌, ap, refl, subst, sym, true, Option, Result, Ok, Err}
use Rattle.std.specs.Prelude.{IfOk}
use Rattle.base_types.specs.declared.entry.Verdict.{Verdict}
use Rattle.base_types.specs.declared.epoch.Epoch.{Epoch}
use Rattle.base_types.specs.declared.id.AttemptId.{AttemptId}
use Rattle.base_messages.specs.declared.actor.ActorId.{ActorId}
use Rattle.base_messages.specs.declared.message.Reply.{Reply}
use Rattle.dtx_base.specs.declared.leading.LeaderMemory.{LeaderMemory}
use Rattle.dtx_base.specs.declared.member.Freed.{Freed}
use Rattle.dtx_base.specs.Joining.{MemberOf, member_step, verdict_heard}
use Rattle.target_parts.specs.declared.stop.TargetStop.{TargetStop}
use Rattle.world_base.specs.declared.did.Did.{Did}
use Rattle.world_base.specs.declared.request.FetchRequest.{FetchRequest}
use Rattle.world_base.specs.declared.target.TargetMemory.{TargetMemory}
use Rattle.world_base.specs.declared.target.TargetPlan.{TargetPlan}
use Rattle.world_base.specs.Reads.{fetch_at, tells}
use Rattle.target_parts.specs.world_contents.posts.Forms.{PostsInForm, TargetPosts}
use Rattle.target_parts.specs.world_contents.posts.Posting.{one-posted, queries-are-in-form, to-client, verdicts-post-in-form, waits-on}
use Rattle.target_reads.specs.declared.reads.Served.{Served}
use Rattle.target_reads.specs.declared.reads.Served.TheVariants as served
use Rattle.target_reads.specs.Meets.{told_of}

-- a client is told what its read got
told-posts : (t : TargetPlan) (q : FetchRequest) (from : ActorId) (e : Epoch) (reply : Reply) → from.client ≡ true → TargetPosts t.targets (tells q from e reply).posts
told-posts t q from e reply client = one-posted t.targets _ (to-client t.targets from _ client refl)

-- what follows from what a read came to
served-form : (t : TargetPlan) (q : FetchRequest) (from : ActorId) (e : Epoch) (s : Served) (n : TargetMemory) → from.client ≡ true → TargetPosts t.targets (told_of t q from e s n).1.posts
served-form t q from e (served.Answer b) n client = told-posts t q from e _ client
served-form t q from e (served.Refused c) n client = told-posts t q from e _ client
served-form t q from e (served.Unresolved a) n client = told-posts t q from e _ client
served-form t q from e (served.Waits a leader) n client = queries-are-in-form t.targets (fetch_at q e) a leader

-- and the same clients wait
served-waits : (t : TargetPlan) (q : FetchRequest) (from : ActorId) (e : Epoch) (s : Served) (n : TargetMemory) → (told_of t q from e s n).0.leader ≡ n.leader
served-waits t q from e (served.Answer b) n = refl
served-waits t q from e (served.Refused c) n = refl
served-waits t q from e (served.Unresolved a) n = refl
served-waits t q from e (served.Waits a leader) n = refl

pub served-posts : (t : TargetPlan) (q : FetchRequest) (from : ActorId) (e : Epoch) (s : Served) (old : LeaderMemory) (n left : TargetMemory) (result : Result Did TargetStop) → from.client ≡ true → n.leader.undecided ≡ old.undecided
    → IfOk result (λ did. (left, did) ≡ told_of t q from e s n) → IfOk result (λ did. PostsInForm t.targets old left.leader did.posts)
served-posts t q from e s old n left (Ok did) client same told =
    subst (λ (x : TargetMemory × Did). PostsInForm t.targets old x.0.leader x.1.posts) (sym told)
    (waits-on t.targets old (told_of t q from e s n).0.leader (told_of t q from e s n).1.posts (ap (λ m. m.undecided) (served-waits t q from e s n) ∙ same) (served-form t q from e s n client))
served-posts t q from e s old n left (Err stop) client same told = told

-- what a Verdict frees
pub freed-posts : (targets : ℕ) (a : AttemptId) (ask : Option AttemptId) (v : Verdict) (old new : MemberOf) (freed : Freed) → member_step new freed ≡ verdict_heard a ask v old → TargetPosts targets freed.posts
freed-posts targets a ask v old new freed is = subst (λ (x : Freed). TargetPosts targets x.posts) (sym (ap (λ s. s.freed) is)) (verdicts-post-in-form targets a ask v old)

-- ---- and ends no attempt as committed

served-end : (asked : Asked) (t : TargetPlan) (q : FetchRequest) (from : ActorId) (e : Epoch) (s : Served) (n : TargetMemory) → PostsGoWith asked (told_of t q from e s n).1.posts
served-end asked t q from e (served.Answer b) n = one-ends asked _ tt
served-end asked t q from e (served.Refused c) n = one-ends asked _ refl
served-end asked t q from e (served.Unresolved a) n = one-ends asked _ refl
served-end asked t q from e (served.Waits a leader) n = queries-end asked (fetch_at q e) a leader

pub served-ends : (asked : Asked) (t : TargetPlan) (q : FetchRequest) (from : ActorId) (e : Epoch) (s : Served) (old : LeaderMemory) (n left : TargetMemory) (result : Result Did TargetStop) → n.leader.undecided ≡ old.undecided
    → IfOk result (λ did. (left, did) ≡ told_of t q from e s n) → IfOk result (λ did. EndsAsked asked old left.leader did.posts)
served-ends asked t q from e s old n left (Ok did) same told =
    subst (λ (x : TargetMemory × Did). EndsAsked asked old x.0.leader x.1.posts) (sym told)
    (ends-on asked old (told_of t q from e s n).0.leader (told_of t q from e s n).1.posts (ap (λ m. m.undecided) (served-waits t q from e s n) ∙ same) (served-end asked t q from e s n))
served-ends asked t q from e s old n left (Err stop) same told = told

pub freed-end : (asked : Asked) (a : AttemptId) (ask : Option AttemptId) (v : Verdict) (old new : MemberOf) (freed : Freed) → member_step new freed ≡ verdict_heard a ask v old → PostsGoWith asked freed.posts
freed-end asked a ask v old new freed is = subst (λ (x : Freed). PostsGoWith asked x.posts) (sym (ap (λ s. s.freed) is)) (verdicts-end asked a ask v old)
