-- What is posted has its form.
use Rattle.std.proofs.Common.{ℕ, ◌≡◌, ◌<◌, ap, refl, subst, sym, true, List, Option, Result, Ok, Err}
use Rattle.std.specs.Prelude.{IfOk}
use Rattle.base_types.specs.declared.entry.Entry.{Entry}
use Rattle.base_types.specs.declared.epoch.Epoch.{Epoch}
use Rattle.base_types.specs.declared.outcome.Outcome.{Outcome}
use Rattle.base_messages.specs.declared.actor.ActorId.{ActorId}
use Rattle.base_messages.specs.declared.message.Post.{Post}
use Rattle.dtx_base.specs.declared.leading.LeaderMemory.{LeaderMemory}
use Rattle.dtx_base.specs.Leading.{LeaderOf, begun}
use Rattle.world_base.specs.declared.did.Did.{Did}
use Rattle.world_base.specs.declared.request.CommitRequest.{CommitRequest}
use Rattle.world_base.specs.declared.request.PrepareRequest.{PrepareRequest}
use Rattle.world_base.specs.declared.target.TargetPlan.{TargetPlan}
use Rattle.world_base.specs.Commits.{led_entry}
use Rattle.world_base.specs.Prepares.{acks}
use Rattle.target_parts.specs.world_contents.posts.Forms.{AreWrites, PostsInForm, TargetPosts}
use Rattle.target_parts.specs.world_contents.posts.Posting.{IsBeginning, beginnings-post-in-form, one-posted, posted-by, to-other, waits-on}
use Rattle.target_parts.specs.declared.stop.TargetStop.{TargetStop}

-- an attempt begins that a client asked for
pub begun-posts : (t : TargetPlan) (q : CommitRequest) (from : ActorId) (e : Epoch) (entry : Entry) (l : LeaderOf) (new : LeaderMemory) (posts sent : List Post) → entry ≡ led_entry t q e → l.targets ≡ t.targets
    → AreWrites t q.writes → t.me < t.targets → from.client ≡ true → ◌≡◌ {A = LeaderMemory × List Post} (new, posts) ((begun entry q.first from q.writes l).leader.memory, (begun entry q.first from q.writes l).posts) → sent ≡ posts
    → PostsInForm t.targets l.memory new sent
begun-posts t q from e entry l new posts sent is many ws placed client came said =
    posted-by t.targets (begun entry q.first from q.writes l) l.memory new new posts sent
    (subst (λ n. PostsInForm n l.memory (begun entry q.first from q.writes l).leader.memory (begun entry q.first from q.writes l).posts) many (beginnings-post-in-form entry q.first from q.writes l beginning client)) came refl said
  where
    led : IsBeginning t.targets (led_entry t q e) q.writes
    led = record { undecided = refl; unconfirmed = refl; leader = placed; members = refl; form = ws.form }

    beginning : IsBeginning l.targets entry q.writes
    beginning = subst (λ n. IsBeginning n entry q.writes) (sym many) (subst (λ x. IsBeginning t.targets x q.writes) (sym is) led)

-- the leader is told how a Prepare went
pub ack-posts : (targets : ℕ) (old new : LeaderMemory) (q : PrepareRequest) (refusal : Option Outcome) (result : Result Did TargetStop) → new ≡ old → IfOk result (λ did. did ≡ acks q refusal) → IfOk result (λ did. PostsInForm targets old new did.posts)
ack-posts targets old new q refusal (Ok did) same is =
    waits-on targets old new did.posts (ap (λ x. x.undecided) same) (subst (TargetPosts targets) (sym (ap (λ x. x.posts) is)) (one-posted targets _ (to-other targets _ _ refl tt)))
ack-posts targets old new q refusal (Err stop) same is = is
