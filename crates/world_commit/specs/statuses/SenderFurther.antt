-- Nor does a target in what it hears after stops, and for snapshots and aggregation, or where it opens again.
use Rattle.std.specs.Prelude.{ℕ, ◌≡◌, Bool, true, false, List, [], ◌∷◌, Option, Some, None, refl, if◌then◌else◌}
use Rattle.std.proofs.Common.{sym, ap, subst, inl, inr}
use Rattle.base_types.specs.declared.entry.Entry.{Entry}
use Rattle.base_types.specs.declared.entry.Verdict.TheVariants as verdict
use Rattle.base_types.specs.declared.epoch.Epoch.{Epoch}
use Rattle.base_types.specs.declared.id.AttemptId.{AttemptId}
use Rattle.base_types.specs.declared.id.ContId.{ContId}
use Rattle.base_types.specs.declared.key.Key.{Key}
use Rattle.base_types.specs.declared.outcome.FloorWhy.{FloorWhy}
use Rattle.base_types.specs.declared.outcome.Outcome.{Outcome}
use Rattle.base_types.specs.declared.outcome.Outcome.TheVariants.{Committed, Unknown}
use Rattle.base_messages.specs.declared.actor.ActorId.{ActorId}
use Rattle.base_messages.specs.declared.message.Message.{Message, more_of-Message}
use Rattle.base_messages.specs.declared.message.Message.TheVariants as message
use Rattle.dtx_base.specs.Asking.{ask_heard}
use Rattle.dtx_base.specs.Joining as member
use Rattle.dtx_base.specs.Leading as leading
use Rattle.dtx_base.specs.Members.{other_members}
use Rattle.world_commit.specs.statuses.AskTurns.{ask-leaves}
use Rattle.world_commit.specs.statuses.ResetSteps.{mark-again, prepare-asks, prepare-told}
use Rattle.world_commit.specs.statuses.ResetTurns.{query-posts}
use Rattle.world_commit.specs.statuses.SenderPosts.{AreOfTarget, answer-of, both-of, ended-of, freed-of, is_of_target, map-of, none-of, one-of}
use Rattle.world_commit.specs.statuses.Turns.{looked}
use Rattle.world_base.specs.declared.did.Did.{Did}
use Rattle.world_base.specs.declared.request.CommitRequest.{CommitRequest}
use Rattle.world_base.specs.declared.target.Collection.{Collection}
use Rattle.world_base.specs.declared.target.TargetMemory.{TargetMemory}
use Rattle.world_base.specs.declared.target.TargetPlan.{TargetPlan}
use Rattle.world_base.specs.Changes.{Kept}
use Rattle.world_base.specs.Commits as commit
use Rattle.world_base.specs.Further as further
use Rattle.world_base.specs.Roles.{leader_at, member_at}
use Rattle.world_base.specs.Snapshots as snap
use Rattle.world_base.specs.Statuses as status
use Rattle.world_base.specs.TargetTurns.{commit_request}

-- ---- what comes after stops

down-of : (t : TargetPlan) (m : TargetMemory) (reading : ℕ) (q : CommitRequest) (from : ActorId) (s : commit.CommitStage) (k : Kept) (left : TargetMemory × Did) → further.CommitDown t m reading q from s k left → AreOfTarget left.1.posts
down-of t m reading q from s k left (further.IsSpent k2 e down left2 none known is) = subst (λ i. AreOfTarget i.1.posts) (sym is) (one-of from _ refl)
down-of t m reading q from s k left (further.IsUnknown k2 e down left2 known is) = subst (λ i. AreOfTarget i.1.posts) (sym is) (one-of from _ refl)

ask-of : (x : AttemptId) (from : ActorId) (l : leading.LeaderOf) → AreOfTarget (ask_heard x from l).posts
ask-of x from l p i = let z = (ask-leaves x from l).told p i in ap (λ q. is_of_target q.message) z.is

-- of a Prepare, or of a Status
prepare-of : (t : ℕ) (down : Bool) (a : AttemptId) (inc : ℕ) (l : leading.LeaderOf) → AreOfTarget (leading.prepare_reset t down a inc l).posts
prepare-of t true a inc l = elim (prepare-told t a inc l) [
  | inl nothing ↦ subst AreOfTarget (sym nothing) none-of
  | inr z ↦ subst AreOfTarget (sym z.told) (ended-of z.u.client a z.e.epoch (Unknown t))
]
prepare-of t false a inc l = elim (prepare-asks t a inc l) [
  | inl one ↦ subst AreOfTarget (sym one) (one-of (record { client = false; number = t }) (message.Status a inc) refl)
  | inr z ↦ subst AreOfTarget (sym z.0) none-of
]

-- what a leader and a member send
reset-of : (by : ℕ) (down : Bool) (q : Message) (l : leading.LeaderOf) → AreOfTarget (leading.reset_of by down q l).posts
reset-of by down (message.Prepare e first ws inc) l = prepare-of by down e.attempt inc l
reset-of by down (message.Status a inc) l = prepare-of by down a inc l
reset-of by down (message.Mark inc marks) l = λ p i. ap (λ n. is_of_target n.message) (mark-again by down inc marks l p i)
reset-of by down q l = none-of

freed-by : (down : Bool) (q : Message) (j : member.MemberOf) → AreOfTarget (member.reset_heard down q j).freed.posts
freed-by down (message.Query a ask) j = subst AreOfTarget (sym (query-posts down a ask j)) (freed-of a ask verdict.Undecided j)
freed-by down q j = none-of

-- what target 0 asked is asked again
collected-of : (by : ℕ) (down : Bool) (q : Message) (x : AttemptId) (o : Option Collection) (m : TargetMemory) → is_of_target q ≡ true → AreOfTarget (snap.collection_reset by down q x o m).1
collected-of by false q x o m is = one-of (record { client = false; number = by }) q is
collected-of by true q x None m is = none-of
collected-of by true q x (Some c) m is = one-of c.client _ refl

by-of : (t : TargetPlan) (m : TargetMemory) (by : ℕ) (down : Bool) (q : Message) (k : Kept) → AreOfTarget (further.reset_by t m by down q k).1.posts
by-of t m by down (message.Freeze x c s) k = collected-of by down (message.Freeze x c s) x (snap.collection_of x m) m refl
by-of t m by down (message.Prune x c tracker e) k = collected-of by down (message.Prune x c tracker e) x (snap.collection_of x m) m refl
by-of t m by down q k =
    both-of (leading.reset_of by down q (leader_at t m k.durable)).posts (member.reset_heard down q (member_at t m)).freed.posts (reset-of by down q (leader_at t m k.durable)) (freed-by down q (member_at t m))

-- ---- snapshots and aggregation

snap-of : (p : TargetPlan) (m : TargetMemory) (reading : ℕ) (tracker : Epoch) (x : AttemptId) (c : ContId) (name : Key) (from : ActorId) (s : snap.FreezeStage) (k : Kept) (left : TargetMemory × Did) → snap.SnapEnds p m reading tracker x c name from s k left → AreOfTarget left.1.posts
snap-of p m reading tracker x c name from s k left (snap.IsSpent k2 left2 none is) = subst (λ i. AreOfTarget i.1.posts) (sym is) (one-of from _ refl)
snap-of p m reading tracker x c name from s k left (snap.IsRefused k2 e how left2 why is) = subst (λ i. AreOfTarget i.1.posts) (sym is) (one-of from _ refl)
snap-of p m reading tracker x c name from s k left (snap.AsksOthers k2 e lines left2 apart is) = subst (λ i. AreOfTarget i.1.posts) (sym is) (map-of (snap.freeze_to x c e) (snap.others p) (λ n. refl))
snap-of p m reading tracker x c name from s k left (snap.IsAlone k2 e lines left2 is) = subst (λ i. AreOfTarget i.1.posts) (sym is) (one-of from _ refl)

freeze-of : (p : TargetPlan) (m : TargetMemory) (x : AttemptId) (c : ContId) (from : ActorId) (s : snap.FreezeStage) (k : Kept) (left : TargetMemory × Did) → snap.FreezeEnds p m x c from s k left → AreOfTarget left.1.posts
freeze-of p m x c from s k left (snap.IsRefused k2 e how left2 why is) = subst (λ i. AreOfTarget i.1.posts) (sym is) (one-of from _ refl)
freeze-of p m x c from s k left (snap.IsHeld k2 e lines left2 is) = subst (λ i. AreOfTarget i.1.posts) (sym is) (one-of from _ refl)

aggregate-of : (p : TargetPlan) (m : TargetMemory) (reading : ℕ) (tracker : Epoch) (x : AttemptId) (c : ContId) (from : ActorId) (s : snap.PruneStage) (k : Kept) (left : TargetMemory × Did) → snap.AggregateEnds p m reading tracker x c from s k left → AreOfTarget left.1.posts
aggregate-of p m reading tracker x c from s k left (snap.IsSpent k2 left2 none is) = subst (λ i. AreOfTarget i.1.posts) (sym is) (one-of from _ refl)
aggregate-of p m reading tracker x c from s k left (snap.AsksOthers k2 g lines left2 apart is) = subst (λ i. AreOfTarget i.1.posts) (sym is) (map-of (snap.prune_to x c g) (snap.others p) (λ n. refl))
aggregate-of p m reading tracker x c from s k left (snap.IsAlone k2 g lines left2 alone is) = subst (λ i. AreOfTarget i.1.posts) (sym is) (one-of from _ refl)

prune-of : (m : TargetMemory) (x : AttemptId) (from : ActorId) (s : snap.PruneStage) (k : Kept) (left : TargetMemory × Did) → snap.PruneEnds m x from s k left → AreOfTarget left.1.posts
prune-of m x from s k left (snap.IsHeld k2 g lines left2 is) = subst (λ i. AreOfTarget i.1.posts) (sym is) (one-of from _ refl)

held-of : (p : TargetPlan) (m : TargetMemory) (from : ℕ) (x : AttemptId) (refusal : Option Outcome) (s : snap.HeldStage) (k : Kept) (left : TargetMemory × Did) → snap.HeldEnds p m from x refusal s k left → AreOfTarget left.1.posts
held-of p m from x refusal s k left (snap.IsCreated k2 c name left2 is) = subst (λ i. AreOfTarget i.1.posts) (sym is) (one-of c.client _ refl)
held-of p m from x refusal s k left (snap.IsCounted k2 left2 is) = subst (λ i. AreOfTarget i.1.posts) (sym is) (by refusal (snap.collection_of x m))
  where
    last : (b : Bool) (c : Collection) → AreOfTarget (if◌then◌else◌ {A = TargetMemory × Did} b (snap.collected x m, snap.follows (snap.to_actor c.client (message.Ended x (Some c.epoch) Committed)) [] None) (snap.counts_held x from m, snap.follows [] [] None)).1.posts
    last true c = one-of c.client _ refl
    last false c = none-of

    by : (o : Option Outcome) (n : Option Collection) → AreOfTarget (snap.held_by p m from x o n).1.posts
    by None None = none-of
    by (Some how) None = none-of
    by (Some how) (Some c) = one-of c.client _ refl
    by None (Some c) = last (snap.is_last p from c) c

-- ---- a target hears such a message

pub further-of : (number : ℕ) (t : TargetPlan) (opening : Epoch × FloorWhy) (m : TargetMemory) (reading : ℕ) (from : ActorId) (n : Message) (old new : Kept) (left : TargetMemory × Did) → further.HearsFurther number t opening m reading from n old new left → AreOfTarget left.1.posts
further-of number t opening m reading from (message.Commit x ep first tracker ws) old new left w = down-of t m reading (commit_request x ep first tracker ws) from w.last new left w.ends
further-of number t opening m reading from (message.Ask x) old new left w =
    let z = looked (status.ask_left t m from x) old new left w in subst (λ i. AreOfTarget i.1.posts) (sym z.follows) (ask-of x from (leader_at t m old.durable))
further-of number t opening m reading from (message.Status x inc) old new left w =
    let z = looked (status.status_left m from x inc) old new left w in subst (λ i. AreOfTarget i.1.posts) (sym z.follows) (one-of from _ refl)
further-of number t opening m reading from (message.StatusIs x inc how) old new left w = answer-of t m from.number x inc (status.status_refusal x how) old new left w
further-of number t opening m reading from (message.Snap x c called tracker) old new left w = snap-of t m reading tracker x c called from w.last new left w.ends
further-of number t opening m reading from (message.Freeze x c s) old new left w = freeze-of t m x c from w.last new left w.ends
further-of number t opening m reading from (message.Held x refusal) old new left w = held-of t m from.number x refusal w.last new left w.ends
further-of number t opening m reading from (message.Prune x c (Some tracker) None) old new left w = aggregate-of t m reading tracker x c from w.last new left w.ends
further-of number t opening m reading from (message.Prune x c None (Some g)) old new left w = prune-of m x from w.last new left w.ends
further-of number t opening m reading from (message.Prune x c None None) old new left w = absurd w
further-of number t opening m reading from (message.Prune x c (Some tracker) (Some g)) old new left w = absurd w
further-of number t opening m reading from (message.Reset' by down place (more_of-Message asked rest)) old new left w =
    let z = looked (further.reset_by t m by down asked) old new left w in subst (λ i. AreOfTarget i.1.posts) (sym z.follows) (by-of t m by down asked old)
further-of number t opening m reading from n old new left w = absurd w

-- ---- it opens again

pub opening-of : (inc : ℕ) (es : List Entry) → AreOfTarget (status.statuses_for inc es)
opening-of inc [] = none-of
opening-of inc (e ∷ es) = both-of (status.statuses_of inc e) (status.statuses_for inc es) (map-of (status.status_to inc e.attempt) (other_members e) (λ n. refl)) (opening-of inc es)
