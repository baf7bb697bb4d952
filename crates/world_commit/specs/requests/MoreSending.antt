-- What a target sends that hears what comes after stops, or what makes snapshots and aggregates, is no client's request.
use Rattle.std.specs.Prelude.{ℕ, ◌≡◌, ◌⊎◌, ◌==◌, Bool, true, false, find, if◌then◌else◌, List, [], ◌∷◌, filter, Option, Some, None, refl}
use Rattle.std.proofs.Common.{sym, ◌∙◌, ap, subst, inl, inr}
use Rattle.base_types.specs.declared.entry.Entry.{Entry}
use Rattle.base_types.specs.declared.epoch.Epoch.{Epoch}
use Rattle.base_types.specs.declared.id.AttemptId.{AttemptId}
use Rattle.base_types.specs.declared.id.ContId.{ContId}
use Rattle.base_types.specs.declared.key.Key.{Key}
use Rattle.base_types.specs.declared.outcome.FloorWhy.{FloorWhy}
use Rattle.base_types.specs.declared.outcome.Outcome.{Outcome}
use Rattle.base_types.specs.declared.outcome.Outcome.TheVariants as outcome
use Rattle.base_messages.specs.declared.actor.ActorId.{ActorId}
use Rattle.base_messages.specs.declared.message.Message.{Message, more_of-Message}
use Rattle.base_messages.specs.declared.message.Message.TheVariants as message
use Rattle.daos_model.specs.Durables.{same_attempt}
use Rattle.dtx_base.specs.declared.leading.Undecided.{Undecided}
use Rattle.dtx_base.specs.Asking.{waits_at}
use Rattle.dtx_base.specs.Joining as member
use Rattle.dtx_base.specs.Joining.{is_waiting, unresolved}
use Rattle.dtx_base.specs.Leading.{LeaderOf, LeaderStep, down_told, entry_led, knowing, mark_reset, prepare_reset, quietly, reset_of, status_asked, to_target, undecided_of, unwaited_at}
use Rattle.dtx_base.specs.Members.{with_target}
use Rattle.model_laws.specs.Members.{Has, has-cases, has-from_filter, has-from_map}
use Rattle.world_base.specs.declared.did.Did.{Did}
use Rattle.world_base.specs.declared.request.CommitRequest.{CommitRequest}
use Rattle.world_base.specs.declared.target.Collection.{Collection}
use Rattle.world_base.specs.declared.target.TargetMemory.{TargetMemory}
use Rattle.world_base.specs.declared.target.TargetPlan.{TargetPlan}
use Rattle.world_base.specs.Changes.{Change, Kept, Steps}
use Rattle.world_base.specs.PathLaws.{reached-keeps}
use Rattle.world_base.specs.Turns.{Whole}
use Rattle.world_base.specs.Commits as commit
use Rattle.world_base.specs.Further.{CommitDown, HearsFurther, IsSpent, IsUnknown, knows_down, reset_by}
use Rattle.world_base.specs.Roles.{leader_at, member_at}
use Rattle.world_base.specs.Snapshots as snap
use Rattle.world_base.specs.Snapshots.{collected, collection_of, collection_reset, counts_held, freeze_to, held_at, is_collection_of, is_other_collection, others, prune_to, to_actor}
use Rattle.world_base.specs.Statuses.{ask_left, reset_left, status_left, status_refusal}
use Rattle.world_base.specs.TargetTurns.{commit_request}
use Rattle.world_letters.specs.waits.CollectionTurns.{CollectLeaves, Collects, IsEnded, aggregate-leaves, snap-leaves}
use Rattle.world_commit.specs.requests.Sending.{AreOfTarget, FollowsFrom, RowsOfClients, ack-follows, as-sent, both-sent, ended-sent, follows-same, follows-so, map-sent, none-sent, one-ended, one-sent, plain-post, rows-mapped, unresolved-sent}
use Rattle.world_letters.specs.waits.LeaderTurns.{row-found}
use Rattle.world_letters.specs.waits.Premises.{WaitersAreClients, is_end}
use Rattle.world_letters.specs.waits.Requests.{is_lost_request, is_request}
use Rattle.world_letters.specs.waits.StopTurns.{AskIs, Tells, Waits, ask-is, nothing-changes}

-- ---- after stops

ask-posts : (x : AttemptId) (from : ActorId) (l : LeaderOf) (s : LeaderStep) → from.client ≡ true → AskIs x from l s → AreOfTarget s.posts
ask-posts x from l s is (Tells own how posts same) = one-ended s.posts from x own how posts is
ask-posts x from l s is (Waits e found prepared unknown none same) = as-sent s.posts [] none none-sent

ask-rows : (x : AttemptId) (from : ActorId) (l : LeaderOf) (s : LeaderStep) → from.client ≡ true → RowsOfClients l.memory.undecided → AskIs x from l s → RowsOfClients s.leader.memory.undecided
ask-rows x from l s is of (Tells own how posts same) = subst RowsOfClients (sym (ap (λ y. y.memory.undecided) same)) of
ask-rows x from l s is of (Waits e found prepared unknown none same) = subst RowsOfClients (sym (ap (λ y. y.memory.undecided) same)) (rows-mapped (waits_at x from) l.memory.undecided (λ u c. by u c (same_attempt u.attempt x)) of)
  where
    by : (u : Undecided) (c : ActorId) (b : Bool) → (if b then record u { client = Some from } else u).client ≡ Some c → (u.client ≡ Some c) ⊎ (c.client ≡ true)
    by u c true same = inr (let it : from ≡ c = cc in ap (λ y. y.client) (sym it) ∙ is)
    by u c false same = inl same

-- what a Reset leaves of a leader's rows, and what it sends
record ResetFollows (l : LeaderOf) (s : LeaderStep) : Type 0 where
  posts : AreOfTarget s.posts
  rows : RowsOfClients l.memory.undecided → RowsOfClients s.leader.memory.undecided

reset-quiet : (l : LeaderOf) → ResetFollows l (quietly l)
reset-quiet l = record { posts = none-sent; rows = λ of. of }

down-follows : (t : ℕ) (a : AttemptId) (e : Option Entry) (u : Option Undecided) (l : LeaderOf) → undecided_of a l ≡ u → RowsOfClients l.memory.undecided → ResetFollows l (down_told t a e u l)
down-follows t a None u l found of = reset-quiet l
down-follows t a (Some e) None l found of = reset-quiet l
down-follows t a (Some e) (Some u) l found of = record {
  posts = ended-sent u.client a e.epoch (outcome.Unknown t) (λ c is. of u c (row-found a l.memory.undecided u found) is);
  rows = rows-mapped (unwaited_at a) l.memory.undecided (λ v c. by v c (same_attempt v.attempt a));
}
  where
    by : (v : Undecided) (c : ActorId) (b : Bool) → (if b then record v { client = None } else v).client ≡ Some c → (v.client ≡ Some c) ⊎ (c.client ≡ true)
    by v c true same = let no : ⊥ = cc in absurd no
    by v c false same = inl same

status-follows : (t : ℕ) (a : AttemptId) (inc : ℕ) (l : LeaderOf) → ResetFollows l (status_asked t a inc l)
status-follows t a inc l = by (inc == l.incarnation)
  where
    by : (b : Bool) → ResetFollows l (if b then record { leader = l; posts = to_target t (message.Status a inc) ∷ [] } else quietly l)
    by true = record { posts = one-sent _ _ refl refl refl refl; rows = λ of. of }
    by false = reset-quiet l

prepare-reset : (t : ℕ) (down : Bool) (a : AttemptId) (inc : ℕ) (l : LeaderOf) → RowsOfClients l.memory.undecided → ResetFollows l (prepare_reset t down a inc l)
unfolding prepare_reset
prepare-reset t true a inc l of = down-follows t a (entry_led a l) (undecided_of a l) l refl of
prepare-reset t false a inc l of = status-follows t a inc l

mark-reset : (t : ℕ) (down : Bool) (inc : ℕ) (marks : List (AttemptId × Bool)) (l : LeaderOf) → ResetFollows l (mark_reset t down inc marks l)
unfolding mark_reset
mark-reset t true inc marks l = record { posts = none-sent; rows = λ of. of }
mark-reset t false inc marks l = record { posts = one-sent _ _ refl refl refl refl; rows = λ of. of }

leader-reset : (t : ℕ) (down : Bool) (asked : Message) (l : LeaderOf) → RowsOfClients l.memory.undecided → ResetFollows l (reset_of t down asked l)
leader-reset t down (message.Prepare e first ws inc) l of = prepare-reset t down e.attempt inc l of
leader-reset t down (message.Status a inc) l of = prepare-reset t down a inc l of
leader-reset t down (message.Mark inc marks) l of = mark-reset t down inc marks l
leader-reset t down m l of = reset-quiet l

member-reset_sent : (down : Bool) (asked : Message) (p : TargetPlan) (m : TargetMemory) → AreOfTarget (member.reset_heard down asked (member_at p m)).freed.posts
unfolding unresolved
member-reset_sent down (message.Query a (Some x)) p m = unresolved-sent a (filter (is_waiting a x) m.member.parked)
member-reset_sent down (message.Query a None) p m = none-sent
member-reset_sent down asked p m = none-sent

knowing-same : (t : ℕ) (down : Bool) (l : LeaderOf) → (knowing t down l).memory.undecided ≡ l.memory.undecided
knowing-same t true l = refl
knowing-same t false l = refl

knows-waiters : (t : ℕ) (down : Bool) (m : TargetMemory) → WaitersAreClients m → WaitersAreClients (knows_down t down m)
knows-waiters t true m of = record { rows = of.rows; collecting = of.collecting }
knows-waiters t false m of = of

-- ---- collections

found-was : (x : AttemptId) (cs : List Collection) (c : Collection) → find (is_collection_of x) cs ≡ Some c → Has c cs
found-was x [] c found = let no : ⊥ = cc in absurd no
found-was x (y ∷ cs) c found = by (found-was x cs c) (same_attempt y.attempt x) found
  where
    by : (find (is_collection_of x) cs ≡ Some c → Has c cs) → (b : Bool) → (if b then Some y else find (is_collection_of x) cs) ≡ Some c → Has c (y ∷ cs)
    by rest true f = inl (let same : c ≡ y = cc in same)
    by rest false f = inr (rest f)

module _ (m : TargetMemory) (of : WaitersAreClients m) where
  without-it : (x : AttemptId) → WaitersAreClients (collected x m)
  without-it x = record { rows = of.rows; collecting = λ c i. of.collecting c (has-from_filter (is_other_collection x) m.collecting c i).0 }

  counted-in : (x : AttemptId) (t : ℕ) → WaitersAreClients (counts_held x t m)
  counted-in x t = record { rows = of.rows; collecting = λ c i. (let z = has-from_map (held_at x t) m.collecting c i in ap (λ a. a.client) (ap (λ y. y.client) (sym z.2) ∙ by z.0 (same_attempt z.0.attempt x)) ∙ of.collecting z.0 z.1) }
    where
      by : (d : Collection) (b : Bool) → (if b then record d { held = with_target d.held t } else d).client ≡ d.client
      by d true = refl
      by d false = refl

  -- one ends, and who asked for it is told
  ends-one : (x : AttemptId) (c : Collection) (how : Outcome) (left : TargetMemory × Did) → collection_of x m ≡ Some c → left.1.posts ≡ to_actor c.client (message.Ended x (Some c.epoch) how) → left.0 ≡ collected x m → FollowsFrom left
  ends-one x c how left found says same = record { posts = one-ended left.1.posts c.client x (Some c.epoch) how says (of.collecting c (found-was x m.collecting c found)); waiters = subst WaitersAreClients (sym same) (without-it x) }

  held-sent : (p : TargetPlan) (by-it : ℕ) (x : AttemptId) (refusal : Option Outcome) (o : Option Collection) (left : TargetMemory × Did) → collection_of x m ≡ o → left ≡ snap.held_by p m by-it x refusal o → FollowsFrom left
  held-sent p by-it x refusal None left found says = none refusal says
    where
      none : (refusal : Option Outcome) → left ≡ snap.held_by p m by-it x refusal None → FollowsFrom left
      none refusal says = record { posts = as-sent left.1.posts [] (ap (λ o. o.1.posts) says) none-sent; waiters = subst WaitersAreClients (sym (ap (λ o. o.0) says)) of }
  held-sent p by-it x (Some how) (Some c) left found says = ends-one x c how left found (ap (λ o. o.1.posts) says) (ap (λ o. o.0) says)
  held-sent p by-it x None (Some c) left found says = last (snap.is_last p by-it c) says
    where
      last : (b : Bool) → left ≡ (if b then (collected x m, snap.follows (to_actor c.client (message.Ended x (Some c.epoch) outcome.Committed)) [] None) else (counts_held x by-it m, snap.follows [] [] None)) → FollowsFrom left
      last true is = ends-one x c outcome.Committed left found (ap (λ o. o.1.posts) is) (ap (λ o. o.0) is)
      last false is = record { posts = as-sent left.1.posts [] (ap (λ o. o.1.posts) is) none-sent; waiters = subst WaitersAreClients (sym (ap (λ o. o.0) is)) (counted-in x by-it) }

  -- what a Held made was collected
  abbrev MadeIt : AttemptId → snap.HeldStage → Type 0
  MadeIt x snap.Heard = Unit {0}
  MadeIt x snap.Counted = Unit {0}
  MadeIt x (snap.IsMade c name) = collection_of x m ≡ Some c

  held-goes : (p : TargetPlan) (by-it : ℕ) (x : AttemptId) (refusal : Option Outcome) (s : snap.HeldStage) (k : Kept) (o : Option Change) (u : snap.HeldStage) (l : Kept) → snap.HeldNext p m by-it x refusal s k o u → Steps o k l → MadeIt x s → MadeIt x u
  held-goes p by-it x refusal s k o u l (snap.CreatesIt k2 c name ok found called last) steps h = found
  held-goes p by-it x refusal s k o u l (snap.Counts k2 none) steps h = tt

  held-ends : (p : TargetPlan) (by-it : ℕ) (x : AttemptId) (refusal : Option Outcome) (s : snap.HeldStage) (k : Kept) (left : TargetMemory × Did) → snap.HeldEnds p m by-it x refusal s k left → MadeIt x s → FollowsFrom left
  held-ends p by-it x refusal s k left (snap.IsCounted k2 left2 says) made = held-sent p by-it x refusal (collection_of x m) left2 refl says
  held-ends p by-it x refusal s k left (snap.IsCreated k2 c name left2 says) made = ends-one x c outcome.Committed left2 made (ap (λ o. o.1.posts) says) (ap (λ o. o.0) says)

  held-follows : (p : TargetPlan) (by-it : ℕ) (x : AttemptId) (refusal : Option Outcome) (old new : Kept) (left : TargetMemory × Did) → Whole (snap.HeldNext p m by-it x refusal) (snap.HeldEnds p m by-it x refusal) snap.Heard old new left → FollowsFrom left
  held-follows p by-it x refusal old new left w = held-ends p by-it x refusal w.last new left w.ends (reached-keeps (snap.HeldNext p m by-it x refusal) (λ s k. MadeIt x s) (held-goes p by-it x refusal) snap.Heard old w.last new w.reached tt)

  reset-sent : (by-it : ℕ) (down : Bool) (asked : Message) (x : AttemptId) (o : Option Collection) → collection_of x m ≡ o → is_request asked ≡ false → is_lost_request asked ≡ false → is_end asked ≡ false
      → FollowsFrom (knows_down by-it down (collection_reset by-it down asked x o m).0, snap.follows (collection_reset by-it down asked x o m).1 [] None)
  reset-sent by-it false asked x o found asks tells ends = record { posts = one-sent _ _ refl asks tells ends; waiters = of }
  reset-sent by-it true asked x None found asks tells ends = record { posts = none-sent; waiters = knows-waiters by-it true m of }
  reset-sent by-it true asked x (Some c) found asks tells ends = record {
    posts = one-ended _ c.client x (Some c.epoch) (outcome.Unknown by-it) refl (of.collecting c (found-was x m.collecting c found));
    waiters = knows-waiters by-it true (collected x m) (without-it x);
  }

  collect-follows : (t : ℕ) (x : AttemptId) (q : Message) (from : ActorId) (left : TargetMemory × Did) → from.client ≡ true → AreOfTarget left.1.posts → CollectLeaves t x q from m left → FollowsFrom left
  collect-follows t x q from left is posts (IsEnded own how says parked undecided collecting) = follows-same m left of posts undecided collecting
  collect-follows t x q from left is posts (Collects c client holds between parked undecided collecting) = record {
    posts = posts;
    waiters = record { rows = λ u d i same. of.rows u d (subst (Has u) undecided i) same; collecting = λ d i. by d (has-cases m.collecting (c ∷ []) d (subst (Has d) collecting i)) };
  }
    where
      by : (d : Collection) → Has d m.collecting ⊎ Has d (c ∷ []) → d.client.client ≡ true
      by d (inl i) = of.collecting d i
      by d (inr (inl same)) = ap (λ y. y.client.client) same ∙ ap (λ a. a.client) client ∙ is
      by d (inr (inr none)) = absurd none

snap-sent : (p : TargetPlan) (m : TargetMemory) (reading : ℕ) (tracker : Epoch) (x : AttemptId) (c : ContId) (name : Key) (from : ActorId) (s : snap.FreezeStage) (k : Kept) (left : TargetMemory × Did) → from.client ≡ true → snap.SnapEnds p m reading tracker x c name from s k left → AreOfTarget left.1.posts
snap-sent p m reading tracker x c name from s k left is (snap.IsSpent k2 left2 none says) = one-ended left2.1.posts from x _ _ (ap (λ o. o.1.posts) says) is
snap-sent p m reading tracker x c name from s k left is (snap.IsRefused k2 e how left2 why says) = one-ended left2.1.posts from x _ _ (ap (λ o. o.1.posts) says) is
snap-sent p m reading tracker x c name from s k left is (snap.IsAlone k2 e lines left2 says) = one-ended left2.1.posts from x _ _ (ap (λ o. o.1.posts) says) is
snap-sent p m reading tracker x c name from s k left is (snap.AsksOthers k2 e lines left2 more says) = as-sent left2.1.posts _ (ap (λ o. o.1.posts) says) (map-sent (freeze_to x c e) (others p) (λ t. plain-post (freeze_to x c e t) refl refl refl))

aggregate-sent : (p : TargetPlan) (m : TargetMemory) (reading : ℕ) (tracker : Epoch) (x : AttemptId) (c : ContId) (from : ActorId) (s : snap.PruneStage) (k : Kept) (left : TargetMemory × Did) → from.client ≡ true → snap.AggregateEnds p m reading tracker x c from s k left → AreOfTarget left.1.posts
aggregate-sent p m reading tracker x c from s k left is (snap.IsSpent k2 left2 none says) = one-ended left2.1.posts from x _ _ (ap (λ o. o.1.posts) says) is
aggregate-sent p m reading tracker x c from s k left is (snap.IsAlone k2 g lines left2 alone says) = one-ended left2.1.posts from x _ _ (ap (λ o. o.1.posts) says) is
aggregate-sent p m reading tracker x c from s k left is (snap.AsksOthers k2 g lines left2 more says) = as-sent left2.1.posts _ (ap (λ o. o.1.posts) says) (map-sent (prune_to x c g) (others p) (λ t. plain-post (prune_to x c g t) refl refl refl))

freeze-follows : (p : TargetPlan) (m : TargetMemory) (x : AttemptId) (c : ContId) (from : ActorId) (s : snap.FreezeStage) (k : Kept) (left : TargetMemory × Did) → WaitersAreClients m → snap.FreezeEnds p m x c from s k left → FollowsFrom left
freeze-follows p m x c from s k left of (snap.IsRefused k2 e how left2 why says) = follows-same m left2 of (one-sent left2.1.posts _ (ap (λ o. o.1.posts) says) refl refl refl) (ap (λ o. o.0.leader.undecided) says) (ap (λ o. o.0.collecting) says)
freeze-follows p m x c from s k left of (snap.IsHeld k2 e lines left2 says) = follows-same m left2 of (one-sent left2.1.posts _ (ap (λ o. o.1.posts) says) refl refl refl) (ap (λ o. o.0.leader.undecided) says) (ap (λ o. o.0.collecting) says)

prune-follows : (m : TargetMemory) (x : AttemptId) (from : ActorId) (s : snap.PruneStage) (k : Kept) (left : TargetMemory × Did) → WaitersAreClients m → snap.PruneEnds m x from s k left → FollowsFrom left
prune-follows m x from s k left of (snap.IsHeld k2 g lines left2 says) = follows-same m left2 of (one-sent left2.1.posts _ (ap (λ o. o.1.posts) says) refl refl refl) (ap (λ o. o.0.leader.undecided) says) (ap (λ o. o.0.collecting) says)

commit-down_follows : (t : TargetPlan) (m : TargetMemory) (reading : ℕ) (q : CommitRequest) (from : ActorId) (s : commit.CommitStage) (k : Kept) (left : TargetMemory × Did) → WaitersAreClients m → from.client ≡ true → CommitDown t m reading q from s k left → FollowsFrom left
commit-down_follows t m reading q from s k left of is (IsSpent k2 e down left2 none down-is says) = follows-same m left2 of (one-ended left2.1.posts from q.attempt _ _ (ap (λ o. o.1.posts) says) is) (ap (λ o. o.0.leader.undecided) says) (ap (λ o. o.0.collecting) says)
commit-down_follows t m reading q from s k left of is (IsUnknown k2 e down left2 down-is says) = follows-same m left2 of (one-ended left2.1.posts from q.attempt _ _ (ap (λ o. o.1.posts) says) is) (ap (λ o. o.0.leader.undecided) says) (ap (λ o. o.0.collecting) says)

-- ---- a Reset

-- it isn't of a client's request
by-reset : (t : TargetPlan) (m : TargetMemory) (by-it : ℕ) (down : Bool) (asked : Message) (k : Kept) → WaitersAreClients m → is_request asked ≡ false → FollowsFrom (reset_by t m by-it down asked k)
by-reset t m by-it down (message.Freeze x c s) k of asks = reset-sent m of by-it down (message.Freeze x c s) x (collection_of x m) refl refl refl refl
by-reset t m by-it down (message.Prune x c tracker e) k of asks = reset-sent m of by-it down (message.Prune x c tracker e) x (collection_of x m) refl asks refl refl
by-reset t m by-it down asked k of asks =
    let l = leader-reset by-it down asked (leader_at t m k.durable) of.rows in
    follows-so m (reset_left t m by-it down asked k) of (both-sent (reset_of by-it down asked (leader_at t m k.durable)).posts (member.reset_heard down asked (member_at t m)).freed.posts l.posts (member-reset_sent down asked t m))
    (subst RowsOfClients (sym (knowing-same by-it down (reset_of by-it down asked (leader_at t m k.durable)).leader)) (l.rows of.rows)) refl

-- ---- what else is heard

pub more-follows : (number : ℕ) (t : TargetPlan) (opening : Epoch × FloorWhy) (m : TargetMemory) (reading : ℕ) (from : ActorId) (q : Message) (old new : Kept) (left : TargetMemory × Did) → WaitersAreClients m → (is_request q ≡ true → from.client ≡ true)
    → is_lost_request q ≡ false → HearsFurther number t opening m reading from q old new left → FollowsFrom left
more-follows number t opening m reading from (message.Commit x ep first tracker ws) old new left of asks kind h = commit-down_follows t m reading (commit_request x ep first tracker ws) from h.last new left of (asks refl) h.ends
more-follows number t opening m reading from (message.Ask x) old new left of asks kind h =
    let s = nothing-changes old new left h in
    let a = ask-is x from (leader_at t m old.durable) in
    subst FollowsFrom (sym s.1) (follows-so m (ask_left t m from x old) of (ask-posts x from (leader_at t m old.durable) _ (asks refl) a) (ask-rows x from (leader_at t m old.durable) _ (asks refl) of.rows a) refl)
more-follows number t opening m reading from (message.Status x inc) old new left of asks kind h =
    let s = nothing-changes old new left h in
    subst FollowsFrom (sym s.1) (follows-same m (status_left m from x inc old) of (one-sent _ _ refl refl refl refl) refl refl)
more-follows number t opening m reading from (message.StatusIs x inc how) old new left of asks kind h = ack-follows t m from.number x inc (status_refusal x how) old new left of h
more-follows number t opening m reading from (message.Snap x c called tracker) old new left of asks kind h =
    collect-follows m of t.me x (message.Snap x c called tracker) from left (asks refl) (snap-sent t m reading tracker x c called from h.last new left (asks refl) h.ends) (snap-leaves t.me t m reading tracker x c called from h.last new left h.ends)
more-follows number t opening m reading from (message.Freeze x c s) old new left of asks kind h = freeze-follows t m x c from h.last new left of h.ends
more-follows number t opening m reading from (message.Held x refusal) old new left of asks kind h = held-follows m of t from.number x refusal old new left h
more-follows number t opening m reading from (message.Prune x c (Some tracker) None) old new left of asks kind h =
    collect-follows m of t.me x (message.Prune x c (Some tracker) None) from left (asks refl) (aggregate-sent t m reading tracker x c from h.last new left (asks refl) h.ends) (aggregate-leaves t.me t m reading tracker x c from h.last new left h.ends)
more-follows number t opening m reading from (message.Prune x c None (Some g)) old new left of asks kind h = prune-follows m x from h.last new left of h.ends
more-follows number t opening m reading from (message.Reset' by-it down place (more_of-Message asked rest)) old new left of asks kind h = subst FollowsFrom (sym (nothing-changes old new left h).1) (by-reset t m by-it down asked old of kind)
more-follows number t opening m reading from other old new left of asks kind h = absurd h
