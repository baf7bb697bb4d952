-- What targets send is no client's request, and what they collect they collect for who asked.
use Rattle.std.specs.Prelude.{ℕ, ◌≡◌, ◌⊎◌, ◌++◌, ◌==◌, Bool, true, false, if◌then◌else◌, List, [], ◌∷◌, filter, map, Option, Some, None, refl}
use Rattle.std.proofs.Common.{sym, ◌∙◌, ap, subst, inl, inr}
use Rattle.base_types.specs.declared.entry.Entry.{Entry}
use Rattle.base_types.specs.declared.entry.Verdict.{Verdict}
use Rattle.base_types.specs.declared.entry.Verdict.TheVariants as verdicts
use Rattle.base_types.specs.declared.epoch.Epoch.{Epoch}
use Rattle.base_types.specs.declared.id.AttemptId.{AttemptId}
use Rattle.base_types.specs.declared.operation.MinorWrite.{MinorWrite}
use Rattle.base_types.specs.declared.outcome.FloorWhy.{FloorWhy}
use Rattle.base_types.specs.declared.outcome.Outcome.{Outcome}
use Rattle.base_types.specs.declared.outcome.Outcome.TheVariants as outcome
use Rattle.base_messages.specs.declared.actor.ActorId.{ActorId}
use Rattle.base_messages.specs.declared.message.Message.{Message}
use Rattle.base_messages.specs.declared.message.Message.TheVariants as message
use Rattle.base_messages.specs.declared.message.Reply.{Reply}
use Rattle.base_messages.specs.declared.message.Post.{Post}
use Rattle.daos_model.specs.BoolLaws.{clash}
use Rattle.daos_model.specs.Durables.{same_attempt}
use Rattle.daos_model.specs.declared.durable.Durable.{Durable}
use Rattle.dtx_base.specs.declared.leading.Naming.{Naming}
use Rattle.dtx_base.specs.declared.leading.Undecided.{Undecided}
use Rattle.dtx_base.specs.declared.member.Parked.{Parked}
use Rattle.dtx_base.specs.Joining as member
use Rattle.dtx_base.specs.Joining.{all_unresolved_told, inquired, inquiry_for, is_waiting, to_inquire, unresolved, unresolved_told, verdict_heard}
use Rattle.dtx_base.specs.Leading.{LeaderOf, LeaderStep, abort_to, ack_heard, answer_heard, answer_if_awaited, attempts_of, batched, begun, begun_alone, begun_with_others, commit_mark, counted_at, decided, ended, entry_led, mark_with, marks_for, new_undecided, owed, prepare_to, quietly, to_target, undecided_attempt, undecided_of, with_undecided}
use Rattle.dtx_base.specs.Leading as leading
use Rattle.dtx_base.specs.Members.{all_targets, are_all_counted, is_other_member, other_members, with_target}
use Rattle.dtx_base.specs.Rows.{is_empty, is_other_row, row_key}
use Rattle.model_laws.specs.EntryLaws.{has-put}
use Rattle.model_laws.specs.Members.{Has, has-cases, has-from_filter, has-from_map, has-map}
use Rattle.world_base.specs.declared.did.Did.{Did}
use Rattle.world_base.specs.declared.request.CommitRequest.{CommitRequest}
use Rattle.world_base.specs.declared.request.FetchRequest.{FetchRequest}
use Rattle.world_base.specs.declared.request.PrepareRequest.{PrepareRequest}
use Rattle.world_base.specs.declared.target.TargetMemory.{TargetMemory}
use Rattle.world_base.specs.declared.target.TargetPlan.{TargetPlan}
use Rattle.world_base.specs.Acks as ack
use Rattle.world_base.specs.Changes.{Change, Kept, Steps}
use Rattle.world_base.specs.Commits as commit
use Rattle.world_base.specs.Idle.{AllSettled, IdleEnds, batch_of, idle_memory, idle_told, inquiry_of}
use Rattle.world_base.specs.Letters.{client}
use Rattle.world_base.specs.Marks.{AllMarked, MarkEnds}
use Rattle.world_base.specs.PathLaws.{reached-keeps}
use Rattle.world_base.specs.Prepares as prepare
use Rattle.world_base.specs.Reads as read
use Rattle.world_base.specs.Roles.{is_prepared, leader_at, member_at, told_by, told_of, told_of_all, with_unsettled}
use Rattle.world_base.specs.TargetTurns.{Hears, IdlesWhole, commit_request, fetch_request, prepare_request}
use Rattle.world_base.specs.Turns.{Whole}
use Rattle.world_base.specs.Verdicts as verdict
use Rattle.world_letters.specs.talks.Conversation as carrier
use Rattle.world_letters.specs.talks.LeaveLaws as leave
use Rattle.world_letters.specs.talks.LeaveLaws.{CommitLeaves, FetchLeaves, HasOwn, IsKept, IsReplied, commit-leaves, fetch-leaves, marked-is, own-goes}
use Rattle.world_letters.specs.waits.LeaderTurns.{row-found}
use Rattle.world_letters.specs.waits.Premises.{WaitersAreClients, is_end}
use Rattle.world_letters.specs.waits.Requests.{is_lost_request, is_request}
use Rattle.world_letters.specs.waits.RequestTurns.{commit-collects, fetch-collects}

-- ---- requests

-- A post of a target: no request, and no news that one got no answer; and how an attempt ended, or what a read is answered, goes to a client.
pub record IsOfTarget (p : Post) : Type 0 where
  pub asks_not : is_request p.message ≡ false
  pub tells_not : is_lost_request p.message ≡ false
  pub end : is_end p.message ≡ true → p.to.client ≡ true

abbrev pub AreOfTarget : List Post → Type 0
AreOfTarget posts = (q : Post) → Has q posts → IsOfTarget q

pub none-sent : AreOfTarget []
none-sent q i = absurd i

-- a post of a kind that ends nothing
pub plain-post : (q : Post) → is_request q.message ≡ false → is_lost_request q.message ≡ false → is_end q.message ≡ false → IsOfTarget q
plain-post q asks tells ends = record { asks_not = asks; tells_not = tells; end = λ is. clash (is_end q.message) is ends }

pub single-sent : (posts : List Post) (q : Post) → posts ≡ q ∷ [] → IsOfTarget q → AreOfTarget posts
single-sent posts q one of p i = by (subst (Has p) one i)
  where
    by : Has p (q ∷ []) → IsOfTarget p
    by (inl same) = subst IsOfTarget (sym same) of
    by (inr none) = absurd none

pub one-sent : (posts : List Post) (q : Post) → posts ≡ q ∷ [] → is_request q.message ≡ false → is_lost_request q.message ≡ false → is_end q.message ≡ false → AreOfTarget posts
one-sent posts q one asks tells ends = single-sent posts q one (plain-post q asks tells ends)

-- a client is told how an attempt ended
pub one-ended : (posts : List Post) (to : ActorId) (x : AttemptId) (own : Option Epoch) (how : Outcome) → posts ≡ record { to = to; message = message.Ended x own how } ∷ [] → to.client ≡ true → AreOfTarget posts
one-ended posts to x own how one is = single-sent posts (record { to = to; message = message.Ended x own how }) one (record { asks_not = refl; tells_not = refl; end = λ e. is })

-- a client is told what it read
pub one-answered : (posts : List Post) (to : ActorId) (x : AttemptId) (op group : ℕ) (own : Option Epoch) (b : Reply) → posts ≡ record { to = to; message = message.Fetched x op group own b } ∷ [] → to.client ≡ true → AreOfTarget posts
one-answered posts to x op group own b one is = single-sent posts (record { to = to; message = message.Fetched x op group own b }) one (record { asks_not = refl; tells_not = refl; end = λ e. is })

pub both-sent : (ps qs : List Post) → AreOfTarget ps → AreOfTarget qs → AreOfTarget (ps ++ qs)
both-sent ps qs f g q i = elim (has-cases ps qs q i) [ inl j ↦ f q j | inr j ↦ g q j ]

pub map-sent : {T : Type 0} (f : T → Post) (xs : List T) → ((x : T) → IsOfTarget (f x)) → AreOfTarget (map f xs)
map-sent f xs plain q i = let z = has-from_map f xs q i in subst IsOfTarget z.2 (plain z.0)

pub as-sent : (ps qs : List Post) → ps ≡ qs → AreOfTarget qs → AreOfTarget ps
as-sent ps qs same h = subst AreOfTarget (sym same) h

-- who waits for an attempt is a client
abbrev pub IsClientOrNone : Option ActorId → Type 0
IsClientOrNone o = (c : ActorId) → o ≡ Some c → c.client ≡ true

pub ended-sent : (o : Option ActorId) (a : AttemptId) (e : Epoch) (how : Outcome) → IsClientOrNone o → AreOfTarget (ended o a e how)
ended-sent None a e how is = none-sent
ended-sent (Some c) a e how is = one-ended (ended (Some c) a e how) c a (Some e) how refl (is c refl)

-- ---- who waits

abbrev pub RowsOfClients : List Undecided → Type 0
RowsOfClients us = (u : Undecided) (c : ActorId) → Has u us → u.client ≡ Some c → c.client ≡ true

-- rows of the same clients
pub rows-by-open : (us vs : List Undecided) → map (carrier.open_at 0) vs ≡ map (carrier.open_at 0) us → RowsOfClients us → RowsOfClients vs
rows-by-open us vs same of v c i is =
    let z = has-from_map (carrier.open_at 0) us (carrier.open_at 0 v) (subst (Has (carrier.open_at 0 v)) same (has-map (carrier.open_at 0) vs v i)) in
    let client-is : v.client ≡ z.0.client = let e : carrier.open_at 0 z.0 ≡ carrier.open_at 0 v = z.2 in cc in
    of z.0 c z.1 (sym client-is ∙ is)

pub rows-filtered : (p : Undecided → Bool) (us : List Undecided) → RowsOfClients us → RowsOfClients (filter p us)
rows-filtered p us of v c i is = of v c (has-from_filter p us v i).0 is

pub rows-mapped : (f : Undecided → Undecided) (us : List Undecided) → ((u : Undecided) (c : ActorId) → (f u).client ≡ Some c → (u.client ≡ Some c) ⊎ (c.client ≡ true)) → RowsOfClients us → RowsOfClients (map f us)
rows-mapped f us from of v c i is =
    let z = has-from_map f us v i in
    elim (from z.0 c (ap (λ y. y.client) z.2 ∙ is)) [ inl was ↦ of z.0 c z.1 was | inr now ↦ now ]

-- What follows when a target hears a message of an actor: it sends what a target sends, and who waits is a client still.
pub record FollowsFrom (left : TargetMemory × Did) : Type 0 where
  pub posts : AreOfTarget left.1.posts
  pub waiters : WaitersAreClients left.0

pub follows-so : (m : TargetMemory) (left : TargetMemory × Did) → WaitersAreClients m → AreOfTarget left.1.posts → RowsOfClients left.0.leader.undecided → left.0.collecting ≡ m.collecting → FollowsFrom left
follows-so m left of posts rows same = record { posts = posts; waiters = record { rows = rows; collecting = λ c i. of.collecting c (subst (Has c) same i) } }

-- where rows stay
pub follows-same : (m : TargetMemory) (left : TargetMemory × Did) → WaitersAreClients m → AreOfTarget left.1.posts → left.0.leader.undecided ≡ m.leader.undecided → left.0.collecting ≡ m.collecting → FollowsFrom left
follows-same m left of posts rows same = follows-so m left of posts (λ u c i is. of.rows u c (subst (Has u) rows i) is) same

-- ---- requests and what leaders do

fetch-sent : (q : FetchRequest) (from : ActorId) (m : TargetMemory) (left : TargetMemory × Did) → from.client ≡ true → FetchLeaves q from m left → AreOfTarget left.1.posts
fetch-sent q from m left is (IsReplied own b posts same) = one-answered left.1.posts from q.attempt q.op q.group own b posts is
fetch-sent q from m left is (IsKept e on leader own posts parked undecided) = one-sent left.1.posts _ posts refl refl refl

fetch-rows : (q : FetchRequest) (from : ActorId) (m : TargetMemory) (left : TargetMemory × Did) → FetchLeaves q from m left → RowsOfClients m.leader.undecided → RowsOfClients left.0.leader.undecided
fetch-rows q from m left (IsReplied own b posts same) of = rows-by-open m.leader.undecided left.0.leader.undecided (same.undecided 0) of
fetch-rows q from m left (IsKept e on leader own posts parked undecided) of = λ u c i is. of u c (subst (Has u) undecided i) is

begun-sent : (e : Entry) (first : Option Epoch) (from : ActorId) (ws : List MinorWrite) (l : LeaderOf) → from.client ≡ true → AreOfTarget (begun e first from ws l).posts
unfolding begun
begun-sent e first from ws l is = by (is_empty (other_members e))
  where
    by : (b : Bool) → AreOfTarget (if b then begun_alone e from l else begun_with_others e first from ws l).posts
    by true = one-ended _ from e.attempt (Some e.epoch) outcome.Committed refl is
    by false = map-sent (prepare_to l.targets l.incarnation e first ws) (other_members e) (λ x. plain-post (prepare_to l.targets l.incarnation e first ws x) refl refl refl)

commit-sent : (t : TargetPlan) (opening : Epoch × FloorWhy) (m : TargetMemory) (reading : ℕ) (q : CommitRequest) (from : ActorId) (s : commit.CommitStage) (k : Kept) (left : TargetMemory × Did) → from.client ≡ true → commit.CommitEnds t opening m reading q from s k left → AreOfTarget left.1.posts
commit-sent t opening m reading q from s k left is (commit.IsSpent k2 left2 none says) = one-ended left2.1.posts from q.attempt _ _ (ap (λ o. o.1.posts) says) is
commit-sent t opening m reading q from s k left is (commit.IsRefused k2 e c left2 why says) = one-ended left2.1.posts from q.attempt _ _ (ap (λ o. o.1.posts) says) is
commit-sent t opening m reading q from s k left is (commit.HasNoSpace k2 e left2 allowed full says) = one-ended left2.1.posts from q.attempt _ _ (ap (λ o. o.1.posts) says) is
commit-sent t opening m reading q from s k left is (commit.HasBegun k2 e left2 says) = as-sent left2.1.posts _ (ap (λ o. o.1.posts) says) (begun-sent (commit.led_entry t q e) q.first from q.writes (leader_at t m k2.durable) is)

commit-rows : (q : CommitRequest) (from : ActorId) (m : TargetMemory) (left : TargetMemory × Did) → from.client ≡ true → CommitLeaves q from m left → RowsOfClients m.leader.undecided → RowsOfClients left.0.leader.undecided
commit-rows q from m left is (leave.IsEnded own how posts same) of = rows-by-open m.leader.undecided left.0.leader.undecided (same.undecided 0) of
commit-rows q from m left is (leave.HasBegun to parked undecided) of =
    λ u c i same. elim (has-put (row_key undecided_attempt) (new_undecided q.attempt (Some from)) m.leader.undecided u (subst (Has u) undecided i)) [
      | inl new ↦ (let e : Some from ≡ Some c = sym (ap (λ y. y.client) new) ∙ same in let it : from ≡ c = cc in ap (λ y. y.client) (sym it) ∙ is)
      | inr old ↦ of u c old same
    ]

prepare-follows : (t : TargetPlan) (opening : Epoch × FloorWhy) (m : TargetMemory) (q : PrepareRequest) (s : prepare.PrepareStage) (k : Kept) (left : TargetMemory × Did) → WaitersAreClients m → prepare.PrepareEnds t opening m q s k left → FollowsFrom left
prepare-follows t opening m q s k left of (prepare.IsRefused k2 c left2 why says) = follows-same m left2 of (one-sent left2.1.posts _ (ap (λ o. o.1.posts) says) refl refl refl) (ap (λ o. o.0.leader.undecided) says) (ap (λ o. o.0.collecting) says)
prepare-follows t opening m q s k left of (prepare.HasNoSpace k2 left2 allowed full says) = follows-same m left2 of (one-sent left2.1.posts _ (ap (λ o. o.1.posts) says) refl refl refl) (ap (λ o. o.0.leader.undecided) says) (ap (λ o. o.0.collecting) says)
prepare-follows t opening m q s k left of (prepare.IsPrepared k2 left2 says) = follows-same m left2 of (one-sent left2.1.posts _ (ap (λ o. o.1.posts) says) refl refl refl) (ap (λ o. o.0.leader.undecided) says) (ap (λ o. o.0.collecting) says)

-- what a leader makes of an answer
record StepFollows (s : LeaderStep) : Type 0 where
  posts : AreOfTarget s.posts
  rows : RowsOfClients s.leader.memory.undecided

quiet-step : (l : LeaderOf) → RowsOfClients l.memory.undecided → StepFollows (quietly l)
quiet-step l of = record { posts = none-sent; rows = of }

counted-rows : (a : AttemptId) (t : ℕ) (us : List Undecided) → RowsOfClients us → RowsOfClients (map (counted_at a t) us)
counted-rows a t us of = rows-mapped (counted_at a t) us (λ u c is. inl (by u (same_attempt u.attempt a) ∙ is)) of
  where
    by : (u : Undecided) (b : Bool) → u.client ≡ (if b then record u { counted = with_target u.counted t } else u).client
    by u true = refl
    by u false = refl

ok-step : (t : ℕ) (a : AttemptId) (e : Entry) (u : Undecided) (l : LeaderOf) → IsClientOrNone u.client → RowsOfClients l.memory.undecided → StepFollows (leading.ok_heard t a e u l)
ok-step t a e u l is of = by (are_all_counted e (with_target u.counted t))
  where
    by : (b : Bool) → StepFollows (if b then record { leader = decided a l; posts = ended u.client a e.epoch outcome.Committed } else quietly (with_undecided (map (counted_at a t) l.memory.undecided) l))
    by true = record { posts = ended-sent u.client a e.epoch outcome.Committed is; rows = rows-filtered (is_other_row undecided_attempt a) l.memory.undecided of }
    by false = record { posts = none-sent; rows = counted-rows a t l.memory.undecided of }

answer-step : (t : ℕ) (a : AttemptId) (refusal : Option Outcome) (e : Entry) (u : Undecided) (l : LeaderOf) → IsClientOrNone u.client → RowsOfClients l.memory.undecided → StepFollows (answer_heard t a refusal e u l)
answer-step t a None e u l is of = ok-step t a e u l is of
answer-step t a (Some how) e u l is of = record {
  posts = both-sent (ended u.client a e.epoch how) (map (abort_to l.incarnation a) (other_members e)) (ended-sent u.client a e.epoch how is) (map-sent (abort_to l.incarnation a) (other_members e) (λ x. plain-post (abort_to l.incarnation a x) refl refl refl));
  rows = rows-filtered (is_other_row undecided_attempt a) l.memory.undecided of;
}

awaited-step : (t : ℕ) (a : AttemptId) (refusal : Option Outcome) (e : Option Entry) (u : Option Undecided) (l : LeaderOf) → undecided_of a l ≡ u → RowsOfClients l.memory.undecided → StepFollows (answer_if_awaited t a refusal e u l)
awaited-step t a refusal None u l found of = quiet-step l of
awaited-step t a refusal (Some e) None l found of = quiet-step l of
awaited-step t a refusal (Some e) (Some u) l found of = by (is_other_member e t)
  where
    by : (b : Bool) → StepFollows (if b then answer_heard t a refusal e u l else quietly l)
    by true = answer-step t a refusal e u l (λ c is. of u c (row-found a l.memory.undecided u found) is) of
    by false = quiet-step l of

ack-step : (t : ℕ) (a : AttemptId) (inc : ℕ) (refusal : Option Outcome) (l : LeaderOf) → RowsOfClients l.memory.undecided → StepFollows (ack_heard t a inc refusal l)
unfolding ack_heard
ack-step t a inc refusal l of = by (inc == l.incarnation)
  where
    by : (b : Bool) → StepFollows (if b then answer_if_awaited t a refusal (entry_led a l) (undecided_of a l) l else quietly l)
    by true = awaited-step t a refusal (entry_led a l) (undecided_of a l) l refl of
    by false = quiet-step l of

abbrev SentThen : ack.AckStage → Type 0
SentThen ack.Heard = Unit {0}
SentThen (ack.Followed s) = StepFollows s

ack-goes : (p : TargetPlan) (m : TargetMemory) (by-it : ℕ) (a : AttemptId) (inc : ℕ) (refusal : Option Outcome) → WaitersAreClients m → (s : ack.AckStage) (k : Kept) (o : Option Change) (u : ack.AckStage) (l : Kept) → ack.AckNext p m by-it a inc refusal s k o u → Steps o k l
    → SentThen s → SentThen u
ack-goes p m by-it a inc refusal of s k o u l (ack.Aborts k2 is) steps h = ack-step by-it a inc refusal (leader_at p m k.durable) of.rows
ack-goes p m by-it a inc refusal of s k o u l (ack.Counts k2 is) steps h = ack-step by-it a inc refusal (leader_at p m k.durable) of.rows

pub ack-follows : (p : TargetPlan) (m : TargetMemory) (by-it : ℕ) (a : AttemptId) (inc : ℕ) (refusal : Option Outcome) (old new : Kept) (left : TargetMemory × Did) → WaitersAreClients m → Whole (ack.AckNext p m by-it a inc refusal) (ack.AckEnds m) ack.Heard old new left → FollowsFrom left
ack-follows p m by-it a inc refusal old new left of w = ends w.last new left w.ends (reached-keeps (ack.AckNext p m by-it a inc refusal) (λ s k. SentThen s) (ack-goes p m by-it a inc refusal of) ack.Heard old w.last new w.reached tt)
  where
    ends : (s : ack.AckStage) (k : Kept) (o : TargetMemory × Did) → ack.AckEnds m s k o → SentThen s → FollowsFrom o
    ends s k o (ack.IsFollowed k2 step o2 says) h = follows-so m o2 of (as-sent o2.1.posts step.posts (ap (λ z. z.1.posts) says) h.posts) (subst RowsOfClients (sym (ap (λ z. z.0.leader.undecided) says)) h.rows) (ap (λ z. z.0.collecting) says)

-- ---- members

pub unresolved-sent : (a : AttemptId) (ps : List Parked) → AreOfTarget (all_unresolved_told a ps)
unresolved-sent a [] = none-sent
unresolved-sent a (p ∷ ps) = both-sent (unresolved_told a p.ask) (all_unresolved_told a ps) (one p.ask) (unresolved-sent a ps)
  where
    one : (m : Message) → AreOfTarget (unresolved_told a m)
    one (message.Fetch x op group ep first tracker r snapshot) = one-answered _ (client x.client) x op group _ _ refl refl
    one m = none-sent

freed-sent : (p : TargetPlan) (a : AttemptId) (ask : Option AttemptId) (v : Verdict) (m : TargetMemory) → AreOfTarget (verdict_heard a ask v (member_at p m)).freed.posts
unfolding unresolved
freed-sent p a ask verdicts.Committed m = none-sent
freed-sent p a ask verdicts.Aborted m = none-sent
freed-sent p a (Some x) verdicts.Undecided m = unresolved-sent a (filter (is_waiting a x) m.member.parked)
freed-sent p a None verdicts.Undecided m = none-sent

-- what was sent, and who waits, at a stage of a Verdict
abbrev TriedThen : verdict.VerdictStage → Type 0
TriedThen verdict.Heard = Unit {0}
TriedThen (verdict.Freed asks n posts) = AreOfTarget posts × WaitersAreClients n
TriedThen (verdict.Trying q s asks n posts) = AreOfTarget posts × WaitersAreClients n × HasOwn q s

verdict-goes : (is_due : AttemptId → Durable → Bool) (p : TargetPlan) (m : TargetMemory) (reading : ℕ) (a : AttemptId) (ask : Option AttemptId) (v : Verdict) → WaitersAreClients m → (s : verdict.VerdictStage) (k : Kept) (o : Option Change) (u : verdict.VerdictStage) (l : Kept)
    → verdict.VerdictNext is_due p m reading a ask v s k o u → Steps o k l → TriedThen s → TriedThen u
verdict-goes is_due p m reading a ask v of s k o u l (verdict.SettlesBy k2 o2 says) steps h = (freed-sent p a ask v m, record { rows = of.rows; collecting = of.collecting })
verdict-goes is_due p m reading a ask v of s k o u l (verdict.TriesNext k2 n posts rest x op group ep first tracker rd snapshot) steps h = (h.0, h.1, tt)
verdict-goes is_due p m reading a ask v of s k o u l (verdict.GoesOn k2 n posts rest q f g o2 next) steps h = (h.0, h.1, own-goes p n reading q f g k2 o2 next h.2)
verdict-goes is_due p m reading a ask v of s k o u l (verdict.IsDone k2 n posts rest q f left ends) steps h =
    let leaves = fetch-leaves p n reading q (client q.attempt.client) f k2 left h.2 ends in (
      both-sent posts left.1.posts h.0 (fetch-sent q (client q.attempt.client) n left refl leaves),
      (follows-so n left h.1 (fetch-sent q (client q.attempt.client) n left refl leaves) (fetch-rows q (client q.attempt.client) n left leaves h.1.rows) (fetch-collects p n reading q (client q.attempt.client) f k2 left ends)).waiters,
    )

verdict-follows : (is_due : AttemptId → Durable → Bool) (p : TargetPlan) (m : TargetMemory) (reading : ℕ) (a : AttemptId) (ask : Option AttemptId) (v : Verdict) (old new : Kept) (left : TargetMemory × Did) → WaitersAreClients m
    → Whole (verdict.VerdictNext is_due p m reading a ask v) verdict.VerdictEnds verdict.Heard old new left → FollowsFrom left
verdict-follows is_due p m reading a ask v old new left of w =
    ends w.last new left w.ends (reached-keeps (verdict.VerdictNext is_due p m reading a ask v) (λ s k. TriedThen s) (verdict-goes is_due p m reading a ask v of) verdict.Heard old w.last new w.reached tt)
  where
    ends : (s : verdict.VerdictStage) (k : Kept) (o : TargetMemory × Did) → verdict.VerdictEnds s k o → TriedThen s → FollowsFrom o
    ends s k o (verdict.AllTried k2 n posts o2 says) h = record { posts = as-sent o2.1.posts posts (ap (λ z. z.1.posts) says) h.0; waiters = subst WaitersAreClients (sym (ap (λ z. z.0) says)) h.1 }

-- ---- what is told of attempts leaves who waits

told-waiters : (ids : List AttemptId) (m : TargetMemory) → WaitersAreClients m → WaitersAreClients (told_of_all ids m)
told-waiters [] m of = of
told-waiters (a ∷ ids) m of = told-waiters ids (told_of a m) (record { rows = rows-filtered (is_other_row undecided_attempt a) m.leader.undecided of.rows; collecting = of.collecting })

told-by_waiters : (v : Verdict) (x : AttemptId) (m : TargetMemory) → WaitersAreClients m → WaitersAreClients (told_by v x m)
told-by_waiters verdicts.Committed x m of = told-waiters (x ∷ []) m of
told-by_waiters verdicts.Aborted x m of = told-waiters (x ∷ []) m of
told-by_waiters verdicts.Undecided x m of = of

-- ---- what is heard as without stops

pub hears-follows : (t : TargetPlan) (opening : Epoch × FloorWhy) (m : TargetMemory) (reading : ℕ) (from : ActorId) (q : Message) (old new : Kept) (left : TargetMemory × Did) → WaitersAreClients m → (is_request q ≡ true → from.client ≡ true)
    → Hears t opening m reading from q old new left → FollowsFrom left
hears-follows t opening m reading from (message.Fetch x op group ep first tracker r snapshot) old new left of asks h =
    let q = fetch_request x op group ep first tracker r snapshot in
    let leaves = fetch-leaves t m reading q from h.last new left (reached-keeps (read.FetchNext t m reading q) (λ s k. HasOwn q s) (λ s k o u l next steps own. own-goes t m reading q s u k o next own) read.Asked old h.last new h.reached tt) h.ends in
    follows-so m left of (fetch-sent q from m left (asks refl) leaves) (fetch-rows q from m left leaves of.rows) (fetch-collects t m reading q from h.last new left h.ends)
hears-follows t opening m reading from (message.Commit x ep first tracker ws) old new left of asks h =
    let q = commit_request x ep first tracker ws in
    follows-so m left of (commit-sent t opening m reading q from h.last new left (asks refl) h.ends) (commit-rows q from m left (asks refl) (commit-leaves t opening m reading q from h.last new left h.ends) of.rows) (commit-collects t opening m reading q from h.last new left h.ends)
hears-follows t opening m reading from (message.Prepare e first ws inc) old new left of asks h = prepare-follows t opening m (prepare_request e first ws inc) h.last new left of h.ends
hears-follows t opening m reading from (message.Ack x inc refusal) old new left of asks h = ack-follows t m from.number x inc refusal old new left of h
hears-follows t opening m reading from (message.Mark inc marks) old new left of asks h = ends h.last left h.ends
  where
    ends : (s : List (AttemptId × Bool)) (o : TargetMemory × Did) → MarkEnds (told_of_all (attempts_of marks) m) from inc marks s new o → FollowsFrom o
    ends s o (AllMarked k2 o2 says) = record { posts = one-sent o2.1.posts _ (ap (λ z. z.1.posts) says) refl refl refl; waiters = subst WaitersAreClients (sym (ap (λ z. z.0) says)) (told-waiters (attempts_of marks) m of) }
hears-follows t opening m reading from (message.Marked inc ids) old new left of asks h = ends h.last left h.ends
  where
    ends : (s : List AttemptId) (o : TargetMemory × Did) → ack.MarkedEnds t m from.number inc ids s new o → FollowsFrom o
    ends s o (ack.AllConfirmed k2 o2 says) =
        follows-same m o2 of (as-sent o2.1.posts [] (ap (λ z. z.1.posts) says) none-sent) (ap (λ z. z.0.leader.undecided) says ∙ marked-is from.number inc ids (leader_at t m k2.durable)) (ap (λ z. z.0.collecting) says)
hears-follows t opening m reading from (message.Query x ask) old new left of asks h = ends h.last left h.ends
  where
    ends : (s : verdict.QueryStage) (o : TargetMemory × Did) → verdict.QueryEnds t m from x ask s new o → FollowsFrom o
    ends s o (verdict.IsTold k2 o2 says) = follows-same m o2 of (one-sent o2.1.posts _ (ap (λ z. z.1.posts) says) refl refl refl) (ap (λ z. z.0.leader.undecided) says) (ap (λ z. z.0.collecting) says)
hears-follows t opening m reading from (message.Verdict x ask inc v) old new left of asks h = verdict-follows is_prepared t (told_by v x m) reading x ask v old new left (told-by_waiters v x m of) h
hears-follows t opening m reading from q old new left of asks h = absurd h

-- ---- idle work

marks-sent : (inc down : ℕ) (named : List Naming) (es : List Entry) (ts : List ℕ) → AreOfTarget (marks_for inc down named es ts)
marks-sent inc down named es [] = none-sent
marks-sent inc down named es (t ∷ ts) = both-sent (mark_with inc t (owed down named es t)) (marks_for inc down named es ts) (one (owed down named es t)) (marks-sent inc down named es ts)
  where
    one : (ids : List AttemptId) → AreOfTarget (mark_with inc t ids)
    one ids = by (is_empty ids)
      where
        by : (b : Bool) → AreOfTarget (if b then [] else to_target t (message.Mark inc (map commit_mark ids)) ∷ [])
        by true = none-sent
        by false = one-sent _ _ refl refl refl refl

idle-sent : (settling : Bool) (p : TargetPlan) (m : TargetMemory) (d : Durable) → AreOfTarget (idle_told settling p m d).posts
unfolding batched inquired
idle-sent settling p m d = both-sent (batch_of p m d).posts (inquiry_of settling p m d).freed.posts (marks-sent d.incarnation m.leader.down m.leader.named (leader_at p (with_unsettled [] m) d).entries all_targets) (asks settling)
  where
    asks : (b : Bool) → AreOfTarget (inquiry_of b p m d).freed.posts
    asks false = none-sent
    asks true = map-sent inquiry_for (to_inquire d.entries (member_at p m)) (λ x. plain-post (inquiry_for x) refl refl refl)

idle-rows : (settling : Bool) (p : TargetPlan) (m : TargetMemory) (d : Durable) → (idle_memory settling p m d).leader.undecided ≡ m.leader.undecided
unfolding batched
idle-rows settling p m d = refl

pub idles-follows : (settling : Bool) (p : TargetPlan) (m : TargetMemory) (old new : Kept) (left : TargetMemory × Did) → WaitersAreClients m → IdlesWhole settling p m old new left → FollowsFrom left
idles-follows settling p m old new left of w = ends w.last left w.ends
  where
    ends : (s : List AttemptId) (o : TargetMemory × Did) → IdleEnds settling p m s new o → FollowsFrom o
    ends s o (AllSettled k2 o2 says) = follows-same m o2 of (as-sent o2.1.posts _ (ap (λ z. z.1.posts) says) (idle-sent settling p m k2.durable)) (ap (λ z. z.0.leader.undecided) says ∙ idle-rows settling p m k2.durable) (ap (λ z. z.0.collecting) says)
