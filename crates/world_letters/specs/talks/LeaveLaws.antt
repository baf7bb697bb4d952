-- What each turn of a target sends, and leaves of what waits there and is undecided there.
use Rattle.std.specs.Prelude.{ℕ, ◌≡◌, ◌++◌, ◌==◌, Bool, true, false, List, [], ◌∷◌, map, Option, Some, None, if◌then◌else◌, refl}
use Rattle.std.proofs.Common.{sym, ◌∙◌, ap, subst, inl, inr}
use Rattle.base_types.specs.declared.entry.Entry.{Entry}
use Rattle.base_types.specs.declared.epoch.Epoch.{Epoch}
use Rattle.base_types.specs.declared.id.AttemptId.{AttemptId}
use Rattle.base_types.specs.declared.operation.MinorWrite.{MinorWrite}
use Rattle.base_types.specs.declared.outcome.Cause.TheVariants as cause
use Rattle.base_types.specs.declared.outcome.FloorWhy.{FloorWhy}
use Rattle.base_types.specs.declared.outcome.Outcome.{Outcome}
use Rattle.base_types.specs.declared.outcome.Outcome.TheVariants as outcome
use Rattle.world_base.specs.model_laws.Members.{Has, has-from_map}
use Rattle.base_messages.specs.declared.actor.ActorId.{ActorId}
use Rattle.base_messages.specs.declared.message.Message.TheVariants as message
use Rattle.base_messages.specs.declared.message.Post.{Post}
use Rattle.base_messages.specs.declared.message.Reply.{Reply}
use Rattle.base_messages.specs.declared.message.Reply.TheVariants as reply
use Rattle.daos_model.specs.Durables.{same_attempt}
use Rattle.world_base.specs.dtx_base.declared.leading.Undecided.{Undecided}
use Rattle.world_base.specs.dtx_base.Joining as member
use Rattle.world_base.specs.dtx_base.Leading.{LeaderOf, LeaderStep, abort_to, ack_heard, answer_heard, answer_if_awaited, begun, begun_alone, begun_with_others, counted_at, decided, ended, entry_led, marked_heard, new_undecided, ok_heard, prepare_to, quietly, undecided_attempt, undecided_of, with_undecided}
use Rattle.world_base.specs.dtx_base.Members.{are_all_counted, is_other_member, other_members, with_target}
use Rattle.world_base.specs.dtx_base.Rows.{is_empty, with_row, without_row}
use Rattle.world_base.specs.declared.did.Did.{Did}
use Rattle.world_base.specs.declared.request.CommitRequest.{CommitRequest}
use Rattle.world_base.specs.declared.request.FetchRequest.{FetchRequest}
use Rattle.world_base.specs.declared.request.PrepareRequest.{PrepareRequest}
use Rattle.world_base.specs.declared.target.TargetMemory.{TargetMemory}
use Rattle.world_base.specs.declared.target.TargetPlan.{TargetPlan}
use Rattle.world_letters.specs.talks.Conversation.{is_request, open_at}
use Rattle.world_base.specs.Changes.{Change, Kept}
use Rattle.world_base.specs.Commits as commit
use Rattle.world_base.specs.Prepares as prepare
use Rattle.world_base.specs.Reads as read
use Rattle.world_base.specs.Requests.{request_epoch, with_ticks}
use Rattle.world_base.specs.Roles.{leader_at}

-- all of these posts go to targets, and none is a request
abbrev pub ToTargets : List Post → Type 0
ToTargets posts = (q : Post) → Has q posts → (q.to.client ≡ false) × (is_request q.message ≡ false)

-- a target knows as before what waits there, and what is undecided there but for who was counted
pub record HoldsOn (m n : TargetMemory) : Type 0 where
  pub parked : n.member.parked ≡ m.member.parked
  pub undecided : (t : ℕ) → map (open_at t) n.leader.undecided ≡ map (open_at t) m.leader.undecided

-- ---- a Fetch

-- It is replied to, and nothing is let go; or it is parked behind the others, with its own epoch where it had one, while a target
-- is asked.
pub data FetchLeaves (q : FetchRequest) (from : ActorId) (m : TargetMemory) (left : TargetMemory × Did) : Type 0 where
  IsReplied : (own : Option Epoch) (b : Reply) → left.1.posts ≡ record { to = from; message = message.Fetched q.attempt q.op q.group own b } ∷ [] → HoldsOn m left.0 → FetchLeaves q from m left
  IsKept : (e : Epoch) (on : AttemptId) (leader : ℕ) → ((o : Epoch) → q.ep ≡ Some o → o ≡ e) → left.1.posts ≡ member.query_for (read.fetch_at q e) on leader
      → left.0.member.parked ≡ m.member.parked ++ record { on = on; leader = leader; ask = read.fetch_at q e } ∷ [] → left.0.leader.undecided ≡ m.leader.undecided → FetchLeaves q from m left

-- the epoch of a stage is the request's own, where it had one
abbrev pub HasOwn : FetchRequest → read.FetchStage → Type 0
HasOwn q read.Asked = Unit {0}
HasOwn q (read.Known e) = (o : Epoch) → q.ep ≡ Some o → o ≡ e
HasOwn q (read.Reading e decided) = (o : Epoch) → q.ep ≡ Some o → o ≡ e

-- each step of a Fetch keeps that
pub own-goes : (t : TargetPlan) (m : TargetMemory) (reading : ℕ) (q : FetchRequest) (s u : read.FetchStage) (k : Kept) (o : Option Change) → read.FetchNext t m reading q s k o u → HasOwn q s → HasOwn q u
own-goes t m reading q s u k o (read.AtSnapshot k2 e snapshot own) h = λ x is. cc (own, is)
own-goes t m reading q s u k o (read.HasEpoch k2 e live own) h = λ x is. let same : Some x ≡ Some e = sym (ap (request_epoch t m reading q.tracker) is) ∙ own in cc (same)
own-goes t m reading q s u k o (read.ExtendsLease k2 e lease low next) h = h
own-goes t m reading q s u k o (read.IsCovered k2 e covered) h = h
own-goes t m reading q s u k o (read.SettlesOwn k2 e decided a free unsettled among) h = h

known-member : (q : FetchRequest) (e : Epoch) (m : TargetMemory) → (read.ticks_known q e m).member ≡ m.member
known-member q e m = by q.snapshot
  where
    by : (b : Bool) → (if b then m else with_ticks e m).member ≡ m.member
    by true = refl
    by false = refl

known-leader : (q : FetchRequest) (e : Epoch) (m : TargetMemory) → (read.ticks_known q e m).leader ≡ m.leader
known-leader q e m = by q.snapshot
  where
    by : (b : Bool) → (if b then m else with_ticks e m).leader ≡ m.leader
    by true = refl
    by false = refl

-- memories that have the same
same-holds : (m n : TargetMemory) → n.member ≡ m.member → n.leader.undecided ≡ m.leader.undecided → HoldsOn m n
same-holds m n member leader = record { parked = ap (λ x. x.parked) member; undecided = λ t. ap (map (open_at t)) leader }

then-holds : (q : FetchRequest) (e : Epoch) (decided : List AttemptId) (m n : TargetMemory) → n.member ≡ (read.memory_then q e decided m).member → n.leader ≡ (read.memory_then q e decided m).leader → HoldsOn m n
then-holds q e decided m n member leader = same-holds m n (member ∙ known-member q e m) (ap (λ x. x.undecided) leader ∙ ap (λ x. x.undecided) (known-leader q e m))

pub fetch-leaves : (t : TargetPlan) (m : TargetMemory) (reading : ℕ) (q : FetchRequest) (from : ActorId) (s : read.FetchStage) (k : Kept) (left : TargetMemory × Did)
    → HasOwn q s → read.FetchEnds t m reading q from s k left → FetchLeaves q from m left
fetch-leaves t m reading q from s k left own (read.IsSpent k2 left2 live none says) =
    IsReplied None (reply.Outcome outcome.EpochsSpent) (ap (λ o. o.1.posts) says) (same-holds m left2.0 (ap (λ o. o.0.member) says) (ap (λ o. o.0.leader.undecided) says))
fetch-leaves t m reading q from s k left own (read.IsRefused k2 e decided c left2 why says) =
    IsReplied (Some e) (reply.Outcome (outcome.Restart c)) (ap (λ o. o.1.posts) says) (then-holds q e decided m left2.0 (ap (λ o. o.0.member) says) (ap (λ o. o.0.leader) says))
fetch-leaves t m reading q from s k left own (read.MeetsUnresolved k2 e decided a left2 free unsettled undecided other says) =
    IsReplied (Some e) (reply.Outcome (outcome.Restart (cause.Unresolved a))) (ap (λ o. o.1.posts) says) (then-holds q e decided m left2.0 (ap (λ o. o.0.member) says) (ap (λ o. o.0.leader) says))
fetch-leaves t m reading q from s k left own (read.IsParked k2 e decided a leader left2 free unsettled other says) =
    IsKept e a leader own (ap (λ o. o.1.posts) says) (ap (λ o. o.0.member.parked) says) (ap (λ o. o.0.leader.undecided) says ∙ ap (λ x. x.undecided) (known-leader q e m))
fetch-leaves t m reading q from s k left own (read.IsServed k2 e decided b left2 free served says) =
    IsReplied (Some e) (reply.Answer b) (ap (λ o. o.1.posts) says) (then-holds q e decided m left2.0 (ap (λ o. o.0.member) says) (ap (λ o. o.0.leader) says))

-- ---- a Commit

-- It is ended, and nothing is let go; or its attempt is undecided from then on, with the client that asked, and only targets are sent
-- anything.
pub data CommitLeaves (q : CommitRequest) (from : ActorId) (m : TargetMemory) (left : TargetMemory × Did) : Type 0 where
  IsEnded : (own : Option Epoch) (how : Outcome) → left.1.posts ≡ record { to = from; message = message.Ended q.attempt own how } ∷ [] → HoldsOn m left.0 → CommitLeaves q from m left
  HasBegun : ToTargets left.1.posts → left.0.member.parked ≡ m.member.parked → left.0.leader.undecided ≡ with_row undecided_attempt (new_undecided q.attempt (Some from)) m.leader.undecided
      → CommitLeaves q from m left

-- how an attempt begins
pub data BegunIs (e : Entry) (client : ActorId) (l : LeaderOf) (s : LeaderStep) : Type 0 where
  Alone : s.posts ≡ record { to = client; message = message.Ended e.attempt (Some e.epoch) outcome.Committed } ∷ [] → s.leader.memory.undecided ≡ l.memory.undecided → BegunIs e client l s
  WithOthers : ToTargets s.posts → s.leader.memory.undecided ≡ with_row undecided_attempt (new_undecided e.attempt (Some client)) l.memory.undecided → BegunIs e client l s

prepares-to_targets : (targets inc : ℕ) (e : Entry) (first : Option Epoch) (ws : List MinorWrite) (ts : List ℕ) → ToTargets (map (prepare_to targets inc e first ws) ts)
prepares-to_targets targets inc e first ws ts q i = let o = has-from_map (prepare_to targets inc e first ws) ts q i in (ap (λ x. x.to.client) (sym o.2), ap (λ x. is_request x.message) (sym o.2))

pub begun-is : (e : Entry) (first : Option Epoch) (client : ActorId) (ws : List MinorWrite) (l : LeaderOf) → BegunIs e client l (begun e first client ws l)
unfolding begun
begun-is e first client ws l = by (is_empty (other_members e))
  where
    by : (b : Bool) → BegunIs e client l (if b then begun_alone e client l else begun_with_others e first client ws l)
    by true = Alone refl refl
    by false = WithOthers (prepares-to_targets l.targets l.incarnation e first ws (other_members e)) refl

pub commit-leaves : (t : TargetPlan) (opening : Epoch × FloorWhy) (m : TargetMemory) (reading : ℕ) (q : CommitRequest) (from : ActorId) (s : commit.CommitStage) (k : Kept) (left : TargetMemory × Did)
    → commit.CommitEnds t opening m reading q from s k left → CommitLeaves q from m left
commit-leaves t opening m reading q from s k left (commit.IsSpent k2 left2 none says) =
    IsEnded None outcome.EpochsSpent (ap (λ o. o.1.posts) says) (same-holds m left2.0 (ap (λ o. o.0.member) says) (ap (λ o. o.0.leader.undecided) says))
commit-leaves t opening m reading q from s k left (commit.IsRefused k2 e c left2 why says) =
    IsEnded (Some e) (outcome.Restart c) (ap (λ o. o.1.posts) says) (same-holds m left2.0 (ap (λ o. o.0.member) says) (ap (λ o. o.0.leader.undecided) says))
commit-leaves t opening m reading q from s k left (commit.HasNoSpace k2 e left2 allowed full says) =
    IsEnded (Some e) (outcome.NoSpace _ _ _) (ap (λ o. o.1.posts) says) (same-holds m left2.0 (ap (λ o. o.0.member) says) (ap (λ o. o.0.leader.undecided) says))
commit-leaves t opening m reading q from s k left (commit.HasBegun k2 e left2 says) = by (begun-is (commit.led_entry t q e) q.first from q.writes (leader_at t m k2.durable))
  where
    by : BegunIs (commit.led_entry t q e) from (leader_at t m k2.durable) (commit.begins_at t m q from e k2.durable) → CommitLeaves q from m left2
    by (Alone posts undecided) = IsEnded (Some e) outcome.Committed (ap (λ o. o.1.posts) says ∙ posts) (same-holds m left2.0 (ap (λ o. o.0.member) says) (ap (λ o. o.0.leader.undecided) says ∙ undecided))
    by (WithOthers targets undecided) = HasBegun (subst ToTargets (sym (ap (λ o. o.1.posts) says)) targets) (ap (λ o. o.0.member.parked) says) (ap (λ o. o.0.leader.undecided) says ∙ undecided)

-- ---- an Ack

-- It sends nothing, and lets go nothing; or an undecided attempt ends: its client is told, if one waits, and others that are sent
-- something are targets.
pub data AckIs (a : AttemptId) (l : LeaderOf) (s : LeaderStep) : Type 0 where
  Stays : s.posts ≡ [] → ((t : ℕ) → map (open_at t) s.leader.memory.undecided ≡ map (open_at t) l.memory.undecided) → AckIs a l s
  Ends : (u : Undecided) (e : Epoch) (how : Outcome) (more : List Post) → undecided_of a l ≡ Some u → s.posts ≡ ended u.client a e how ++ more → ToTargets more
      → s.leader.memory.undecided ≡ without_row undecided_attempt a l.memory.undecided → AckIs a l s

counted-alike : (a : AttemptId) (k : ℕ) (t : ℕ) (us : List Undecided) → map (open_at t) (map (counted_at a k) us) ≡ map (open_at t) us
counted-alike a k t [] = refl
counted-alike a k t (u ∷ us) = by (same_attempt u.attempt a) (counted-alike a k t us)
  where
    by : (b : Bool) → map (open_at t) (map (counted_at a k) us) ≡ map (open_at t) us
        → open_at t (if b then record u { counted = with_target u.counted k } else u) ∷ map (open_at t) (map (counted_at a k) us) ≡ open_at t u ∷ map (open_at t) us
    by true rest = ap (λ xs. open_at t u ∷ xs) rest
    by false rest = ap (λ xs. open_at t u ∷ xs) rest

no-posts : (posts : List Post) → posts ≡ [] → ToTargets posts
no-posts posts none q i = absurd (subst (Has q) none i)

aborts-to_targets : (inc : ℕ) (a : AttemptId) (ts : List ℕ) → ToTargets (map (abort_to inc a) ts)
aborts-to_targets inc a ts q i = let o = has-from_map (abort_to inc a) ts q i in (ap (λ x. x.to.client) (sym o.2), ap (λ x. is_request x.message) (sym o.2))

append-none : (posts : List Post) → posts ≡ posts ++ []
append-none [] = refl
append-none (q ∷ qs) = ap (λ xs. q ∷ xs) (append-none qs)

ok-is : (member : ℕ) (a : AttemptId) (e : Entry) (u : Undecided) (l : LeaderOf) → undecided_of a l ≡ Some u → AckIs a l (ok_heard member a e u l)
ok-is member a e u l is = by (are_all_counted e (with_target u.counted member))
  where
    by : (b : Bool)
        → AckIs a l (if b then record { leader = decided a l; posts = ended u.client a e.epoch outcome.Committed } else quietly (with_undecided (map (counted_at a member) l.memory.undecided) l))
    by true = Ends u e.epoch outcome.Committed [] is (append-none (ended u.client a e.epoch outcome.Committed)) (no-posts [] refl) refl
    by false = Stays refl (λ t. counted-alike a member t l.memory.undecided)

answer-is : (member : ℕ) (a : AttemptId) (refusal : Option Outcome) (e : Entry) (u : Undecided) (l : LeaderOf) → undecided_of a l ≡ Some u → AckIs a l (answer_heard member a refusal e u l)
answer-is member a None e u l is = ok-is member a e u l is
answer-is member a (Some how) e u l is = Ends u e.epoch how (map (abort_to l.incarnation a) (other_members e)) is refl (aborts-to_targets l.incarnation a (other_members e)) refl

awaited-is : (member : ℕ) (a : AttemptId) (refusal : Option Outcome) (e : Option Entry) (u : Option Undecided) (l : LeaderOf) → undecided_of a l ≡ u → AckIs a l (answer_if_awaited member a refusal e u l)
awaited-is member a refusal None u l is = Stays refl (λ t. refl)
awaited-is member a refusal (Some e) None l is = Stays refl (λ t. refl)
awaited-is member a refusal (Some e) (Some u) l is = by (is_other_member e member)
  where
    by : (b : Bool) → AckIs a l (if b then answer_heard member a refusal e u l else quietly l)
    by true = answer-is member a refusal e u l is
    by false = Stays refl (λ t. refl)

pub ack-is : (member : ℕ) (a : AttemptId) (inc : ℕ) (refusal : Option Outcome) (l : LeaderOf) → AckIs a l (ack_heard member a inc refusal l)
unfolding ack_heard
ack-is member a inc refusal l = by (inc == l.incarnation)
  where
    by : (b : Bool) → AckIs a l (if b then answer_if_awaited member a refusal (entry_led a l) (undecided_of a l) l else quietly l)
    by true = awaited-is member a refusal (entry_led a l) (undecided_of a l) l refl
    by false = Stays refl (λ t. refl)

-- ---- what else is heard

-- what a Marked changes isn't what is undecided
pub marked-is : (member inc : ℕ) (ids : List AttemptId) (l : LeaderOf) → (marked_heard member inc ids l).leader.memory.undecided ≡ l.memory.undecided
unfolding marked_heard
marked-is member inc ids l = refl

-- of a Prepare the leader is told
acks-to_target : (q : PrepareRequest) (refusal : Option Outcome) (posts : List Post) → posts ≡ (prepare.acks q refusal).posts → ToTargets posts
acks-to_target q refusal posts says p i = elim (subst (Has p) says i) [ inl same ↦ (ap (λ x. x.to.client) same, ap (λ x. is_request x.message) same) | inr none ↦ absurd none ]

pub prepare-leaves : (t : TargetPlan) (opening : Epoch × FloorWhy) (m : TargetMemory) (q : PrepareRequest) (s : prepare.PrepareStage) (k : Kept) (left : TargetMemory × Did)
    → prepare.PrepareEnds t opening m q s k left → ToTargets left.1.posts × HoldsOn m left.0
prepare-leaves t opening m q s k left (prepare.IsRefused k2 c o why says) =
    (acks-to_target q (Some (outcome.Restart c)) o.1.posts (ap (λ x. x.1.posts) says), same-holds m o.0 (ap (λ x. x.0.member) says) (ap (λ x. x.0.leader.undecided) says))
prepare-leaves t opening m q s k left (prepare.HasNoSpace k2 o allowed full says) =
    (acks-to_target q (Some (outcome.NoSpace _ _ _)) o.1.posts (ap (λ x. x.1.posts) says), same-holds m o.0 (ap (λ x. x.0.member) says) (ap (λ x. x.0.leader.undecided) says))
prepare-leaves t opening m q s k left (prepare.IsPrepared k2 o says) =
    (acks-to_target q None o.1.posts (ap (λ x. x.1.posts) says), same-holds m o.0 (ap (λ x. x.0.member) says) (ap (λ x. x.0.leader.undecided) says))
