-- What a target tells in a turn as without stops, but for what it reads, and for an Ack: nothing of it tells of a stop.
use Rattle.std.specs.Prelude.{ℕ, ◌≡◌, ◌++◌, ◌&&◌, nat_le, Bool, true, false, List, [], ◌∷◌, map, Option, Some, None, refl, if◌then◌else◌}
use Rattle.std.proofs.Common.{sym, ◌∙◌, ap, subst, inl, inr}
use Rattle.base_types.specs.declared.entry.Entry.{Entry}
use Rattle.base_types.specs.declared.epoch.Epoch.{Epoch}
use Rattle.base_types.specs.declared.id.AttemptId.{AttemptId}
use Rattle.base_types.specs.declared.operation.MinorWrite.{MinorWrite}
use Rattle.base_types.specs.declared.outcome.Cause.{Cause}
use Rattle.base_types.specs.declared.outcome.Cause.TheVariants as cause
use Rattle.base_types.specs.declared.outcome.FloorWhy.{FloorWhy}
use Rattle.base_types.specs.declared.outcome.Outcome.TheVariants as outcome
use Rattle.base_types.specs.declared.shown.Shown.{Shown}
use Rattle.base_types.specs.Operations.{write_path}
use Rattle.base_messages.specs.declared.actor.ActorId.{ActorId}
use Rattle.base_messages.specs.declared.message.Message.{Message}
use Rattle.base_messages.specs.declared.message.Message.TheVariants as message
use Rattle.base_messages.specs.declared.message.Post.{Post}
use Rattle.daos_model.specs.Attempts.{is_lost, is_unresolved_by}
use Rattle.daos_model.specs.Durables.{same_attempt}
use Rattle.daos_model.specs.declared.durable.Durable.{Durable}
use Rattle.dtx_base.specs.declared.leading.Naming.{Naming}
use Rattle.dtx_base.specs.Joining as member
use Rattle.dtx_base.specs.Leading.{LeaderOf, batched, begun, begun_alone, begun_with_others, mark_with, marks_for, owed, prepare_to}
use Rattle.dtx_base.specs.Members.{all_targets, other_members}
use Rattle.dtx_base.specs.Rows.{is_empty}
use Rattle.model_laws.specs.Members.{Has, has-cases, has-from_map}
use Rattle.world_base.specs.vos_stamp.Stamps.{floor_cause}
use Rattle.vos_store.specs.Answers.{floor_of}
use Rattle.world_base.specs.declared.did.Did.{Did}
use Rattle.world_base.specs.declared.request.CommitRequest.{CommitRequest}
use Rattle.world_base.specs.declared.request.PrepareRequest.{PrepareRequest}
use Rattle.world_base.specs.declared.target.TargetMemory.{TargetMemory}
use Rattle.world_base.specs.declared.target.TargetPlan.{TargetPlan}
use Rattle.world_base.specs.Acks as ack
use Rattle.world_base.specs.Changes.{Kept}
use Rattle.world_base.specs.Commits as commit
use Rattle.world_base.specs.Further.{CommitDown, IsSpent, IsUnknown}
use Rattle.world_base.specs.Idle.{AllSettled, IdleEnds, batch_of, inquiry_of}
use Rattle.world_base.specs.Marks.{AllMarked, MarkEnds}
use Rattle.world_base.specs.Prepares as prepare
use Rattle.world_base.specs.Roles.{leader_at}
use Rattle.world_base.specs.Verdicts as verdict
use Rattle.world_causes.specs.losses.Hearing.{TellsAsTold}
use Rattle.world_causes.specs.losses.Losses.{tells_stop}
use Rattle.world_causes.specs.losses.Resets.{unknown-quiet}

-- ---- what tells of no stop

abbrev pub IsMute : Message → Type 0
IsMute m = (x : AttemptId) → tells_stop x m ≡ false

-- no message of these does
abbrev pub TellNone : List Post → Type 0
TellNone posts = (q : Post) (x : AttemptId) → Has q posts → tells_stop x q.message ≡ true → ⊥

pub none-tell : TellNone []
none-tell q x i is = absurd i

pub one-tells : (p : Post) → IsMute p.message → TellNone (p ∷ [])
one-tells p mute q x (inl same) is = let bad : false ≡ true = sym (mute x) ∙ ap (λ y. tells_stop x y.message) (sym same) ∙ is in let no : ⊥ = cc in no
one-tells p mute q x (inr none) is = absurd none

pub both-none : (ps qs : List Post) → TellNone ps → TellNone qs → TellNone (ps ++ qs)
both-none ps qs k n q x i is = elim (has-cases ps qs q i) [ inl j ↦ k q x j is | inr j ↦ n q x j is ]

pub all-none : {T : Type 0} (f : T → Post) (ts : List T) → ((t : T) → IsMute (f t).message) → TellNone (map f ts)
all-none f ts mute q x i is = let z = has-from_map f ts q i in one-tells (f z.0) (mute z.0) q x (inl (sym z.2)) is

pub as-told : (m : Message) (posts : List Post) → TellNone posts → TellsAsTold m posts
as-told m posts none q x i is = absurd (none q x i is)

-- ---- causes

-- one that isn't an attempt in the way
abbrev pub IsNoAttempt : Cause → Type 0
IsNoAttempt c = (x : AttemptId) → is_unresolved_by x c ≡ false

pub some-cause : (c d : Cause) → IsNoAttempt c → Some c ≡ Some d → IsNoAttempt d
some-cause c d none same = let one : c ≡ d = cc in subst IsNoAttempt one none

pub floor-none : (target e : ℕ) (floor : Epoch × FloorWhy) (c : Cause) → floor_cause target e floor ≡ Some c → IsNoAttempt c
floor-none target e floor c is = by (nat_le e floor.0.0) is
  where
    by : (b : Bool) → (if b then Some (cause.Floor target floor.0 floor.1) else None) ≡ Some c → IsNoAttempt c
    by true same = some-cause (cause.Floor target floor.0 floor.1) c (λ x. refl) same
    by false same = let no : ⊥ = cc in absurd no

first-floor-none : (t : TargetPlan) (opening : Epoch × FloorWhy) (e : Epoch) (d : Durable) (ws : List MinorWrite) (c : Cause) → commit.first_floor t opening e d ws ≡ Some c → IsNoAttempt c
unfolding commit.first_floor
first-floor-none t opening e d [] c is = let no : ⊥ = cc in absurd no
first-floor-none t opening e d (w ∷ ws) c is = by (first-floor-none t opening e d ws c) (floor_cause t.me e.0 (floor_of opening d (write_path w.write).cont)) refl is
  where
    by : (commit.first_floor t opening e d ws ≡ Some c → IsNoAttempt c) → (o : Option Cause) → floor_cause t.me e.0 (floor_of opening d (write_path w.write).cont) ≡ o → commit.or_else o (commit.first_floor t opening e d ws) ≡ Some c → IsNoAttempt c
    by rest None at same = rest same
    by rest (Some f) at same = floor-none t.me e.0 (floor_of opening d (write_path w.write).cont) c (at ∙ same)

pub refused-none : (t : TargetPlan) (opening : Epoch × FloorWhy) (first : Option Epoch) (e : Epoch) (d : Durable) (stamps : List Shown) (ws : List MinorWrite) (c : Cause) → commit.IsRefusedBy t opening first e d stamps ws c → IsNoAttempt c
refused-none t opening first e d stamps ws c (commit.ByFloor is) = first-floor-none t opening e d ws c is
refused-none t opening first e d stamps ws c (commit.ByRead floors z shown same) = subst IsNoAttempt (sym same) (λ x. refl)
refused-none t opening first e d stamps ws c (commit.ByWrite floors reads z later same) = subst IsNoAttempt (sym same) (λ x. refl)

-- so no attempt that ends by it is unresolved by itself
pub restart-mute : (a : AttemptId) (c : Cause) → IsNoAttempt c → (x : AttemptId) → (same_attempt a x && is_lost x (outcome.Restart c)) ≡ false
restart-mute a c none x = ap (λ b. same_attempt a x && b) (none x) ∙ unknown-quiet a x

-- ---- a Commit

prepares-none : (targets inc : ℕ) (e : Entry) (first : Option Epoch) (ws : List MinorWrite) (ts : List ℕ) → TellNone (map (prepare_to targets inc e first ws) ts)
prepares-none targets inc e first ws ts = all-none (prepare_to targets inc e first ws) ts (λ t x. refl)

begun-none : (e : Entry) (first : Option Epoch) (client : ActorId) (ws : List MinorWrite) (l : LeaderOf) → TellNone (begun e first client ws l).posts
unfolding begun
begun-none e first client ws l = by (is_empty (other_members e))
  where
    by : (b : Bool) → TellNone (if b then begun_alone e client l else begun_with_others e first client ws l).posts
    by true = one-tells (record { to = client; message = message.Ended e.attempt (Some e.epoch) outcome.Committed }) (λ x. unknown-quiet e.attempt x)
    by false = prepares-none l.targets l.incarnation e first ws (other_members e)

-- what some posts are, they tell
pub told-as : (ps qs : List Post) → ps ≡ qs → TellNone qs → TellNone ps
told-as ps qs same none = subst TellNone (sym same) none

pub commit-none : (t : TargetPlan) (opening : Epoch × FloorWhy) (m : TargetMemory) (reading : ℕ) (q : CommitRequest) (from : ActorId) (s : commit.CommitStage) (k : Kept) (left : TargetMemory × Did) → commit.CommitEnds t opening m reading q from s k left → TellNone left.1.posts × (left.1.lines ≡ [])
commit-none t opening m reading q from s k left (commit.IsSpent k2 left2 none says) = (told-as left2.1.posts _ (ap (λ i. i.1.posts) says) (one-tells _ (λ x. unknown-quiet q.attempt x)), ap (λ i. i.1.lines) says)
commit-none t opening m reading q from s k left (commit.IsRefused k2 e c left2 why says) =
    (told-as left2.1.posts _ (ap (λ i. i.1.posts) says) (one-tells _ (restart-mute q.attempt c (refused-none t opening q.first e k2.durable m.stamps (commit.own_writes t q.writes) c why))), ap (λ i. i.1.lines) says)
commit-none t opening m reading q from s k left (commit.HasNoSpace k2 e left2 allowed full says) = (told-as left2.1.posts _ (ap (λ i. i.1.posts) says) (one-tells _ (λ x. unknown-quiet q.attempt x)), ap (λ i. i.1.lines) says)
commit-none t opening m reading q from s k left (commit.HasBegun k2 e left2 says) =
    (told-as left2.1.posts _ (ap (λ i. i.1.posts) says) (begun-none (commit.led_entry t q e) q.first from q.writes (leader_at t m k2.durable)), ap (λ i. i.1.lines) says)

pub commit-down-none : (t : TargetPlan) (m : TargetMemory) (reading : ℕ) (q : CommitRequest) (from : ActorId) (s : commit.CommitStage) (k : Kept) (left : TargetMemory × Did) → CommitDown t m reading q from s k left → TellNone left.1.posts × (left.1.lines ≡ [])
commit-down-none t m reading q from s k left (IsSpent k2 e down left2 none is says) = (told-as left2.1.posts _ (ap (λ i. i.1.posts) says) (one-tells _ (λ x. unknown-quiet q.attempt x)), ap (λ i. i.1.lines) says)
commit-down-none t m reading q from s k left (IsUnknown k2 e down left2 is says) = (told-as left2.1.posts _ (ap (λ i. i.1.posts) says) (one-tells _ (λ x. unknown-quiet q.attempt x)), ap (λ i. i.1.lines) says)

-- ---- a Prepare

pub prepare-none : (t : TargetPlan) (opening : Epoch × FloorWhy) (m : TargetMemory) (q : PrepareRequest) (s : prepare.PrepareStage) (k : Kept) (left : TargetMemory × Did) → prepare.PrepareEnds t opening m q s k left → TellNone left.1.posts × (left.1.lines ≡ [])
prepare-none t opening m q s k left (prepare.IsRefused k2 c left2 why says) =
    (told-as left2.1.posts _ (ap (λ i. i.1.posts) says) (one-tells _ (restart-mute q.entry.attempt c (refused-none t opening q.first q.entry.epoch k2.durable m.stamps q.writes c why))), ap (λ i. i.1.lines) says)
prepare-none t opening m q s k left (prepare.HasNoSpace k2 left2 allowed full says) = (told-as left2.1.posts _ (ap (λ i. i.1.posts) says) (one-tells _ (λ x. unknown-quiet q.entry.attempt x)), ap (λ i. i.1.lines) says)
prepare-none t opening m q s k left (prepare.IsPrepared k2 left2 says) = (told-as left2.1.posts _ (ap (λ i. i.1.posts) says) (one-tells _ (λ x. refl)), ap (λ i. i.1.lines) says)

-- ---- a Mark, a Marked and a Query

pub mark-none : (m : TargetMemory) (from : ActorId) (inc : ℕ) (marks rest : List (AttemptId × Bool)) (k : Kept) (left : TargetMemory × Did) → MarkEnds m from inc marks rest k left → TellNone left.1.posts × (left.1.lines ≡ [])
mark-none m from inc marks rest k left (AllMarked k2 left2 says) = (told-as left2.1.posts _ (ap (λ i. i.1.posts) says) (one-tells _ (λ x. refl)), ap (λ i. i.1.lines) says)

pub marked-none : (t : TargetPlan) (m : TargetMemory) (member inc : ℕ) (ids rest : List AttemptId) (k : Kept) (left : TargetMemory × Did) → ack.MarkedEnds t m member inc ids rest k left → TellNone left.1.posts × (left.1.lines ≡ [])
marked-none t m member inc ids rest k left (ack.AllConfirmed k2 left2 says) = (told-as left2.1.posts [] (ap (λ i. i.1.posts) says) none-tell, ap (λ i. i.1.lines) says)

pub query-none : (t : TargetPlan) (m : TargetMemory) (from : ActorId) (a : AttemptId) (ask : Option AttemptId) (s : verdict.QueryStage) (k : Kept) (left : TargetMemory × Did) → verdict.QueryEnds t m from a ask s k left → TellNone left.1.posts × (left.1.lines ≡ [])
query-none t m from a ask s k left (verdict.IsTold k2 left2 says) = (told-as left2.1.posts _ (ap (λ i. i.1.posts) says) (one-tells _ (λ x. refl)), ap (λ i. i.1.lines) says)

-- ---- idle work

mark-with-none : (inc t : ℕ) (ids : List AttemptId) → TellNone (mark_with inc t ids)
mark-with-none inc t ids = by (is_empty ids)
  where
    by : (b : Bool) → TellNone (if b then [] else record { to = record { client = false; number = t }; message = message.Mark inc (map (λ a. (a, true)) ids) } ∷ [])
    by true = none-tell
    by false = one-tells _ (λ x. refl)

marks-none : (inc down : ℕ) (named : List Naming) (es : List Entry) (ts : List ℕ) → TellNone (marks_for inc down named es ts)
marks-none inc down named es [] = none-tell
marks-none inc down named es (t ∷ ts) = both-none (mark_with inc t (owed down named es t)) (marks_for inc down named es ts) (mark-with-none inc t (owed down named es t)) (marks-none inc down named es ts)

batched-none : (l : LeaderOf) → TellNone (batched l).posts
unfolding batched
batched-none l = marks-none l.incarnation l.memory.down l.memory.named l.entries all_targets

inquiry-none : (settling : Bool) (t : TargetPlan) (m : TargetMemory) (d : Durable) → TellNone (inquiry_of settling t m d).freed.posts
unfolding member.inquired
inquiry-none false t m d = none-tell
inquiry-none true t m d = all-none member.inquiry_for _ (λ e x. refl)

pub idle-none : (settling : Bool) (t : TargetPlan) (m : TargetMemory) (rest : List AttemptId) (k : Kept) (left : TargetMemory × Did) → IdleEnds settling t m rest k left → TellNone left.1.posts × (left.1.lines ≡ [])
idle-none settling t m rest k left (AllSettled k2 left2 says) = (
  told-as left2.1.posts _ (ap (λ i. i.1.posts) says) (both-none (batch_of t m k2.durable).posts (inquiry_of settling t m k2.durable).freed.posts (batched-none _) (inquiry-none settling t m k2.durable)),
  ap (λ i. i.1.lines) says,
)
