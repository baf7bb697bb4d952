-- A target asks no other one for a read or what became of an attempt, as clients do, and sends no Reset.
use Rattle.std.specs.Prelude.{ℕ, ◌≡◌, ◌==◌, ◌++◌, Bool, true, false, List, [], ◌∷◌, map, filter, Option, Some, None, refl, if◌then◌else◌}
use Rattle.std.proofs.Common.{sym, ◌∙◌, ap, subst, inl, inr}
use Rattle.base_types.specs.declared.entry.Entry.{Entry}
use Rattle.base_types.specs.declared.entry.Verdict.{Verdict}
use Rattle.base_types.specs.declared.entry.Verdict.TheVariants as verdict
use Rattle.base_types.specs.declared.epoch.Epoch.{Epoch}
use Rattle.base_types.specs.declared.id.AttemptId.{AttemptId}
use Rattle.base_types.specs.declared.operation.MinorWrite.{MinorWrite}
use Rattle.base_types.specs.declared.outcome.FloorWhy.{FloorWhy}
use Rattle.base_types.specs.declared.outcome.Outcome.{Outcome}
use Rattle.base_types.specs.declared.outcome.Outcome.TheVariants.{Committed}
use Rattle.model_laws.specs.Members.{Has, has-cases, has-from_map}
use Rattle.base_messages.specs.declared.actor.ActorId.{ActorId}
use Rattle.base_messages.specs.declared.message.Message.{Message}
use Rattle.base_messages.specs.declared.message.Message.TheVariants as message
use Rattle.base_messages.specs.declared.message.Post.{Post}
use Rattle.dtx_base.specs.declared.leading.Naming.{Naming}
use Rattle.dtx_base.specs.declared.leading.Undecided.{Undecided}
use Rattle.dtx_base.specs.declared.member.Parked.{Parked}
use Rattle.dtx_base.specs.Joining as member
use Rattle.dtx_base.specs.Leading as leading
use Rattle.dtx_base.specs.Members.{all_targets, are_all_counted, is_other_member, other_members, with_target}
use Rattle.dtx_base.specs.Rows.{is_empty}
use Rattle.world_commit.specs.statuses.Senders.{IsSentRightly}
use Rattle.world_base.specs.declared.did.Did.{Did}
use Rattle.world_base.specs.declared.request.CommitRequest.{CommitRequest}
use Rattle.world_base.specs.declared.request.FetchRequest.{FetchRequest}
use Rattle.world_base.specs.declared.request.PrepareRequest.{PrepareRequest}
use Rattle.world_base.specs.declared.target.TargetMemory.{TargetMemory}
use Rattle.world_base.specs.declared.target.TargetPlan.{TargetPlan}
use Rattle.daos_model.specs.declared.durable.Durable.{Durable}
use Rattle.world_base.specs.Acks as ack
use Rattle.world_base.specs.Changes.{Change, Kept, Steps}
use Rattle.world_base.specs.Commits as commit
use Rattle.world_base.specs.Idle as idle
use Rattle.world_base.specs.Marks as mark
use Rattle.world_base.specs.PathLaws.{reached-keeps}
use Rattle.world_base.specs.Prepares as prepare
use Rattle.world_base.specs.Reads as read
use Rattle.world_base.specs.Roles.{is_prepared, leader_at, member_at, told_by, told_of_all, with_unsettled}
use Rattle.world_base.specs.TargetTurns.{Hears, IdlesWhole, commit_request, fetch_request, prepare_request}
use Rattle.world_base.specs.Turns.{Whole}
use Rattle.world_base.specs.VerdictLaws.{Tries, verdict-keeps}
use Rattle.world_base.specs.Verdicts as judged

-- a message that clients send alone, and one that the fabric sends alone, aren't a target's
abbrev pub is_of_target : Message → Bool
is_of_target (message.Fetch x op group ep first tracker r snapshot) = false
is_of_target (message.Ask x) = false
is_of_target (message.Reset' t down place more) = false
is_of_target m = true

abbrev pub AreOfTarget : List Post → Type 0
AreOfTarget posts = (p : Post) → Has p posts → is_of_target p.message ≡ true

pub of-rightly : (from : ActorId) (m : Message) → is_of_target m ≡ true → IsSentRightly from m
of-rightly from (message.Fetch x op group ep first tracker r snapshot) is = let no : ⊥ = cc in absurd no
of-rightly from (message.Ask x) is = let no : ⊥ = cc in absurd no
of-rightly from (message.Reset' t down place more) is = let no : ⊥ = cc in absurd no
of-rightly from m is = tt

-- ---- parts

pub none-of : AreOfTarget []
none-of p i = absurd i

pub one-of : (to : ActorId) (m : Message) → is_of_target m ≡ true → AreOfTarget (record { to = to; message = m } ∷ [])
one-of to m is p (inl same) = ap (λ q. is_of_target q.message) same ∙ is
one-of to m is p (inr none) = absurd none

pub both-of : (ps qs : List Post) → AreOfTarget ps → AreOfTarget qs → AreOfTarget (ps ++ qs)
both-of ps qs k n p i = elim (has-cases ps qs p i) [ inl j ↦ k p j | inr j ↦ n p j ]

pub map-of : {T : Type 0} (f : T → Post) (xs : List T) → ((x : T) → is_of_target (f x).message ≡ true) → AreOfTarget (map f xs)
map-of f xs each p i = let y = has-from_map f xs p i in subst (λ q. is_of_target q.message ≡ true) y.2 (each y.0)

pub ended-of : (o : Option ActorId) (x : AttemptId) (own : Epoch) (how : Outcome) → AreOfTarget (leading.ended o x own how)
ended-of None x own how = none-of
ended-of (Some c) x own how = one-of c (message.Ended x (Some own) how) refl

-- ---- turns as without stops

fetch-of : (t : TargetPlan) (m : TargetMemory) (reading : ℕ) (q : FetchRequest) (from : ActorId) (s : read.FetchStage) (k : Kept) (left : TargetMemory × Did) → read.FetchEnds t m reading q from s k left → AreOfTarget left.1.posts
fetch-of t m reading q from s k left (read.IsSpent k2 left2 snap none is) = subst (λ i. AreOfTarget i.1.posts) (sym is) (one-of from _ refl)
fetch-of t m reading q from s k left (read.IsRefused k2 e decided c left2 why is) = subst (λ i. AreOfTarget i.1.posts) (sym is) (one-of from _ refl)
fetch-of t m reading q from s k left (read.MeetsUnresolved k2 e decided a left2 free unsettled apart none is) = subst (λ i. AreOfTarget i.1.posts) (sym is) (one-of from _ refl)
fetch-of t m reading q from s k left (read.IsParked k2 e decided a leader left2 free unsettled led is) = subst (λ i. AreOfTarget i.1.posts) (sym is) (one-of (record { client = false; number = leader }) _ refl)
fetch-of t m reading q from s k left (read.IsServed k2 e decided b left2 free served is) = subst (λ i. AreOfTarget i.1.posts) (sym is) (one-of from _ refl)

begun-of : (e : Entry) (first : Option Epoch) (from : ActorId) (ws : List MinorWrite) (l : leading.LeaderOf) → AreOfTarget (leading.begun e first from ws l).posts
unfolding leading.begun
begun-of e first from ws l = by (is_empty (other_members e))
  where
    by : (b : Bool) → AreOfTarget (if b then leading.begun_alone e from l else leading.begun_with_others e first from ws l).posts
    by true = one-of from _ refl
    by false = map-of (leading.prepare_to l.targets l.incarnation e first ws) (other_members e) (λ n. refl)

commit-of : (t : TargetPlan) (opening : Epoch × FloorWhy) (m : TargetMemory) (reading : ℕ) (q : CommitRequest) (from : ActorId) (s : commit.CommitStage) (k : Kept) (left : TargetMemory × Did) → commit.CommitEnds t opening m reading q from s k left → AreOfTarget left.1.posts
commit-of t opening m reading q from s k left (commit.IsSpent k2 left2 none is) = subst (λ i. AreOfTarget i.1.posts) (sym is) (one-of from _ refl)
commit-of t opening m reading q from s k left (commit.IsRefused k2 e c left2 why is) = subst (λ i. AreOfTarget i.1.posts) (sym is) (one-of from _ refl)
commit-of t opening m reading q from s k left (commit.HasNoSpace k2 e left2 allowed full is) = subst (λ i. AreOfTarget i.1.posts) (sym is) (one-of from _ refl)
commit-of t opening m reading q from s k left (commit.HasBegun k2 e left2 is) = subst (λ i. AreOfTarget i.1.posts) (sym is) (begun-of (commit.led_entry t q e) q.first from q.writes (leader_at t m k2.durable))

prepare-of : (t : TargetPlan) (opening : Epoch × FloorWhy) (m : TargetMemory) (q : PrepareRequest) (s : prepare.PrepareStage) (k : Kept) (left : TargetMemory × Did) → prepare.PrepareEnds t opening m q s k left → AreOfTarget left.1.posts
prepare-of t opening m q s k left (prepare.IsRefused k2 c left2 why is) = subst (λ i. AreOfTarget i.1.posts) (sym is) (one-of (record { client = false; number = q.entry.leader }) _ refl)
prepare-of t opening m q s k left (prepare.HasNoSpace k2 left2 allowed full is) = subst (λ i. AreOfTarget i.1.posts) (sym is) (one-of (record { client = false; number = q.entry.leader }) _ refl)
prepare-of t opening m q s k left (prepare.IsPrepared k2 left2 is) = subst (λ i. AreOfTarget i.1.posts) (sym is) (one-of (record { client = false; number = q.entry.leader }) _ refl)

heard-of : (t : ℕ) (a : AttemptId) (inc : ℕ) (refusal : Option Outcome) (l : leading.LeaderOf) → AreOfTarget (leading.ack_heard t a inc refusal l).posts
unfolding leading.ack_heard
heard-of t a inc refusal l = present (inc == l.incarnation)
  where
    counts : (b : Bool) (e : Entry) (u : Undecided) → AreOfTarget (if b then record { leader = leading.decided a l; posts = leading.ended u.client a e.epoch Committed } else leading.quietly (leading.with_undecided (map (leading.counted_at a t) l.memory.undecided) l)).posts
    counts true e u = ended-of u.client a e.epoch Committed
    counts false e u = none-of

    says : (o : Option Outcome) (e : Entry) (u : Undecided) → AreOfTarget (leading.answer_heard t a o e u l).posts
    says None e u = counts (are_all_counted e (with_target u.counted t)) e u
    says (Some how) e u = both-of (leading.ended u.client a e.epoch how) (map (leading.abort_to l.incarnation a) (other_members e)) (ended-of u.client a e.epoch how) (map-of (leading.abort_to l.incarnation a) (other_members e) (λ n. refl))

    other : (b : Bool) (e : Entry) (u : Undecided) → AreOfTarget (if b then leading.answer_heard t a refusal e u l else leading.quietly l).posts
    other true e u = says refusal e u
    other false e u = none-of

    awaited : (o : Option Entry) (n : Option Undecided) → AreOfTarget (leading.answer_if_awaited t a refusal o n l).posts
    awaited None n = none-of
    awaited (Some e) None = none-of
    awaited (Some e) (Some u) = other (is_other_member e t) e u

    present : (b : Bool) → AreOfTarget (if b then leading.answer_if_awaited t a refusal (leading.entry_led a l) (leading.undecided_of a l) l else leading.quietly l).posts
    present true = awaited (leading.entry_led a l) (leading.undecided_of a l)
    present false = none-of

module _ (t : TargetPlan) (m : TargetMemory) (from : ℕ) (a : AttemptId) (inc : ℕ) (refusal : Option Outcome) where
  abbrev Follows : ack.AckStage → Kept → Type 0
  Follows ack.Heard k = Unit {0}
  Follows (ack.Followed st) k = AreOfTarget st.posts

  follows : (s : ack.AckStage) (k : Kept) (o : Option Change) (n : ack.AckStage) (l : Kept) → ack.AckNext t m from a inc refusal s k o n → Steps o k l → Follows s k → Follows n l
  follows s k o n l (ack.Aborts k2 on) steps p = heard-of from a inc refusal (leader_at t m k2.durable)
  follows s k o n l (ack.Counts k2 off) steps p = heard-of from a inc refusal (leader_at t m k2.durable)

  answer-ends : (s : ack.AckStage) (k : Kept) (left : TargetMemory × Did) → ack.AckEnds m s k left → Follows s k → AreOfTarget left.1.posts
  answer-ends s k left (ack.IsFollowed k2 st left2 is) p = subst (λ i. AreOfTarget i.1.posts) (sym is) p

  pub answer-of : (old new : Kept) (left : TargetMemory × Did) → Whole (ack.AckNext t m from a inc refusal) (ack.AckEnds m) ack.Heard old new left → AreOfTarget left.1.posts
  answer-of old new left w = answer-ends w.last new left w.ends (reached-keeps (ack.AckNext t m from a inc refusal) Follows follows ack.Heard old w.last new w.reached tt)

mark-of : (m : TargetMemory) (from : ActorId) (inc : ℕ) (marks s : List (AttemptId × Bool)) (k : Kept) (left : TargetMemory × Did) → mark.MarkEnds m from inc marks s k left → AreOfTarget left.1.posts
mark-of m from inc marks s k left (mark.AllMarked k2 left2 is) = subst (λ i. AreOfTarget i.1.posts) (sym is) (one-of from _ refl)

marked-of : (t : TargetPlan) (m : TargetMemory) (from inc : ℕ) (ids s : List AttemptId) (k : Kept) (left : TargetMemory × Did) → ack.MarkedEnds t m from inc ids s k left → AreOfTarget left.1.posts
marked-of t m from inc ids s k left (ack.AllConfirmed k2 left2 is) = subst (λ i. AreOfTarget i.1.posts) (sym is) none-of

query-of : (t : TargetPlan) (m : TargetMemory) (from : ActorId) (a : AttemptId) (ask : Option AttemptId) (s : judged.QueryStage) (k : Kept) (left : TargetMemory × Did) → judged.QueryEnds t m from a ask s k left → AreOfTarget left.1.posts
query-of t m from a ask s k left (judged.IsTold k2 left2 is) = subst (λ i. AreOfTarget i.1.posts) (sym is) (one-of from _ refl)

told-of : (a : AttemptId) (m : Message) → AreOfTarget (member.unresolved_told a m)
told-of a (message.Fetch x op group ep first tracker r snapshot) = one-of (record { client = true; number = x.client }) _ refl
told-of a m = none-of

all-told : (a : AttemptId) (ps : List Parked) → AreOfTarget (member.all_unresolved_told a ps)
all-told a [] = none-of
all-told a (q ∷ ps) = both-of (member.unresolved_told a q.ask) (member.all_unresolved_told a ps) (told-of a q.ask) (all-told a ps)

pub freed-of : (a : AttemptId) (ask : Option AttemptId) (c : Verdict) (j : member.MemberOf) → AreOfTarget (member.verdict_heard a ask c j).freed.posts
unfolding member.unresolved
freed-of a ask verdict.Committed j = none-of
freed-of a ask verdict.Aborted j = none-of
freed-of a None verdict.Undecided j = none-of
freed-of a (Some x) verdict.Undecided j = all-told a (filter (member.is_waiting a x) j.memory.parked)

verdict-of : (is_due : AttemptId → Durable → Bool) (t : TargetPlan) (m : TargetMemory) (reading : ℕ) (a : AttemptId) (ask : Option AttemptId) (c : Verdict) (old new : Kept) (left : TargetMemory × Did)
    → Whole (judged.VerdictNext is_due t m reading a ask c) judged.VerdictEnds judged.Heard old new left → AreOfTarget left.1.posts
verdict-of is_due t m reading a ask c old new left w = (verdict-keeps is_due t m reading a ask c old (λ asks n posts k. AreOfTarget posts) (λ k steps. freed-of a ask c (member_at t m)) goes new left w).0
  where
    goes : (q : FetchRequest) (rest : List Message) (n : TargetMemory) (posts : List Post) (k l : Kept) (left : TargetMemory × Did) → AreOfTarget posts → Tries t reading n q k l left → AreOfTarget (posts ++ left.1.posts)
    goes q rest n posts k l left p tries = both-of posts left.1.posts p (fetch-of t n reading q (judged.fetcher q) tries.last l left tries.ends)

-- a target hears a message
pub hears-of : (t : TargetPlan) (opening : Epoch × FloorWhy) (m : TargetMemory) (reading : ℕ) (from : ActorId) (n : Message) (old new : Kept) (left : TargetMemory × Did) → Hears t opening m reading from n old new left → AreOfTarget left.1.posts
hears-of t opening m reading from (message.Fetch x op group ep first tracker r snapshot) old new left w = fetch-of t m reading (fetch_request x op group ep first tracker r snapshot) from w.last new left w.ends
hears-of t opening m reading from (message.Commit x ep first tracker ws) old new left w = commit-of t opening m reading (commit_request x ep first tracker ws) from w.last new left w.ends
hears-of t opening m reading from (message.Prepare e first ws inc) old new left w = prepare-of t opening m (prepare_request e first ws inc) w.last new left w.ends
hears-of t opening m reading from (message.Ack x inc refusal) old new left w = answer-of t m from.number x inc refusal old new left w
hears-of t opening m reading from (message.Mark inc marks) old new left w = mark-of (told_of_all (leading.attempts_of marks) m) from inc marks w.last new left w.ends
hears-of t opening m reading from (message.Marked inc ids) old new left w = marked-of t m from.number inc ids w.last new left w.ends
hears-of t opening m reading from (message.Query x ask) old new left w = query-of t m from x ask w.last new left w.ends
hears-of t opening m reading from (message.Verdict x ask inc v) old new left w = verdict-of is_prepared t (told_by v x m) reading x ask v old new left w
hears-of t opening m reading from n old new left w = absurd w

-- ---- idle work

marks-of : (inc down : ℕ) (named : List Naming) (es : List Entry) (ts : List ℕ) → AreOfTarget (leading.marks_for inc down named es ts)
marks-of inc down named es [] = none-of
marks-of inc down named es (t ∷ ts) = both-of (leading.mark_with inc t (leading.owed down named es t)) (leading.marks_for inc down named es ts) (by (leading.owed down named es t) (is_empty (leading.owed down named es t))) (marks-of inc down named es ts)
  where
    by : (ids : List AttemptId) (b : Bool) → AreOfTarget (if b then [] else leading.to_target t (message.Mark inc (map leading.commit_mark ids)) ∷ [])
    by ids true = none-of
    by ids false = one-of (record { client = false; number = t }) _ refl

batch-of : (l : leading.LeaderOf) → AreOfTarget (leading.batched l).posts
unfolding leading.batched
batch-of l = marks-of l.incarnation l.memory.down l.memory.named l.entries all_targets

inquired-of : (es : List Entry) (j : member.MemberOf) → AreOfTarget (member.inquired es j).freed.posts
unfolding member.inquired
inquired-of es j = map-of member.inquiry_for (member.to_inquire es j) (λ e. refl)

pub idles-of : (settling : Bool) (t : TargetPlan) (m : TargetMemory) (old new : Kept) (left : TargetMemory × Did) → IdlesWhole settling t m old new left → AreOfTarget left.1.posts
idles-of settling t m old new left w = by w.last new left w.ends
  where
    asks : (b : Bool) (d : Durable) → AreOfTarget (idle.inquiry_of b t m d).freed.posts
    asks true d = inquired-of d.entries (member_at t m)
    asks false d = none-of

    by : (s : List AttemptId) (k : Kept) (left : TargetMemory × Did) → idle.IdleEnds settling t m s k left → AreOfTarget left.1.posts
    by s k left (idle.AllSettled k2 left2 is) =
        subst (λ i. AreOfTarget i.1.posts) (sym is)
        (both-of (idle.batch_of t m k2.durable).posts (idle.inquiry_of settling t m k2.durable).freed.posts (batch-of (leader_at t (with_unsettled [] m) k2.durable)) (asks settling k2.durable))
