-- What a target sends in a turn: only a Commit makes it send Prepares, only a Query a Verdict, and only idle work asks of itself.
use Rattle.std.specs.Prelude.{ℕ, ◌≡◌, ◌==◌, Bool, true, false, filter, map, List, [], ◌∷◌, ◌++◌, Option, Some, None, refl, if◌then◌else◌}
use Rattle.std.proofs.Common.{sym, subst, inl, inr}
use Rattle.base_types.specs.declared.entry.Entry.{Entry}
use Rattle.base_types.specs.declared.entry.Verdict.{Verdict}
use Rattle.base_types.specs.declared.entry.Verdict.TheVariants as verdict
use Rattle.base_types.specs.declared.epoch.Epoch.{Epoch}
use Rattle.base_types.specs.declared.id.AttemptId.{AttemptId}
use Rattle.base_types.specs.declared.operation.MinorWrite.{MinorWrite}
use Rattle.base_types.specs.declared.outcome.FloorWhy.{FloorWhy}
use Rattle.base_types.specs.declared.outcome.Outcome.{Outcome}
use Rattle.base_types.specs.declared.outcome.Outcome.TheVariants as outcome
use Rattle.model_laws.specs.Members.{Has, has-cases, has-from_map}
use Rattle.base_messages.specs.declared.actor.ActorId.{ActorId}
use Rattle.base_messages.specs.declared.message.Message.{Message}
use Rattle.base_messages.specs.declared.message.Message.TheVariants as message
use Rattle.base_messages.specs.declared.message.Post.{Post}
use Rattle.dtx_base.specs.declared.leading.Undecided.{Undecided}
use Rattle.dtx_base.specs.declared.member.Parked.{Parked}
use Rattle.dtx_base.specs.Joining.{MemberOf, all_unresolved_told, is_waiting, unresolved, unresolved_told, verdict_heard}
use Rattle.dtx_base.specs.Leading.{LeaderOf, abort_to, ack_heard, answer_heard, answer_if_awaited, begun, begun_alone, begun_with_others, decided, ended, entry_led, ok_heard, prepare_to, quietly, undecided_of, with_undecided, counted_at}
use Rattle.dtx_base.specs.Members.{are_all_counted, is_other_member, other_members, with_target}
use Rattle.dtx_base.specs.Rows.{is_empty}
use Rattle.world_base.specs.declared.did.Did.{Did}
use Rattle.world_base.specs.declared.request.CommitRequest.{CommitRequest}
use Rattle.world_base.specs.declared.request.FetchRequest.{FetchRequest}
use Rattle.world_base.specs.declared.request.PrepareRequest.{PrepareRequest}
use Rattle.world_base.specs.declared.target.TargetMemory.{TargetMemory}
use Rattle.world_base.specs.declared.target.TargetPlan.{TargetPlan}
use Rattle.world_base.specs.Acks as ack
use Rattle.world_base.specs.Changes.{Change, Kept, Steps}
use Rattle.world_base.specs.Commits as commit
use Rattle.world_base.specs.Marks as mark
use Rattle.world_base.specs.PathLaws.{reached-keeps}
use Rattle.world_base.specs.Prepares as prepare
use Rattle.world_base.specs.Reads as read
use Rattle.world_base.specs.RightTurns.{HearsRightly}
use Rattle.world_base.specs.Roles.{is_in_doubt, leader_at, member_at}
use Rattle.world_base.specs.TargetTurns.{commit_request, fetch_request, prepare_request}
use Rattle.world_base.specs.Turns.{Whole}
use Rattle.world_base.specs.VerdictLaws.{verdict-keeps}
use Rattle.world_base.specs.Verdicts as verdicts

-- ---- the statement

-- a message is a Commit of an attempt
abbrev pub IsCommitOf : AttemptId → Message → Type 0
IsCommitOf x (message.Commit y ep first tracker ws) = x ≡ y
IsCommitOf x q = ⊥

-- a target that hears one message from an actor may send another message to one
abbrev pub MaySend : ActorId → Message → ActorId → Message → Type 0
MaySend from q to (message.Prepare e first ws inc) = IsCommitOf e.attempt q
MaySend from q to (message.Query x None) = ⊥
MaySend from q to (message.Verdict x ask inc v) = (q ≡ message.Query x ask) × (to ≡ from)
MaySend from q to (message.Reset' t down place asked) = ⊥
MaySend from q to m = Unit {0}

abbrev pub SendsFor : ActorId → Message → List Post → Type 0
SendsFor from q posts = (p : Post) → Has p posts → MaySend from q p.to p.message

pub both-sent : (sender : ActorId) (q : Message) (xs ys : List Post) → SendsFor sender q xs → SendsFor sender q ys → SendsFor sender q (xs ++ ys)
both-sent sender q xs ys k l p i = elim (has-cases xs ys p i) [ inl j ↦ k p j | inr j ↦ l p j ]

pub one-sent : (sender : ActorId) (q : Message) (p : Post) → MaySend sender q p.to p.message → SendsFor sender q (p ∷ [])
one-sent sender q p k x (inl same) = subst (λ z. MaySend sender q z.to z.message) (sym same) k
one-sent sender q p k x (inr none) = absurd none

pub each-sent : {T : Type 0} (sender : ActorId) (q : Message) (f : T → Post) (xs : List T) → ((x : T) → MaySend sender q (f x).to (f x).message) → SendsFor sender q (map f xs)
each-sent sender q f xs k p i = let x = has-from_map f xs p i in subst (λ z. MaySend sender q z.to z.message) x.2 (k x.0)

-- ---- a Fetch

fetch-sends : (sender : ActorId) (said : Message) (t : TargetPlan) (m : TargetMemory) (reading : ℕ) (q : FetchRequest) (from : ActorId) (s : read.FetchStage) (k : Kept) (left : TargetMemory × Did)
    → read.FetchEnds t m reading q from s k left → SendsFor sender said left.1.posts
fetch-sends sender said t m reading q from s k left (read.IsSpent j z live none is) = subst (λ x. SendsFor sender said x.1.posts) (sym is) (one-sent sender said _ tt)
fetch-sends sender said t m reading q from s k left (read.IsRefused j e decided c z why is) = subst (λ x. SendsFor sender said x.1.posts) (sym is) (one-sent sender said _ tt)
fetch-sends sender said t m reading q from s k left (read.MeetsUnresolved j e decided a z none unsettled other own is) = subst (λ x. SendsFor sender said x.1.posts) (sym is) (one-sent sender said _ tt)
fetch-sends sender said t m reading q from s k left (read.IsParked j e decided a leader z none unsettled other is) = subst (λ x. SendsFor sender said x.1.posts) (sym is) (one-sent sender said _ tt)
fetch-sends sender said t m reading q from s k left (read.IsServed j e decided b z none ok is) = subst (λ x. SendsFor sender said x.1.posts) (sym is) (one-sent sender said _ tt)

-- ---- a Commit

pub ended-sent : (sender : ActorId) (said : Message) (client : Option ActorId) (a : AttemptId) (e : Epoch) (how : Outcome) → SendsFor sender said (ended client a e how)
ended-sent sender said None a e how p i = absurd i
ended-sent sender said (Some c) a e how p i = one-sent sender said _ tt p i

begun-sends : (sender : ActorId) (said : Message) (e : Entry) (first : Option Epoch) (client : ActorId) (ws : List MinorWrite) (l : LeaderOf) → IsCommitOf e.attempt said → SendsFor sender said (begun e first client ws l).posts
unfolding begun
begun-sends sender said e first client ws l is = by (is_empty (other_members e))
  where
    by : (s : Bool) → SendsFor sender said (if s then begun_alone e client l else begun_with_others e first client ws l).posts
    by true = ended-sent sender said (Some client) e.attempt e.epoch outcome.Committed
    by false = each-sent sender said (prepare_to l.targets l.incarnation e first ws) (other_members e) (λ t. is)

commit-sends : (sender : ActorId) (said : Message) (t : TargetPlan) (opening : Epoch × FloorWhy) (m : TargetMemory) (reading : ℕ) (q : CommitRequest) (from : ActorId) (s : commit.CommitStage) (k : Kept) (left : TargetMemory × Did)
    → IsCommitOf q.attempt said → commit.CommitEnds t opening m reading q from s k left → SendsFor sender said left.1.posts
commit-sends sender said t opening m reading q from s k left it (commit.IsSpent j z none is) = subst (λ x. SendsFor sender said x.1.posts) (sym is) (one-sent sender said _ tt)
commit-sends sender said t opening m reading q from s k left it (commit.IsRefused j e c z why is) = subst (λ x. SendsFor sender said x.1.posts) (sym is) (one-sent sender said _ tt)
commit-sends sender said t opening m reading q from s k left it (commit.HasNoSpace j e z allowed full is) = subst (λ x. SendsFor sender said x.1.posts) (sym is) (one-sent sender said _ tt)
commit-sends sender said t opening m reading q from s k left it (commit.HasBegun j e z is) =
    subst (λ x. SendsFor sender said x.1.posts) (sym is) (begun-sends sender said (commit.led_entry t q e) q.first from q.writes (leader_at t m k.durable) it)

-- ---- what targets hear of each other

prepare-sends : (sender : ActorId) (said : Message) (t : TargetPlan) (opening : Epoch × FloorWhy) (m : TargetMemory) (q : PrepareRequest) (s : prepare.PrepareStage) (k : Kept) (left : TargetMemory × Did)
    → prepare.PrepareEnds t opening m q s k left → SendsFor sender said left.1.posts
prepare-sends sender said t opening m q s k left (prepare.IsRefused j c z why is) = subst (λ x. SendsFor sender said x.1.posts) (sym is) (one-sent sender said _ tt)
prepare-sends sender said t opening m q s k left (prepare.HasNoSpace j z allowed full is) = subst (λ x. SendsFor sender said x.1.posts) (sym is) (one-sent sender said _ tt)
prepare-sends sender said t opening m q s k left (prepare.IsPrepared j z is) = subst (λ x. SendsFor sender said x.1.posts) (sym is) (one-sent sender said _ tt)

ok-sends : (sender : ActorId) (said : Message) (t : ℕ) (a : AttemptId) (e : Entry) (u : Undecided) (l : LeaderOf) → SendsFor sender said (ok_heard t a e u l).posts
ok-sends sender said t a e u l = by (are_all_counted e (with_target u.counted t))
  where
    by : (s : Bool) → SendsFor sender said (if s then record { leader = decided a l; posts = ended u.client a e.epoch outcome.Committed } else quietly (with_undecided (map (counted_at a t) l.memory.undecided) l)).posts
    by true p i = ended-sent sender said u.client a e.epoch outcome.Committed p i
    by false p i = absurd i

answer-sends : (sender : ActorId) (said : Message) (t : ℕ) (a : AttemptId) (refusal : Option Outcome) (e : Entry) (u : Undecided) (l : LeaderOf) → SendsFor sender said (answer_heard t a refusal e u l).posts
answer-sends sender said t a None e u l = ok-sends sender said t a e u l
answer-sends sender said t a (Some how) e u l =
    both-sent sender said (ended u.client a e.epoch how) (map (abort_to l.incarnation a) (other_members e)) (ended-sent sender said u.client a e.epoch how) (each-sent sender said (abort_to l.incarnation a) (other_members e) (λ n. tt))

awaited-sends : (sender : ActorId) (said : Message) (t : ℕ) (a : AttemptId) (refusal : Option Outcome) (e : Option Entry) (u : Option Undecided) (l : LeaderOf) → SendsFor sender said (answer_if_awaited t a refusal e u l).posts
awaited-sends sender said t a refusal None u l p i = absurd i
awaited-sends sender said t a refusal (Some e) None l p i = absurd i
awaited-sends sender said t a refusal (Some e) (Some u) l p i = by (is_other_member e t) p i
  where
    by : (s : Bool) → SendsFor sender said (if s then answer_heard t a refusal e u l else quietly l).posts
    by true p i = answer-sends sender said t a refusal e u l p i
    by false p i = absurd i

ack-heard-sends : (sender : ActorId) (said : Message) (t : ℕ) (a : AttemptId) (inc : ℕ) (refusal : Option Outcome) (l : LeaderOf) → SendsFor sender said (ack_heard t a inc refusal l).posts
unfolding ack_heard
ack-heard-sends sender said t a inc refusal l = by (inc == l.incarnation)
  where
    by : (s : Bool) → SendsFor sender said (if s then answer_if_awaited t a refusal (entry_led a l) (undecided_of a l) l else quietly l).posts
    by true p i = awaited-sends sender said t a refusal (entry_led a l) (undecided_of a l) l p i
    by false p i = absurd i

abbrev AckStands : ActorId → Message → ack.AckStage → Kept → Type 0
AckStands sender said ack.Heard k = Unit {0}
AckStands sender said (ack.Followed s) k = SendsFor sender said s.posts

ack-step : (sender : ActorId) (said : Message) (t : TargetPlan) (m : TargetMemory) (member : ℕ) (a : AttemptId) (inc : ℕ) (refusal : Option Outcome) (s : ack.AckStage) (k : Kept) (o : Option Change) (u : ack.AckStage) (l : Kept)
    → ack.AckNext t m member a inc refusal s k o u → Steps o k l → AckStands sender said s k → AckStands sender said u l
ack-step sender said t m member a inc refusal s k o u l (ack.Aborts j is) steps h = ack-heard-sends sender said member a inc refusal (leader_at t m k.durable)
ack-step sender said t m member a inc refusal s k o u l (ack.Counts j is) steps h = ack-heard-sends sender said member a inc refusal (leader_at t m k.durable)

ack-ends : (sender : ActorId) (said : Message) (m : TargetMemory) (s : ack.AckStage) (k : Kept) (left : TargetMemory × Did) → AckStands sender said s k → ack.AckEnds m s k left → SendsFor sender said left.1.posts
ack-ends sender said m s k left stands (ack.IsFollowed j step z is) = subst (λ x. SendsFor sender said x.1.posts) (sym is) stands

-- whatever a leader hears as an Ack
pub acks-send : (sender : ActorId) (said : Message) (t : TargetPlan) (m : TargetMemory) (member : ℕ) (a : AttemptId) (inc : ℕ) (refusal : Option Outcome) (old new : Kept) (left : TargetMemory × Did) → Whole (ack.AckNext t m member a inc refusal) (ack.AckEnds m) ack.Heard old new left
    → SendsFor sender said left.1.posts
acks-send sender said t m member a inc refusal old new left h =
    ack-ends sender said m h.last new left (reached-keeps (ack.AckNext t m member a inc refusal) (AckStands sender said) (ack-step sender said t m member a inc refusal) ack.Heard old h.last new h.reached tt) h.ends

marked-ends : (sender : ActorId) (said : Message) (t : TargetPlan) (m : TargetMemory) (member inc : ℕ) (ids s : List AttemptId) (k : Kept) (left : TargetMemory × Did) → ack.MarkedEnds t m member inc ids s k left → SendsFor sender said left.1.posts
marked-ends sender said t m member inc ids s k left (ack.AllConfirmed j z is) p i = let none : Has p [] = subst (λ x. Has p x.1.posts) is i in absurd none

mark-ends : (sender : ActorId) (said : Message) (m : TargetMemory) (from : ActorId) (inc : ℕ) (marks s : List (AttemptId × Bool)) (k : Kept) (left : TargetMemory × Did) → mark.MarkEnds m from inc marks s k left → SendsFor sender said left.1.posts
mark-ends sender said m from inc marks s k left (mark.AllMarked j z is) = subst (λ x. SendsFor sender said x.1.posts) (sym is) (one-sent sender said _ tt)

query-ends : (t : TargetPlan) (m : TargetMemory) (from : ActorId) (a : AttemptId) (ask : Option AttemptId) (s : verdicts.QueryStage) (k : Kept) (left : TargetMemory × Did)
    → verdicts.QueryEnds t m from a ask s k left → SendsFor from (message.Query a ask) left.1.posts
query-ends t m from a ask s k left (verdicts.IsTold j z is) = subst (λ x. SendsFor from (message.Query a ask) x.1.posts) (sym is) (one-sent from (message.Query a ask) _ (refl, refl))

-- ---- a Verdict

told-sent : (sender : ActorId) (said : Message) (a : AttemptId) (q : Message) → SendsFor sender said (unresolved_told a q)
told-sent sender said a (message.Fetch x op group ep first tracker r snapshot) p i = one-sent sender said _ tt p i
told-sent sender said a q p i = absurd i

pub all-told-sent : (sender : ActorId) (said : Message) (a : AttemptId) (ps : List Parked) → SendsFor sender said (all_unresolved_told a ps)
all-told-sent sender said a [] p i = absurd i
all-told-sent sender said a (q ∷ ps) p i = both-sent sender said (unresolved_told a q.ask) (all_unresolved_told a ps) (told-sent sender said a q.ask) (all-told-sent sender said a ps) p i

freed-sent : (sender : ActorId) (said : Message) (a : AttemptId) (ask : Option AttemptId) (v : Verdict) (s : MemberOf) → SendsFor sender said (verdict_heard a ask v s).freed.posts
unfolding unresolved
freed-sent sender said a ask verdict.Committed s p i = absurd i
freed-sent sender said a ask verdict.Aborted s p i = absurd i
freed-sent sender said a (Some x) verdict.Undecided s p i = all-told-sent sender said a (filter (is_waiting a x) s.memory.parked) p i
freed-sent sender said a None verdict.Undecided s p i = absurd i

verdict-sends : (sender : ActorId) (said : Message) (t : TargetPlan) (m : TargetMemory) (reading : ℕ) (a : AttemptId) (ask : Option AttemptId) (v : Verdict) (old new : Kept) (left : TargetMemory × Did)
    → Whole (verdicts.VerdictNext (is_in_doubt t.me) t m reading a ask v) verdicts.VerdictEnds verdicts.Heard old new left → SendsFor sender said left.1.posts
verdict-sends sender said t m reading a ask v old new left w =
    (verdict-keeps (is_in_doubt t.me) t m reading a ask v old (λ asks n posts k. SendsFor sender said posts) (λ k steps. freed-sent sender said a ask v (member_at t m))
    (λ q rest n posts k l z h y. both-sent sender said posts z.1.posts h (fetch-sends sender said t n reading q (verdicts.fetcher q) y.last l z y.ends)) new left w).0

-- ---- every turn that hears a message

pub hears-sends : (t : TargetPlan) (opening : Epoch × FloorWhy) (m : TargetMemory) (reading : ℕ) (from : ActorId) (q : Message) (old new : Kept) (left : TargetMemory × Did)
    → HearsRightly t opening m reading from q old new left → SendsFor from q left.1.posts
hears-sends t opening m reading from (message.Fetch x op group ep first tracker r snapshot) old new left h p i =
    fetch-sends from (message.Fetch x op group ep first tracker r snapshot) t m reading (fetch_request x op group ep first tracker r snapshot) from h.last new left h.ends p i
hears-sends t opening m reading from (message.Commit x ep first tracker ws) old new left h p i =
    commit-sends from (message.Commit x ep first tracker ws) t opening m reading (commit_request x ep first tracker ws) from h.last new left refl h.ends p i
hears-sends t opening m reading from (message.Prepare e first ws inc) old new left h p i = prepare-sends from (message.Prepare e first ws inc) t opening m (prepare_request e first ws inc) h.last new left h.ends p i
hears-sends t opening m reading from (message.Ack x inc refusal) old new left h p i = acks-send from (message.Ack x inc refusal) t m from.number x inc refusal old new left h p i
hears-sends t opening m reading from (message.Mark inc marks) old new left h p i = mark-ends from (message.Mark inc marks) m from inc marks h.last new left h.ends p i
hears-sends t opening m reading from (message.Marked inc ids) old new left h p i = marked-ends from (message.Marked inc ids) t m from.number inc ids h.last new left h.ends p i
hears-sends t opening m reading from (message.Query x ask) old new left h p i = query-ends t m from x ask h.last new left h.ends p i
hears-sends t opening m reading from (message.Verdict x ask inc v) old new left h p i = verdict-sends from (message.Verdict x ask inc v) t m reading x ask v old new left h p i
hears-sends t opening m reading from q old new left h p i = absurd h
