-- Every right event keeps how what is in flight ends attempts, and what the lines tell.
use Rattle.std.specs.Prelude.{ℕ, ◌≡◌, ◌⊎◌, ◌++◌, ◌==◌, Bool, true, false, List, [], ◌∷◌, filter, map, Contains, Option, Some, None, refl, if◌then◌else◌}
use Rattle.std.proofs.Common.{sym, ap, subst, inl, inr}
use Rattle.base_types.specs.declared.entry.Entry.{Entry}
use Rattle.base_types.specs.declared.entry.Verdict.{Verdict}
use Rattle.base_types.specs.declared.entry.Verdict.TheVariants as how
use Rattle.base_types.specs.declared.epoch.Epoch.{Epoch}
use Rattle.base_types.specs.declared.id.AttemptId.{AttemptId}
use Rattle.base_types.specs.declared.operation.MinorWrite.{MinorWrite}
use Rattle.base_types.specs.declared.outcome.FloorWhy.{FloorWhy}
use Rattle.base_types.specs.declared.outcome.Outcome.{Outcome}
use Rattle.base_types.specs.declared.outcome.Outcome.TheVariants as outcome
use Rattle.base_messages.specs.declared.actor.ActorId.{ActorId}
use Rattle.base_messages.specs.declared.message.Message.{Message}
use Rattle.base_messages.specs.declared.message.Message.TheVariants as message
use Rattle.base_messages.specs.declared.message.Post.{Post}
use Rattle.world_base.specs.model_laws.Members.{Has, contains-from_has, has-cases, has-from_contains, has-from_map}
use Rattle.daos_model.specs.declared.durable.Durable.{Durable}
use Rattle.world_base.specs.dtx_base.declared.leading.Naming.{Naming}
use Rattle.world_base.specs.dtx_base.declared.leading.Undecided.{Undecided}
use Rattle.world_base.specs.dtx_base.declared.member.Parked.{Parked}
use Rattle.world_base.specs.dtx_base.Joining.{all_unresolved_told, inquired, inquiry_for, is_waiting, to_inquire, unresolved, unresolved_told, verdict_heard}
use Rattle.world_base.specs.dtx_base.Leading.{LeaderOf, abort_to, attempts_of, ack_heard, answer_heard, answer_if_awaited, batched, begun, begun_alone, begun_with_others, commit_mark, counted_at, decided, ended, entry_led, mark_with, marks_for, ok_heard, owed, prepare_to, quietly, to_target, undecided_of, with_undecided}
use Rattle.world_base.specs.dtx_base.Members.{all_targets, are_all_counted, is_other_member, other_members, with_target}
use Rattle.world_base.specs.dtx_base.Rows.{is_empty}
use Rattle.world_letters.specs.clients.Answered.{is_refusal}
use Rattle.world_base.specs.declared.client.ClientPlan.{ClientPlan}
use Rattle.world_base.specs.declared.client.ClientState.{ClientState}
use Rattle.world_base.specs.declared.client.Present.{Present}
use Rattle.world_base.specs.declared.did.Did.{Did}
use Rattle.world_base.specs.declared.letter.Letter.{Letter}
use Rattle.world_base.specs.declared.request.CommitRequest.{CommitRequest}
use Rattle.world_base.specs.declared.request.FetchRequest.{FetchRequest}
use Rattle.world_base.specs.declared.request.PrepareRequest.{PrepareRequest}
use Rattle.world_base.specs.declared.target.TargetMemory.{TargetMemory}
use Rattle.world_base.specs.declared.target.TargetPlan.{TargetPlan}
use Rattle.world_base.specs.ClientTurns.{Move, listed, moved, waits}
use Rattle.world_base.specs.Events.{Rules, client_plan}
use Rattle.world_base.specs.Letters.{client, letter_of, letters_of, target}
use Rattle.world_base.specs.Steps.{KeptByCounting, KeptByMoves}
use Rattle.world_letters.specs.lines.Lines.{Endings, MayEnd, TellsEnd, TellsPlainly, is_member_refusal}
use Rattle.world_letters.specs.talks.AskLaws.{move-is, waiting-rests}
use Rattle.world_letters.specs.talks.Asked.{ARead, ASnapshot, AnAggregation, Asked, Asking, IsMove, ItsWrites, Silent, Telling}
use Rattle.world_base.specs.Acks as ack
use Rattle.world_base.specs.Changes.{Change, Kept, Steps}
use Rattle.world_base.specs.Commits as commit
use Rattle.world_base.specs.Idle.{AllSettled, IdleEnds, batch_of, idle_told, inquiry_of}
use Rattle.world_base.specs.Marks.{AllMarked, MarkEnds}
use Rattle.world_base.specs.PathLaws.{path-keeps}
use Rattle.world_base.specs.Prepares as prepare
use Rattle.world_base.specs.Reads as read
use Rattle.world_base.specs.RightTurns.{HearsRightly}
use Rattle.world_base.specs.Roles.{is_in_doubt, is_prepared, leader_at, member_at, told_by, told_of_all, with_unsettled}
use Rattle.world_base.specs.TargetTurns.{Hears, commit_request, fetch_request, prepare_request}
use Rattle.world_base.specs.Verdicts as verdict

-- ---- what is sent

-- all of these posts end attempts as they may
abbrev pub PostsEnd : List Post → Type 0
PostsEnd posts = (q : Post) → Has q posts → TellsEnd q.message

-- letters that are sent beside others in flight
pub sent-end : (actor : ActorId) (letters : List Letter) (posts : List Post) → ((l : Letter) → Contains letters l → TellsEnd l.message) → PostsEnd posts
    → (l : Letter) → Contains (letters ++ letters_of actor posts) l → TellsEnd l.message
sent-end actor letters posts old new l i = elim (has-cases letters (letters_of actor posts) l (has-from_contains (letters ++ letters_of actor posts) l i)) [
  | inl j ↦ old l (contains-from_has letters l j)
  | inr j ↦ let q = has-from_map (letter_of actor) posts l j in subst (λ x. TellsEnd x.message) q.2 (new q.0 q.1)
]

asked-end : (p : ClientPlan) (k : Epoch) (c : ClientState) (a : Present) (q : Post) → Asked p k c a q → TellsEnd q.message
asked-end p k c a q (ARead ops turns snapshot op r at here asks says) = subst (λ x. TellsEnd x.message) (sym says) tt
asked-end p k c a q (ItsWrites ops turns snapshot w ws at last all says) = subst (λ x. TellsEnd x.message) (sym says) tt
asked-end p k c a q (ASnapshot name cont at says) = subst (λ x. TellsEnd x.message) (sym says) tt
asked-end p k c a q (AnAggregation cont at says) = subst (λ x. TellsEnd x.message) (sym says) tt

-- what a move sends
move-ends : (p : ClientPlan) (c : ClientState) → PostsEnd (listed (moved p c).post)
move-ends p c = by (waits c) refl
  where
    nothing : (m : Move) → m.post ≡ None → PostsEnd (listed m.post)
    nothing m e q i = absurd (subst (λ o. Has q (listed o)) e i)

    one : (m : Move) (s : Post) → m.post ≡ Some s → TellsEnd s.message → PostsEnd (listed m.post)
    one m s e t q i = elim (subst (λ o. Has q (listed o)) e i) [ inl same ↦ subst (λ x. TellsEnd x.message) (sym same) t | inr j ↦ absurd j ]

    is-a : IsMove p c (moved p c) → PostsEnd (listed (moved p c).post)
    is-a (Silent free none) = nothing (moved p c) none
    is-a (Telling n none free says) = one (moved p c) _ says tt
    is-a (Asking a q at asked says state) = one (moved p c) q says (asked-end p c.tracker c a q asked)

    by : (b : Bool) → waits c ≡ b → PostsEnd (listed (moved p c).post)
    by true h = nothing (moved p c) (ap (λ m. m.post) (waiting-rests p c h))
    by false h = is-a (move-is p c h)

pub endings-by-moves : (r : Rules) → KeptByMoves r Endings
endings-by-moves r w n c here k = sent-end (client n) w.messages (listed (moved (client_plan r n) c).post) k (move-ends (client_plan r n) c)

pub endings-by-counting : KeptByCounting Endings
endings-by-counting w n j c here k = k

-- ---- targets

-- all of these posts tell what a target tells in a turn as without stops
abbrev pub PostsTell : List Post → Type 0
PostsTell posts = (q : Post) → Has q posts → TellsPlainly q.message

pub one-post : (did : Did) (q : Post) → did.posts ≡ q ∷ [] → TellsPlainly q.message → PostsTell did.posts
one-post did q e t s i = elim (subst (λ ps. Has s ps) e i) [ inl same ↦ subst (λ x. TellsPlainly x.message) (sym same) t | inr j ↦ absurd j ]

fetch-ends : (t : TargetPlan) (m : TargetMemory) (reading : ℕ) (q : FetchRequest) (from : ActorId) (s : read.FetchStage) (k : Kept) (left : TargetMemory × Did) → read.FetchEnds t m reading q from s k left
    → PostsTell left.1.posts × (left.1.lines ≡ [])
fetch-ends t m reading q from s k left (read.IsSpent k2 left2 live none says) = (one-post left2.1 _ (ap (λ o. o.1.posts) says) refl, ap (λ o. o.1.lines) says)
fetch-ends t m reading q from s k left (read.IsRefused k2 e decided c left2 why says) = (one-post left2.1 _ (ap (λ o. o.1.posts) says) refl, ap (λ o. o.1.lines) says)
fetch-ends t m reading q from s k left (read.MeetsUnresolved k2 e decided a left2 free unsettled undecided other says) = (one-post left2.1 _ (ap (λ o. o.1.posts) says) refl, ap (λ o. o.1.lines) says)
fetch-ends t m reading q from s k left (read.IsParked k2 e decided a leader left2 free unsettled other says) = (one-post left2.1 _ (ap (λ o. o.1.posts) says) tt, ap (λ o. o.1.lines) says)
fetch-ends t m reading q from s k left (read.IsServed k2 e decided b left2 free served says) = (one-post left2.1 _ (ap (λ o. o.1.posts) says) tt, ap (λ o. o.1.lines) says)

pub none-end : PostsTell []
none-end q i = absurd i

pub both-end : (ps qs : List Post) → PostsTell ps → PostsTell qs → PostsTell (ps ++ qs)
both-end ps qs f g q i = elim (has-cases ps qs q i) [ inl j ↦ f q j | inr j ↦ g q j ]

pub these-end : (ps qs : List Post) → qs ≡ ps → PostsTell ps → PostsTell qs
these-end ps qs same = subst PostsTell (sym same)

-- the client that waits is told how its attempt ended
pub ended-end : (client : Option ActorId) (a : AttemptId) (e : Epoch) (how : Outcome) → (is_refusal how ≡ true) ⊎ (how ≡ outcome.Committed) → PostsTell (ended client a e how)
ended-end None a e how k q i = absurd i
ended-end (Some c) a e how k q (inl same) = subst (λ x. TellsPlainly x.message) (sym same) (elim k [ inl r ↦ inl r | inr it ↦ inr (record { committed = it; epoch = e; at = refl }) ])
ended-end (Some c) a e how k q (inr none) = absurd none

prepares-end : (targets inc : ℕ) (e : Entry) (first : Option Epoch) (ws : List MinorWrite) (ts : List ℕ) → PostsTell (map (prepare_to targets inc e first ws) ts)
prepares-end targets inc e first ws ts q i = let o = has-from_map (prepare_to targets inc e first ws) ts q i in subst (λ x. TellsPlainly x.message) o.2 tt

begun-end : (e : Entry) (first : Option Epoch) (client : ActorId) (ws : List MinorWrite) (l : LeaderOf) → PostsTell (begun e first client ws l).posts
unfolding begun
begun-end e first client ws l = by (is_empty (other_members e))
  where
    by : (b : Bool) → PostsTell (if b then begun_alone e client l else begun_with_others e first client ws l).posts
    by true = ended-end (Some client) e.attempt e.epoch outcome.Committed (inr refl)
    by false = prepares-end l.targets l.incarnation e first ws (other_members e)

commit-ends : (t : TargetPlan) (opening : Epoch × FloorWhy) (m : TargetMemory) (reading : ℕ) (q : CommitRequest) (from : ActorId) (s : commit.CommitStage) (k : Kept) (left : TargetMemory × Did)
    → commit.CommitEnds t opening m reading q from s k left → PostsTell left.1.posts × (left.1.lines ≡ [])
commit-ends t opening m reading q from s k left (commit.IsSpent k2 left2 none says) = (one-post left2.1 _ (ap (λ o. o.1.posts) says) (inl refl), ap (λ o. o.1.lines) says)
commit-ends t opening m reading q from s k left (commit.IsRefused k2 e c left2 why says) = (one-post left2.1 _ (ap (λ o. o.1.posts) says) (inl refl), ap (λ o. o.1.lines) says)
commit-ends t opening m reading q from s k left (commit.HasNoSpace k2 e left2 allowed full says) = (one-post left2.1 _ (ap (λ o. o.1.posts) says) (inl refl), ap (λ o. o.1.lines) says)
commit-ends t opening m reading q from s k left (commit.HasBegun k2 e left2 says) =
    (these-end (commit.begins_at t m q from e k2.durable).posts left2.1.posts (ap (λ o. o.1.posts) says) (begun-end (commit.led_entry t q e) q.first from q.writes (leader_at t m k2.durable)), ap (λ o. o.1.lines) says)

-- ---- between targets

prepare-ends : (t : TargetPlan) (opening : Epoch × FloorWhy) (m : TargetMemory) (q : PrepareRequest) (s : prepare.PrepareStage) (k : Kept) (left : TargetMemory × Did) → prepare.PrepareEnds t opening m q s k left
    → PostsTell left.1.posts × (left.1.lines ≡ [])
prepare-ends t opening m q s k left (prepare.IsRefused k2 c left2 why says) = (one-post left2.1 _ (ap (λ o. o.1.posts) says) refl, ap (λ o. o.1.lines) says)
prepare-ends t opening m q s k left (prepare.HasNoSpace k2 left2 allowed full says) = (one-post left2.1 _ (ap (λ o. o.1.posts) says) refl, ap (λ o. o.1.lines) says)
prepare-ends t opening m q s k left (prepare.IsPrepared k2 left2 says) = (one-post left2.1 _ (ap (λ o. o.1.posts) says) tt, ap (λ o. o.1.lines) says)

-- what a member refuses with is a refusal
pub refuses : (how : Outcome) → is_member_refusal how ≡ true → is_refusal how ≡ true
refuses (outcome.Restart cause) h = refl
refuses (outcome.NoSpace target need free) h = refl
refuses how h = let no : ⊥ = cc in absurd no

aborts-end : (inc : ℕ) (a : AttemptId) (ts : List ℕ) → PostsTell (map (abort_to inc a) ts)
aborts-end inc a ts q i = let o = has-from_map (abort_to inc a) ts q i in subst (λ x. TellsPlainly x.message) o.2 tt

ok-end : (member : ℕ) (a : AttemptId) (e : Entry) (u : Undecided) (l : LeaderOf) → PostsTell (ok_heard member a e u l).posts
ok-end member a e u l = by (are_all_counted e (with_target u.counted member))
  where
    by : (b : Bool) → PostsTell (if b then record { leader = decided a l; posts = ended u.client a e.epoch outcome.Committed } else quietly (with_undecided (map (counted_at a member) l.memory.undecided) l)).posts
    by true = ended-end u.client a e.epoch outcome.Committed (inr refl)
    by false = none-end

answer-end : (member : ℕ) (a : AttemptId) (refusal : Option Outcome) (e : Entry) (u : Undecided) (l : LeaderOf) → MayEnd refusal → PostsTell (answer_heard member a refusal e u l).posts
answer-end member a None e u l may = ok-end member a e u l
answer-end member a (Some how) e u l may = both-end (ended u.client a e.epoch how) (map (abort_to l.incarnation a) (other_members e)) (ended-end u.client a e.epoch how (inl (refuses how may))) (aborts-end l.incarnation a (other_members e))

awaited-end : (member : ℕ) (a : AttemptId) (refusal : Option Outcome) (e : Option Entry) (u : Option Undecided) (l : LeaderOf) → MayEnd refusal → PostsTell (answer_if_awaited member a refusal e u l).posts
awaited-end member a refusal None u l may = none-end
awaited-end member a refusal (Some e) None l may = none-end
awaited-end member a refusal (Some e) (Some u) l may = by (is_other_member e member)
  where
    by : (b : Bool) → PostsTell (if b then answer_heard member a refusal e u l else quietly l).posts
    by true = answer-end member a refusal e u l may
    by false = none-end

ack-end : (member : ℕ) (a : AttemptId) (inc : ℕ) (refusal : Option Outcome) (l : LeaderOf) → MayEnd refusal → PostsTell (ack_heard member a inc refusal l).posts
unfolding ack_heard
ack-end member a inc refusal l may = by (inc == l.incarnation)
  where
    by : (b : Bool) → PostsTell (if b then answer_if_awaited member a refusal (entry_led a l) (undecided_of a l) l else quietly l).posts
    by true = awaited-end member a refusal (entry_led a l) (undecided_of a l) l may
    by false = none-end

-- what follows from an Ack ends attempts as it may
abbrev FollowsEnd : ack.AckStage → Type 0
FollowsEnd ack.Heard = Unit {0}
FollowsEnd (ack.Followed s) = PostsTell s.posts

ack-next : (t : TargetPlan) (m : TargetMemory) (member : ℕ) (a : AttemptId) (inc : ℕ) (refusal : Option Outcome) → MayEnd refusal → (s : ack.AckStage) (k : Kept) (o : Option Change) (u : ack.AckStage) (l : Kept)
    → ack.AckNext t m member a inc refusal s k o u → Steps o k l → FollowsEnd s → FollowsEnd u
ack-next t m member a inc refusal may s k o u l (ack.Aborts k2 is) steps h = ack-end member a inc refusal (leader_at t m k2.durable) may
ack-next t m member a inc refusal may s k o u l (ack.Counts k2 is) steps h = ack-end member a inc refusal (leader_at t m k2.durable) may

ack-ends : (m : TargetMemory) (s : ack.AckStage) (k : Kept) (left : TargetMemory × Did) → ack.AckEnds m s k left → FollowsEnd s → PostsTell left.1.posts × (left.1.lines ≡ [])
ack-ends m s k left (ack.IsFollowed k2 step left2 says) h = (these-end step.posts left2.1.posts (ap (λ o. o.1.posts) says) h, ap (λ o. o.1.lines) says)

mark-ends : (m : TargetMemory) (from : ActorId) (inc : ℕ) (marks rest : List (AttemptId × Bool)) (k : Kept) (left : TargetMemory × Did) → MarkEnds m from inc marks rest k left → PostsTell left.1.posts × (left.1.lines ≡ [])
mark-ends m from inc marks rest k left (AllMarked k2 left2 says) = (one-post left2.1 _ (ap (λ o. o.1.posts) says) tt, ap (λ o. o.1.lines) says)

marked-ends : (t : TargetPlan) (m : TargetMemory) (member inc : ℕ) (ids rest : List AttemptId) (k : Kept) (left : TargetMemory × Did) → ack.MarkedEnds t m member inc ids rest k left
    → PostsTell left.1.posts × (left.1.lines ≡ [])
marked-ends t m member inc ids rest k left (ack.AllConfirmed k2 left2 says) = (these-end [] left2.1.posts (ap (λ o. o.1.posts) says) none-end, ap (λ o. o.1.lines) says)

query-ends : (t : TargetPlan) (m : TargetMemory) (from : ActorId) (a : AttemptId) (ask : Option AttemptId) (s : verdict.QueryStage) (k : Kept) (left : TargetMemory × Did) → verdict.QueryEnds t m from a ask s k left
    → PostsTell left.1.posts × (left.1.lines ≡ [])
query-ends t m from a ask s k left (verdict.IsTold k2 left2 says) = (one-post left2.1 _ (ap (λ o. o.1.posts) says) tt, ap (λ o. o.1.lines) says)

-- a Fetch that asked is told that it met an attempt which isn't decided
unresolved-end : (a : AttemptId) (m : Message) → PostsTell (unresolved_told a m)
unresolved-end a (message.Fetch x op group ep first tracker r snapshot) q (inl same) = subst (λ x. TellsPlainly x.message) (sym same) refl
unresolved-end a (message.Fetch x op group ep first tracker r snapshot) q (inr none) = absurd none
unresolved-end a m q i = absurd i

pub all-unresolved-end : (a : AttemptId) (ps : List Parked) → PostsTell (all_unresolved_told a ps)
all-unresolved-end a [] = none-end
all-unresolved-end a (p ∷ ps) = both-end (unresolved_told a p.ask) (all_unresolved_told a ps) (unresolved-end a p.ask) (all-unresolved-end a ps)

freed-end : (p : TargetPlan) (a : AttemptId) (ask : Option AttemptId) (v : Verdict) (m : TargetMemory) → PostsTell (verdict_heard a ask v (member_at p m)).freed.posts
unfolding unresolved
freed-end p a ask how.Committed m = none-end
freed-end p a ask how.Aborted m = none-end
freed-end p a (Some x) how.Undecided m = all-unresolved-end a (filter (is_waiting a x) m.member.parked)
freed-end p a None how.Undecided m = none-end

-- what is sent so far in a Verdict's turn
abbrev SoFarEnd : verdict.VerdictStage → Type 0
SoFarEnd verdict.Heard = Unit {0}
SoFarEnd (verdict.Freed asks n posts) = PostsTell posts
SoFarEnd (verdict.Trying q s asks n posts) = PostsTell posts

verdict-next : (is_due : AttemptId → Durable → Bool) (p : TargetPlan) (m : TargetMemory) (reading : ℕ) (a : AttemptId) (ask : Option AttemptId) (v : Verdict) (s : verdict.VerdictStage) (k : Kept) (o : Option Change) (u : verdict.VerdictStage) (l : Kept)
    → verdict.VerdictNext is_due p m reading a ask v s k o u → Steps o k l → SoFarEnd s → SoFarEnd u
verdict-next is_due p m reading a ask v s k o u l (verdict.SettlesBy k2 o2 says) steps h = freed-end p a ask v m
verdict-next is_due p m reading a ask v s k o u l (verdict.TriesNext k2 n posts rest x op group ep first tracker rd snapshot) steps h = h
verdict-next is_due p m reading a ask v s k o u l (verdict.GoesOn k2 n posts rest q f g o2 next) steps h = h
verdict-next is_due p m reading a ask v s k o u l (verdict.IsDone k2 n posts rest q f left ends) steps h = both-end posts left.1.posts h (fetch-ends p n reading q (verdict.fetcher q) f k2 left ends).0

verdict-ends : (s : verdict.VerdictStage) (k : Kept) (left : TargetMemory × Did) → verdict.VerdictEnds s k left → SoFarEnd s → PostsTell left.1.posts × (left.1.lines ≡ [])
verdict-ends s k left (verdict.AllTried k2 n posts left2 says) h = (these-end posts left2.1.posts (ap (λ o. o.1.posts) says) h, ap (λ o. o.1.lines) says)

-- a target's turn tells such, ends attempts as it may, and adds no line
pub hears-tells : (t : TargetPlan) (opening : Epoch × FloorWhy) (m : TargetMemory) (reading : ℕ) (from : ActorId) (q : Message) (old new : Kept) (left : TargetMemory × Did) → TellsEnd q
    → HearsRightly t opening m reading from q old new left → PostsTell left.1.posts × (left.1.lines ≡ [])
hears-tells t opening m reading from (message.Fetch x op group ep first tracker r snapshot) old new left may h = fetch-ends t m reading (fetch_request x op group ep first tracker r snapshot) from h.last new left h.ends
hears-tells t opening m reading from (message.Commit x ep first tracker ws) old new left may h = commit-ends t opening m reading (commit_request x ep first tracker ws) from h.last new left h.ends
hears-tells t opening m reading from (message.Prepare e first ws inc) old new left may h = prepare-ends t opening m (prepare_request e first ws inc) h.last new left h.ends
hears-tells t opening m reading from (message.Ack x inc refusal) old new left may h =
    ack-ends m h.last new left h.ends
    (path-keeps (ack.AckNext t m from.number x inc refusal) (λ s k. FollowsEnd s) (ack-next t m from.number x inc refusal may) ack.Heard old h.reached.did h.last new h.reached.path tt)
hears-tells t opening m reading from (message.Mark inc marks) old new left may h = mark-ends m from inc marks h.last new left h.ends
hears-tells t opening m reading from (message.Marked inc ids) old new left may h = marked-ends t m from.number inc ids h.last new left h.ends
hears-tells t opening m reading from (message.Query x ask) old new left may h = query-ends t m from x ask h.last new left h.ends
hears-tells t opening m reading from (message.Verdict x ask inc v) old new left may h =
    verdict-ends h.last new left h.ends
    (path-keeps (verdict.VerdictNext (is_in_doubt t.me) t m reading x ask v) (λ s k. SoFarEnd s) (verdict-next (is_in_doubt t.me) t m reading x ask v) verdict.Heard old h.reached.did h.last new h.reached.path tt)
hears-tells t opening m reading from q old new left may h = absurd h

-- and so where it settles whatever is prepared
pub all-hear-tell : (t : TargetPlan) (opening : Epoch × FloorWhy) (m : TargetMemory) (reading : ℕ) (from : ActorId) (q : Message) (old new : Kept) (left : TargetMemory × Did) → TellsEnd q
    → Hears t opening m reading from q old new left → PostsTell left.1.posts × (left.1.lines ≡ [])
all-hear-tell t opening m reading from (message.Mark inc marks) old new left may h = mark-ends (told_of_all (attempts_of marks) m) from inc marks h.last new left h.ends
all-hear-tell t opening m reading from (message.Verdict x ask inc v) old new left may h =
    verdict-ends h.last new left h.ends
    (path-keeps (verdict.VerdictNext is_prepared t (told_by v x m) reading x ask v) (λ s k. SoFarEnd s) (verdict-next is_prepared t (told_by v x m) reading x ask v) verdict.Heard old h.reached.did h.last new h.reached.path tt)
all-hear-tell t opening m reading from q old new left may h = hears-tells t opening m reading from q old new left may h

-- ---- idle work

mark-with-end : (inc t : ℕ) (ids : List AttemptId) → PostsTell (mark_with inc t ids)
mark-with-end inc t ids = by (is_empty ids)
  where
    by : (b : Bool) → PostsTell (if b then [] else to_target t (message.Mark inc (map commit_mark ids)) ∷ [])
    by true q i = absurd i
    by false q (inl same) = subst (λ x. TellsPlainly x.message) (sym same) tt
    by false q (inr none) = absurd none

marks-end : (inc down : ℕ) (named : List Naming) (es : List Entry) (ts : List ℕ) → PostsTell (marks_for inc down named es ts)
marks-end inc down named es [] = none-end
marks-end inc down named es (t ∷ ts) = both-end (mark_with inc t (owed down named es t)) (marks_for inc down named es ts) (mark-with-end inc t (owed down named es t)) (marks-end inc down named es ts)

batched-end : (l : LeaderOf) → PostsTell (batched l).posts
unfolding batched
batched-end l = marks-end l.incarnation l.memory.down l.memory.named l.entries all_targets

inquired-end : (settling : Bool) (t : TargetPlan) (m : TargetMemory) (d : Durable) → PostsTell (inquiry_of settling t m d).freed.posts
unfolding inquired
inquired-end false t m d q i = absurd i
inquired-end true t m d q i = let o = has-from_map inquiry_for (to_inquire d.entries (member_at t m)) q i in subst (λ x. TellsPlainly x.message) o.2 tt

pub idle-tells : (settling : Bool) (t : TargetPlan) (m : TargetMemory) (rest : List AttemptId) (k : Kept) (left : TargetMemory × Did) → IdleEnds settling t m rest k left → PostsTell left.1.posts × (left.1.lines ≡ [])
idle-tells settling t m rest k left (AllSettled k2 left2 says) = (
  these-end (idle_told settling t m k2.durable).posts left2.1.posts (ap (λ o. o.1.posts) says)
      (both-end (batch_of t m k2.durable).posts (inquiry_of settling t m k2.durable).freed.posts (batched-end (leader_at t (with_unsettled [] m) k2.durable)) (inquired-end settling t m k2.durable)),
  ap (λ o. o.1.lines) says,
)

-- ---- what is told so ends attempts as it may

pub told-ends : (m : Message) → TellsPlainly m → TellsEnd m
told-ends (message.Fetched x op group e b) h = h
told-ends (message.Ended x e how) h = h
told-ends (message.Ack x inc refusal) h = h
told-ends (message.Held x refusal) h = absurd h
told-ends m h = tt

pub all-end : (posts : List Post) → PostsTell posts → PostsEnd posts
all-end posts tell q i = told-ends q.message (tell q i)

pub idle-ends : (settling : Bool) (t : TargetPlan) (m : TargetMemory) (rest : List AttemptId) (k : Kept) (left : TargetMemory × Did) → IdleEnds settling t m rest k left → PostsEnd left.1.posts × (left.1.lines ≡ [])
idle-ends settling t m rest k left h = let z = idle-tells settling t m rest k left h in (all-end left.1.posts z.0, z.1)
