-- Turns as without stops: what a target tells in one goes with the commands of attempts, where what it heard does.
use Rattle.std.specs.Prelude.{ℕ, ◌≡◌, ◌≢◌, ◌==◌, Bool, true, false, List, [], ◌∷◌, map, Option, Some, None, refl, if◌then◌else◌}
use Rattle.std.proofs.Common.{ap, subst}
use Rattle.base_types.specs.declared.entry.Entry.{Entry}
use Rattle.base_types.specs.declared.entry.Verdict.{Verdict}
use Rattle.base_types.specs.declared.entry.Verdict.TheVariants as verdicts
use Rattle.base_types.specs.declared.epoch.Epoch.{Epoch}
use Rattle.base_types.specs.declared.id.AttemptId.{AttemptId}
use Rattle.base_types.specs.declared.operation.MinorWrite.{MinorWrite}
use Rattle.base_types.specs.declared.outcome.FloorWhy.{FloorWhy}
use Rattle.base_types.specs.declared.outcome.Outcome.{Outcome}
use Rattle.base_types.specs.declared.outcome.Outcome.TheVariants as outcome
use Rattle.base_types.specs.declared.script.Script.{Script}
use Rattle.base_types.specs.Scripts.{IsInForm}
use Rattle.base_messages.specs.declared.actor.ActorId.{ActorId}
use Rattle.base_messages.specs.declared.message.Message.{Message}
use Rattle.base_messages.specs.declared.message.Message.TheVariants as message
use Rattle.daos_model.specs.declared.durable.Durable.{Durable}
use Rattle.dtx_base.specs.declared.leading.Naming.{Naming}
use Rattle.dtx_base.specs.declared.leading.Undecided.{Undecided}
use Rattle.dtx_base.specs.declared.member.Parked.{Parked}
use Rattle.dtx_base.specs.Joining.{inquired, inquiry_for, to_inquire}
use Rattle.dtx_base.specs.Leading.{LeaderOf, abort_to, ack_heard, answer_heard, answer_if_awaited, attempts_of, batched, begun, begun_alone, begun_with_others, commit_mark, counted_at, decided, ended, entry_led, mark_with, marks_for, ok_heard, owed, prepare_to, quietly, to_target, undecided_of, with_undecided}
use Rattle.dtx_base.specs.Members.{all_targets, are_all_counted, is_other_member, other_members, with_target}
use Rattle.dtx_base.specs.Rows.{is_empty}
use Rattle.model_laws.specs.Members.{Has}
use Rattle.model_lone.specs.Refusals.{GoesWithCommand}
use Rattle.world_base.specs.declared.did.Did.{Did}
use Rattle.world_base.specs.declared.request.CommitRequest.{CommitRequest}
use Rattle.world_base.specs.declared.request.PrepareRequest.{PrepareRequest}
use Rattle.world_base.specs.declared.target.TargetMemory.{TargetMemory}
use Rattle.world_base.specs.declared.target.TargetPlan.{TargetPlan}
use Rattle.world_base.specs.Acks as ack
use Rattle.world_base.specs.Changes.{Change, Kept, Steps}
use Rattle.world_base.specs.Commits as commit
use Rattle.world_base.specs.Events.{Rules}
use Rattle.world_base.specs.Idle.{AllSettled, IdleEnds, batch_of, idle_told, inquiry_of}
use Rattle.world_base.specs.Marks.{AllMarked, MarkEnds}
use Rattle.world_base.specs.PathLaws.{reached-keeps}
use Rattle.world_base.specs.Prepares as prepare
use Rattle.world_base.specs.Roles.{is_prepared, leader_at, member_at, told_by, told_of_all, with_unsettled}
use Rattle.world_base.specs.TargetTurns.{Hears, commit_request, fetch_request, prepare_request}
use Rattle.world_base.specs.Verdicts as verdict
use Rattle.world_upheld.specs.world_commit.attempts.Attempts.{writes_of}
use Rattle.world_refusals.specs.Commands.{writer-goes}
use Rattle.world_refusals.specs.Posts.{PostsFit, both-fit, mapped-fit, none-fits, one-fits, single-fits, these-fit}
use Rattle.world_refusals.specs.Reads.{IsAskFit, IsAskedFitly, fetch-fits, verdict-fits}
use Rattle.world_refusals.specs.Telling.{RefusalGoes}

-- ---- what leaders send

-- the client that waits is told how its attempt ended
pub ended-fits : (s : Script) (client : Option ActorId) (a : AttemptId) (e : Epoch) (how : Outcome) → GoesWithCommand s a how → PostsFit s (ended client a e how)
ended-fits s None a e how goes = none-fits s
ended-fits s (Some c) a e how goes = single-fits s _ goes

begun-fits : (s : Script) (e : Entry) (first : Option Epoch) (client : ActorId) (ws : List MinorWrite) (l : LeaderOf) → PostsFit s (begun e first client ws l).posts
unfolding begun
begun-fits s e first client ws l = by (is_empty (other_members e))
  where
    by : (b : Bool) → PostsFit s (if b then begun_alone e client l else begun_with_others e first client ws l).posts
    by true = single-fits s _ refl
    by false = mapped-fit s (prepare_to l.targets l.incarnation e first ws) (other_members e) (λ t. tt)

ok-fits : (s : Script) (member : ℕ) (a : AttemptId) (e : Entry) (u : Undecided) (l : LeaderOf) → PostsFit s (ok_heard member a e u l).posts
ok-fits s member a e u l = by (are_all_counted e (with_target u.counted member))
  where
    by : (b : Bool) → PostsFit s (if b then record { leader = decided a l; posts = ended u.client a e.epoch outcome.Committed } else quietly (with_undecided (map (counted_at a member) l.memory.undecided) l)).posts
    by true = ended-fits s u.client a e.epoch outcome.Committed refl
    by false = none-fits s

answer-fits : (s : Script) (member : ℕ) (a : AttemptId) (refusal : Option Outcome) (e : Entry) (u : Undecided) (l : LeaderOf) → RefusalGoes s a refusal → PostsFit s (answer_heard member a refusal e u l).posts
answer-fits s member a None e u l goes = ok-fits s member a e u l
answer-fits s member a (Some how) e u l goes =
    both-fit s (ended u.client a e.epoch how) (map (abort_to l.incarnation a) (other_members e)) (ended-fits s u.client a e.epoch how goes) (mapped-fit s (abort_to l.incarnation a) (other_members e) (λ t. tt))

awaited-fits : (s : Script) (member : ℕ) (a : AttemptId) (refusal : Option Outcome) (e : Option Entry) (u : Option Undecided) (l : LeaderOf) → RefusalGoes s a refusal → PostsFit s (answer_if_awaited member a refusal e u l).posts
awaited-fits s member a refusal None u l goes = none-fits s
awaited-fits s member a refusal (Some e) None l goes = none-fits s
awaited-fits s member a refusal (Some e) (Some u) l goes = by (is_other_member e member)
  where
    by : (b : Bool) → PostsFit s (if b then answer_heard member a refusal e u l else quietly l).posts
    by true = answer-fits s member a refusal e u l goes
    by false = none-fits s

ack-posts : (s : Script) (member : ℕ) (a : AttemptId) (inc : ℕ) (refusal : Option Outcome) (l : LeaderOf) → RefusalGoes s a refusal → PostsFit s (ack_heard member a inc refusal l).posts
unfolding ack_heard
ack-posts s member a inc refusal l goes = by (inc == l.incarnation)
  where
    by : (b : Bool) → PostsFit s (if b then answer_if_awaited member a refusal (entry_led a l) (undecided_of a l) l else quietly l).posts
    by true = awaited-fits s member a refusal (entry_led a l) (undecided_of a l) l goes
    by false = none-fits s

-- ---- turns of writes

module _ (r : Rules) (form : IsInForm r.script.targets r.script) where
  commit-fits : (t : TargetPlan) (opening : Epoch × FloorWhy) (m : TargetMemory) (reading : ℕ) (q : CommitRequest) (from : ActorId) (s : commit.CommitStage) (k : Kept) (left : TargetMemory × Did)
      → writes_of r q.attempt ≢ [] → commit.CommitEnds t opening m reading q from s k left → PostsFit r.script left.1.posts
  commit-fits t opening m reading q from s k left some (commit.IsSpent k2 z none says) = one-fits r.script z.1 _ (ap (λ o. o.1.posts) says) refl
  commit-fits t opening m reading q from s k left some (commit.IsRefused k2 e c z why says) = one-fits r.script z.1 _ (ap (λ o. o.1.posts) says) (writer-goes r q.attempt (outcome.Restart c) form some)
  commit-fits t opening m reading q from s k left some (commit.HasNoSpace k2 e z allowed full says) = one-fits r.script z.1 _ (ap (λ o. o.1.posts) says) refl
  commit-fits t opening m reading q from s k left some (commit.HasBegun k2 e z says) =
      these-fit r.script (commit.begins_at t m q from e k2.durable).posts z.1.posts (ap (λ o. o.1.posts) says) (begun-fits r.script (commit.led_entry t q e) q.first from q.writes (leader_at t m k2.durable))

  prepare-fits : (t : TargetPlan) (opening : Epoch × FloorWhy) (m : TargetMemory) (q : PrepareRequest) (s : prepare.PrepareStage) (k : Kept) (left : TargetMemory × Did)
      → writes_of r q.entry.attempt ≢ [] → prepare.PrepareEnds t opening m q s k left → PostsFit r.script left.1.posts
  prepare-fits t opening m q s k left some (prepare.IsRefused k2 c z why says) = one-fits r.script z.1 _ (ap (λ o. o.1.posts) says) (writer-goes r q.entry.attempt (outcome.Restart c) form some)
  prepare-fits t opening m q s k left some (prepare.HasNoSpace k2 z allowed full says) = one-fits r.script z.1 _ (ap (λ o. o.1.posts) says) refl
  prepare-fits t opening m q s k left some (prepare.IsPrepared k2 z says) = one-fits r.script z.1 _ (ap (λ o. o.1.posts) says) tt

-- ---- an Ack

-- what follows from it goes with the attempt's command
abbrev FollowsFitly : Script → ack.AckStage → Type 0
FollowsFitly s ack.Heard = Unit {0}
FollowsFitly s (ack.Followed z) = PostsFit s z.posts

ack-next : (s : Script) (t : TargetPlan) (m : TargetMemory) (member : ℕ) (a : AttemptId) (inc : ℕ) (refusal : Option Outcome) → RefusalGoes s a refusal → (z : ack.AckStage) (k : Kept) (o : Option Change) (u : ack.AckStage) (l : Kept)
    → ack.AckNext t m member a inc refusal z k o u → Steps o k l → FollowsFitly s z → FollowsFitly s u
ack-next s t m member a inc refusal goes z k o u l (ack.Aborts k2 is) steps h = ack-posts s member a inc refusal (leader_at t m k2.durable) goes
ack-next s t m member a inc refusal goes z k o u l (ack.Counts k2 is) steps h = ack-posts s member a inc refusal (leader_at t m k2.durable) goes

ack-ends : (s : Script) (m : TargetMemory) (z : ack.AckStage) (k : Kept) (left : TargetMemory × Did) → ack.AckEnds m z k left → FollowsFitly s z → PostsFit s left.1.posts
ack-ends s m z k left (ack.IsFollowed k2 step z2 says) h = these-fit s step.posts z2.1.posts (ap (λ o. o.1.posts) says) h

-- ---- idle work

mark-fits : (s : Script) (inc t : ℕ) (ids : List AttemptId) → PostsFit s (mark_with inc t ids)
mark-fits s inc t ids = by (is_empty ids)
  where
    by : (b : Bool) → PostsFit s (if b then [] else to_target t (message.Mark inc (map commit_mark ids)) ∷ [])
    by true = none-fits s
    by false = single-fits s _ tt

marks-fit : (s : Script) (inc down : ℕ) (named : List Naming) (es : List Entry) (ts : List ℕ) → PostsFit s (marks_for inc down named es ts)
marks-fit s inc down named es [] = none-fits s
marks-fit s inc down named es (t ∷ ts) = both-fit s (mark_with inc t (owed down named es t)) (marks_for inc down named es ts) (mark-fits s inc t (owed down named es t)) (marks-fit s inc down named es ts)

batched-fits : (s : Script) (l : LeaderOf) → PostsFit s (batched l).posts
unfolding batched
batched-fits s l = marks-fit s l.incarnation l.memory.down l.memory.named l.entries all_targets

inquired-fits : (s : Script) (settling : Bool) (t : TargetPlan) (m : TargetMemory) (d : Durable) → PostsFit s (inquiry_of settling t m d).freed.posts
unfolding inquired
inquired-fits s false t m d = none-fits s
inquired-fits s true t m d = mapped-fit s inquiry_for (to_inquire d.entries (member_at t m)) (λ e. tt)

pub idle-fits : (s : Script) (settling : Bool) (t : TargetPlan) (m : TargetMemory) (rest : List AttemptId) (k : Kept) (left : TargetMemory × Did) → IdleEnds settling t m rest k left → PostsFit s left.1.posts
idle-fits s settling t m rest k left (AllSettled k2 z says) =
    these-fit s (idle_told settling t m k2.durable).posts z.1.posts (ap (λ o. o.1.posts) says)
    (both-fit s (batch_of t m k2.durable).posts (inquiry_of settling t m k2.durable).freed.posts (batched-fits s (leader_at t (with_unsettled [] m) k2.durable)) (inquired-fits s settling t m k2.durable))

-- ---- every such turn

-- What is known of a message that a target hears, which keeps this: a Fetch is asked fitly; what is to be written, is of an attempt that writes;
-- and a refusal goes with its attempt's command.
abbrev pub IsHeardFitly : Rules → Durable → Message → Type 0
IsHeardFitly r d (message.Fetch x op group ep first tracker q snapshot) = IsAskedFitly r d (fetch_request x op group ep first tracker q snapshot)
IsHeardFitly r d (message.Commit x ep first tracker ws) = writes_of r x ≢ []
IsHeardFitly r d (message.Prepare e first ws inc) = writes_of r e.attempt ≢ []
IsHeardFitly r d (message.Ack x inc refusal) = RefusalGoes r.script x refusal
IsHeardFitly r d m = Unit {0}

mark-ends : (s : Script) (m : TargetMemory) (from : ActorId) (inc : ℕ) (marks rest : List (AttemptId × Bool)) (k : Kept) (left : TargetMemory × Did) → MarkEnds m from inc marks rest k left → PostsFit s left.1.posts
mark-ends s m from inc marks rest k left (AllMarked k2 z says) = one-fits s z.1 _ (ap (λ o. o.1.posts) says) tt

marked-ends : (s : Script) (t : TargetPlan) (m : TargetMemory) (member inc : ℕ) (ids rest : List AttemptId) (k : Kept) (left : TargetMemory × Did) → ack.MarkedEnds t m member inc ids rest k left → PostsFit s left.1.posts
marked-ends s t m member inc ids rest k left (ack.AllConfirmed k2 z says) = these-fit s [] z.1.posts (ap (λ o. o.1.posts) says) (none-fits s)

query-ends : (s : Script) (t : TargetPlan) (m : TargetMemory) (from : ActorId) (a : AttemptId) (ask : Option AttemptId) (z : verdict.QueryStage) (k : Kept) (left : TargetMemory × Did) → verdict.QueryEnds t m from a ask z k left → PostsFit s left.1.posts
query-ends s t m from a ask z k left (verdict.IsTold k2 y says) = one-fits s y.1 _ (ap (λ o. o.1.posts) says) tt

-- what others tell leaves what waits
told-waits : (v : Verdict) (x : AttemptId) (m : TargetMemory) → (told_by v x m).member.parked ≡ m.member.parked
told-waits verdicts.Committed x m = refl
told-waits verdicts.Aborted x m = refl
told-waits verdicts.Undecided x m = refl

-- an Ack, or what counts as one
pub ack-fits : (s : Script) (t : TargetPlan) (opening : Epoch × FloorWhy) (m : TargetMemory) (reading : ℕ) (from : ActorId) (old new : Kept) (left : TargetMemory × Did) (x : AttemptId) (inc : ℕ) (refusal : Option Outcome)
    → RefusalGoes s x refusal → Hears t opening m reading from (message.Ack x inc refusal) old new left → PostsFit s left.1.posts
ack-fits s t opening m reading from old new left x inc refusal goes h =
    ack-ends s m h.last new left h.ends
    (reached-keeps (ack.AckNext t m from.number x inc refusal) (λ z k. FollowsFitly s z) (ack-next s t m from.number x inc refusal goes) ack.Heard old h.last new h.reached tt)

module _ (r : Rules) (form : IsInForm r.script.targets r.script) (t : TargetPlan) (opening : Epoch × FloorWhy) (m : TargetMemory) (reading : ℕ) (from : ActorId) (old new : Kept) (left : TargetMemory × Did)
    (waits : (p : Parked) → Has p m.member.parked → IsAskFit r old.durable p.ask) where
  pub hears-fit : (q : Message) → IsHeardFitly r old.durable q → Hears t opening m reading from q old new left → PostsFit r.script left.1.posts
  hears-fit (message.Fetch x op group ep first tracker q snapshot) fit h = fetch-fits r t m reading (fetch_request x op group ep first tracker q snapshot) from old.durable fit old new left refl h
  hears-fit (message.Commit x ep first tracker ws) fit h = commit-fits r form t opening m reading (commit_request x ep first tracker ws) from h.last new left fit h.ends
  hears-fit (message.Prepare e first ws inc) fit h = prepare-fits r form t opening m (prepare_request e first ws inc) h.last new left fit h.ends
  hears-fit (message.Ack x inc refusal) fit h = ack-fits r.script t opening m reading from old new left x inc refusal fit h
  hears-fit (message.Mark inc marks) fit h = mark-ends r.script (told_of_all (attempts_of marks) m) from inc marks h.last new left h.ends
  hears-fit (message.Marked inc ids) fit h = marked-ends r.script t m from.number inc ids h.last new left h.ends
  hears-fit (message.Query x ask) fit h = query-ends r.script t m from x ask h.last new left h.ends
  hears-fit (message.Verdict x ask inc v) fit h =
      verdict-fits r is_prepared t (told_by v x m) reading x ask v old (λ p i. waits p (subst (Has p) (told-waits v x m) i)) new left h
  hears-fit q fit h = absurd h
