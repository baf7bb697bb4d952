-- What a target sends in a turn asks no read, and each Fetch that waits there then asks one in form, where those that it may hear or try again do.
use Rattle.std.specs.Prelude.{ℕ, ◌≡◌, ◌+◌, ◌++◌, Bool, true, false, List, [], ◌∷◌, filter, map, Option, Some, None, refl}
use Rattle.std.proofs.Common.{sym, ◌∙◌, ap, subst, arith, inl, inr}
use Rattle.base_types.specs.declared.entry.Verdict.{Verdict}
use Rattle.base_types.specs.declared.entry.Verdict.TheVariants as verdicts
use Rattle.base_types.specs.declared.epoch.Epoch.{Epoch}
use Rattle.base_types.specs.declared.id.AttemptId.{AttemptId}
use Rattle.base_types.specs.declared.operation.Read.{Read}
use Rattle.base_types.specs.declared.outcome.FloorWhy.{FloorWhy}
use Rattle.base_types.specs.declared.outcome.Outcome.{Outcome}
use Rattle.base_messages.specs.declared.actor.ActorId.{ActorId}
use Rattle.base_messages.specs.declared.message.Message.{Message, more_of-Message}
use Rattle.base_messages.specs.declared.message.Message.TheVariants as message
use Rattle.base_messages.specs.declared.message.Post.{Post}
use Rattle.daos_model.specs.declared.durable.Durable.{Durable}
use Rattle.daos_model.specs.Durables.{same_attempt}
use Rattle.daos_model.specs.EntryLaws.{same_attempt-itself}
use Rattle.daos_model.specs.Forms.{is_read_in_form}
use Rattle.dtx_base.specs.declared.member.Parked.{Parked}
use Rattle.dtx_base.specs.Joining.{all_unresolved_told, is_not_waiting, is_parked_elsewhere, is_parked_on, is_waiting, parked_ask, unresolved, unresolved_told, verdict_heard}
use Rattle.dtx_base.specs.Leading.{attempts_of}
use Rattle.model_laws.specs.Members.{Has, has-cases, has-from_filter, has-from_map}
use Rattle.world_base.specs.declared.did.Did.{Did}
use Rattle.world_base.specs.declared.request.CommitRequest.{CommitRequest}
use Rattle.world_base.specs.declared.request.FetchRequest.{FetchRequest}
use Rattle.world_base.specs.declared.target.TargetMemory.{TargetMemory}
use Rattle.world_base.specs.declared.target.TargetPlan.{TargetPlan}
use Rattle.world_base.specs.Acks as ack
use Rattle.world_base.specs.Changes.{Change, Kept, Steps}
use Rattle.world_base.specs.Commits as commit
use Rattle.world_base.specs.Further.{CommitDown, HearsFurther, IsSpent, IsUnknown}
use Rattle.world_base.specs.Idle.{IdleEnds}
use Rattle.world_base.specs.MemoryLaws.{ack-leaves, commit-leaves, idle-leaves, mark-leaves, marked-leaves, member-then, prepare-leaves, query-leaves}
use Rattle.world_base.specs.PathLaws.{reached-keeps}
use Rattle.world_base.specs.Reads as read
use Rattle.world_base.specs.Requests.{fetch_message}
use Rattle.world_base.specs.Roles.{is_prepared, joins_on, leader_at, member_at, told_by, told_of_all}
use Rattle.world_base.specs.Statuses.{status_refusal}
use Rattle.world_base.specs.TargetTurns.{Hears, commit_request, fetch_request, prepare_request}
use Rattle.world_base.specs.Turns.{Whole}
use Rattle.world_base.specs.VerdictLaws.{Tries, verdict-keeps}
use Rattle.world_base.specs.Verdicts as verdict
use Rattle.world_making.specs.world_causes.hearing.Listening.{Listens, listens}
use Rattle.world_making.specs.world_causes.hearing.Saying.{AsksState, EndsHeld, EndsLost, MarksAgain, MetUnresolved, SaysFurther, TellsState}
use Rattle.world_making.specs.world_commit.statuses.Heard.{is_of_attempts}
use Rattle.world_making.specs.world_letters.kinds.Loads.{ask_alike, load, post_load, total, weight, weight_if}
use Rattle.world_making.specs.world_letters.kinds.PostLaws.{CarryNone, acks-carry}
use Rattle.world_making.specs.world_letters.lines.EndingLaws.{all-hear-tell, idle-tells}
use Rattle.world_making.specs.world_letters.lines.Lines.{TellsPlainly}
use Rattle.world_making.specs.fates.Sends.{is_sent_in_making, making-sent}
use Rattle.world_making.specs.making.Kinds.{of-attempts}
use Rattle.world_making.specs.making.Making.{MakingLeaves, tells_of_snapshots}
use Rattle.world_making.specs.making.Turns.{hearings-leave}
use Rattle.world_answers.specs.Forms.{AsksInForm, PostsAskInForm, WaitInForm}
use Rattle.world_answers.specs.Posts.{both-posts, none-posts, single-post}

-- what a turn leaves asks in form
pub record LeavesAsking (left : TargetMemory × Did) : Type 0 where
  pub posts : PostsAskInForm left.1.posts
  pub waits : WaitInForm left.0

-- ---- messages that ask no read

plainly-asks : (m : Message) → TellsPlainly m → AsksInForm m
plainly-asks (message.Fetch x op group ep first tracker q snapshot) k = absurd k
plainly-asks m k = tt

making-asks : (m : Message) → is_sent_in_making m ≡ true → AsksInForm m
making-asks (message.Fetch x op group ep first tracker q snapshot) k = let no : ⊥ = cc in absurd no
making-asks m k = tt

says-asks : (d : Durable) (parked : List Parked) (m : Message) → SaysFurther d parked m → AsksInForm m
says-asks d parked m (EndsHeld e how i is) = subst AsksInForm (sym is) tt
says-asks d parked m (EndsLost x is) = subst AsksInForm (sym is) tt
says-asks d parked m (TellsState x inc how is) = subst AsksInForm (sym is) tt
says-asks d parked m (AsksState x inc is) = subst AsksInForm (sym is) tt
says-asks d parked m (MarksAgain inc marks is) = subst AsksInForm (sym is) tt
says-asks d parked m (MetUnresolved p x op group ep first tracker q snapshot a i asked is) = subst AsksInForm (sym is) tt

-- what carries nothing of any read
unloaded-asks : (m : Message) → ((x : AttemptId) (r : Read) → load x r m ≡ 0) → AsksInForm m
unfolding load
unloaded-asks (message.Fetch x op group ep first tracker q snapshot) none = absurd (by (same_attempt x x) (same_attempt-itself x) (ask_alike q q) (none x q))
  where
    by : (own : Bool) → own ≡ true → (alike : Bool) → weight_if own (weight alike) ≡ 0 → ⊥
    by true is true zero = omega (arith, zero)
    by true is false zero = omega (arith, zero)
    by false is alike zero = let no : ⊥ = cc in no
unloaded-asks m none = tt

has-total : {T : Type 0} (f : T → ℕ) (xs : List T) (x : T) → Has x xs → total f xs ≡ 0 → f x ≡ 0
has-total f [] x i none = absurd i
has-total f (y ∷ ys) x (inl same) none = ap f same ∙ first (f y) (total f ys) none
  where
    first : (a b : ℕ) → a + b ≡ 0 → a ≡ 0
    first a b is = omega (arith, is)
has-total f (y ∷ ys) x (inr i) none = has-total f ys x i (rest (f y) (total f ys) none)
  where
    rest : (a b : ℕ) → a + b ≡ 0 → b ≡ 0
    rest a b is = omega (arith, is)

carry-asks : (posts : List Post) → CarryNone posts → PostsAskInForm posts
carry-asks posts none q i = unloaded-asks q.message (λ x r. has-total (post_load x r) posts q i (none x r))

-- ---- what waits

same-waits : (m n : TargetMemory) → n.member ≡ m.member → WaitInForm m → WaitInForm n
same-waits m n same k p i = k p (subst (λ x. Has p x.parked) same i)

told-member : (v : Verdict) (x : AttemptId) (m : TargetMemory) → (told_by v x m).member ≡ m.member
told-member verdicts.Committed x m = refl
told-member verdicts.Aborted x m = refl
told-member verdicts.Undecided x m = refl

told-all_member : (ids : List AttemptId) (m : TargetMemory) → (told_of_all ids m).member ≡ m.member
told-all_member [] m = refl
told-all_member (a ∷ ids) m = told-all_member ids _

-- ---- a Fetch

module _ (t : TargetPlan) (m : TargetMemory) (reading : ℕ) (q : FetchRequest) (from : ActorId) (form : is_read_in_form q.read ≡ true) (waits : WaitInForm m) where
  then-waits : (e : Epoch) (decided : List AttemptId) → WaitInForm (read.memory_then q e decided m)
  then-waits e decided = same-waits m (read.memory_then q e decided m) (member-then q e decided m) waits

  parked-waits : (e : Epoch) (decided : List AttemptId) (a : AttemptId) (leader : ℕ) → WaitInForm (read.memory_parked t q e decided a leader m)
  parked-waits e decided a leader p i = elim (has-cases m.member.parked (record { on = a; leader = leader; ask = read.fetch_at q e } ∷ []) p i) [
    | inl j ↦ waits p j
    | inr j ↦ elim j [ inl same ↦ subst (λ (x : Parked). AsksInForm x.ask) (sym same) form | inr none ↦ absurd none ]
  ]

  pub fetch-asks : (s : read.FetchStage) (k : Kept) (left : TargetMemory × Did) → read.FetchEnds t m reading q from s k left → LeavesAsking left
  fetch-asks s k left (read.IsSpent j z plain none is) = subst LeavesAsking (sym is) (record { posts = single-post AsksInForm _ tt; waits = waits })
  fetch-asks s k left (read.IsRefused j e decided c z why is) = subst LeavesAsking (sym is) (record { posts = single-post AsksInForm _ tt; waits = then-waits e decided })
  fetch-asks s k left (read.MeetsUnresolved j e decided a z free unsettled unknown alone is) = subst LeavesAsking (sym is) (record { posts = single-post AsksInForm _ tt; waits = then-waits e decided })
  fetch-asks s k left (read.IsParked j e decided a leader z free unsettled other is) = subst LeavesAsking (sym is) (record { posts = single-post AsksInForm _ tt; waits = parked-waits e decided a leader })
  fetch-asks s k left (read.IsServed j e decided b z free served is) = subst LeavesAsking (sym is) (record { posts = single-post AsksInForm _ tt; waits = then-waits e decided })

-- ---- a Verdict

unresolved-asks : (a : AttemptId) (m : Message) → PostsAskInForm (unresolved_told a m)
unresolved-asks a (message.Fetch x op group ep first tracker q snapshot) = single-post AsksInForm _ tt
unresolved-asks a m = none-posts AsksInForm

all-unresolved_ask : (a : AttemptId) (ps : List Parked) → PostsAskInForm (all_unresolved_told a ps)
all-unresolved_ask a [] = none-posts AsksInForm
all-unresolved_ask a (p ∷ ps) = both-posts AsksInForm (unresolved_told a p.ask) (all_unresolved_told a ps) (unresolved-asks a p.ask) (all-unresolved_ask a ps)

module _ (is_due : AttemptId → Durable → Bool) (t : TargetPlan) (m : TargetMemory) (reading : ℕ) (a : AttemptId) (ask : Option AttemptId) (v : Verdict) (old : Kept) (waits : WaitInForm m) where
  -- what is to be tried asks in form, and so does what waits and what is to be sent
  record Goes (asks : List Message) (n : TargetMemory) (posts : List Post) : Type 0 where
    asked : (z : Message) → Has z asks → AsksInForm z
    waiting : WaitInForm n
    sent : PostsAskInForm posts

  tried : (z : Message) → Has z (map parked_ask (filter (is_parked_on a) m.member.parked)) → AsksInForm z
  tried z i = let y = has-from_map parked_ask (filter (is_parked_on a) m.member.parked) z i in subst AsksInForm y.2 (waits y.0 (has-from_filter (is_parked_on a) m.member.parked y.0 y.1).0)

  begins : (v : Verdict) (ask : Option AttemptId) → Goes (verdict_heard a ask v (member_at t m)).freed.again (joins_on (verdict_heard a ask v (member_at t m)).member m) (verdict_heard a ask v (member_at t m)).freed.posts
  unfolding unresolved
  begins verdicts.Committed ask = record { asked = tried; waiting = λ p i. waits p (has-from_filter (is_parked_elsewhere a) m.member.parked p i).0; sent = none-posts AsksInForm }
  begins verdicts.Aborted ask = record { asked = tried; waiting = λ p i. waits p (has-from_filter (is_parked_elsewhere a) m.member.parked p i).0; sent = none-posts AsksInForm }
  begins verdicts.Undecided (Some x) = record { asked = λ z i. absurd i; waiting = λ p i. waits p (has-from_filter (is_not_waiting a x) m.member.parked p i).0; sent = all-unresolved_ask a (filter (is_waiting a x) m.member.parked) }
  begins verdicts.Undecided None = record { asked = λ z i. absurd i; waiting = waits; sent = none-posts AsksInForm }

  goes : (q : FetchRequest) (rest : List Message) (n : TargetMemory) (posts : List Post) (k l : Kept) (left : TargetMemory × Did) → Goes (fetch_message q ∷ rest) n posts → Tries t reading n q k l left → Goes rest left.0 (posts ++ left.1.posts)
  goes q rest n posts k l left h w =
      let z = fetch-asks t n reading q (verdict.fetcher q) (h.asked (fetch_message q) (inl refl)) h.waiting w.last l left w.ends in
      record { asked = λ y i. h.asked y (inr i); waiting = z.waits; sent = both-posts AsksInForm posts left.1.posts h.sent z.posts }

  pub verdict-asks : (new : Kept) (left : TargetMemory × Did) → Whole (verdict.VerdictNext is_due t m reading a ask v) verdict.VerdictEnds verdict.Heard old new left → LeavesAsking left
  verdict-asks new left w =
      let z = (verdict-keeps is_due t m reading a ask v old (λ asks n posts k. Goes asks n posts) (λ k steps. begins v ask) goes new left w).0 in
      record { posts = z.sent; waits = z.waiting }

-- ---- an Ack

abbrev FollowsAsking : ack.AckStage → Type 0
FollowsAsking ack.Heard = Unit {0}
FollowsAsking (ack.Followed z) = PostsAskInForm z.posts

ack-step : (t : TargetPlan) (m : TargetMemory) (member : ℕ) (a : AttemptId) (inc : ℕ) (refusal : Option Outcome) (s : ack.AckStage) (k : Kept) (o : Option Change) (u : ack.AckStage) (l : Kept)
    → ack.AckNext t m member a inc refusal s k o u → Steps o k l → FollowsAsking s → FollowsAsking u
ack-step t m member a inc refusal s k o u l (ack.Aborts j is) steps h = carry-asks _ (acks-carry member a inc refusal (leader_at t m j.durable))
ack-step t m member a inc refusal s k o u l (ack.Counts j is) steps h = carry-asks _ (acks-carry member a inc refusal (leader_at t m j.durable))

ack-ends : (m : TargetMemory) (s : ack.AckStage) (k : Kept) (left : TargetMemory × Did) → ack.AckEnds m s k left → FollowsAsking s → PostsAskInForm left.1.posts
ack-ends m s k left (ack.IsFollowed j step z is) h = subst (λ (x : TargetMemory × Did). PostsAskInForm x.1.posts) (sym is) h

ack-asks : (t : TargetPlan) (m : TargetMemory) (member : ℕ) (a : AttemptId) (inc : ℕ) (refusal : Option Outcome) (old new : Kept) (left : TargetMemory × Did) → WaitInForm m
    → Whole (ack.AckNext t m member a inc refusal) (ack.AckEnds m) ack.Heard old new left → LeavesAsking left
ack-asks t m member a inc refusal old new left waits w = record {
  posts = ack-ends m w.last new left w.ends (reached-keeps (ack.AckNext t m member a inc refusal) (λ s k. FollowsAsking s) (ack-step t m member a inc refusal) ack.Heard old w.last new w.reached tt);
  waits = same-waits m left.0 (ack-leaves m w.last new left w.ends).member waits;
}

-- ---- every turn

down-asks : (t : TargetPlan) (m : TargetMemory) (reading : ℕ) (q : CommitRequest) (from : ActorId) (s : commit.CommitStage) (k : Kept) (left : TargetMemory × Did) → WaitInForm m → CommitDown t m reading q from s k left → LeavesAsking left
down-asks t m reading q from s k left waits (IsSpent j e down z none known is) = subst LeavesAsking (sym is) (record { posts = single-post AsksInForm _ tt; waits = waits })
down-asks t m reading q from s k left waits (IsUnknown j e down z known is) = subst LeavesAsking (sym is) (record { posts = single-post AsksInForm _ tt; waits = waits })

pub idle-asks : (settling : Bool) (t : TargetPlan) (m : TargetMemory) (rest : List AttemptId) (k : Kept) (left : TargetMemory × Did) → WaitInForm m → IdleEnds settling t m rest k left → LeavesAsking left
idle-asks settling t m rest k left waits ends = record {
  posts = λ q i. plainly-asks q.message ((idle-tells settling t m rest k left ends).0 q i);
  waits = λ p i. waits p (subst (Has p) (idle-leaves settling t m rest k left ends).parked i);
}

module _ (t : TargetPlan) (opening : Epoch × FloorWhy) (m : TargetMemory) (reading : ℕ) (from : ActorId) (old new : Kept) (left : TargetMemory × Did) (waits : WaitInForm m) where
  pub hears-asks : (q : Message) → AsksInForm q → Hears t opening m reading from q old new left → LeavesAsking left
  hears-asks (message.Fetch x op group ep first tracker q snapshot) asks h = fetch-asks t m reading (fetch_request x op group ep first tracker q snapshot) from asks waits h.last new left h.ends
  hears-asks (message.Verdict x ask inc v) asks h = verdict-asks is_prepared t (told_by v x m) reading x ask v old (same-waits m (told_by v x m) (told-member v x m) waits) new left h
  hears-asks (message.Ack x inc refusal) asks h = ack-asks t m from.number x inc refusal old new left waits h
  hears-asks (message.Commit x ep first tracker ws) asks h = record {
    posts = λ q i. plainly-asks q.message ((all-hear-tell t opening m reading from (message.Commit x ep first tracker ws) old new left tt h).0 q i);
    waits = same-waits m left.0 (commit-leaves t opening m reading (commit_request x ep first tracker ws) from h.last new left h.ends).member waits;
  }
  hears-asks (message.Prepare e first ws inc) asks h = record {
    posts = λ q i. plainly-asks q.message ((all-hear-tell t opening m reading from (message.Prepare e first ws inc) old new left tt h).0 q i);
    waits = same-waits m left.0 (ap (λ x. x.member) (prepare-leaves t opening m (prepare_request e first ws inc) h.last new left h.ends)) waits;
  }
  hears-asks (message.Mark inc marks) asks h = record {
    posts = λ q i. plainly-asks q.message ((all-hear-tell t opening m reading from (message.Mark inc marks) old new left tt h).0 q i);
    waits = same-waits m left.0 (ap (λ x. x.member) (mark-leaves (told_of_all (attempts_of marks) m) from inc marks h.last new left h.ends) ∙ told-all_member (attempts_of marks) m) waits;
  }
  hears-asks (message.Marked inc ids) asks h = record {
    posts = λ q i. plainly-asks q.message ((all-hear-tell t opening m reading from (message.Marked inc ids) old new left tt h).0 q i);
    waits = same-waits m left.0 (marked-leaves t m from.number inc ids h.last new left h.ends).rest.member waits;
  }
  hears-asks (message.Query x ask) asks h = record {
    posts = λ q i. plainly-asks q.message ((all-hear-tell t opening m reading from (message.Query x ask) old new left tt h).0 q i);
    waits = same-waits m left.0 (ap (λ x. x.member) (query-leaves t m from x ask h.last new left h.ends)) waits;
  }
  hears-asks q asks h = absurd h

  module _ (number : ℕ) where
    listens-asks : Listens old m new left → LeavesAsking left
    listens-asks k = record { posts = λ q i. says-asks old.durable m.member.parked q.message (k.says q i); waits = λ p i. waits p (k.parked p i) }

    attempts-ask : (q : Message) → is_of_attempts q ≡ true → HearsFurther number t opening m reading from q old new left → LeavesAsking left
    attempts-ask (message.Ask x) ours h = listens-asks (listens number t opening m reading from (message.Ask x) old new left refl h)
    attempts-ask (message.Status x inc) ours h = listens-asks (listens number t opening m reading from (message.Status x inc) old new left refl h)
    attempts-ask (message.Reset' by down place (more_of-Message q rest)) ours h = listens-asks (listens number t opening m reading from (message.Reset' by down place (more_of-Message q rest)) old new left ours h)
    attempts-ask (message.StatusIs x inc how) ours h = ack-asks t m from.number x inc (status_refusal x how) old new left waits h
    attempts-ask (message.Commit x ep first tracker ws) ours h = down-asks t m reading (commit_request x ep first tracker ws) from h.last new left waits h.ends
    attempts-ask (message.Snap x c called tracker) ours h = let no : ⊥ = cc in absurd no
    attempts-ask (message.Freeze x c e) ours h = let no : ⊥ = cc in absurd no
    attempts-ask (message.Held x refusal) ours h = let no : ⊥ = cc in absurd no
    attempts-ask (message.Prune x c tracker e) ours h = let no : ⊥ = cc in absurd no
    attempts-ask q ours h = absurd h

    making-leaves : (q : Message) → MakingLeaves number t m reading from q old new left → LeavesAsking left
    making-leaves q k = record {
      posts = λ p i. making-asks p.message (making-sent t m from q new.durable left.1.posts k.ends.sends p i);
      waits = same-waits m left.0 k.ends.knows.member waits;
    }

    by-kind : (q : Message) (making : Bool) → tells_of_snapshots q ≡ making → HearsFurther number t opening m reading from q old new left → LeavesAsking left
    by-kind q false off h = attempts-ask q (of-attempts q off) h
    by-kind q true is h = making-leaves q (hearings-leave number t opening m reading from q old new left h is)

    pub further-asks : (q : Message) → HearsFurther number t opening m reading from q old new left → LeavesAsking left
    further-asks q h = by-kind q (tells_of_snapshots q) refl h
