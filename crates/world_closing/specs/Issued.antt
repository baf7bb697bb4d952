-- No attempt is issued two epochs, and each is issued one at most once, whatever happens in any run.
use Rattle.std.specs.Prelude.{ℕ, ◌≡◌, ◌++◌, ◌⊎◌, Bool, true, false, List, [], ◌∷◌, Contains, Option, Some, None, refl}
use Rattle.std.proofs.Common.{append-nil, inl, inr, sym, ◌∙◌, ap, subst}
use Rattle.base_types.specs.declared.epoch.Epoch.{Epoch}
use Rattle.base_types.specs.declared.id.AttemptId.{AttemptId}
use Rattle.base_types.specs.declared.outcome.FloorWhy.{FloorWhy}
use Rattle.base_messages.specs.declared.actor.ActorId.{ActorId}
use Rattle.base_messages.specs.declared.message.Message.{Message, more_of-Message}
use Rattle.base_messages.specs.declared.message.Message.TheVariants as message
use Rattle.model_laws.specs.Members.{Has, contains-from_has, has-cases, has-from_map}
use Rattle.world_commit.specs.attempts.Counting.{has-taken}
use Rattle.world_commit.specs.attempts.History.{History}
use Rattle.world_base.specs.declared.did.Did.{Did}
use Rattle.world_base.specs.declared.request.CommitRequest.{CommitRequest}
use Rattle.world_base.specs.declared.request.FetchRequest.{FetchRequest}
use Rattle.world_base.specs.declared.target.TargetMemory.{TargetMemory}
use Rattle.world_base.specs.declared.target.TargetPlan.{TargetPlan}
use Rattle.world_base.specs.declared.world.World.{World}
use Rattle.world_base.specs.Acks as ack
use Rattle.world_base.specs.Changes.{Kept}
use Rattle.world_base.specs.Commits as commit
use Rattle.world_base.specs.CutTurns.{CommitIsCut, Cutting, HearingIsCut, NoneIsDown, OneIsDown, issued_by_commit, issued_by_fetch, listed_issue}
use Rattle.world_base.specs.Events as events
use Rattle.world_base.specs.Events.{ByClient, ByTarget, Rules, ToClient, ToTarget, kept, target_plan, rightly}
use Rattle.world_base.specs.Further.{CommitDown, HearsFurther, IsSpent, IsUnknown}
use Rattle.world_base.specs.MemoryLaws.{hears-issues-none, idles-issue-none, may_be_issued}
use Rattle.world_base.specs.Reads as read
use Rattle.world_base.specs.Requests.{issued_for}
use Rattle.world_base.specs.RightTurns.{HearsRightly}
use Rattle.world_base.specs.Roles.{is_prepared}
use Rattle.world_base.specs.StepLaws.{by-hearing, by-next}
use Rattle.world_base.specs.Stops.{AtWork, CutOf, Draws, Fails, Further, GivenUp, Happening, Hearing, IdleWork, IsCut, IsInHand, Opens, Plainly, TargetCut, WorldEvent}
use Rattle.world_base.specs.TargetTurns.{commit_request, fetch_request}
use Rattle.world_answers.specs.world_causes.causes.Causes.{Dated}
use Rattle.world_answers.specs.world_causes.causes.Storing.{AreApart, dated_ids}
use Rattle.world_upheld.specs.causing.DatedTurns.{looks-so}
use Rattle.world_upheld.specs.causing.Events.{of-making}
use Rattle.world_letters.specs.epochs.Epochs.{AsksEpoch, Epochs, IsUnissued}
use Rattle.world_commit.specs.fates.Facts.{Attempts}
use Rattle.world_commit.specs.fates.Rightly.{letters-tell}
use Rattle.world_answers.specs.world_making.making.Making.{IsOfMaking, MakingRequest, asks_making, making_issue}
use Rattle.world_answers.specs.world_making.making.Turns.{cuts-leave, hearings-leave}
use Rattle.world_commit.specs.statuses.Heard.{is_of_attempts}

abbrev pub IssuedOnce : World → Type 0
IssuedOnce w = AreApart (dated_ids w.issued)

-- Each event of a run keeps it.
abbrev pub AllEventsIssueOnce : Type 0
AllEventsIssueOnce = (r : Rules) (n : ℕ) (h : History) (w v : World) → Epochs r n w → Attempts r h w → WorldEvent r w v → IssuedOnce w → IssuedOnce v

-- ---- what is issued

-- nothing, or an epoch to the attempt that asks for one
abbrev Issues : Message → Dated → Type 0
Issues m more = (more ≡ []) ⊎ ((x : AttemptId) × (e : Epoch) × (tracker : Epoch) × AsksEpoch m x tracker × (more ≡ (x, e) ∷ []))

none-listed : (m : Message) (o : Option (AttemptId × Epoch)) → o ≡ None → Issues m (events.listed o)
none-listed m o none = inl (ap events.listed none)

same-listed : (o : Option (AttemptId × Epoch)) → events.listed o ≡ listed_issue o
same-listed None = refl
same-listed (Some i) = refl

-- a request is issued an epoch where it asks for one
for-request : (m : Message) (x : AttemptId) (tracker e : Epoch) (ep : Option Epoch) (more : Dated) → (ep ≡ None → AsksEpoch m x tracker) → more ≡ listed_issue (issued_for x ep e) → Issues m more
for-request m x tracker e None more asks is = inr (x, e, tracker, asks refl, is)
for-request m x tracker e (Some own) more asks is = inl is

module _ (q : FetchRequest) where
  abbrev asked : Message
  asked = message.Fetch q.attempt q.op q.group q.ep q.first q.tracker q.read q.snapshot

  fetch-asks : q.ep ≡ None → AsksEpoch asked q.attempt q.tracker
  fetch-asks none = subst (λ ep. AsksEpoch (message.Fetch q.attempt q.op q.group ep q.first q.tracker q.read q.snapshot) q.attempt q.tracker) (sym none) (refl, refl)

  fetch-issues : (e : Epoch) (more : Dated) → more ≡ listed_issue (issued_for q.attempt q.ep e) → Issues asked more
  fetch-issues e more is = for-request asked q.attempt q.tracker e q.ep more fetch-asks is

  fetched : (t : TargetPlan) (m : TargetMemory) (reading : ℕ) (from : ActorId) (s : read.FetchStage) (k : Kept) (left : TargetMemory × Did) → read.FetchEnds t m reading q from s k left → Issues asked (events.listed left.1.issued)
  fetched t m reading from s k left (read.IsSpent k2 z live none says) = none-listed asked left.1.issued (ap (λ o. o.1.issued) says)
  fetched t m reading from s k left (read.IsRefused k2 e decided c z why says) = fetch-issues e (events.listed left.1.issued) (same-listed left.1.issued ∙ ap (λ o. listed_issue o.1.issued) says)
  fetched t m reading from s k left (read.MeetsUnresolved k2 e decided a z free unsettled among other says) = fetch-issues e (events.listed left.1.issued) (same-listed left.1.issued ∙ ap (λ o. listed_issue o.1.issued) says)
  fetched t m reading from s k left (read.IsParked k2 e decided a leader z free unsettled other says) = fetch-issues e (events.listed left.1.issued) (same-listed left.1.issued ∙ ap (λ o. listed_issue o.1.issued) says)
  fetched t m reading from s k left (read.IsServed k2 e decided b z free served says) = fetch-issues e (events.listed left.1.issued) (same-listed left.1.issued ∙ ap (λ o. listed_issue o.1.issued) says)

  fetch-cut : (s : read.FetchStage) (more : Dated) → more ≡ issued_by_fetch q s → Issues asked more
  fetch-cut read.Asked more is = inl is
  fetch-cut (read.Known e) more is = inl is
  fetch-cut (read.Reading e decided) more is = fetch-issues e more is

module _ (q : CommitRequest) where
  abbrev handed : Message
  handed = message.Commit q.attempt q.ep q.first q.tracker q.writes

  commit-issues : (e : Epoch) (more : Dated) → more ≡ listed_issue (issued_for q.attempt q.ep e) → Issues handed more
  commit-issues e more is = for-request handed q.attempt q.tracker e q.ep more (λ none. subst (λ ep. AsksEpoch (message.Commit q.attempt ep q.first q.tracker q.writes) q.attempt q.tracker) (sym none) (refl, refl)) is

  committed : (t : TargetPlan) (opening : Epoch × FloorWhy) (m : TargetMemory) (reading : ℕ) (from : ActorId) (s : commit.CommitStage) (k : Kept) (left : TargetMemory × Did) → commit.CommitEnds t opening m reading q from s k left → Issues handed (events.listed left.1.issued)
  committed t opening m reading from s k left (commit.IsSpent k2 z none says) = none-listed handed left.1.issued (ap (λ o. o.1.issued) says)
  committed t opening m reading from s k left (commit.IsRefused k2 e c z why says) = commit-issues e (events.listed left.1.issued) (same-listed left.1.issued ∙ ap (λ o. listed_issue o.1.issued) says)
  committed t opening m reading from s k left (commit.HasNoSpace k2 e z allowed full says) = commit-issues e (events.listed left.1.issued) (same-listed left.1.issued ∙ ap (λ o. listed_issue o.1.issued) says)
  committed t opening m reading from s k left (commit.HasBegun k2 e z says) = commit-issues e (events.listed left.1.issued) (same-listed left.1.issued ∙ ap (λ o. listed_issue o.1.issued) says)

  -- with a member that is known to be down
  downed : (t : TargetPlan) (m : TargetMemory) (reading : ℕ) (from : ActorId) (s : commit.CommitStage) (k : Kept) (left : TargetMemory × Did) → CommitDown t m reading q from s k left → Issues handed (events.listed left.1.issued)
  downed t m reading from s k left (IsSpent j e down z none known says) = none-listed handed left.1.issued (ap (λ o. o.1.issued) says)
  downed t m reading from s k left (IsUnknown j e down z known says) = commit-issues e (events.listed left.1.issued) (same-listed left.1.issued ∙ ap (λ o. listed_issue o.1.issued) says)

  commit-cut : (s : commit.CommitStage) (more : Dated) → more ≡ issued_by_commit q s → Issues handed more
  commit-cut commit.Asked more is = inl is
  commit-cut (commit.Known e) more is = inl is
  commit-cut (commit.Checking e) more is = commit-issues e more is
  commit-cut (commit.Stored e) more is = commit-issues e more is

  commits-cut : (t : TargetPlan) (opening : Epoch × FloorWhy) (m : TargetMemory) (reading : ℕ) (old : Kept) (cut : Cutting) → CommitIsCut t opening m reading q old cut → Issues handed cut.issued
  commits-cut t opening m reading old cut (NoneIsDown up turn) = commit-cut turn.last cut.issued turn.issued
  commits-cut t opening m reading old cut (OneIsDown e down is turn) = commit-cut turn.last cut.issued turn.issued

-- ---- what is heard

hears-issues : (t : TargetPlan) (opening : Epoch × FloorWhy) (m : TargetMemory) (reading : ℕ) (from : ActorId) (q : Message) (old new : Kept) (left : TargetMemory × Did) → HearsRightly t opening m reading from q old new left → Issues q (events.listed left.1.issued)
hears-issues t opening m reading from q old new left h = by (may_be_issued q) refl
  where
    some : (q : Message) → may_be_issued q ≡ true → HearsRightly t opening m reading from q old new left → Issues q (events.listed left.1.issued)
    some (message.Fetch x op group ep first tracker y snapshot) is k = fetched (fetch_request x op group ep first tracker y snapshot) t m reading from k.last new left k.ends
    some (message.Commit x ep first tracker ws) is k = committed (commit_request x ep first tracker ws) t opening m reading from k.last new left k.ends
    some q is k = let no : ⊥ = cc in absurd no

    by : (b : Bool) → may_be_issued q ≡ b → Issues q (events.listed left.1.issued)
    by true is = some q is h
    by false is = none-listed q left.1.issued (hears-issues-none t opening m reading from q old new left h is)

-- of a snapshot or an aggregation
making-issues : (q : Message) (date : Option Epoch) (more : Dated) → IsOfMaking q → more ≡ listed_issue (making_issue (asks_making q) date) → Issues q more
making-issues q date more ours is = by q date is
  where
    none-dated : (o : Option MakingRequest) → making_issue o None ≡ None
    none-dated None = refl
    none-dated (Some a) = refl

    by : (q : Message) (date : Option Epoch) → more ≡ listed_issue (making_issue (asks_making q) date) → Issues q more
    by q None is = inl (is ∙ ap listed_issue (none-dated (asks_making q)))
    by (message.Snap x c name tracker) (Some e) is = for-request (message.Snap x c name tracker) x tracker e None more (λ none. (refl, refl)) is
    by (message.Freeze x c f) (Some e) is = inl is
    by (message.Prune x c (Some tracker) None) (Some e) is = for-request (message.Prune x c (Some tracker) None) x tracker e None more (λ none. (refl, refl)) is
    by (message.Prune x c None (Some g)) (Some e) is = inl is
    by (message.Prune x c None None) (Some e) is = inl is
    by (message.Prune x c (Some tracker) (Some g)) (Some e) is = inl is
    by q (Some e) is = inl is

further-issues : (number : ℕ) (t : TargetPlan) (opening : Epoch × FloorWhy) (m : TargetMemory) (reading : ℕ) (from : ActorId) (q : Message) (old new : Kept) (left : TargetMemory × Did) → HearsFurther number t opening m reading from q old new left
    → Issues q (events.listed left.1.issued)
further-issues number t opening m reading from q old new left h = by (is_of_attempts q) refl
  where
    ours : (q : Message) → is_of_attempts q ≡ true → HearsFurther number t opening m reading from q old new left → Issues q (events.listed left.1.issued)
    ours (message.Commit x ep first tracker ws) is k = downed (commit_request x ep first tracker ws) t m reading from k.last new left k.ends
    ours (message.Ask x) is k = none-listed (message.Ask x) left.1.issued (ap (λ z. z.1.issued) (looks-so _ old new left k).1)
    ours (message.Status x inc) is k = none-listed (message.Status x inc) left.1.issued (ap (λ z. z.1.issued) (looks-so _ old new left k).1)
    ours (message.StatusIs x inc how) is k = none-listed (message.StatusIs x inc how) left.1.issued (acked k.last left k.ends)
      where
        acked : (s : ack.AckStage) (left : TargetMemory × Did) → ack.AckEnds m s new left → left.1.issued ≡ None
        acked s left (ack.IsFollowed j step z says) = ap (λ y. y.1.issued) says
    ours (message.Reset' by down place (more_of-Message (message.Freeze x c e) rest)) is k = let no : ⊥ = cc in absurd no
    ours (message.Reset' by down place (more_of-Message (message.Prune x c tracker e) rest)) is k = let no : ⊥ = cc in absurd no
    ours (message.Reset' by down place (more_of-Message q rest)) is k = none-listed (message.Reset' by down place (more_of-Message q rest)) left.1.issued (ap (λ z. z.1.issued) (looks-so _ old new left k).1)
    ours (message.Snap x c name tracker) is k = let no : ⊥ = cc in absurd no
    ours (message.Freeze x c e) is k = let no : ⊥ = cc in absurd no
    ours (message.Held x refusal) is k = let no : ⊥ = cc in absurd no
    ours (message.Prune x c tracker e) is k = let no : ⊥ = cc in absurd no
    ours q is k = absurd k

    by : (b : Bool) → is_of_attempts q ≡ b → Issues q (events.listed left.1.issued)
    by true is = ours q is h
    by false is =
        let z = hearings-leave number t opening m reading from q old new left h (of-making q is) in
        making-issues q z.last.dated (events.listed left.1.issued) (of-making q is) (same-listed left.1.issued ∙ ap listed_issue z.ends.issued)

-- ---- what was in hand

cut-issues : (number : ℕ) (t : TargetPlan) (opening : Epoch × FloorWhy) (m : TargetMemory) (reading : ℕ) (from : ActorId) (q : Message) (old : Kept) (cut : Cutting) → HearingIsCut is_prepared number t opening m reading from q old cut → Issues q cut.issued
cut-issues number t opening m reading from (message.Fetch x op group ep first tracker y snapshot) old cut h = fetch-cut (fetch_request x op group ep first tracker y snapshot) h.last cut.issued h.issued
cut-issues number t opening m reading from (message.Commit x ep first tracker ws) old cut h = commits-cut (commit_request x ep first tracker ws) t opening m reading old cut h
cut-issues number t opening m reading from (message.Prepare e first ws inc) old cut h = inl h.issued
cut-issues number t opening m reading from (message.Ack x inc refusal) old cut h = inl h.issued
cut-issues number t opening m reading from (message.StatusIs x inc how) old cut h = inl h.issued
cut-issues number t opening m reading from (message.Mark inc marks) old cut h = inl h.issued
cut-issues number t opening m reading from (message.Marked inc ids) old cut h = inl h.issued
cut-issues number t opening m reading from (message.Verdict x ask inc v) old cut h = inl h.issued
cut-issues number t opening m reading from (message.Query x ask) old cut h = inl h.issued
cut-issues number t opening m reading from (message.Ask x) old cut h = inl h.issued
cut-issues number t opening m reading from (message.Status x inc) old cut h = inl h.issued
cut-issues number t opening m reading from (message.Reset' by down place asked) old cut h = inl h.issued
cut-issues number t opening m reading from (message.Snap x c name tracker) old cut h = let z = cuts-leave is_prepared number t opening m reading from (message.Snap x c name tracker) old cut h refl in making-issues (message.Snap x c name tracker) z.last.dated cut.issued refl z.issued
cut-issues number t opening m reading from (message.Freeze x c e) old cut h = let z = cuts-leave is_prepared number t opening m reading from (message.Freeze x c e) old cut h refl in making-issues (message.Freeze x c e) z.last.dated cut.issued refl z.issued
cut-issues number t opening m reading from (message.Held x refusal) old cut h = let z = cuts-leave is_prepared number t opening m reading from (message.Held x refusal) old cut h refl in making-issues (message.Held x refusal) z.last.dated cut.issued refl z.issued
cut-issues number t opening m reading from (message.Prune x c tracker e) old cut h = let z = cuts-leave is_prepared number t opening m reading from (message.Prune x c tracker e) old cut h refl in making-issues (message.Prune x c tracker e) z.last.dated cut.issued refl z.issued
cut-issues number t opening m reading from q old cut h = absurd h

-- ---- lists

apart-push : {T : Type 0} (xs : List T) (x : T) → (Has x xs → ⊥) → AreApart xs → AreApart (xs ++ x ∷ [])
apart-push [] x new k = (λ i. i, tt)
apart-push (y ∷ ys) x new k = (first, apart-push ys x (λ i. new (inr i)) k.1)
  where
    first : Has y (ys ++ x ∷ []) → ⊥
    first i = elim (has-cases ys (x ∷ []) y i) [ inl j ↦ k.0 j | inr (inl same) ↦ new (inl (sym same)) | inr (inr none) ↦ none ]

ids-append : (xs ys : Dated) → dated_ids (xs ++ ys) ≡ dated_ids xs ++ dated_ids ys
ids-append [] ys = refl
ids-append (x ∷ xs) ys = ap (λ zs. x.0 ∷ zs) (ids-append xs ys)

-- an attempt without an epoch isn't among them
not-among : (w : World) (x : AttemptId) → IsUnissued w x → Has x (dated_ids w.issued) → ⊥
not-among w x none i = let j = has-from_map (λ z. z.0) w.issued x i in none j.0.1 (subst (λ y. Contains w.issued (y, j.0.1)) j.2 (contains-from_has w.issued j.0 j.1))

-- ---- events

module _ (r : Rules) (n : ℕ) (h : History) (w v : World) (E : Epochs r n w) (A : Attempts r h w) (k : IssuedOnce w) where
  same : v.issued ≡ w.issued → IssuedOnce v
  same is = subst (λ is'. AreApart (dated_ids is')) (sym is) k

  -- what is issued to an attempt that asks comes besides
  more : (l : _) → Has l w.messages → (is : Dated) → v.issued ≡ w.issued ++ is → Issues l.message is → IssuedOnce v
  more l among is after (inl none) = same (after ∙ ap (λ ls. w.issued ++ ls) none ∙ append-nil w.issued)
  more l among is after (inr one) =
      subst (λ is'. AreApart (dated_ids is')) (sym (after ∙ ap (λ ls. w.issued ++ ls) one.4))
      (subst AreApart (sym (ids-append w.issued ((one.0, one.1) ∷ []))) (apart-push (dated_ids w.issued) one.0 (not-among w one.0 (E.fresh l one.0 one.2 (contains-from_has w.messages l among) one.3).1) k))

  cut-once : (g : TargetCut r w v) → IssuedOnce v
  cut-once g = by g.work g.in_hand g.turn
    where
      by : (a : AtWork) → IsInHand w g.t a → CutOf (target_plan r g.t) g.s a g.cut → IssuedOnce v
      by (Hearing l reading number) hand turn = more l (has-taken w.messages l hand.0.0 hand.0.1) g.cut.issued (ap (λ u. u.issued) g.after) (cut-issues number (target_plan r g.t) g.s.opening g.s.memory reading l.from l.message (kept g.s) g.cut turn)
      by IdleWork hand turn = same (ap (λ u. u.issued) g.after ∙ ap (λ ls. w.issued ++ ls) turn.issued ∙ append-nil w.issued)

  happening-once : (e : Happening r w v) → IssuedOnce v
  happening-once (Plainly (ByClient g) up) = same (by-next r (λ u. u.issued ≡ w.issued) (λ u n c here p. p) (λ u n j c here p. p) w v refl g)
  happening-once (Plainly (ToClient g) up) = same (by-hearing r (λ u. u.issued ≡ w.issued) (λ u n c here p. p) (λ u n c l rest here awake takes to p. p) w v refl g)
  happening-once (Plainly (ToTarget g) up) = more g.l (has-taken w.messages g.l g.rest g.takes) (events.listed g.did.issued) (ap (λ u. u.issued) g.after)
      (hears-issues (target_plan r g.t) g.s.opening g.s.memory g.reading g.l.from g.l.message (kept g.s) g.new (g.memory, g.did) (rightly r w v g (letters-tell r h w A g.l g.t g.s (has-taken w.messages g.l g.rest g.takes) g.to_it g.here)).turn)
  happening-once (Plainly (ByTarget g) up) = same (ap (λ u. u.issued) g.after ∙ ap (λ o. w.issued ++ events.listed o) (idles-issue-none g.settling (target_plan r g.t) g.s.memory (kept g.s) g.new (g.memory, g.did) g.turn) ∙ append-nil w.issued)
  happening-once (Further f) = let g = f.hears in more g.l (has-taken w.messages g.l g.rest g.takes) (events.listed g.did.issued) (ap (λ u. u.issued) g.after)
      (further-issues f.number (target_plan r g.t) g.s.opening g.s.memory g.reading g.l.from g.l.message (kept g.s) g.new (g.memory, g.did) g.turn)
  happening-once (IsCut g) = cut-once g
  happening-once (Opens g) = same (ap (λ u. u.issued) g.after)
  happening-once (Fails g) = same (ap (λ u. u.issued) g.after)
  happening-once (GivenUp g) = same (ap (λ u. u.issued) g.after)
  happening-once (Draws g) = same (ap (λ u. u.issued) g.after)

pub all-events-issue_once : AllEventsIssueOnce
all-events-issue_once r n h w v E A e k = subst (λ x. IssuedOnce x) (sym e.after) (happening-once r n h w e.u E A k e.happens)
