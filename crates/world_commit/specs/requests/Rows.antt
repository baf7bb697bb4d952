-- A leader's rows stand in the order of attempts, so none stands twice, over everything that happens.
use Rattle.std.specs.Prelude.{ℕ, ◌≡◌, ◌⊎◌, ◌&&◌, Bool, true, false, if◌then◌else◌, List, [], ◌∷◌, filter, map, slice_get, Option, Some, None, refl}
use Rattle.std.proofs.Common.{sym, ◌∙◌, ap, subst, inl, inr}
use Rattle.std.proofs.Math.ListN.{set}
use Rattle.std.proofs.lemmas.Bool.{cases_eq}
use Rattle.base_types.specs.declared.entry.Entry.{Entry}
use Rattle.base_types.specs.declared.epoch.Epoch.{Epoch}
use Rattle.base_types.specs.declared.id.AttemptId.{AttemptId}
use Rattle.base_types.specs.declared.id.ContId.{ContId}
use Rattle.base_types.specs.declared.operation.MinorWrite.{MinorWrite}
use Rattle.base_types.specs.declared.outcome.FloorWhy.{FloorWhy}
use Rattle.base_types.specs.declared.outcome.Outcome.{Outcome}
use Rattle.base_types.specs.declared.outcome.Outcome.TheVariants as outcome
use Rattle.base_messages.specs.declared.actor.ActorId.{ActorId}
use Rattle.base_messages.specs.declared.message.Message.{Message, more_of-Message}
use Rattle.base_messages.specs.declared.message.Message.TheVariants as message
use Rattle.daos_model.specs.Answers.{is_before}
use Rattle.daos_model.specs.Changes.{reopened}
use Rattle.daos_model.specs.BoolLaws.{clash}
use Rattle.daos_model.specs.Durables.{entry_key, entry_of, same_attempt}
use Rattle.daos_model.specs.Ordered.{all_after, is_rising}
use Rattle.daos_model.specs.OrderLaws.{rising-filter, rising-map}
use Rattle.daos_model.specs.declared.durable.Durable.{Durable}
use Rattle.dtx_base.specs.declared.leading.Undecided.{Undecided}
use Rattle.dtx_base.specs.Asking.{waits_at}
use Rattle.dtx_base.specs.Leading.{LeaderOf, LeaderStep, first_leader, is_led, is_open, knowing, new_undecided, reopened_undecided, undecided_attempt, unwaited_at}
use Rattle.dtx_base.specs.Rows.{is_among, is_other_row, row_key, row_of}
use Rattle.model_laws.specs.Members.{Has}
use Rattle.world_commit.specs.attempts.Attempts.{entry_at, entry_in, is_known_at, is_known_in, leader_of, row_at, row_in}
use Rattle.world_commit.specs.attempts.Counting.{has-taken}
use Rattle.world_commit.specs.attempts.History.{History}
use Rattle.world_commit.specs.attempts.Stored.{rows-rising, led-found}
use Rattle.world_base.specs.declared.did.Did.{Did}
use Rattle.world_base.specs.declared.letter.Letter.{Letter}
use Rattle.world_base.specs.declared.request.CommitRequest.{CommitRequest}
use Rattle.world_base.specs.declared.target.Collection.{Collection}
use Rattle.world_base.specs.declared.target.Life.TheVariants.{Down, Running}
use Rattle.world_base.specs.declared.target.TargetMemory.{TargetMemory}
use Rattle.world_base.specs.declared.target.TargetPlan.{TargetPlan}
use Rattle.world_base.specs.declared.target.TargetState.{TargetState}
use Rattle.world_base.specs.declared.world.World.{World}
use Rattle.world_base.specs.Acks as ack
use Rattle.world_base.specs.Changes.{Change, Kept, Steps}
use Rattle.world_base.specs.Commits as commit
use Rattle.world_base.specs.Events.{ByClient, ByTarget, RightEvent, Rules, ToClient, ToTarget, kept, target_after, target_plan}
use Rattle.world_base.specs.Further.{CommitDown, HearsFurther, IsSpent, IsUnknown, knows_down, reset_by}
use Rattle.world_base.specs.Letters.{target}
use Rattle.world_base.specs.MemoryLaws.{fetch-leaves, idle-leaves, mark-leaves, marked-leaves, query-leaves, verdict-leaves}
use Rattle.world_base.specs.PathLaws.{reached-keeps}
use Rattle.world_base.specs.Prepares as prepare
use Rattle.world_base.specs.RightTurns.{HearsRightly}
use Rattle.world_base.specs.Roles.{is_in_doubt, leader_at}
use Rattle.world_base.specs.Snapshots as snap
use Rattle.world_base.specs.Snapshots.{collected, collection_of, collection_reset, counts_held, is_last, to_actor}
use Rattle.world_base.specs.Statuses.{opening_memory, status_refusal}
use Rattle.world_base.specs.StepLaws.{set-is, set-there}
use Rattle.world_base.specs.Stops.{Draws, Fails, Further, GivenUp, Happening, IsCut, Opens, Plainly, WorldEvent, opened_at, stopped_at, swept}
use Rattle.world_base.specs.TargetTurns.{commit_request, fetch_request, prepare_request}
use Rattle.world_base.specs.Turns.{Whole}
use Rattle.world_commit.specs.fates.Asked.{AskedRight}
use Rattle.world_commit.specs.fates.Facts.{Attempts, RunsAt}
use Rattle.world_commit.specs.fates.Rightly.{events-are-right, letters-tell}
use Rattle.world_letters.specs.talks.Conversation as carrier
use Rattle.world_letters.specs.talks.LeaveLaws as leave
use Rattle.world_letters.specs.talks.LeaveLaws.{AckIs, CommitLeaves, ack-is, commit-leaves}
use Rattle.world_letters.specs.waits.CollectionTurns.{CollectLeaves, Collects, IsEnded, aggregate-leaves, snap-leaves}
use Rattle.world_letters.specs.waits.Premises.{LeadersKnow}
use Rattle.world_letters.specs.waits.ResetTurns.{EndsWait, ResetIs, Stays, reset-is}
use Rattle.world_letters.specs.waits.StopTurns.{AskIs, Tells, Waits, ask-is, nothing-changes}

-- ---- the facts

abbrev pub InOrder : List Undecided → Type 0
InOrder us = is_rising (row_key undecided_attempt) us ≡ true

-- a leader's rows stand in the order of attempts
abbrev pub RowsStandOnce : World → Type 0
RowsStandOnce w = (t : ℕ) (s : TargetState) → slice_get w.targets t ≡ Some s → InOrder s.memory.leader.undecided

-- where a Commit goes, its attempt has no row yet
abbrev pub CommitsFindNoRow : World → Type 0
CommitsFindNoRow w = (l : Letter) (x : AttemptId) (ep first : Option Epoch) (tracker : Epoch) (ws : List MinorWrite) (t : ℕ) → Has l w.messages → l.message ≡ message.Commit x ep first tracker ws → l.to ≡ target t → row_at w t x ≡ None

-- ---- rows

-- rows of the same attempts stand in the same order
after-alike : (k : List ℕ) (us vs : List Undecided) → map (carrier.open_at 0) vs ≡ map (carrier.open_at 0) us → all_after (row_key undecided_attempt) k vs ≡ all_after (row_key undecided_attempt) k us
after-alike k [] [] same = refl
after-alike k [] (v ∷ vs) same = let no : ⊥ = cc in absurd no
after-alike k (u ∷ us) [] same = let no : ⊥ = cc in absurd no
after-alike k (u ∷ us) (v ∷ vs) same =
    let it : v.attempt ≡ u.attempt = cc in
    let rest : map (carrier.open_at 0) vs ≡ map (carrier.open_at 0) us = cc in
    ap (λ x. is_before k (row_key (λ (y : AttemptId). y) x) && all_after (row_key undecided_attempt) k vs) it ∙ ap (λ b. is_before k (row_key undecided_attempt u) && b) (after-alike k us vs rest)

rising-alike : (us vs : List Undecided) → map (carrier.open_at 0) vs ≡ map (carrier.open_at 0) us → is_rising (row_key undecided_attempt) vs ≡ is_rising (row_key undecided_attempt) us
rising-alike [] [] same = refl
rising-alike [] (v ∷ vs) same = let no : ⊥ = cc in absurd no
rising-alike (u ∷ us) [] same = let no : ⊥ = cc in absurd no
rising-alike (u ∷ us) (v ∷ vs) same =
    let it : v.attempt ≡ u.attempt = cc in
    let rest : map (carrier.open_at 0) vs ≡ map (carrier.open_at 0) us = cc in
    ap (λ x. all_after (row_key undecided_attempt) (row_key (λ (y : AttemptId). y) x) vs && is_rising (row_key undecided_attempt) vs) it
    ∙ ap (λ b. b && is_rising (row_key undecided_attempt) vs) (after-alike (row_key undecided_attempt u) us vs rest) ∙ ap (λ b. all_after (row_key undecided_attempt) (row_key undecided_attempt u) us && b) (rising-alike us vs rest)

-- these stand in order where those do
abbrev Rises : List Undecided → List Undecided → Type 0
Rises us vs = InOrder us → InOrder vs

as-they-were : (us vs : List Undecided) → vs ≡ us → Rises us vs
as-they-were us vs same h = subst InOrder (sym same) h

by-open : (us vs : List Undecided) → map (carrier.open_at 0) vs ≡ map (carrier.open_at 0) us → Rises us vs
by-open us vs same h = rising-alike us vs same ∙ h

by-map : (us vs : List Undecided) (f : Undecided → Undecided) → ((u : Undecided) → (f u).attempt ≡ u.attempt) → vs ≡ map f us → Rises us vs
by-map us vs f same is h = subst InOrder (sym is) (rising-map (row_key undecided_attempt) f (λ u. ap (row_key (λ (y : AttemptId). y)) (same u)) us ∙ h)

-- ---- turns

ack-rises : (a : AttemptId) (l : LeaderOf) (s : LeaderStep) → AckIs a l s → Rises l.memory.undecided s.leader.memory.undecided
ack-rises a l s (leave.Stays none same) = by-open l.memory.undecided s.leader.memory.undecided (same 0)
ack-rises a l s (leave.Ends u e how more found says to undecided) = λ h. subst InOrder (sym undecided) (rising-filter (row_key undecided_attempt) (is_other_row undecided_attempt a) l.memory.undecided h)

abbrev RisesThen : TargetMemory → ack.AckStage → Type 0
RisesThen m ack.Heard = Unit {0}
RisesThen m (ack.Followed s) = Rises m.leader.undecided s.leader.memory.undecided

ack-goes : (p : TargetPlan) (m : TargetMemory) (by-it : ℕ) (a : AttemptId) (inc : ℕ) (refusal : Option Outcome) (s : ack.AckStage) (k : Kept) (o : Option Change) (u : ack.AckStage) (l : Kept) → ack.AckNext p m by-it a inc refusal s k o u → Steps o k l → RisesThen m s → RisesThen m u
ack-goes p m by-it a inc refusal s k o u l (ack.Aborts k2 is) steps h = ack-rises a (leader_at p m k.durable) _ (ack-is by-it a inc refusal (leader_at p m k.durable))
ack-goes p m by-it a inc refusal s k o u l (ack.Counts k2 is) steps h = ack-rises a (leader_at p m k.durable) _ (ack-is by-it a inc refusal (leader_at p m k.durable))

ack-turn : (p : TargetPlan) (m : TargetMemory) (by-it : ℕ) (a : AttemptId) (inc : ℕ) (refusal : Option Outcome) (old new : Kept) (left : TargetMemory × Did) → Whole (ack.AckNext p m by-it a inc refusal) (ack.AckEnds m) ack.Heard old new left → Rises m.leader.undecided left.0.leader.undecided
ack-turn p m by-it a inc refusal old new left w = ends w.last new left w.ends (reached-keeps (ack.AckNext p m by-it a inc refusal) (λ s k. RisesThen m s) (ack-goes p m by-it a inc refusal) ack.Heard old w.last new w.reached tt)
  where
    ends : (s : ack.AckStage) (k : Kept) (o : TargetMemory × Did) → ack.AckEnds m s k o → RisesThen m s → Rises m.leader.undecided o.0.leader.undecided
    ends s k o (ack.IsFollowed k2 step o2 says) h = λ i. subst InOrder (sym (ap (λ z. z.0.leader.undecided) says)) (h i)

commit-rises : (q : CommitRequest) (from : ActorId) (m : TargetMemory) (left : TargetMemory × Did) → row_of undecided_attempt q.attempt m.leader.undecided ≡ None → CommitLeaves q from m left → Rises m.leader.undecided left.0.leader.undecided
commit-rises q from m left none (leave.IsEnded own how posts same) = by-open m.leader.undecided left.0.leader.undecided (same.undecided 0)
commit-rises q from m left none (leave.HasBegun to parked undecided) = λ h. subst InOrder (sym undecided) (rows-rising undecided_attempt (new_undecided q.attempt (Some from)) m.leader.undecided none h)

prepare-same : (t : TargetPlan) (opening : Epoch × FloorWhy) (m : TargetMemory) (e : Entry) (first : Option Epoch) (ws : List MinorWrite) (inc : ℕ) (s : prepare.PrepareStage) (k : Kept) (left : TargetMemory × Did) → prepare.PrepareEnds t opening m (prepare_request e first ws inc) s k left → left.0.leader.undecided ≡ m.leader.undecided
prepare-same t opening m e first ws inc s k left (prepare.IsRefused k2 c left2 why says) = ap (λ o. o.0.leader.undecided) says
prepare-same t opening m e first ws inc s k left (prepare.HasNoSpace k2 left2 allowed full says) = ap (λ o. o.0.leader.undecided) says
prepare-same t opening m e first ws inc s k left (prepare.IsPrepared k2 left2 says) = ap (λ o. o.0.leader.undecided) says

-- a Commit finds no row
abbrev FindsNoRow : TargetMemory → Message → Type 0
FindsNoRow m (message.Commit x ep first tracker ws) = row_of undecided_attempt x m.leader.undecided ≡ None
FindsNoRow m q = Unit {0}

hears-rises : (t : TargetPlan) (opening : Epoch × FloorWhy) (m : TargetMemory) (reading : ℕ) (from : ActorId) (q : Message) (old new : Kept) (left : TargetMemory × Did) → FindsNoRow m q → HearsRightly t opening m reading from q old new left → Rises m.leader.undecided left.0.leader.undecided
hears-rises t opening m reading from (message.Fetch x op group ep first tracker r snapshot) old new left none h =
    as-they-were m.leader.undecided left.0.leader.undecided (fetch-leaves t m reading (fetch_request x op group ep first tracker r snapshot) from h.last new left h.ends).leads.undecided
hears-rises t opening m reading from (message.Commit x ep first tracker ws) old new left none h =
    commit-rises (commit_request x ep first tracker ws) from m left none (commit-leaves t opening m reading (commit_request x ep first tracker ws) from h.last new left h.ends)
hears-rises t opening m reading from (message.Prepare e first ws inc) old new left none h = as-they-were m.leader.undecided left.0.leader.undecided (prepare-same t opening m e first ws inc h.last new left h.ends)
hears-rises t opening m reading from (message.Ack x inc refusal) old new left none h = ack-turn t m from.number x inc refusal old new left h
hears-rises t opening m reading from (message.Mark inc marks) old new left none h = as-they-were m.leader.undecided left.0.leader.undecided (ap (λ y. y.leader.undecided) (mark-leaves m from inc marks h.last new left h.ends))
hears-rises t opening m reading from (message.Marked inc ids) old new left none h = as-they-were m.leader.undecided left.0.leader.undecided (marked-leaves t m from.number inc ids h.last new left h.ends).undecided
hears-rises t opening m reading from (message.Query x ask) old new left none h = as-they-were m.leader.undecided left.0.leader.undecided (ap (λ y. y.leader.undecided) (query-leaves t m from x ask h.last new left h.ends))
hears-rises t opening m reading from (message.Verdict x ask inc v) old new left none h = as-they-were m.leader.undecided left.0.leader.undecided (verdict-leaves (is_in_doubt t.me) t m reading x ask v old new left h).0.leads.undecided
hears-rises t opening m reading from q old new left none h = absurd h

-- ---- what else is heard

ask-rises : (x : AttemptId) (from : ActorId) (l : LeaderOf) (s : LeaderStep) → AskIs x from l s → Rises l.memory.undecided s.leader.memory.undecided
ask-rises x from l s (Tells own how posts same) = as-they-were l.memory.undecided s.leader.memory.undecided (ap (λ y. y.memory.undecided) same)
ask-rises x from l s (Waits e found prepared unknown none same) = by-map l.memory.undecided s.leader.memory.undecided (waits_at x from) (λ u. by u (same_attempt u.attempt x)) (ap (λ y. y.memory.undecided) same)
  where
    by : (u : Undecided) (b : Bool) → (if b then record u { client = Some from } else u).attempt ≡ u.attempt
    by u true = refl
    by u false = refl

reset-rises : (l : LeaderOf) (s : LeaderStep) → ResetIs l s → Rises l.memory.undecided s.leader.memory.undecided
reset-rises l s (Stays between same) = as-they-were l.memory.undecided s.leader.memory.undecided same
reset-rises l s (EndsWait a u e how found posts undecided) = by-map l.memory.undecided s.leader.memory.undecided (unwaited_at a) (λ v. by v (same_attempt v.attempt a)) undecided
  where
    by : (v : Undecided) (b : Bool) → (if b then record v { client = None } else v).attempt ≡ v.attempt
    by v true = refl
    by v false = refl

knowing-same : (t : ℕ) (down : Bool) (l : LeaderOf) → (knowing t down l).memory.undecided ≡ l.memory.undecided
knowing-same t true l = refl
knowing-same t false l = refl

collection-same : (t : ℕ) (down : Bool) (asked : Message) (x : AttemptId) (o : Option Collection) (m : TargetMemory) → (knows_down t down (collection_reset t down asked x o m).0).leader.undecided ≡ m.leader.undecided
collection-same t false asked x o m = refl
collection-same t true asked x None m = refl
collection-same t true asked x (Some c) m = refl

by-reset : (t : TargetPlan) (m : TargetMemory) (by-it : ℕ) (down : Bool) (asked : Message) (k : Kept) → Rises m.leader.undecided (reset_by t m by-it down asked k).0.leader.undecided
by-reset t m by-it down (message.Freeze x c s) k = as-they-were _ _ (collection-same by-it down (message.Freeze x c s) x (collection_of x m) m)
by-reset t m by-it down (message.Prune x c tracker e) k = as-they-were _ _ (collection-same by-it down (message.Prune x c tracker e) x (collection_of x m) m)
by-reset t m by-it down asked k = λ h. subst InOrder (sym (knowing-same by-it down _)) (reset-rises (leader_at t m k.durable) _ (reset-is by-it down asked (leader_at t m k.durable)) h)

collect-same : (t : ℕ) (x : AttemptId) (q : Message) (from : ActorId) (m : TargetMemory) (left : TargetMemory × Did) → CollectLeaves t x q from m left → left.0.leader.undecided ≡ m.leader.undecided
collect-same t x q from m left (IsEnded own how posts parked undecided collecting) = undecided
collect-same t x q from m left (Collects c client holds between parked undecided collecting) = undecided

freeze-same : (p : TargetPlan) (m : TargetMemory) (x : AttemptId) (c : ContId) (from : ActorId) (s : snap.FreezeStage) (k : Kept) (left : TargetMemory × Did) → snap.FreezeEnds p m x c from s k left → left.0.leader.undecided ≡ m.leader.undecided
freeze-same p m x c from s k left (snap.IsRefused k2 e how left2 why says) = ap (λ o. o.0.leader.undecided) says
freeze-same p m x c from s k left (snap.IsHeld k2 e lines left2 says) = ap (λ o. o.0.leader.undecided) says

prune-same : (m : TargetMemory) (x : AttemptId) (from : ActorId) (s : snap.PruneStage) (k : Kept) (left : TargetMemory × Did) → snap.PruneEnds m x from s k left → left.0.leader.undecided ≡ m.leader.undecided
prune-same m x from s k left (snap.IsHeld k2 g lines left2 says) = ap (λ o. o.0.leader.undecided) says

held-by_same : (p : TargetPlan) (m : TargetMemory) (by-it : ℕ) (x : AttemptId) (refusal : Option Outcome) (o : Option Collection) → (snap.held_by p m by-it x refusal o).0.leader.undecided ≡ m.leader.undecided
held-by_same p m by-it x refusal None = none refusal
  where
    none : (refusal : Option Outcome) → (snap.held_by p m by-it x refusal None).0.leader.undecided ≡ m.leader.undecided
    none refusal = refl
held-by_same p m by-it x (Some how) (Some c) = refl
held-by_same p m by-it x None (Some c) = last (is_last p by-it c) (snap.held_by p m by-it x None (Some c)) refl
  where
    last : (b : Bool) (left : TargetMemory × Did) → left ≡ (if b then (collected x m, snap.follows (to_actor c.client (message.Ended x (Some c.epoch) outcome.Committed)) [] None) else (counts_held x by-it m, snap.follows [] [] None)) → left.0.leader.undecided ≡ m.leader.undecided
    last true left is = ap (λ o. o.0.leader.undecided) is
    last false left is = ap (λ o. o.0.leader.undecided) is

held-same : (p : TargetPlan) (m : TargetMemory) (by-it : ℕ) (x : AttemptId) (refusal : Option Outcome) (s : snap.HeldStage) (k : Kept) (left : TargetMemory × Did) → snap.HeldEnds p m by-it x refusal s k left → left.0.leader.undecided ≡ m.leader.undecided
held-same p m by-it x refusal s k left (snap.IsCounted k2 left2 says) = ap (λ o. o.0.leader.undecided) says ∙ held-by_same p m by-it x refusal (collection_of x m)
held-same p m by-it x refusal s k left (snap.IsCreated k2 c name left2 says) = ap (λ o. o.0.leader.undecided) says

down-same : (t : TargetPlan) (m : TargetMemory) (reading : ℕ) (q : CommitRequest) (from : ActorId) (s : commit.CommitStage) (k : Kept) (left : TargetMemory × Did) → CommitDown t m reading q from s k left → left.0.leader.undecided ≡ m.leader.undecided
down-same t m reading q from s k left (IsSpent k2 e down left2 none is says) = ap (λ o. o.0.leader.undecided) says
down-same t m reading q from s k left (IsUnknown k2 e down left2 is says) = ap (λ o. o.0.leader.undecided) says

more-rises : (number : ℕ) (t : TargetPlan) (opening : Epoch × FloorWhy) (m : TargetMemory) (reading : ℕ) (from : ActorId) (q : Message) (old new : Kept) (left : TargetMemory × Did) → HearsFurther number t opening m reading from q old new left → Rises m.leader.undecided left.0.leader.undecided
more-rises number t opening m reading from (message.Commit x ep first tracker ws) old new left h = as-they-were _ _ (down-same t m reading (commit_request x ep first tracker ws) from h.last new left h.ends)
more-rises number t opening m reading from (message.Ask x) old new left h =
    λ i. subst (λ (z : TargetMemory × Did). InOrder z.0.leader.undecided) (sym (nothing-changes old new left h).1) (ask-rises x from (leader_at t m old.durable) _ (ask-is x from (leader_at t m old.durable)) i)
more-rises number t opening m reading from (message.Status x inc) old new left h = as-they-were _ _ (ap (λ z. z.0.leader.undecided) (nothing-changes old new left h).1)
more-rises number t opening m reading from (message.StatusIs x inc how) old new left h = ack-turn t m from.number x inc (status_refusal x how) old new left h
more-rises number t opening m reading from (message.Snap x c called tracker) old new left h = as-they-were _ _ (collect-same t.me x (message.Snap x c called tracker) from m left (snap-leaves t.me t m reading tracker x c called from h.last new left h.ends))
more-rises number t opening m reading from (message.Freeze x c s) old new left h = as-they-were _ _ (freeze-same t m x c from h.last new left h.ends)
more-rises number t opening m reading from (message.Held x refusal) old new left h = as-they-were _ _ (held-same t m from.number x refusal h.last new left h.ends)
more-rises number t opening m reading from (message.Prune x c (Some tracker) None) old new left h = as-they-were _ _ (collect-same t.me x (message.Prune x c (Some tracker) None) from m left (aggregate-leaves t.me t m reading tracker x c from h.last new left h.ends))
more-rises number t opening m reading from (message.Prune x c None (Some g)) old new left h = as-they-were _ _ (prune-same m x from h.last new left h.ends)
more-rises number t opening m reading from (message.Reset' by-it down place (more_of-Message asked rest)) old new left h =
    λ i. subst (λ (z : TargetMemory × Did). InOrder z.0.leader.undecided) (sym (nothing-changes old new left h).1) (by-reset t m by-it down asked old i)
more-rises number t opening m reading from other old new left h = absurd h

-- ---- everything

rows-set : (w : World) (t : ℕ) (z : TargetState) → RowsStandOnce w → InOrder z.memory.leader.undecided → (u : ℕ) (s : TargetState) → slice_get (set w.targets t z) u ≡ Some s → InOrder s.memory.leader.undecided
rows-set w t z k of u s at = by (cases_eq u t)
  where
    by : (u ≡ t) ⊎ ((u ≡ t) → ⊥) → InOrder s.memory.leader.undecided
    by (inl same) = subst (λ x. InOrder x.memory.leader.undecided) (set-is w.targets t z s (subst (λ n. slice_get (set w.targets t z) n ≡ Some s) same at)) of
    by (inr apart) = k u s (sym (set-there w.targets t u z apart) ∙ at)

rows-then : (w v : World) (t : ℕ) (z : TargetState) → v.targets ≡ set w.targets t z → InOrder z.memory.leader.undecided → RowsStandOnce w → RowsStandOnce v
rows-then w v t z targets of k u s at = rows-set w t z k of u s (ap (λ ts. slice_get ts u) (sym targets) ∙ at)

rows-as : (w v : World) → v.targets ≡ w.targets → RowsStandOnce w → RowsStandOnce v
rows-as w v same k t s at = k t s (ap (λ ts. slice_get ts t) (sym same) ∙ at)

-- entries that it keeps in order make rows in order
reopened-rise : (es : List Entry) → is_rising entry_key es ≡ true → InOrder (map reopened_undecided es)
reopened-rise es h = alike es ∙ h
  where
    later : (k : List ℕ) (es : List Entry) → all_after (row_key undecided_attempt) k (map reopened_undecided es) ≡ all_after entry_key k es
    later k [] = refl
    later k (e ∷ es) = ap (λ b. is_before k (entry_key e) && b) (later k es)

    alike : (es : List Entry) → is_rising (row_key undecided_attempt) (map reopened_undecided es) ≡ is_rising entry_key es
    alike [] = refl
    alike (e ∷ es) = ap (λ b. b && is_rising (row_key undecided_attempt) (map reopened_undecided es)) (later (entry_key e) es) ∙ ap (λ b. all_after entry_key (entry_key e) es && b) (alike es)

opened-rise : (r : Rules) (t : ℕ) (d : Durable) → is_rising entry_key d.entries ≡ true → InOrder (opening_memory (target_plan r t) d).leader.undecided
unfolding first_leader
opened-rise r t d h = reopened-rise (filter is_open (filter (is_led t) d.entries)) (rising-filter entry_key is_open (filter (is_led t) d.entries) (rising-filter entry_key (is_led t) d.entries h))

-- what a Commit finds
finds : (w : World) (t : ℕ) (s : TargetState) (l : Letter) → CommitsFindNoRow w → slice_get w.targets t ≡ Some s → Has l w.messages → l.to ≡ target t → (q : Message) → l.message ≡ q → FindsNoRow s.memory q
finds w t s l k here i to (message.Commit x ep first tracker ws) is = ap (λ o. row_in o x) (sym here) ∙ k l x ep first tracker ws t i is to
finds w t s l k here i to q is = tt

module _ (r : Rules) (h : History) (w v : World) (attempts : Attempts r h w) (commits : CommitsFindNoRow w) (k : RowsStandOnce w) where
  rightly : RightEvent r w v → RowsStandOnce v
  rightly (ByClient g) = rows-as w v (ap (λ x. x.targets) g.after) k
  rightly (ToClient g) = rows-as w v (ap (λ x. x.targets) g.after) k
  rightly (ToTarget g) =
      rows-then w v g.t (target_after g.s g.new g.memory) (ap (λ x. x.targets) g.after)
      (hears-rises (target_plan r g.t) g.s.opening g.s.memory g.reading g.l.from g.l.message (kept g.s) g.new (g.memory, g.did) (finds w g.t g.s g.l commits g.here (has-taken w.messages g.l g.rest g.takes) g.to_it g.l.message refl) g.turn (k g.t g.s g.here)) k
  rightly (ByTarget g) =
      rows-then w v g.t (target_after g.s g.new g.memory) (ap (λ x. x.targets) g.after)
      (as-they-were g.s.memory.leader.undecided g.memory.leader.undecided (idle-leaves g.settling (target_plan r g.t) g.s.memory g.turn.last g.new (g.memory, g.did) g.turn.ends).undecided (k g.t g.s g.here)) k

  pub rows-happen : Happening r w v → RowsStandOnce v
  unfolding reopened
  rows-happen (Plainly e up) = rightly (events-are-right r h w v attempts e)
  rows-happen (Further g) =
      rows-then w v g.hears.t (target_after g.hears.s g.hears.new g.hears.memory) (ap (λ x. x.targets) g.hears.after)
      (more-rises g.number (target_plan r g.hears.t) g.hears.s.opening g.hears.s.memory g.hears.reading g.hears.l.from g.hears.l.message (kept g.hears.s) g.hears.new (g.hears.memory, g.hears.did) g.hears.turn (k g.hears.t g.hears.s g.hears.here)) k
  rows-happen (IsCut g) = rows-then w v g.t (stopped_at g.s g.cut.left) (ap (λ x. x.targets) g.after) refl k
  rows-happen (Opens g) = rows-then w v g.t (opened_at r g.t g.number g.s g.free) (ap (λ x. x.targets) g.after) (opened-rise r g.t (reopened g.s.durable) (attempts.on.ordered g.t g.s g.here).entries) k
  rows-happen (Fails g) = rows-then w v g.t (record g.s { durable = g.k.durable; free = g.k.free }) (ap (λ x. x.targets) g.after) (k g.t g.s g.here) k
  rows-happen (GivenUp g) = rows-then w v g.t (record g.s { life = Down }) (ap (λ x. x.targets) g.after) (k g.t g.s g.here) k
  rows-happen (Draws g) = rows-as w v (ap (λ x. x.targets) g.after) k

-- and what goes to targets that are given up is lost
pub rows-stay : (r : Rules) (h : History) (w v : World) → Attempts r h w → CommitsFindNoRow w → WorldEvent r w v → RowsStandOnce w → RowsStandOnce v
rows-stay r h w v attempts commits e k = subst RowsStandOnce (sym e.after) (rows-as e.u (swept e.u) refl (rows-happen r h w e.u attempts commits k e.happens))

-- ---- what follows of attempts

-- where Commits are new they find no row
pub commits-find : (r : Rules) (h : History) (w : World) → Attempts r h w → AskedRight r h w → CommitsFindNoRow w
commits-find r h w k right l x ep first tracker ws t i is to = by (row_at w t x) refl
  where
    by : (o : Option Undecided) → row_at w t x ≡ o → o ≡ None
    by None found = refl
    by (Some u) found =
        let row = (k.on.each x).rows.undecided t u found in
        let bad : Some row.here.entry ≡ None = sym (subst (λ m. entry_at w m x ≡ Some row.here.entry) row.here.leads row.here.found) ∙ (right.commits l x ep first tracker ws i is).unstored in
        let no : ⊥ = cc in absurd no

-- what leaders know
pub leaders-know : (r : Rules) (h : History) (w : World) → Attempts r h w → RowsStandOnce w → LeadersKnow r w
leaders-know r h w k rows = record {
  rows = rows;
  opened = λ t s here runs x e found prepared unknown. has-row t s here runs x e (led-found (target_plan r t) s.memory s.durable x e (k.on.ordered t s here).entries found) prepared unknown;
  others = letters-tell r h w k;
}
  where
    has-row : (t : ℕ) (s : TargetState) → slice_get w.targets t ≡ Some s → s.life ≡ Running → (x : AttemptId) (e : Entry) → (entry_of s.durable x ≡ Some e) × (e.leader ≡ t) → e.committed ≡ false → is_among x s.memory.leader.decided ≡ false
        → (u : Undecided) × (row_of undecided_attempt x s.memory.leader.undecided ≡ Some u)
    has-row t s here runs x e found prepared unknown = either ((k.on.each x).rows.either e now (subst (λ m. entry_at w m x ≡ Some e) leads at) prepared)
      where
        at : entry_at w t x ≡ Some e
        at = ap (λ o. entry_in o x) here ∙ found.0

        leads : t ≡ leader_of r x
        leads = sym found.1 ∙ ((k.on.each x).entries.one t e at).leader

        now : RunsAt w (leader_of r x)
        now = subst (RunsAt w) leads (λ z there. let same : Some s ≡ Some z = sym here ∙ there in let it : s ≡ z = cc in ap (λ y. y.life) (sym it) ∙ runs)

        either : (is_known_at w (leader_of r x) x ≡ true) ⊎ ((u : Undecided) × (row_at w (leader_of r x) x ≡ Some u)) → (u : Undecided) × (row_of undecided_attempt x s.memory.leader.undecided ≡ Some u)
        either (inl known) = clash (is_among x s.memory.leader.decided) (ap (λ o. is_known_in o x) (sym here) ∙ subst (λ m. is_known_at w m x ≡ true) (sym leads) known) unknown
        either (inr z) = (z.0, ap (λ o. row_in o x) (sym here) ∙ subst (λ m. row_at w m x ≡ Some z.0) (sym leads) z.1)
