-- What is sent in the further turns of targets ends attempts as it may.
use Rattle.std.specs.Prelude.{ℕ, ◌≡◌, Bool, true, false, List, [], ◌∷◌, Option, Some, None, Result, Ok, Err, refl, if◌then◌else◌, ◌⊎◌}
use Rattle.std.proofs.Common.{sym, ap, subst, inl, inr, ◌∙◌}
use Rattle.base_types.specs.declared.epoch.Epoch.{Epoch}
use Rattle.base_types.specs.declared.id.AttemptId.{AttemptId}
use Rattle.base_types.specs.declared.id.ContId.{ContId}
use Rattle.base_types.specs.declared.key.Key.{Key}
use Rattle.base_types.specs.declared.entry.EntryState.{EntryState}
use Rattle.base_types.specs.declared.entry.EntryState.TheVariants as state
use Rattle.base_types.specs.declared.outcome.FloorWhy.{FloorWhy}
use Rattle.base_types.specs.declared.outcome.Outcome.{Outcome}
use Rattle.base_types.specs.declared.outcome.Outcome.TheVariants as outcome
use Rattle.base_messages.specs.declared.actor.ActorId.{ActorId}
use Rattle.base_messages.specs.declared.message.Message.{Message, more_of-Message}
use Rattle.base_messages.specs.declared.message.Message.TheVariants as message
use Rattle.base_messages.specs.declared.message.Post.{Post}
use Rattle.world_base.specs.dtx_base.Joining as member
use Rattle.world_base.specs.dtx_base.Leading.{to_target}
use Rattle.vos_store.specs.declared.refusal.FreezeNo.{FreezeNo}
use Rattle.vos_store.specs.declared.refusal.FreezeNo.TheVariants as freeze
use Rattle.vos_store.specs.Answers.{freezes}
use Rattle.world_base.specs.declared.did.Did.{Did}
use Rattle.world_base.specs.declared.request.CommitRequest.{CommitRequest}
use Rattle.world_base.specs.declared.target.Collection.{Collection}
use Rattle.world_base.specs.declared.target.TargetMemory.{TargetMemory}
use Rattle.world_base.specs.declared.target.TargetPlan.{TargetPlan}
use Rattle.world_base.specs.Changes.{Kept}
use Rattle.world_base.specs.Commits as commit
use Rattle.world_base.specs.Further.{CommitDown, HearsFurther, IsSpent, IsUnknown, reset_by}
use Rattle.world_base.specs.Roles.{leader_at}
use Rattle.world_base.specs.Snapshots as snap
use Rattle.world_base.specs.Statuses.{AtOnce, EndsAs, IsDone, ask_left, reset_left, status_refusal}
use Rattle.world_base.specs.TargetTurns.{commit_request}
use Rattle.world_letters.specs.lines.EndingLaws.{hears-tells, refuses}
use Rattle.world_letters.specs.lines.Lines.{MayEnd, TellsEnd, is_member_refusal}
use Rattle.world_letters.specs.endings.Answers as follows
use Rattle.world_letters.specs.endings.Answers.{AnswersAsk, SaysCommitted, SaysUnknown, SaysUnresolved, ask-answers, left-follows}
use Rattle.world_letters.specs.endings.Telling.{AsksAgain, AsksFreezes, AsksPrunes, IsLost, IsSent, PostsAfter, Quietly, TellsAfter, all-after, is_collected}

-- ---- posts together

none-end : PostsAfter []
none-end q i = absurd i

single-end : (q : Post) → TellsAfter q.message → PostsAfter (q ∷ [])
single-end q t s (inl same) = subst (λ x. TellsAfter x.message) (sym same) t
single-end q t s (inr none) = absurd none

these-end : (ps qs : List Post) → qs ≡ ps → PostsAfter ps → PostsAfter qs
these-end ps qs same = subst PostsAfter (sym same)

one-post : (did : Did) (q : Post) → did.posts ≡ q ∷ [] → TellsAfter q.message → PostsAfter did.posts
one-post did q e t = these-end (q ∷ []) did.posts e (single-end q t)

-- ---- a Commit with a member that is down

down-ends : (t : TargetPlan) (m : TargetMemory) (reading : ℕ) (q : CommitRequest) (from : ActorId) (s : commit.CommitStage) (k : Kept) (left : TargetMemory × Did) → CommitDown t m reading q from s k left → PostsAfter left.1.posts
down-ends t m reading q from s k left (IsSpent k2 e down left2 none is says) = one-post left2.1 _ (ap (λ o. o.1.posts) says) (inl refl)
down-ends t m reading q from s k left (IsUnknown k2 e down left2 is says) = one-post left2.1 _ (ap (λ o. o.1.posts) says) (inl refl)

-- ---- an Ask

ask-end : (t : TargetPlan) (m : TargetMemory) (from : ActorId) (x : AttemptId) (k : Kept) → PostsAfter (ask_left t m from x k).1.posts
ask-end t m from x k q i = by (ask-answers (leader_at t m k.durable) x from q i)
  where
    by : AnswersAsk (leader_at t m k.durable) x from q → TellsAfter q.message
    by (SaysCommitted e led known is) = subst (λ z. TellsAfter z.message) (sym is) (inr (record { committed = refl; epoch = e.epoch; at = refl }))
    by (SaysUnknown e down led is) = subst (λ z. TellsAfter z.message) (sym is) (inl refl)
    by (SaysUnresolved none is) = subst (λ z. TellsAfter z.message) (sym is) (inl refl)

at-once : (left_by : Kept → TargetMemory × Did) (s : AtOnce) (k : Kept) (left : TargetMemory × Did) → ((j : Kept) → PostsAfter (left_by j).1.posts) → EndsAs left_by s k left → PostsAfter left.1.posts
at-once left_by s k left each (IsDone k2 left2 says) = these-end (left_by k2).1.posts left2.1.posts (ap (λ o. o.1.posts) says) (each k2)

-- ---- a freeze

-- by what a freeze is refused, an attempt may end
refused-may : (p : TargetPlan) (a : Result (Unit {0}) FreezeNo) (how : Outcome) → snap.refusal_of p a ≡ Some how → is_member_refusal how ≡ true
refused-may p (Ok done) how e = let no : ⊥ = cc in absurd no
refused-may p (Err e) how is = by e (let same : snap.freeze_refusal p e ≡ how = cc in same)
  where
    by : (e : FreezeNo) → snap.freeze_refusal p e ≡ how → is_member_refusal how ≡ true
    by (freeze.Below g n) same = ap is_member_refusal (sym same)
    by freeze.NoPlace same = ap is_member_refusal (sym same)
    by other same = ap is_member_refusal (sym same)

cause-may : (p : TargetPlan) (c : ContId) (s : Epoch) (k : Kept) (how : Outcome) → snap.freeze_cause p c s k.durable ≡ Some how → is_member_refusal how ≡ true
cause-may p c s k how is = refused-may p (freezes c s k.durable) how is

snap-sent : (p : TargetPlan) (m : TargetMemory) (reading : ℕ) (tracker : Epoch) (x : AttemptId) (c : ContId) (name : Key) (from : ActorId) (s : snap.FreezeStage) (k : Kept) (left : TargetMemory × Did)
    → snap.SnapEnds p m reading tracker x c name from s k left → IsSent (message.Snap x c name tracker) left.1
snap-sent p m reading tracker x c name from s k left (snap.IsSpent k2 left2 none says) = Quietly (one-post left2.1 _ (ap (λ o. o.1.posts) says) (inl refl))
snap-sent p m reading tracker x c name from s k left (snap.IsRefused k2 e how left2 why says) = Quietly (one-post left2.1 _ (ap (λ o. o.1.posts) says) (inl (refuses how (cause-may p c e k2 how why))))
snap-sent p m reading tracker x c name from s k left (snap.AsksOthers k2 e ls left2 others says) = AsksFreezes x c name tracker e (snap.others p) refl (ap (λ o. o.1.posts) says) (ap (λ o. o.1.issued) says)
snap-sent p m reading tracker x c name from s k left (snap.IsAlone k2 e ls left2 says) = Quietly (one-post left2.1 _ (ap (λ o. o.1.posts) says) (inr (record { committed = refl; epoch = e; at = refl })))

freeze-end : (p : TargetPlan) (m : TargetMemory) (x : AttemptId) (c : ContId) (from : ActorId) (s : snap.FreezeStage) (k : Kept) (left : TargetMemory × Did) → snap.FreezeEnds p m x c from s k left → PostsAfter left.1.posts
freeze-end p m x c from s k left (snap.IsRefused k2 e how left2 why says) = one-post left2.1 _ (ap (λ o. o.1.posts) says) (cause-may p c e k2 how why)
freeze-end p m x c from s k left (snap.IsHeld k2 e ls left2 says) = one-post left2.1 _ (ap (λ o. o.1.posts) says) tt

-- ---- a prune

aggregate-sent : (p : TargetPlan) (m : TargetMemory) (reading : ℕ) (tracker : Epoch) (x : AttemptId) (c : ContId) (from : ActorId) (s : snap.PruneStage) (k : Kept) (left : TargetMemory × Did)
    → snap.AggregateEnds p m reading tracker x c from s k left → IsSent (message.Prune x c (Some tracker) None) left.1
aggregate-sent p m reading tracker x c from s k left (snap.IsSpent k2 left2 none says) = Quietly (one-post left2.1 _ (ap (λ o. o.1.posts) says) (inl refl))
aggregate-sent p m reading tracker x c from s k left (snap.AsksOthers k2 g ls left2 others says) = AsksPrunes x c tracker g (snap.others p) refl (ap (λ o. o.1.posts) says) (ap (λ o. o.1.issued) says)
aggregate-sent p m reading tracker x c from s k left (snap.IsAlone k2 g ls left2 only says) = Quietly (one-post left2.1 _ (ap (λ o. o.1.posts) says) (inr (record { committed = refl; epoch = g; at = refl })))

prune-end : (m : TargetMemory) (x : AttemptId) (from : ActorId) (s : snap.PruneStage) (k : Kept) (left : TargetMemory × Did) → snap.PruneEnds m x from s k left → PostsAfter left.1.posts
prune-end m x from s k left (snap.IsHeld k2 g ls left2 says) = one-post left2.1 _ (ap (λ o. o.1.posts) says) tt

-- ---- a Held

held-by_end : (p : TargetPlan) (m : TargetMemory) (from : ℕ) (x : AttemptId) (refusal : Option Outcome) (o : Option Collection) → MayEnd refusal → PostsAfter (snap.held_by p m from x refusal o).1.posts
held-by_end p m from x refusal None may = none-end
held-by_end p m from x (Some how) (Some c) may = single-end _ (inl (refuses how may))
held-by_end p m from x None (Some c) may = by (snap.is_last p from c)
  where
    ends : Bool → TargetMemory × Did
    ends b = if b then (snap.collected x m, snap.follows (snap.to_actor c.client (message.Ended x (Some c.epoch) outcome.Committed)) [] None) else (snap.counts_held x from m, snap.follows [] [] None)

    by : (b : Bool) → PostsAfter (ends b).1.posts
    by true = single-end _ (inr (record { committed = refl; epoch = c.epoch; at = refl }))
    by false = none-end

held-end : (p : TargetPlan) (m : TargetMemory) (from : ℕ) (x : AttemptId) (refusal : Option Outcome) (s : snap.HeldStage) (k : Kept) (left : TargetMemory × Did) → MayEnd refusal → snap.HeldEnds p m from x refusal s k left → PostsAfter left.1.posts
held-end p m from x refusal s k left may (snap.IsCounted k2 left2 says) = these-end (snap.held_by p m from x refusal (snap.collection_of x m)).1.posts left2.1.posts (ap (λ o. o.1.posts) says) (held-by_end p m from x refusal (snap.collection_of x m) may)
held-end p m from x refusal s k left may (snap.IsCreated k2 c name left2 says) = one-post left2.1 _ (ap (λ o. o.1.posts) says) (inr (record { committed = refl; epoch = c.epoch; at = refl }))

-- ---- a Reset

left-end : (t : TargetPlan) (m : TargetMemory) (by : ℕ) (down : Bool) (asked : Message) (k : Kept) → PostsAfter (reset_left t m by down asked k).1.posts
left-end t m by down asked k q i = each (left-follows t m by down asked k q i)
  where
    each : follows.FollowsReset (leader_at t m k.durable) m.member.parked by q.message → TellsAfter q.message
    each (follows.EndsUnknown x e led is) = subst TellsAfter (sym is) (inl refl)
    each (follows.AsksState x inc is) = subst TellsAfter (sym is) tt
    each (follows.MarksAgain inc marks is) = subst TellsAfter (sym is) tt
    each (follows.MetUnresolved p x op group ep first tracker r snapshot a among asks is) = subst TellsAfter (sym is) refl

collection-sent : (t : ℕ) (down : Bool) (asked : Message) (x : AttemptId) (o : Option Collection) (m : TargetMemory) → ((snap.collection_reset t down asked x o m).1 ≡ to_target t asked ∷ []) ⊎ PostsAfter (snap.collection_reset t down asked x o m).1
collection-sent t false asked x o m = inl refl
collection-sent t true asked x None m = inr none-end
collection-sent t true asked x (Some c) m = inr (single-end _ (inl refl))

-- what follows of a Reset: the same is asked again, of a Freeze or of a Prune; or what leaders and members send
ResetSends : TargetPlan → TargetMemory → ℕ → Bool → Message → Kept → Type 0
ResetSends t m by down asked k = (((reset_by t m by down asked k).1.posts ≡ to_target by asked ∷ []) × (is_collected asked ≡ true)) ⊎ PostsAfter (reset_by t m by down asked k).1.posts

reset-sent : (t : TargetPlan) (m : TargetMemory) (by : ℕ) (down : Bool) (asked : Message) (k : Kept) → ResetSends t m by down asked k
unfolding ResetSends
reset-sent t m by down (message.Freeze x c s) k = elim (collection-sent by down (message.Freeze x c s) x (snap.collection_of x m) m) [ inl e ↦ inl (e, refl) | inr q ↦ inr q ]
reset-sent t m by down (message.Prune x c tracker e) k = elim (collection-sent by down (message.Prune x c tracker e) x (snap.collection_of x m) m) [ inl e ↦ inl (e, refl) | inr q ↦ inr q ]
reset-sent t m by down asked k = inr (left-end t m by down asked k)

-- ---- every further message

-- what a member tells that holds nothing, it refuses an attempt with
status-may : (x : AttemptId) (how : EntryState) → MayEnd (status_refusal x how)
status-may x state.Prepared = tt
status-may x state.Committed = tt
status-may x state.Absent = refl

module _ (number : ℕ) (t : TargetPlan) (opening : Epoch × FloorWhy) (m : TargetMemory) (reading : ℕ) (from : ActorId) (old new : Kept) (left : TargetMemory × Did) where
  -- of a Reset
  reset-is : (q : Message) (by : ℕ) (down : Bool) (asked : Message) (s : AtOnce) (k : Kept) → IsLost q asked → EndsAs (reset_by t m by down asked) s k left → IsSent q left.1
  unfolding ResetSends
  reset-is q by down asked s k lost (IsDone k2 left2 says) = elim (reset-sent t m by down asked k2) [
    | inl again ↦ AsksAgain by asked lost again.1 (ap (λ o. o.1.posts) says ∙ again.0)
    | inr quiet ↦ Quietly (these-end (reset_by t m by down asked k2).1.posts left2.1.posts (ap (λ o. o.1.posts) says) quiet)
  ]

  pub further-sent : (q : Message) → TellsEnd q → HearsFurther number t opening m reading from q old new left → IsSent q left.1
  further-sent (message.Commit x ep first tracker ws) may h = Quietly (down-ends t m reading (commit_request x ep first tracker ws) from h.last new left h.ends)
  further-sent (message.Ask x) may h = Quietly (at-once _ h.last new left (ask-end t m from x) h.ends)
  further-sent (message.Status x inc) may h = Quietly (at-once _ h.last new left (λ j. single-end _ tt) h.ends)
  further-sent (message.StatusIs x inc how) may h = Quietly (all-after left.1.posts (hears-tells t opening m reading from (message.Ack x inc (status_refusal x how)) old new left (status-may x how) h).0)
  further-sent (message.Snap x c called tracker) may h = snap-sent t m reading tracker x c called from h.last new left h.ends
  further-sent (message.Freeze x c s) may h = Quietly (freeze-end t m x c from h.last new left h.ends)
  further-sent (message.Held x refusal) may h = Quietly (held-end t m from.number x refusal h.last new left may h.ends)
  further-sent (message.Prune x c (Some tracker) None) may h = aggregate-sent t m reading tracker x c from h.last new left h.ends
  further-sent (message.Prune x c None (Some g)) may h = Quietly (prune-end m x from h.last new left h.ends)
  further-sent (message.Reset' by down place (more_of-Message asked rest)) may h = reset-is _ by down asked h.last new refl h.ends
  further-sent q may h = absurd h
