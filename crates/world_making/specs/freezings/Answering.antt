-- Who answers a Freeze, and what it then keeps.
use Rattle.std.specs.Prelude.{ℕ, ◌≡◌, Bool, true, false, List, [], ◌∷◌, map, Option, Some, None, refl, if◌then◌else◌}
use Rattle.std.proofs.Common.{sym, ◌∙◌, ap, subst, inl, inr}
use Rattle.base_types.specs.declared.entry.EntryState.{EntryState}
use Rattle.base_types.specs.declared.entry.EntryState.TheVariants as state
use Rattle.base_types.specs.declared.epoch.Epoch.{Epoch}
use Rattle.base_types.specs.declared.id.AttemptId.{AttemptId}
use Rattle.base_types.specs.declared.id.ContId.{ContId}
use Rattle.base_types.specs.declared.key.Key.{Key}
use Rattle.base_types.specs.declared.outcome.FloorWhy.{FloorWhy}
use Rattle.base_types.specs.declared.outcome.Outcome.{Outcome}
use Rattle.base_types.specs.declared.outcome.Outcome.TheVariants as outcome
use Rattle.base_messages.specs.declared.actor.ActorId.{ActorId}
use Rattle.base_messages.specs.declared.message.Message.{Message, more_of-Message}
use Rattle.base_messages.specs.declared.message.Message.TheVariants as message
use Rattle.base_messages.specs.declared.message.Post.{Post}
use Rattle.daos_model.specs.Durables.{is_frozen}
use Rattle.dtx_base.specs.Joining as member
use Rattle.dtx_base.specs.Leading.{to_target}
use Rattle.model_laws.specs.Members.{Has, has-from_map}
use Rattle.world_base.specs.declared.did.Did.{Did}
use Rattle.world_base.specs.declared.request.CommitRequest.{CommitRequest}
use Rattle.world_base.specs.declared.target.Collection.{Collection}
use Rattle.world_base.specs.declared.target.TargetMemory.{TargetMemory}
use Rattle.world_base.specs.declared.target.TargetPlan.{TargetPlan}
use Rattle.world_base.specs.Changes.{Kept}
use Rattle.world_base.specs.Commits as commit
use Rattle.world_base.specs.Events.{Rules}
use Rattle.world_base.specs.Further.{CommitDown, HearsFurther, IsSpent, IsUnknown, reset_by}
use Rattle.world_base.specs.Requests.{request_epoch}
use Rattle.world_base.specs.Roles.{leader_at}
use Rattle.world_base.specs.Snapshots as snap
use Rattle.world_base.specs.Statuses.{AtOnce, EndsAs, IsDone, ask_left, reset_left, status_refusal}
use Rattle.world_base.specs.TargetTurns.{commit_request}
use Rattle.world_making.specs.freezings.Turns.{FreezesSo, freezes-path}
use Rattle.world_letters.specs.endings.Answers as follows
use Rattle.world_letters.specs.endings.Answers.{AnswersAsk, SaysCommitted, SaysUnknown, SaysUnresolved, ask-answers, left-follows}
use Rattle.world_letters.specs.lines.EndingLaws.{hears-tells}
use Rattle.world_letters.specs.lines.Lines.{MayEnd, TellsPlainly}
use Rattle.world_letters.specs.snapshots.Makings.{IsAggregationOf, IsSnapIn, IsSo}

-- a message answers a Freeze or a Prune
abbrev pub is_held : Message → Bool
is_held (message.Held x refusal) = true
is_held m = false

-- none of these does
abbrev pub NoneIsHeld : List Post → Type 0
NoneIsHeld posts = (q : Post) → Has q posts → is_held q.message ≡ false

none-there : NoneIsHeld []
none-there q i = absurd i

one-not : (q : Post) → is_held q.message ≡ false → NoneIsHeld (q ∷ [])
one-not q off p (inl same) = ap (λ x. is_held x.message) same ∙ off
one-not q off p (inr none) = absurd none

these-not : (ps qs : List Post) → qs ≡ ps → NoneIsHeld ps → NoneIsHeld qs
these-not ps qs same = subst NoneIsHeld (sym same)

mapped-not : (to : ℕ → Post) (ts : List ℕ) → ((t : ℕ) → is_held (to t).message ≡ false) → NoneIsHeld (map to ts)
mapped-not to ts each q i = let z = has-from_map to ts q i in ap (λ x. is_held x.message) (sym z.2) ∙ each z.0

pub plainly-not : (m : Message) → TellsPlainly m → is_held m ≡ false
plainly-not (message.Held x refusal) h = absurd h
plainly-not m h = refl

-- ---- what isn't of snapshots

down-not : (t : TargetPlan) (m : TargetMemory) (reading : ℕ) (q : CommitRequest) (from : ActorId) (s : commit.CommitStage) (k : Kept) (left : TargetMemory × Did) → CommitDown t m reading q from s k left → NoneIsHeld left.1.posts
down-not t m reading q from s k left (IsSpent k2 e down left2 none is says) = these-not _ left2.1.posts (ap (λ o. o.1.posts) says) (one-not _ refl)
down-not t m reading q from s k left (IsUnknown k2 e down left2 is says) = these-not _ left2.1.posts (ap (λ o. o.1.posts) says) (one-not _ refl)

ask-not : (t : TargetPlan) (m : TargetMemory) (from : ActorId) (x : AttemptId) (k : Kept) → NoneIsHeld (ask_left t m from x k).1.posts
ask-not t m from x k q i = by (ask-answers (leader_at t m k.durable) x from q i)
  where
    by : AnswersAsk (leader_at t m k.durable) x from q → is_held q.message ≡ false
    by (SaysCommitted e led known is) = ap (λ z. is_held z.message) is
    by (SaysUnknown e down led is) = ap (λ z. is_held z.message) is
    by (SaysUnresolved none is) = ap (λ z. is_held z.message) is

at-once : (left_by : Kept → TargetMemory × Did) (s : AtOnce) (k : Kept) (left : TargetMemory × Did) → ((j : Kept) → NoneIsHeld (left_by j).1.posts) → EndsAs left_by s k left → NoneIsHeld left.1.posts
at-once left_by s k left each (IsDone k2 left2 says) = these-not (left_by k2).1.posts left2.1.posts (ap (λ o. o.1.posts) says) (each k2)

-- ---- a Reset

left-not : (t : TargetPlan) (m : TargetMemory) (by : ℕ) (down : Bool) (asked : Message) (k : Kept) → NoneIsHeld (reset_left t m by down asked k).1.posts
left-not t m by down asked k q i = each (left-follows t m by down asked k q i)
  where
    each : follows.FollowsReset (leader_at t m k.durable) m.member.parked by q.message → is_held q.message ≡ false
    each (follows.EndsUnknown x e led is) = ap is_held is
    each (follows.AsksState x inc is) = ap is_held is
    each (follows.MarksAgain inc marks is) = ap is_held is
    each (follows.MetUnresolved p x op group ep first tracker r snapshot a among asks is) = ap is_held is

-- what is asked of the other targets again
abbrev is_asked_again : Message → Bool
is_asked_again (message.Freeze x c s) = true
is_asked_again (message.Prune x c tracker e) = true
is_asked_again m = false

again-not : (t : ℕ) (asked : Message) → is_asked_again asked ≡ true → is_held (to_target t asked).message ≡ false
again-not t (message.Freeze x c s) is = refl
again-not t (message.Prune x c tracker e) is = refl
again-not t asked is = let no : ⊥ = cc in absurd no

collection-not : (t : ℕ) (down : Bool) (asked : Message) (x : AttemptId) (o : Option Collection) (m : TargetMemory) → is_asked_again asked ≡ true → NoneIsHeld (snap.collection_reset t down asked x o m).1
collection-not t false asked x o m is = one-not (to_target t asked) (again-not t asked is)
collection-not t true asked x None m is = none-there
collection-not t true asked x (Some c) m is = one-not _ refl

reset-not : (t : TargetPlan) (m : TargetMemory) (by : ℕ) (down : Bool) (asked : Message) (k : Kept) → NoneIsHeld (reset_by t m by down asked k).1.posts
reset-not t m by down (message.Freeze x c s) k = collection-not by down (message.Freeze x c s) x (snap.collection_of x m) m refl
reset-not t m by down (message.Prune x c tracker e) k = collection-not by down (message.Prune x c tracker e) x (snap.collection_of x m) m refl
reset-not t m by down asked k = left-not t m by down asked k

-- ---- snapshots and aggregation

snap-not : (p : TargetPlan) (m : TargetMemory) (reading : ℕ) (tracker : Epoch) (x : AttemptId) (c : ContId) (name : Key) (from : ActorId) (s : snap.FreezeStage) (k : Kept)
    (left : TargetMemory × Did) → snap.SnapEnds p m reading tracker x c name from s k left → NoneIsHeld left.1.posts
snap-not p m reading tracker x c name from s k left (snap.IsSpent k2 left2 none says) = these-not _ left2.1.posts (ap (λ o. o.1.posts) says) (one-not _ refl)
snap-not p m reading tracker x c name from s k left (snap.IsRefused k2 e how left2 why says) = these-not _ left2.1.posts (ap (λ o. o.1.posts) says) (one-not _ refl)
snap-not p m reading tracker x c name from s k left (snap.AsksOthers k2 e ls left2 others says) = these-not _ left2.1.posts (ap (λ o. o.1.posts) says) (mapped-not (snap.freeze_to x c e) (snap.others p) (λ t. refl))
snap-not p m reading tracker x c name from s k left (snap.IsAlone k2 e ls left2 says) = these-not _ left2.1.posts (ap (λ o. o.1.posts) says) (one-not _ refl)

aggregate-not : (p : TargetPlan) (m : TargetMemory) (reading : ℕ) (tracker : Epoch) (x : AttemptId) (c : ContId) (from : ActorId) (s : snap.PruneStage) (k : Kept)
    (left : TargetMemory × Did) → snap.AggregateEnds p m reading tracker x c from s k left → NoneIsHeld left.1.posts
aggregate-not p m reading tracker x c from s k left (snap.IsSpent k2 left2 none says) = these-not _ left2.1.posts (ap (λ o. o.1.posts) says) (one-not _ refl)
aggregate-not p m reading tracker x c from s k left (snap.AsksOthers k2 g ls left2 others says) = these-not _ left2.1.posts (ap (λ o. o.1.posts) says) (mapped-not (snap.prune_to x c g) (snap.others p) (λ t. refl))
aggregate-not p m reading tracker x c from s k left (snap.IsAlone k2 g ls left2 only says) = these-not _ left2.1.posts (ap (λ o. o.1.posts) says) (one-not _ refl)

held-by_not : (p : TargetPlan) (m : TargetMemory) (from : ℕ) (x : AttemptId) (refusal : Option Outcome) (o : Option Collection) → NoneIsHeld (snap.held_by p m from x refusal o).1.posts
held-by_not p m from x None None = none-there
held-by_not p m from x (Some how) None = none-there
held-by_not p m from x (Some how) (Some c) = one-not _ refl
held-by_not p m from x None (Some c) = by (snap.is_last p from c)
  where
    ends : Bool → TargetMemory × Did
    ends b = if b then (snap.collected x m, snap.follows (snap.to_actor c.client (message.Ended x (Some c.epoch) outcome.Committed)) [] None) else (snap.counts_held x from m, snap.follows [] [] None)

    by : (b : Bool) → NoneIsHeld (ends b).1.posts
    by true = one-not _ refl
    by false = none-there

held-not : (p : TargetPlan) (m : TargetMemory) (from : ℕ) (x : AttemptId) (refusal : Option Outcome) (s : snap.HeldStage) (k : Kept) (left : TargetMemory × Did) → snap.HeldEnds p m from x refusal s k left → NoneIsHeld left.1.posts
held-not p m from x refusal s k left (snap.IsCounted k2 left2 says) = these-not (snap.held_by p m from x refusal (snap.collection_of x m)).1.posts left2.1.posts
    (ap (λ o. o.1.posts) says) (held-by_not p m from x refusal (snap.collection_of x m))
held-not p m from x refusal s k left (snap.IsCreated k2 c name left2 says) = these-not _ left2.1.posts (ap (λ o. o.1.posts) says) (one-not _ refl)

-- ---- every further message

-- what a member tells that holds nothing may end an attempt
status-may : (x : AttemptId) (how : EntryState) → MayEnd (status_refusal x how)
status-may x state.Prepared = tt
status-may x state.Committed = tt
status-may x state.Absent = refl

-- a message asks to freeze, or to prune at an epoch
abbrev pub asks_to_hold : Message → Bool
asks_to_hold (message.Freeze x c s) = true
asks_to_hold (message.Prune x c None (Some g)) = true
asks_to_hold m = false

-- of what follows from any other none answers so
pub further-none : (number : ℕ) (t : TargetPlan) (opening : Epoch × FloorWhy) (m : TargetMemory) (reading : ℕ) (from : ActorId) (q : Message) (old new : Kept) (left : TargetMemory × Did) → asks_to_hold q ≡ false
    → HearsFurther number t opening m reading from q old new left → NoneIsHeld left.1.posts
further-none number t opening m reading from (message.Commit x ep first tracker ws) old new left off h = down-not t m reading (commit_request x ep first tracker ws) from h.last new left h.ends
further-none number t opening m reading from (message.Ask x) old new left off h = at-once _ h.last new left (ask-not t m from x) h.ends
further-none number t opening m reading from (message.Status x inc) old new left off h = at-once _ h.last new left (λ j. one-not _ refl) h.ends
further-none number t opening m reading from (message.StatusIs x inc how) old new left off h =
    λ q i. plainly-not q.message ((hears-tells t opening m reading from (message.Ack x inc (status_refusal x how)) old new left (status-may x how) h).0 q i)
further-none number t opening m reading from (message.Snap x c called tracker) old new left off h = snap-not t m reading tracker x c called from h.last new left h.ends
further-none number t opening m reading from (message.Freeze x c s) old new left off h = let no : ⊥ = cc in absurd no
further-none number t opening m reading from (message.Held x refusal) old new left off h = held-not t m from.number x refusal h.last new left h.ends
further-none number t opening m reading from (message.Prune x c (Some tracker) None) old new left off h = aggregate-not t m reading tracker x c from h.last new left h.ends
further-none number t opening m reading from (message.Prune x c None (Some g)) old new left off h = let no : ⊥ = cc in absurd no
further-none number t opening m reading from (message.Reset' by down place (more_of-Message asked rest)) old new left off h = at-once _ h.last new left (reset-not t m by down asked) h.ends
further-none number t opening m reading from q old new left off h = absurd h

-- Of these, one that answers a Freeze of an attempt with Ok tells that its snapshot, at the epoch that was issued to it, is frozen in what
-- is kept then.
abbrev pub OkIsHeld : Rules → List (AttemptId × Epoch) → Kept → List Post → Type 0
OkIsHeld r is k posts = (q : Post) (x : AttemptId) (c : ContId) → Has q posts → q.message ≡ message.Held x None → IsSnapIn r x c → (s : Epoch) × Has (x, s) is × (is_frozen k.durable c s ≡ true)

module _ (r : Rules) (is : List (AttemptId × Epoch)) where
  none-held : (k : Kept) (posts : List Post) → NoneIsHeld posts → OkIsHeld r is k posts
  none-held k posts off q x c i says made = let no : ⊥ = cc (ap is_held says, off q i) in absurd no

  -- a container is one attempt's
  same-container : (x : AttemptId) (a b : ContId) → IsSnapIn r x a → IsSnapIn r x b → a ≡ b
  same-container x a b (name, of) (name2, of2) = let same : a ≡ b = cc in same

  freeze-held : (p : TargetPlan) (m : TargetMemory) (reading : ℕ) (x : AttemptId) (c : ContId) (from : ActorId) (asked : Epoch) (old : Kept) (s : snap.FreezeStage) (k : Kept) (left : TargetMemory × Did) → Has (x, asked) is → IsSnapIn r x c
      → FreezesSo p m reading asked (Some asked) c false old s k → snap.FreezeEnds p m x c from s k left → OkIsHeld r is k left.1.posts
  freeze-held p m reading x c from asked old s k left issued made so (snap.IsRefused k2 e how left2 why says) = λ q y d i tells snap-of. by q y tells (subst (Has q) (ap (λ o. o.1.posts) says) i)
    where
      by : {T : Type 0} (q : Post) (y : AttemptId) → q.message ≡ message.Held y None → Has q (snap.to_actor from (message.Held x (Some how))) → T
      by q y tells (inl same) = let one : message.Held x (Some how) ≡ message.Held y None = sym (ap (λ z. z.message) same) ∙ tells in let no : ⊥ = cc in absurd no
      by q y tells (inr none) = absurd none
  freeze-held p m reading x c from asked old s k left issued made so (snap.IsHeld k2 e lines left2 says) = λ q y d i tells snap-of. by q y d tells snap-of (subst (Has q) (ap (λ o. o.1.posts) says) i)
    where
      its : asked ≡ e
      its = let h : request_epoch p m reading asked (Some asked) ≡ Some e = so.0 in let same : asked ≡ e = cc in same

      by : (q : Post) (y : AttemptId) (d : ContId) → q.message ≡ message.Held y None → IsSnapIn r y d → Has q (snap.to_actor from (message.Held x None)) → (s : Epoch) × Has (y, s) is × (is_frozen k.durable d s ≡ true)
      by q y d tells snap-of (inl same) =
          let one : message.Held x None ≡ message.Held y None = sym (ap (λ z. z.message) same) ∙ tells in
          let it : x ≡ y = cc in
          let cont : c ≡ d = same-container y c d (subst (λ z. IsSnapIn r z c) it made) snap-of in
          (e, subst (λ z. Has (z, e) is) it (subst (λ z. Has (x, z) is) its issued), subst (λ z. is_frozen k.durable z e ≡ true) cont so.2)
      by q y d tells snap-of (inr none) = absurd none

  -- a Prune is none of an attempt that makes a snapshot
  prune-held : (m : TargetMemory) (x : AttemptId) (c : ContId) (from : ActorId) (s : snap.PruneStage) (k : Kept) (left : TargetMemory × Did) → IsAggregationOf r x c → snap.PruneEnds m x from s k left → OkIsHeld r is k left.1.posts
  prune-held m x c from s k left of (snap.IsHeld k2 g lines left2 says) = λ q y d i tells snap-of. by q y d tells snap-of (subst (Has q) (ap (λ o. o.1.posts) says) i)
    where
      by : (q : Post) (y : AttemptId) (d : ContId) → q.message ≡ message.Held y None → IsSnapIn r y d → Has q (snap.to_actor from (message.Held x None)) → (s : Epoch) × Has (y, s) is × (is_frozen k.durable d s ≡ true)
      by q y d tells snap-of (inl same) =
          let one : message.Held x None ≡ message.Held y None = sym (ap (λ z. z.message) same) ∙ tells in
          let it : x ≡ y = cc in
          let other : IsAggregationOf r y c = subst (λ z. IsAggregationOf r z c) it of in
          let no : ⊥ = cc (snap-of.1, other) in absurd no
      by q y d tells snap-of (inr none) = absurd none

holding-held : (r : Rules) (is : List (AttemptId × Epoch)) (number : ℕ) (t : TargetPlan) (opening : Epoch × FloorWhy) (m : TargetMemory) (reading : ℕ) (from : ActorId) (q : Message) (old new : Kept) (left : TargetMemory × Did) → IsSo r is q
    → asks_to_hold q ≡ true → HearsFurther number t opening m reading from q old new left → OkIsHeld r is new left.1.posts
holding-held r is number t opening m reading from (message.Freeze x c s) old new left so holds h =
    freeze-held r is t m reading x c from s old h.last new left so.0 so.1 (freezes-path t m reading s (Some s) c false old h.reached.did h.last new h.reached.path) h.ends
holding-held r is number t opening m reading from (message.Prune x c None (Some g)) old new left so holds h = prune-held r is m x c from h.last new left so.1 h.ends
holding-held r is number t opening m reading from q old new left so holds h = let no : ⊥ = cc in absurd no

pub further-held : (r : Rules) (is : List (AttemptId × Epoch)) (number : ℕ) (t : TargetPlan) (opening : Epoch × FloorWhy) (m : TargetMemory) (reading : ℕ) (from : ActorId)
    (q : Message) (old new : Kept) (left : TargetMemory × Did) → IsSo r is q
    → HearsFurther number t opening m reading from q old new left → OkIsHeld r is new left.1.posts
further-held r is number t opening m reading from q old new left so h = by (asks_to_hold q) refl
  where
    by : (b : Bool) → asks_to_hold q ≡ b → OkIsHeld r is new left.1.posts
    by true holds = holding-held r is number t opening m reading from q old new left so holds h
    by false off = none-held r is new left.1.posts (further-none number t opening m reading from q old new left off h)
