-- Of no read more goes about behind a turn of a target than before it.
use Rattle.std.specs.Prelude.{ℕ, ◌≡◌, ◌++◌, Bool, true, false, List, [], ◌∷◌, map, Option, Some, None, refl}
use Rattle.std.proofs.Common.{sym, ◌∙◌, ap, subst, arith}
use Rattle.base_types.specs.declared.epoch.Epoch.{Epoch}
use Rattle.base_types.specs.declared.id.AttemptId.{AttemptId}
use Rattle.base_types.specs.declared.outcome.FloorWhy.{FloorWhy}
use Rattle.base_types.specs.declared.outcome.Outcome.{Outcome}
use Rattle.base_messages.specs.declared.actor.ActorId.{ActorId}
use Rattle.base_messages.specs.declared.message.Message.{Message, more_of-Message}
use Rattle.base_messages.specs.declared.message.Message.TheVariants as message
use Rattle.base_messages.specs.declared.message.Post.{Post}
use Rattle.daos_model.specs.declared.durable.Durable.{Durable}
use Rattle.daos_model.specs.Durables.{entry_of}
use Rattle.daos_model.specs.Opening.{Opening}
use Rattle.dtx_base.specs.declared.member.MemberMemory.{MemberMemory}
use Rattle.dtx_base.specs.declared.member.Parked.{Parked}
use Rattle.dtx_base.specs.Leading.{attempts_of, to_target}
use Rattle.model_laws.specs.Members.{Has}
use Rattle.world_base.specs.declared.did.Did.{Did}
use Rattle.world_base.specs.declared.request.CommitRequest.{CommitRequest}
use Rattle.world_base.specs.declared.request.PrepareRequest.{PrepareRequest}
use Rattle.world_base.specs.declared.target.TargetMemory.{TargetMemory}
use Rattle.world_base.specs.declared.target.TargetPlan.{TargetPlan}
use Rattle.world_base.specs.declared.target.TargetState.{TargetState}
use Rattle.world_base.specs.declared.world.World.{World}
use Rattle.world_base.specs.Acks as ack
use Rattle.world_base.specs.Changes.{Change, Kept, Steps}
use Rattle.world_base.specs.Commits as commit
use Rattle.world_base.specs.Events.{Rules, kept, target_plan}
use Rattle.world_base.specs.Further.{CommitDown, HearsFurther, IsSpent, IsUnknown, reset_by}
use Rattle.world_base.specs.Idle.{AllSettled, IdleEnds, batch_of, idle_told, inquiry_of}
use Rattle.world_base.specs.Marks.{AllMarked, MarkEnds}
use Rattle.world_base.specs.MemoryLaws.{ack-leaves, commit-leaves, idle-leaves, mark-leaves, marked-leaves, prepare-leaves, query-leaves}
use Rattle.world_base.specs.PathLaws.{reached-keeps}
use Rattle.world_base.specs.Prepares as prepare
use Rattle.world_base.specs.Requests.{says}
use Rattle.world_base.specs.Roles.{is_prepared, leader_at, member_at, told_by, told_of_all, with_unsettled}
use Rattle.world_base.specs.Snapshots as snap
use Rattle.world_base.specs.Statuses.{AtOnce, EndsAs, IsDone, ask_left, reset_joins, reset_leads, state_of, status_left, status_refusal}
use Rattle.world_base.specs.TargetTurns.{Hears, IdlesWhole, commit_request, fetch_request, prepare_request}
use Rattle.world_base.specs.Verdicts as verdict
use Rattle.world_making.specs.world_contents.reads.Given.{IsMessageRight, IsParkedRight}
use Rattle.world_ended.specs.world_letters.kinds.Loads.{AnswersOnce, post_load}
use Rattle.world_ended.specs.world_letters.kinds.LoadLaws.{total-append}
use Rattle.world_ended.specs.world_letters.kinds.PostLaws.{CarryNone, acks-carry, asks-carry, batches-carry, beginnings-carry, both-carry, each-carries, inquiries-carry, none-carried, resets-carry, resets-free}
use Rattle.world_ended.specs.world_letters.kinds.TurnLaws.{is_of_read, unread-answers, unread-none}
use Rattle.world_making.specs.making.Making.{AsksAgain, AsksFreezes, AsksPrunes, EndsCollected, EndsIt, IsOfMaking, MakingSends, SaysFrozen, SaysNothing, SaysPruned, SaysRefused, is_lost_at}
use Rattle.world_making.specs.making.Turns.{hearings-leave}
use Rattle.world_readers.specs.kinds.Fetches.{fetch-once, verdict-once}
use Rattle.world_readers.specs.Freed.{all-told_member, told-member}
use Rattle.world_readers.specs.forms.Forms.{VersionsInForm}

-- ---- posts that carry nothing

these-carry : (ps qs : List Post) → qs ≡ ps → CarryNone ps → CarryNone qs
these-carry ps qs same none = subst CarryNone (sym same) none

one-carries : (posts : List Post) (p : Post) → posts ≡ p ∷ [] → is_of_read p.message ≡ false → CarryNone posts
one-carries posts p same other = these-carry (p ∷ []) posts same (λ x r. (let none = unread-none p.message other x r in omega (arith, none)))

-- ---- what targets ask and answer for transactions

commit-carries : (t : TargetPlan) (opening : Epoch × FloorWhy) (m : TargetMemory) (reading : ℕ) (q : CommitRequest) (from : ActorId) (s : commit.CommitStage) (k : Kept) (left : TargetMemory × Did) → commit.CommitEnds t opening m reading q from s k left → CarryNone left.1.posts
commit-carries t opening m reading q from s k left (commit.IsSpent k2 z none is) = one-carries z.1.posts _ (ap (λ o. o.1.posts) is) refl
commit-carries t opening m reading q from s k left (commit.IsRefused k2 e c z why is) = one-carries z.1.posts _ (ap (λ o. o.1.posts) is) refl
commit-carries t opening m reading q from s k left (commit.HasNoSpace k2 e z allowed full is) = one-carries z.1.posts _ (ap (λ o. o.1.posts) is) refl
commit-carries t opening m reading q from s k left (commit.HasBegun k2 e z is) =
    these-carry (commit.begins_at t m q from e k2.durable).posts z.1.posts (ap (λ o. o.1.posts) is) (beginnings-carry (commit.led_entry t q e) q.first from q.writes (leader_at t m k2.durable))

prepare-carries : (t : TargetPlan) (opening : Epoch × FloorWhy) (m : TargetMemory) (q : PrepareRequest) (s : prepare.PrepareStage) (k : Kept) (left : TargetMemory × Did) → prepare.PrepareEnds t opening m q s k left → CarryNone left.1.posts
prepare-carries t opening m q s k left (prepare.IsRefused k2 c z why is) = one-carries z.1.posts _ (ap (λ o. o.1.posts) is) refl
prepare-carries t opening m q s k left (prepare.HasNoSpace k2 z allowed full is) = one-carries z.1.posts _ (ap (λ o. o.1.posts) is) refl
prepare-carries t opening m q s k left (prepare.IsPrepared k2 z is) = one-carries z.1.posts _ (ap (λ o. o.1.posts) is) refl

-- what follows from an Ack carries nothing
abbrev FollowsBare : ack.AckStage → Type 0
FollowsBare ack.Heard = Unit {0}
FollowsBare (ack.Followed z) = CarryNone z.posts

ack-next : (t : TargetPlan) (m : TargetMemory) (member : ℕ) (a : AttemptId) (inc : ℕ) (refusal : Option Outcome) (z : ack.AckStage) (k : Kept) (o : Option Change) (u : ack.AckStage) (l : Kept)
    → ack.AckNext t m member a inc refusal z k o u → Steps o k l → FollowsBare z → FollowsBare u
ack-next t m member a inc refusal z k o u l (ack.Aborts k2 is) steps h = acks-carry member a inc refusal (leader_at t m k2.durable)
ack-next t m member a inc refusal z k o u l (ack.Counts k2 is) steps h = acks-carry member a inc refusal (leader_at t m k2.durable)

ack-ends : (m : TargetMemory) (z : ack.AckStage) (k : Kept) (left : TargetMemory × Did) → ack.AckEnds m z k left → FollowsBare z → CarryNone left.1.posts
ack-ends m z k left (ack.IsFollowed k2 step z2 is) h = these-carry step.posts z2.1.posts (ap (λ o. o.1.posts) is) h

mark-carries : (m : TargetMemory) (from : ActorId) (inc : ℕ) (marks rest : List (AttemptId × Bool)) (k : Kept) (left : TargetMemory × Did) → MarkEnds m from inc marks rest k left → CarryNone left.1.posts
mark-carries m from inc marks rest k left (AllMarked k2 z is) = one-carries z.1.posts _ (ap (λ o. o.1.posts) is) refl

marked-carries : (t : TargetPlan) (m : TargetMemory) (member inc : ℕ) (ids rest : List AttemptId) (k : Kept) (left : TargetMemory × Did) → ack.MarkedEnds t m member inc ids rest k left → CarryNone left.1.posts
marked-carries t m member inc ids rest k left (ack.AllConfirmed k2 z is) = these-carry [] z.1.posts (ap (λ o. o.1.posts) is) none-carried

query-carries : (t : TargetPlan) (m : TargetMemory) (from : ActorId) (a : AttemptId) (ask : Option AttemptId) (z : verdict.QueryStage) (k : Kept) (left : TargetMemory × Did) → verdict.QueryEnds t m from a ask z k left → CarryNone left.1.posts
query-carries t m from a ask z k left (verdict.IsTold k2 y is) = one-carries y.1.posts _ (ap (λ o. o.1.posts) is) refl

-- ---- idle work

inquiry-carries : (settling : Bool) (t : TargetPlan) (m : TargetMemory) (d : Durable) → CarryNone (inquiry_of settling t m d).freed.posts
inquiry-carries false t m d = none-carried
inquiry-carries true t m d = inquiries-carry d.entries (member_at t m)

idle-carries : (settling : Bool) (t : TargetPlan) (m : TargetMemory) (rest : List AttemptId) (k : Kept) (left : TargetMemory × Did) → IdleEnds settling t m rest k left → CarryNone left.1.posts
idle-carries settling t m rest k left (AllSettled k2 z is) =
    these-carry (idle_told settling t m k2.durable).posts z.1.posts (ap (λ o. o.1.posts) is)
    (both-carry (batch_of t m k2.durable).posts (inquiry_of settling t m k2.durable).freed.posts (batches-carry (leader_at t (with_unsettled [] m) k2.durable)) (inquiry-carries settling t m k2.durable))

pub idles-once : (settling : Bool) (t : TargetPlan) (m : TargetMemory) (old new : Kept) (left : TargetMemory × Did) → IdlesWhole settling t m old new left → AnswersOnce [] m.member left.0.member left.1.posts
idles-once settling t m old new left h = unread-answers [] m.member left.0.member left.1.posts (idle-leaves settling t m h.last new left h.ends).parked (idle-carries settling t m h.last new left h.ends)

-- ---- a message that is heard as without stops

parked-in : (m n : MemberMemory) → n ≡ m → n.parked ≡ m.parked
parked-in m n same = ap (λ (y : MemberMemory). y.parked) same

ack-once : (t : TargetPlan) (m : TargetMemory) (from : ActorId) (x : AttemptId) (inc : ℕ) (refusal : Option Outcome) (given : List Message) (opening : Epoch × FloorWhy) (reading : ℕ) (old new : Kept) (left : TargetMemory × Did)
    → Hears t opening m reading from (message.Ack x inc refusal) old new left → AnswersOnce given m.member left.0.member left.1.posts
ack-once t m from x inc refusal given opening reading old new left h =
    unread-answers given m.member left.0.member left.1.posts (parked-in m.member left.0.member (ack-leaves m h.last new left h.ends).member)
    (ack-ends m h.last new left h.ends (reached-keeps (ack.AckNext t m from.number x inc refusal) (λ z k. FollowsBare z) (ack-next t m from.number x inc refusal) ack.Heard old h.last new h.reached tt))

module _ (r : Rules) (o : Opening) (w : World) (t : ℕ) (s : TargetState) (waits : (z : Parked) → Has z s.memory.member.parked → IsParkedRight r o w t s.durable z.ask) (keeps : VersionsInForm s.durable)
    (reading : ℕ) (from : ActorId) (new : Kept) (left : TargetMemory × Did) where
  pub hears-once : (q : Message) → IsMessageRight r o w t s q → Hears (target_plan r t) s.opening s.memory reading from q (kept s) new left → AnswersOnce (q ∷ []) s.memory.member left.0.member left.1.posts
  hears-once (message.Fetch x op group ep first tracker q snapshot) right h = (fetch-once (target_plan r t) s.memory reading (fetch_request x op group ep first tracker q snapshot) right.0.form from (kept s) new left keeps h).0
  hears-once (message.Commit x ep first tracker ws) right h =
      unread-answers (message.Commit x ep first tracker ws ∷ []) s.memory.member left.0.member left.1.posts
      (parked-in s.memory.member left.0.member (commit-leaves (target_plan r t) s.opening s.memory reading (commit_request x ep first tracker ws) from h.last new left h.ends).member)
      (commit-carries (target_plan r t) s.opening s.memory reading (commit_request x ep first tracker ws) from h.last new left h.ends)
  hears-once (message.Prepare e first ws inc) right h =
      unread-answers (message.Prepare e first ws inc ∷ []) s.memory.member left.0.member left.1.posts (ap (λ n. n.member.parked) (prepare-leaves (target_plan r t) s.opening s.memory (prepare_request e first ws inc) h.last new left h.ends))
      (prepare-carries (target_plan r t) s.opening s.memory (prepare_request e first ws inc) h.last new left h.ends)
  hears-once (message.Ack x inc refusal) right h = ack-once (target_plan r t) s.memory from x inc refusal (message.Ack x inc refusal ∷ []) s.opening reading (kept s) new left h
  hears-once (message.Mark inc marks) right h =
      unread-answers (message.Mark inc marks ∷ []) s.memory.member left.0.member left.1.posts
      (ap (λ n. n.member.parked) (mark-leaves (told_of_all (attempts_of marks) s.memory) from inc marks h.last new left h.ends) ∙ parked-in s.memory.member _ (all-told_member (attempts_of marks) s.memory))
      (mark-carries (told_of_all (attempts_of marks) s.memory) from inc marks h.last new left h.ends)
  hears-once (message.Marked inc ids) right h =
      unread-answers (message.Marked inc ids ∷ []) s.memory.member left.0.member left.1.posts (parked-in s.memory.member left.0.member (marked-leaves (target_plan r t) s.memory from.number inc ids h.last new left h.ends).rest.member)
      (marked-carries (target_plan r t) s.memory from.number inc ids h.last new left h.ends)
  hears-once (message.Query x ask) right h =
      unread-answers (message.Query x ask ∷ []) s.memory.member left.0.member left.1.posts (ap (λ n. n.member.parked) (query-leaves (target_plan r t) s.memory from x ask h.last new left h.ends)) (query-carries (target_plan r t) s.memory from x ask h.last new left h.ends)
  hears-once (message.Verdict x ask inc v) right h =
      subst (λ m. AnswersOnce (message.Verdict x ask inc v ∷ []) m left.0.member left.1.posts) (told-member v x s.memory)
      (verdict-once r o w t s.durable is_prepared (target_plan r t) (told_by v x s.memory) reading x ask v (kept s) (λ z i. waits z (subst (λ m. Has z m.parked) (told-member v x s.memory) i)) keeps
      (message.Verdict x ask inc v ∷ []) new left h)
  hears-once q right h = absurd h

-- ---- any other message

down-carries : (t : TargetPlan) (m : TargetMemory) (reading : ℕ) (q : CommitRequest) (from : ActorId) (z : commit.CommitStage) (k : Kept) (left : TargetMemory × Did) → CommitDown t m reading q from z k left → CarryNone left.1.posts × (left.0.member ≡ m.member)
down-carries t m reading q from z k left (IsSpent k2 e down y none is says) = (one-carries y.1.posts _ (ap (λ o. o.1.posts) says) refl, ap (λ o. o.0.member) says)
down-carries t m reading q from z k left (IsUnknown k2 e down y is says) = (one-carries y.1.posts _ (ap (λ o. o.1.posts) says) refl, ap (λ o. o.0.member) says)

at-once : (given : List Message) (m : TargetMemory) (left_by : Kept → TargetMemory × Did) (z : AtOnce) (k : Kept) (left : TargetMemory × Did) → ((j : Kept) → AnswersOnce given m.member (left_by j).0.member (left_by j).1.posts) → EndsAs left_by z k left
    → AnswersOnce given m.member left.0.member left.1.posts
at-once given m left_by z k left each (IsDone k2 y says) = subst (λ n. AnswersOnce given m.member n.0.member n.1.posts) (sym says) (each k2)

-- a target of snapshots and aggregation is asked again what was lost
lost-carries : (by : ℕ) (q asked : Message) → is_lost_at by q asked → is_of_read asked ≡ false
lost-carries by (message.Reset' t false place (more_of-Message (message.Freeze y c s) rest)) asked is = ap is_of_read is.1
lost-carries by (message.Reset' t false place (more_of-Message (message.Prune y c tracker e) rest)) asked is = ap is_of_read is.1
lost-carries by q asked is = absurd is

to-others : (to : ℕ → Post) (ts : List ℕ) → ((t : ℕ) → is_of_read (to t).message ≡ false) → CarryNone (map to ts)
to-others to ts other = each-carries to ts (λ t x r. unread-none (to t).message (other t) x r)

making-carries : (p : TargetPlan) (m : TargetMemory) (from : ActorId) (q : Message) (d : Durable) (posts : List Post) → MakingSends p m from q d posts → CarryNone posts
making-carries p m from q d posts (AsksFreezes x c name tracker s is frozen same) = these-carry (map (snap.freeze_to x c s) (snap.others p)) posts same (to-others (snap.freeze_to x c s) (snap.others p) (λ t. refl))
making-carries p m from q d posts (AsksPrunes x c tracker g is same) = these-carry (map (snap.prune_to x c g) (snap.others p)) posts same (to-others (snap.prune_to x c g) (snap.others p) (λ t. refl))
making-carries p m from q d posts (SaysFrozen x c s is frozen same) = one-carries posts _ same refl
making-carries p m from q d posts (SaysRefused x c s how is why same) = one-carries posts _ same refl
making-carries p m from q d posts (SaysPruned x c g is same) = one-carries posts _ same refl
making-carries p m from q d posts (EndsIt x own how is same) = one-carries posts _ same refl
making-carries p m from q d posts (EndsCollected x c how is there same) = one-carries posts _ same refl
making-carries p m from q d posts (AsksAgain by asked lost same) = one-carries posts (to_target by asked) same (lost-carries by q asked lost)
making-carries p m from q d posts (SaysNothing is same) = these-carry [] posts same none-carried

making-once : (given : List Message) (number : ℕ) (p : TargetPlan) (opening : Epoch × FloorWhy) (m : TargetMemory) (reading : ℕ) (from : ActorId) (q : Message) (old new : Kept) (left : TargetMemory × Did)
    → HearsFurther number p opening m reading from q old new left → IsOfMaking q → AnswersOnce given m.member left.0.member left.1.posts
making-once given number p opening m reading from q old new left h is =
    let k = hearings-leave number p opening m reading from q old new left h is in
    unread-answers given m.member left.0.member left.1.posts (parked-in m.member left.0.member k.ends.knows.member) (making-carries p m from q new.durable left.1.posts k.ends.sends)

-- a Reset of what leaders and members ask
reset-once : (given : List Message) (p : TargetPlan) (m : TargetMemory) (by : ℕ) (down : Bool) (asked : Message) (k : Kept)
    → AnswersOnce given m.member (reset_joins p m down asked).member.memory ((reset_leads p m by down asked k).posts ++ (reset_joins p m down asked).freed.posts)
reset-once given p m by down asked k x r =
    let none = resets-carry by down asked (leader_at p m k.durable) x r in
    let once = (resets-free down asked (member_at p m) x r).once in
    let all = total-append (post_load x r) (reset_leads p m by down asked k).posts (reset_joins p m down asked).freed.posts in
    omega (arith, none, once, all)

pub further-once : (number : ℕ) (p : TargetPlan) (opening : Epoch × FloorWhy) (m : TargetMemory) (reading : ℕ) (from : ActorId) (q : Message) (old new : Kept) (left : TargetMemory × Did)
    → HearsFurther number p opening m reading from q old new left → AnswersOnce (q ∷ []) m.member left.0.member left.1.posts
further-once number p opening m reading from (message.Commit x ep first tracker ws) old new left h =
    let k = down-carries p m reading (commit_request x ep first tracker ws) from h.last new left h.ends in
    unread-answers (message.Commit x ep first tracker ws ∷ []) m.member left.0.member left.1.posts (parked-in m.member left.0.member k.1) k.0
further-once number p opening m reading from (message.Ask x) old new left h =
    at-once (message.Ask x ∷ []) m (ask_left p m from x) h.last new left (λ j. unread-answers (message.Ask x ∷ []) m.member m.member (ask_left p m from x j).1.posts refl (asks-carry x from (leader_at p m j.durable))) h.ends
further-once number p opening m reading from (message.Status x inc) old new left h =
    at-once (message.Status x inc ∷ []) m (status_left m from x inc) h.last new left (λ j. unread-answers (message.Status x inc ∷ []) m.member m.member (status_left m from x inc j).1.posts refl (one-carries (status_left m from x inc j).1.posts (record { to = from; message = message.StatusIs x inc (state_of (entry_of j.durable x)) }) refl refl)) h.ends
further-once number p opening m reading from (message.StatusIs x inc how) old new left h = ack-once p m from x inc (status_refusal x how) (message.StatusIs x inc how ∷ []) opening reading old new left h
further-once number p opening m reading from (message.Snap x c called tracker) old new left h = making-once (message.Snap x c called tracker ∷ []) number p opening m reading from (message.Snap x c called tracker) old new left h refl
further-once number p opening m reading from (message.Freeze x c s) old new left h = making-once (message.Freeze x c s ∷ []) number p opening m reading from (message.Freeze x c s) old new left h refl
further-once number p opening m reading from (message.Held x refusal) old new left h = making-once (message.Held x refusal ∷ []) number p opening m reading from (message.Held x refusal) old new left h refl
further-once number p opening m reading from (message.Prune x c (Some tracker) None) old new left h = making-once (message.Prune x c (Some tracker) None ∷ []) number p opening m reading from (message.Prune x c (Some tracker) None) old new left h refl
further-once number p opening m reading from (message.Prune x c None (Some g)) old new left h = making-once (message.Prune x c None (Some g) ∷ []) number p opening m reading from (message.Prune x c None (Some g)) old new left h refl
further-once number p opening m reading from (message.Reset' by down place (more_of-Message asked rest)) old new left h = by_kind asked h
  where
    by_kind : (q : Message) → HearsFurther number p opening m reading from (message.Reset' by down place (more_of-Message q rest)) old new left
        → AnswersOnce (message.Reset' by down place (more_of-Message asked rest) ∷ []) m.member left.0.member left.1.posts
    by_kind (message.Freeze x c s) g = making-once (message.Reset' by down place (more_of-Message asked rest) ∷ []) number p opening m reading from (message.Reset' by down place (more_of-Message (message.Freeze x c s) rest)) old new left g refl
    by_kind (message.Prune x c tracker e) g = making-once (message.Reset' by down place (more_of-Message asked rest) ∷ []) number p opening m reading from (message.Reset' by down place (more_of-Message (message.Prune x c tracker e) rest)) old new left g refl
    by_kind q g = at-once (message.Reset' by down place (more_of-Message asked rest) ∷ []) m (reset_by p m by down q) g.last new left (λ j. reset-once (message.Reset' by down place (more_of-Message asked rest) ∷ []) p m by down q j) g.ends
further-once number p opening m reading from q old new left h = absurd h
