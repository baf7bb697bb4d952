-- What a target sends that hears a further message, and what waits there then.
use Rattle.std.specs.Prelude.{ℕ, ◌≡◌, Bool, true, false, List, [], ◌∷◌, map, Option, Some, None, refl, if◌then◌else◌}
use Rattle.std.proofs.Common.{sym, ap, subst, inl, inr, ◌∙◌}
use Rattle.base_types.specs.declared.epoch.Epoch.{Epoch}
use Rattle.base_types.specs.declared.id.AttemptId.{AttemptId}
use Rattle.base_types.specs.declared.id.ContId.{ContId}
use Rattle.base_types.specs.declared.key.Key.{Key}
use Rattle.base_types.specs.declared.outcome.FloorWhy.{FloorWhy}
use Rattle.base_types.specs.declared.outcome.Outcome.{Outcome}
use Rattle.base_types.specs.declared.outcome.Outcome.TheVariants as outcome
use Rattle.base_types.specs.declared.report.Line.{Line}
use Rattle.base_messages.specs.declared.actor.ActorId.{ActorId}
use Rattle.base_messages.specs.declared.message.Message.{Message, more_of-Message}
use Rattle.base_messages.specs.declared.message.Message.TheVariants as message
use Rattle.base_messages.specs.declared.message.Post.{Post}
use Rattle.daos_model.specs.EntryLaws.{same_attempt-itself}
use Rattle.dtx_base.specs.declared.member.Parked.{Parked}
use Rattle.dtx_base.specs.Joining as member
use Rattle.model_laws.specs.Members.{Has, has-from_filter, has-from_map}
use Rattle.world_base.specs.declared.did.Did.{Did}
use Rattle.world_base.specs.declared.request.CommitRequest.{CommitRequest}
use Rattle.world_base.specs.declared.target.Collection.{Collection}
use Rattle.world_base.specs.declared.target.TargetMemory.{TargetMemory}
use Rattle.world_base.specs.declared.target.TargetPlan.{TargetPlan}
use Rattle.world_base.specs.Acks as ack
use Rattle.world_base.specs.Changes.{Kept}
use Rattle.world_base.specs.Commits as commit
use Rattle.world_base.specs.Further.{CommitDown, HearsFurther, IsSpent, IsUnknown, knows_down, reset_by}
use Rattle.world_base.specs.Roles.{leader_at, member_at}
use Rattle.world_base.specs.Snapshots as snap
use Rattle.world_base.specs.Statuses.{AtOnce, EndsAs, IsDone, ask_left, reset_left, status_refusal}
use Rattle.world_base.specs.TargetTurns.{commit_request}
use Rattle.world_causes.specs.causes.Causes.{Dated}
use Rattle.world_causes.specs.causes.FirstTurns.{Knows, all-hear-knows, is_undated}
use Rattle.world_contents.specs.world_letters.endings.Answers as follows
use Rattle.world_contents.specs.world_letters.endings.Answers.{AnswersAsk, SaysCommitted, SaysUnknown, SaysUnresolved, ask-answers, left-follows}
use Rattle.world_causes.specs.causes.Premises.{MessageBears}
use Rattle.world_causes.specs.firsts.Firsts.{GoesWith, MessageTells, WaitsSo}
use Rattle.world_base.specs.Events.{Rules}
use Rattle.base_messages.specs.declared.message.Reply.TheVariants as reply
use Rattle.base_types.specs.declared.operation.Read.{Read}
use Rattle.base_types.specs.declared.outcome.Cause.TheVariants.{Unresolved}

-- where these epochs were issued, and these lines stand
module _ (r : Rules) (issued : Dated) (lines : List Line) where
  abbrev pub PostsTell : List Post → Type 0
  PostsTell posts = (q : Post) → Has q posts → MessageTells r issued lines q.message

  abbrev pub AllWait : List Parked → Type 0
  AllWait ps = (p : Parked) → Has p ps → WaitsSo r issued lines p.ask

  abbrev pub AllDated : List Parked → Type 0
  AllDated ps = (p : Parked) → Has p ps → is_undated p.ask ≡ false

  -- what a turn leaves
  pub record Leaves (left : TargetMemory × Did) : Type 0 where
    pub posts : PostsTell left.1.posts
    pub parked : AllWait left.0.member.parked

  none-tell : PostsTell []
  none-tell q i = absurd i

  one-tells : (q : Post) → MessageTells r issued lines q.message → PostsTell (q ∷ [])
  one-tells q k s (inl same) = subst (λ x. MessageTells r issued lines x.message) (sym same) k
  one-tells q k s (inr none) = absurd none

  -- what is known of a turn without stops
  bears-tells : (m : Message) → MessageBears (GoesWith r issued lines) m → MessageTells r issued lines m
  bears-tells (message.Fetch x op group ep first tracker q snapshot) k = k
  bears-tells (message.Commit x ep first tracker ws) k = k
  bears-tells (message.Prepare e first ws inc) k = k
  bears-tells (message.Fetched x op group None b) k = k
  bears-tells (message.Ended x None how) k = λ restarts. let no : true ≡ false = sym restarts ∙ k in let bad : ⊥ = cc in absurd bad
  bears-tells m k = tt

  pub all-bear : (posts : List Post) → ((q : Post) → Has q posts → MessageBears (GoesWith r issued lines) q.message) → PostsTell posts
  all-bear posts each q i = bears-tells q.message (each q i)

  -- posts, and a memory with the same Fetches that wait
  same-leaves : (m : TargetMemory) (left : TargetMemory × Did) (posts : List Post) → left.0.member.parked ≡ m.member.parked → left.1.posts ≡ posts → AllWait m.member.parked → PostsTell posts → Leaves left
  same-leaves m left posts parked is wait tell = record { posts = subst PostsTell (sym is) tell; parked = subst AllWait (sym parked) wait }

  -- ---- a Commit with a member that is down

  down-leaves : (t : TargetPlan) (m : TargetMemory) (reading : ℕ) (q : CommitRequest) (from : ActorId) (s : commit.CommitStage) (k : Kept) (left : TargetMemory × Did) → AllWait m.member.parked → CommitDown t m reading q from s k left → Leaves left
  down-leaves t m reading q from s k left wait (IsSpent k2 e down left2 none is says) = same-leaves m left2 _ (ap (λ o. o.0.member.parked) says) (ap (λ o. o.1.posts) says) wait (one-tells _ (λ restarts. let no : ⊥ = cc in absurd no))
  down-leaves t m reading q from s k left wait (IsUnknown k2 e down left2 is says) = same-leaves m left2 _ (ap (λ o. o.0.member.parked) says) (ap (λ o. o.1.posts) says) wait (one-tells _ tt)

  -- ---- an Ask

  -- an attempt of which its leader knows nothing was lost
  ask-tells : (t : TargetPlan) (m : TargetMemory) (from : ActorId) (x : AttemptId) (k : Kept) → PostsTell (ask_left t m from x k).1.posts
  ask-tells t m from x k q i = by (ask-answers (leader_at t m k.durable) x from q i)
    where
      by : AnswersAsk (leader_at t m k.durable) x from q → MessageTells r issued lines q.message
      by (SaysCommitted e led known is) = subst (λ z. MessageTells r issued lines z.message) (sym is) tt
      by (SaysUnknown e down led is) = subst (λ z. MessageTells r issued lines z.message) (sym is) tt
      by (SaysUnresolved none is) = subst (λ z. MessageTells r issued lines z.message) (sym is) (λ restarts. same_attempt-itself x)

  -- ---- snapshots and aggregations

  mapped-tell : (to : ℕ → Post) (ts : List ℕ) → ((t : ℕ) → MessageTells r issued lines (to t).message) → PostsTell (map to ts)
  mapped-tell to ts each q i = let z = has-from_map to ts q i in subst (λ x. MessageTells r issued lines x.message) z.2 (each z.0)

  snap-leaves : (p : TargetPlan) (m : TargetMemory) (reading : ℕ) (tracker : Epoch) (x : AttemptId) (c : ContId) (name : Key) (from : ActorId) (s : snap.FreezeStage) (k : Kept) (left : TargetMemory × Did) → AllWait m.member.parked
      → snap.SnapEnds p m reading tracker x c name from s k left → Leaves left
  snap-leaves p m reading tracker x c name from s k left wait (snap.IsSpent k2 left2 none says) = same-leaves m left2 _ (ap (λ o. o.0.member.parked) says) (ap (λ o. o.1.posts) says) wait (one-tells _ (λ restarts. let no : ⊥ = cc in absurd no))
  snap-leaves p m reading tracker x c name from s k left wait (snap.IsRefused k2 e how left2 why says) = same-leaves m left2 _ (ap (λ o. o.0.member.parked) says) (ap (λ o. o.1.posts) says) wait (one-tells _ tt)
  snap-leaves p m reading tracker x c name from s k left wait (snap.AsksOthers k2 e ls left2 others says) = same-leaves m left2 _ (ap (λ o. o.0.member.parked) says) (ap (λ o. o.1.posts) says) wait (mapped-tell (snap.freeze_to x c e) (snap.others p) (λ t. tt))
  snap-leaves p m reading tracker x c name from s k left wait (snap.IsAlone k2 e ls left2 says) = same-leaves m left2 _ (ap (λ o. o.0.member.parked) says) (ap (λ o. o.1.posts) says) wait (one-tells _ tt)

  freeze-leaves : (p : TargetPlan) (m : TargetMemory) (x : AttemptId) (c : ContId) (from : ActorId) (s : snap.FreezeStage) (k : Kept) (left : TargetMemory × Did) → AllWait m.member.parked → snap.FreezeEnds p m x c from s k left → Leaves left
  freeze-leaves p m x c from s k left wait (snap.IsRefused k2 e how left2 why says) = same-leaves m left2 _ (ap (λ o. o.0.member.parked) says) (ap (λ o. o.1.posts) says) wait (one-tells _ tt)
  freeze-leaves p m x c from s k left wait (snap.IsHeld k2 e ls left2 says) = same-leaves m left2 _ (ap (λ o. o.0.member.parked) says) (ap (λ o. o.1.posts) says) wait (one-tells _ tt)

  aggregate-leaves : (p : TargetPlan) (m : TargetMemory) (reading : ℕ) (tracker : Epoch) (x : AttemptId) (c : ContId) (from : ActorId) (s : snap.PruneStage) (k : Kept) (left : TargetMemory × Did) → AllWait m.member.parked
      → snap.AggregateEnds p m reading tracker x c from s k left → Leaves left
  aggregate-leaves p m reading tracker x c from s k left wait (snap.IsSpent k2 left2 none says) = same-leaves m left2 _ (ap (λ o. o.0.member.parked) says) (ap (λ o. o.1.posts) says) wait (one-tells _ (λ restarts. let no : ⊥ = cc in absurd no))
  aggregate-leaves p m reading tracker x c from s k left wait (snap.AsksOthers k2 g ls left2 others says) = same-leaves m left2 _ (ap (λ o. o.0.member.parked) says) (ap (λ o. o.1.posts) says) wait (mapped-tell (snap.prune_to x c g) (snap.others p) (λ t. tt))
  aggregate-leaves p m reading tracker x c from s k left wait (snap.IsAlone k2 g ls left2 only says) = same-leaves m left2 _ (ap (λ o. o.0.member.parked) says) (ap (λ o. o.1.posts) says) wait (one-tells _ tt)

  prune-leaves : (m : TargetMemory) (x : AttemptId) (from : ActorId) (s : snap.PruneStage) (k : Kept) (left : TargetMemory × Did) → AllWait m.member.parked → snap.PruneEnds m x from s k left → Leaves left
  prune-leaves m x from s k left wait (snap.IsHeld k2 g ls left2 says) = same-leaves m left2 _ (ap (λ o. o.0.member.parked) says) (ap (λ o. o.1.posts) says) wait (one-tells _ tt)

  held-by_leaves : (p : TargetPlan) (m : TargetMemory) (from : ℕ) (x : AttemptId) (refusal : Option Outcome) (o : Option Collection) → AllWait m.member.parked → Leaves (snap.held_by p m from x refusal o)
  held-by_leaves p m from x refusal None wait = record { posts = none-tell; parked = wait }
  held-by_leaves p m from x (Some how) (Some c) wait = record { posts = one-tells _ tt; parked = wait }
  held-by_leaves p m from x None (Some c) wait = by (snap.is_last p from c)
    where
      ends : Bool → TargetMemory × Did
      ends b = if b then (snap.collected x m, snap.follows (snap.to_actor c.client (message.Ended x (Some c.epoch) outcome.Committed)) [] None) else (snap.counts_held x from m, snap.follows [] [] None)

      by : (b : Bool) → Leaves (ends b)
      by true = record { posts = one-tells _ tt; parked = wait }
      by false = record { posts = none-tell; parked = wait }

  held-leaves : (p : TargetPlan) (m : TargetMemory) (from : ℕ) (x : AttemptId) (refusal : Option Outcome) (s : snap.HeldStage) (k : Kept) (left : TargetMemory × Did) → AllWait m.member.parked → snap.HeldEnds p m from x refusal s k left → Leaves left
  held-leaves p m from x refusal s k left wait (snap.IsCounted k2 left2 says) = subst Leaves (sym says) (held-by_leaves p m from x refusal (snap.collection_of x m) wait)
  held-leaves p m from x refusal s k left wait (snap.IsCreated k2 c name left2 says) = same-leaves m left2 _ (ap (λ o. o.0.member.parked) says) (ap (λ o. o.1.posts) says) wait (one-tells _ tt)

  -- ---- a Reset

  left-tells : (t : TargetPlan) (m : TargetMemory) (by : ℕ) (down : Bool) (asked : Message) (k : Kept) → AllDated m.member.parked → PostsTell (reset_left t m by down asked k).1.posts
  left-tells t m by down asked k dated q i = each (left-follows t m by down asked k q i)
    where
      met : (x : AttemptId) (op group : ℕ) (ep first : Option Epoch) (tracker : Epoch) (z : Read) (snapshot : Bool) (how : Outcome) → is_undated (message.Fetch x op group ep first tracker z snapshot) ≡ false
          → MessageTells r issued lines (message.Fetched x op group ep (reply.Outcome how))
      met x op group None first tracker z snapshot how off = let no : ⊥ = cc in absurd no
      met x op group (Some own) first tracker z snapshot how off = tt

      each : follows.FollowsReset (leader_at t m k.durable) m.member.parked by q.message → MessageTells r issued lines q.message
      each (follows.EndsUnknown x e led is) = subst (MessageTells r issued lines) (sym is) tt
      each (follows.AsksState x inc is) = subst (MessageTells r issued lines) (sym is) tt
      each (follows.MarksAgain inc marks is) = subst (MessageTells r issued lines) (sym is) tt
      each (follows.MetUnresolved p x op group ep first tracker z snapshot a among asks is) =
          subst (MessageTells r issued lines) (sym is) (met x op group ep first tracker z snapshot (outcome.Restart (Unresolved a)) (subst (λ n. is_undated n ≡ false) asks (dated p among)))

  joins-wait : (down : Bool) (asked : Message) (s : member.MemberOf) → AllWait s.memory.parked → AllWait (member.reset_heard down asked s).member.memory.parked
  unfolding member.unresolved
  joins-wait down (message.Query a None) s wait = wait
  joins-wait down (message.Query a (Some x)) s wait = λ p i. wait p (has-from_filter (member.is_not_waiting a x) s.memory.parked p i).0
  joins-wait down asked s wait = wait

  knows-same : (t : ℕ) (down : Bool) (m : TargetMemory) → (knows_down t down m).member.parked ≡ m.member.parked
  knows-same t true m = refl
  knows-same t false m = refl

  collection-leaves : (t : ℕ) (down : Bool) (asked : Message) (x : AttemptId) (o : Option Collection) (m : TargetMemory) → MessageTells r issued lines asked → AllWait m.member.parked
      → PostsTell (snap.collection_reset t down asked x o m).1 × AllWait (snap.collection_reset t down asked x o m).0.member.parked
  collection-leaves t false asked x o m tells wait = (one-tells _ tells, wait)
  collection-leaves t true asked x None m tells wait = (none-tell, wait)
  collection-leaves t true asked x (Some c) m tells wait = (one-tells _ tt, wait)

  -- of a Freeze or a Prune
  collected-leaves : (t : ℕ) (down : Bool) (m : TargetMemory) (z : TargetMemory × List Post) → PostsTell z.1 × AllWait z.0.member.parked → Leaves (knows_down t down z.0, snap.follows z.1 [] None)
  collected-leaves t down m z k = record { posts = k.0; parked = subst AllWait (sym (knows-same t down z.0)) k.1 }

  reset-leaves : (t : TargetPlan) (m : TargetMemory) (by : ℕ) (down : Bool) (asked : Message) (k : Kept) → AllWait m.member.parked → AllDated m.member.parked → Leaves (reset_by t m by down asked k)
  reset-leaves t m by down (message.Freeze x c s) k wait dated = collected-leaves by down m _ (collection-leaves by down (message.Freeze x c s) x (snap.collection_of x m) m tt wait)
  reset-leaves t m by down (message.Prune x c tracker e) k wait dated = collected-leaves by down m _ (collection-leaves by down (message.Prune x c tracker e) x (snap.collection_of x m) m tt wait)
  reset-leaves t m by down asked k wait dated = record { posts = left-tells t m by down asked k dated; parked = joins-wait down asked (member_at t m) wait }

  -- ---- every further message

  ack-same : (m : TargetMemory) (s : ack.AckStage) (k : Kept) (left : TargetMemory × Did) → ack.AckEnds m s k left → left.0.member.parked ≡ m.member.parked
  ack-same m s k left (ack.IsFollowed k2 step left2 says) = ap (λ o. o.0.member.parked) says

  at-once : (left_by : Kept → TargetMemory × Did) (s : AtOnce) (k : Kept) (left : TargetMemory × Did) → ((j : Kept) → Leaves (left_by j)) → EndsAs left_by s k left → Leaves left
  at-once left_by s k left each (IsDone k2 left2 says) = subst Leaves (sym says) (each k2)

  pub further-leaves : (number : ℕ) (t : TargetPlan) (opening : Epoch × FloorWhy) (m : TargetMemory) (reading : ℕ) (from : ActorId) (old new : Kept) (left : TargetMemory × Did) (q : Message) → AllWait m.member.parked → AllDated m.member.parked
      → HearsFurther number t opening m reading from q old new left → Leaves left
  further-leaves number t opening m reading from old new left (message.Commit x ep first tracker ws) wait dated h = down-leaves t m reading (commit_request x ep first tracker ws) from h.last new left wait h.ends
  further-leaves number t opening m reading from old new left (message.Ask x) wait dated h = at-once _ h.last new left (λ j. record { posts = ask-tells t m from x j; parked = wait }) h.ends
  further-leaves number t opening m reading from old new left (message.Status x inc) wait dated h = at-once _ h.last new left (λ j. record { posts = one-tells _ tt; parked = wait }) h.ends
  further-leaves number t opening m reading from old new left (message.StatusIs x inc how) wait dated h =
      let k : Knows (GoesWith r issued lines) left = all-hear-knows (GoesWith r issued lines) t opening m reading from (message.Ack x inc (status_refusal x how)) old new left tt wait dated h in
      record { posts = all-bear left.1.posts k.posts; parked = λ p i. wait p (subst (Has p) (ack-same m h.last new left h.ends) i) }
  further-leaves number t opening m reading from old new left (message.Snap x c called tracker) wait dated h = snap-leaves t m reading tracker x c called from h.last new left wait h.ends
  further-leaves number t opening m reading from old new left (message.Freeze x c s) wait dated h = freeze-leaves t m x c from h.last new left wait h.ends
  further-leaves number t opening m reading from old new left (message.Held x refusal) wait dated h = held-leaves t m from.number x refusal h.last new left wait h.ends
  further-leaves number t opening m reading from old new left (message.Prune x c (Some tracker) None) wait dated h = aggregate-leaves t m reading tracker x c from h.last new left wait h.ends
  further-leaves number t opening m reading from old new left (message.Prune x c None (Some g)) wait dated h = prune-leaves m x from h.last new left wait h.ends
  further-leaves number t opening m reading from old new left (message.Reset' by down place (more_of-Message asked rest)) wait dated h = at-once _ h.last new left (λ j. reset-leaves t m by down asked j wait dated) h.ends
  further-leaves number t opening m reading from old new left q wait dated h = absurd h
