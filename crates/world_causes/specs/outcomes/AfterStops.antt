-- What a target hears after stops keeps the facts of outcomes: an Ask, a Status or the answer to it, a Reset, and a Commit where a member is
-- known to be down.
use Rattle.std.specs.Prelude.{ℕ, ◌≡◌, ◌≢◌, Bool, true, false, ◌||◌, List, [], ◌∷◌, filter, Option, Some, None, is_some, refl}
use Rattle.std.proofs.Common.{sym, ◌∙◌, ap, subst, inl, inr}
use Rattle.base_types.specs.declared.entry.Entry.{Entry}
use Rattle.base_types.specs.declared.entry.EntryState.{EntryState}
use Rattle.base_types.specs.declared.epoch.Epoch.{Epoch}
use Rattle.base_types.specs.declared.id.AttemptId.{AttemptId}
use Rattle.std.proofs.Math.ListN.{set}
use Rattle.base_types.specs.declared.operation.MinorWrite.{MinorWrite}
use Rattle.base_types.specs.declared.outcome.FloorWhy.{FloorWhy}
use Rattle.base_types.specs.declared.outcome.Cause.TheVariants.{Unresolved}
use Rattle.base_types.specs.declared.outcome.Outcome.{Outcome}
use Rattle.base_types.specs.declared.outcome.Outcome.TheVariants as outcome
use Rattle.model_laws.specs.Members.{Has, has-cases, has-from_filter, has-left}
use Rattle.base_messages.specs.declared.actor.ActorId.{ActorId}
use Rattle.base_messages.specs.declared.message.Message.{Message, more_of-Message}
use Rattle.base_messages.specs.declared.message.Message.TheVariants as message
use Rattle.base_messages.specs.declared.message.Post.{Post}
use Rattle.daos_model.specs.Durables.{entry_of, same_attempt}
use Rattle.daos_model.specs.EntryLaws.{same_attempt-itself}
use Rattle.dtx_base.specs.Asking.{ask_heard}
use Rattle.dtx_base.specs.Joining as member
use Rattle.dtx_base.specs.Leading.{LeaderOf, entry_led}
use Rattle.dtx_base.specs.Rows.{is_among}
use Rattle.world_contents.specs.world_commit.attempts.Attempts.{IsBorn, IsHeld, IsUnsettled, entry_at, entry_in, is_known_at, is_known_in, leader_of}
use Rattle.world_contents.specs.world_commit.attempts.Counting.{has-taken}
use Rattle.world_contents.specs.world_commit.attempts.History.{Decided, GrowsBy, History, Tells}
use Rattle.world_contents.specs.world_commit.attempts.Stored.{found-led, led-found, target-is}
use Rattle.world_base.specs.declared.did.Did.{Did}
use Rattle.world_base.specs.declared.request.CommitRequest.{CommitRequest}
use Rattle.world_base.specs.declared.target.TargetMemory.{TargetMemory}
use Rattle.world_base.specs.declared.target.TargetPlan.{TargetPlan}
use Rattle.world_base.specs.declared.target.TargetState.{TargetState}
use Rattle.world_base.specs.declared.world.World.{World}
use Rattle.world_base.specs.Acks.{AckEnds, AckStage, IsFollowed}
use Rattle.world_base.specs.Changes.{Change, Kept, Steps}
use Rattle.world_base.specs.Commits as commit
use Rattle.world_base.specs.Events.{Rules, TargetHearsBy, kept, target_after, target_plan}
use Rattle.world_base.specs.Further.{CommitDown, HearsFurther, IsSpent, IsUnknown, reset_by}
use Rattle.world_base.specs.Letters.{target}
use Rattle.world_base.specs.PathLaws.{reached-keeps}
use Rattle.world_base.specs.Roles.{leader_at}
use Rattle.world_base.specs.Snapshots.{collection_of}
use Rattle.world_base.specs.Snapshots as snap
use Rattle.world_base.specs.declared.target.Collection.{Collection}
use Rattle.world_base.specs.CutTurns.{is_stored}
use Rattle.world_base.specs.EntryLaws.{entry-leased}
use Rattle.world_base.specs.Statuses.{ask_left, reset_left, status_left, status_refusal}
use Rattle.world_base.specs.TargetTurns.{commit_request}
use Rattle.world_base.specs.Turns.{Reached}
use Rattle.world_contents.specs.world_commit.fates.Facts.{Attempts, IsSaidSo, IsStateRight}
use Rattle.world_contents.specs.world_commit.fates.Told.{silent_end}
use Rattle.world_contents.specs.world_commit.statuses.Fates.{tells_fate, told_by_it}
use Rattle.world_causes.specs.outcomes.Concluding.{Concludes}
use Rattle.world_causes.specs.outcomes.Hearing.{AreToldOf, IsToldOf, SendsSo, entry-now, held-back, hearing-concludes}
use Rattle.world_causes.specs.outcomes.Outcomes.{IsEndTrue, Outcomes, commits, is_failed, HasWrites}
use Rattle.world_contents.specs.world_letters.endings.Answers as follows
use Rattle.world_contents.specs.world_letters.endings.Answers.{AnswersAsk, SaysCommitted, SaysUnknown, SaysUnresolved, ask-answers, left-follows}
use Rattle.world_causes.specs.outcomes.Premises.{AsksGoRight, CommitsAreOfClients, hands}
use Rattle.world_causes.specs.outcomes.Rightly.{row-held, untried}
use Rattle.world_causes.specs.outcomes.Storing.{further-unstored}
use Rattle.world_causes.specs.outcomes.Telling.{ack-tells, end_to, post_to, silent-tells, single}
use Rattle.world_contents.specs.world_commit.statuses.Turns.{Looked, looked}

-- ---- what says nothing of ends

-- each end that some posts tell of is one of which it is unknown what became of its attempt
abbrev pub TellNothing : List Post → Type 0
TellNothing posts = (x : AttemptId) (own : Option Epoch) (how : Outcome) → Tells posts x own how → (is_failed how ≡ false) × (how ≢ outcome.Committed)

unknown-so : (r : Rules) (h : History) (w : World) (x : AttemptId) (own : Option Epoch) (how : Outcome) → (is_failed how ≡ false) × (how ≢ outcome.Committed) → IsEndTrue r h w x own how
unknown-so r h w x own how u = record { committed = λ is. absurd (u.1 is); failed = λ is. let bad : false ≡ true = sym u.0 ∙ is in let no : ⊥ = cc in absurd no }

nothing-none : TellNothing []
nothing-none x own how tells = absurd tells.sent

nothing-one : (to : ActorId) (m : Message) → ((x : AttemptId) (own : Option Epoch) (how : Outcome) → m ≡ message.Ended x own how → ⊥) → TellNothing (post_to to m ∷ [])
nothing-one to m off x own how tells = absurd (off x own how (single to m x own how tells))

unknown-nothing : (t : ℕ) (how : Outcome) → outcome.Unknown t ≡ how → (is_failed how ≡ false) × (how ≢ outcome.Committed)
unknown-nothing t how is = (sym (ap is_failed is), λ same. let bad : outcome.Unknown t ≡ outcome.Committed = is ∙ same in let no : ⊥ = cc in no)

nothing-unknown : (to : ActorId) (a : AttemptId) (own2 : Option Epoch) (t : ℕ) → TellNothing (end_to to a own2 (outcome.Unknown t) ∷ [])
nothing-unknown to a own2 t x own how tells =
    let said : message.Ended a own2 (outcome.Unknown t) ≡ message.Ended x own how = single to (message.Ended a own2 (outcome.Unknown t)) x own how tells in
    unknown-nothing t how (let is : outcome.Unknown t ≡ how = cc in is)

-- ---- a Reset

left-nothing : (t : TargetPlan) (m : TargetMemory) (by : ℕ) (down : Bool) (asked : Message) (k : Kept) → TellNothing (reset_left t m by down asked k).1.posts
left-nothing t m by down asked k x own how tells = each (left-follows t m by down asked k (end_to tells.to x own how) tells.sent)
  where
    each : follows.FollowsReset (leader_at t m k.durable) m.member.parked by (message.Ended x own how) → (is_failed how ≡ false) × (how ≢ outcome.Committed)
    each (follows.EndsUnknown y e led said) = unknown-nothing by how (let is : how ≡ outcome.Unknown by = cc in sym is)
    each (follows.AsksState y inc said) = let no : ⊥ = cc in absurd no
    each (follows.MarksAgain inc marks said) = let no : ⊥ = cc in absurd no
    each (follows.MetUnresolved p y op group ep first tracker r snapshot a among asks said) = let no : ⊥ = cc in absurd no

collected-nothing : (by : ℕ) (down : Bool) (asked : Message) (x : AttemptId) (o : Option Collection) (m : TargetMemory) → ((y : AttemptId) (own : Option Epoch) (how : Outcome) → asked ≡ message.Ended y own how → ⊥) → TellNothing (snap.collection_reset by down asked x o m).1
collected-nothing by false asked x o m off = nothing-one (target by) asked off
collected-nothing by true asked x None m off = nothing-none
collected-nothing by true asked x (Some c) m off = nothing-unknown c.client x (Some c.epoch) by

reset-nothing : (t : TargetPlan) (m : TargetMemory) (by : ℕ) (down : Bool) (asked : Message) (k : Kept) → TellNothing (reset_by t m by down asked k).1.posts
reset-nothing t m by down (message.Freeze x c s) k = collected-nothing by down (message.Freeze x c s) x (collection_of x m) m (λ y own how is. let no : ⊥ = cc in no)
reset-nothing t m by down (message.Prune x c tracker e) k = collected-nothing by down (message.Prune x c tracker e) x (collection_of x m) m (λ y own how is. let no : ⊥ = cc in no)
reset-nothing t m by down asked k = left-nothing t m by down asked k

reset-lines : (t : TargetPlan) (m : TargetMemory) (by : ℕ) (down : Bool) (asked : Message) (k : Kept) → (reset_by t m by down asked k).1.lines ≡ []
reset-lines t m by down (message.Freeze x c s) k = refl
reset-lines t m by down (message.Prune x c tracker e) k = refl
reset-lines t m by down asked k = refl

-- ---- a Commit before anything is stored

before-stored : (t : TargetPlan) (opening : Epoch × FloorWhy) (m : TargetMemory) (reading : ℕ) (q : CommitRequest) (x : AttemptId) (s : commit.CommitStage) (k : Kept) (o : Option Change) (u : commit.CommitStage) (l : Kept)
    → commit.CommitNext t opening m reading q s k o u → Steps o k l → (is_stored s ≡ false → entry_of k.durable x ≡ None) → is_stored u ≡ false → entry_of l.durable x ≡ None
before-stored t opening m reading q x s k o u l (commit.HasEpoch k2 e is) steps h off = ap (λ z. entry_of z.durable x) steps ∙ h refl
before-stored t opening m reading q x s k o u l (commit.ExtendsLease k2 e lease lt covers) steps h off = ap (λ d. entry_of d x) steps.0 ∙ entry-leased lease k.durable x ∙ h refl
before-stored t opening m reading q x s k o u l (commit.IsCovered k2 e covered) steps h off = ap (λ z. entry_of z.durable x) steps ∙ h refl
before-stored t opening m reading q x s k o u l (commit.Stores k2 e allowed space) steps h off = let no : ⊥ = cc (off) in absurd no

-- ---- what is told

-- a message that comes after stops, or a Commit with a member that is known to be down
abbrev pub is_after_stop : Message → Bool
is_after_stop (message.Commit x ep first tracker ws) = true
is_after_stop (message.Ask x) = true
is_after_stop (message.Status x inc) = true
is_after_stop (message.StatusIs x inc how) = true
is_after_stop (message.Reset' by down place more) = true
is_after_stop m = false

-- ---- the turn

module _ (number : ℕ) (r : Rules) (h later : History) (w v : World) (k : Attempts r h w) (k2 : Attempts r later v) (outcomes : Outcomes r h w) (right : AsksGoRight r w) (of_clients : CommitsAreOfClients v) (g : TargetHearsBy (HearsFurther number) r w v)
    (grown : (x : AttemptId) (e : Epoch) → Decided h x e → Decided later x e) where
  abbrev z : TargetState
  z = target_after g.s g.new g.memory

  abbrev plan : TargetPlan
  plan = target_plan r g.t

  abbrev L : LeaderOf
  L = leader_at (target_plan r g.t) g.s.memory g.s.durable

  abbrev Turn : Message → Type 0
  Turn m = HearsFurther number (target_plan r g.t) g.s.opening g.s.memory g.reading g.l.from m (kept g.s) g.new (g.memory, g.did)

  flies : Has g.l w.messages
  flies = has-taken w.messages g.l g.rest g.takes

  targets : v.targets ≡ set w.targets g.t (target_after g.s g.new g.memory)
  targets = ap (λ u. u.targets) g.after

  -- what such a turn comes to
  record Says (m : Message) : Type 0 where
    whose : AreToldOf r w g.l.message (told_by_it m g.s (target_after g.s g.new g.memory) g.did.posts)
    sent : SendsSo r later v g.did.posts (told_by_it m g.s (target_after g.s g.new g.memory) g.did.posts)
    lines : g.did.lines ≡ []

  silent : (m : Message) → told_by_it m g.s (target_after g.s g.new g.memory) g.did.posts ≡ [] → ((x : AttemptId) (own : Option Epoch) (how : Outcome) → HasWrites r x → Tells g.did.posts x own how → IsEndTrue r later v x own how) → g.did.lines ≡ [] → Says m
  silent m none so lines = record {
    whose = λ x own how tells. absurd (subst (λ ps. Has (end_to tells.to x own how) ps) none tells.sent);
    sent = λ x own how some tells. inr (so x own how some tells);
    lines = lines;
  }

  nothing : (m : Message) → told_by_it m g.s (target_after g.s g.new g.memory) g.did.posts ≡ [] → TellNothing g.did.posts → g.did.lines ≡ [] → Says m
  nothing m none off lines = silent m none (λ x own how some tells. unknown-so r later v x own how (off x own how tells)) lines

  -- ---- an Ask

  module _ (x : AttemptId) (is : g.l.message ≡ message.Ask x) where
    leads : g.t ≡ leader_of r x
    leads = target-is g.t (leader_of r x) (sym g.to_it ∙ right g.l x flies is)

    -- where no entry is found that the target leads, it has none
    unled : entry_led x L ≡ None → entry_of g.s.durable x ≡ None
    unled none = by (entry_of g.s.durable x) refl
      where
        by : (o : Option Entry) → entry_of g.s.durable x ≡ o → o ≡ None
        by None at = refl
        by (Some e) at =
            let its : e.leader ≡ leader_of r x = ((k.on.each x).entries.one g.t e (ap (λ o. entry_in o x) g.here ∙ at)).leader in
            let found = found-led plan g.s.memory g.s.durable x e (k.on.ordered g.t g.s g.here).entries at (its ∙ sym leads) in
            let no : ⊥ = cc (none, found) in absurd no

    -- one that is committed, or known as decided, is
    led-decided : (e : Entry) → entry_led x L ≡ Some e → (e.committed || is_among x g.s.memory.leader.decided) ≡ true → Decided h x e.epoch
    led-decided e led known = by e.committed refl
      where
        found : entry_at w g.t x ≡ Some e
        found = ap (λ o. entry_in o x) g.here ∙ (led-found plan g.s.memory g.s.durable x e (k.on.ordered g.t g.s g.here).entries led).0

        by : (b : Bool) → e.committed ≡ b → Decided h x e.epoch
        by true committed = (k.on.each x).entries.committed g.t e found committed
        by false off = subst (λ f. Decided h x f.epoch) one unsettled.decided
          where
            among : is_known_at w g.t x ≡ true
            among = ap (λ o. is_known_in o x) g.here ∙ sym (ap (λ b. b || is_among x g.s.memory.leader.decided) off) ∙ known

            unsettled : IsUnsettled r h w x g.t
            unsettled = (k.on.each x).rows.unsettled g.t among

            one : unsettled.here.entry ≡ e
            one = let both : Some unsettled.here.entry ≡ Some e = sym unsettled.here.found ∙ found in cc

    ask-so : g.new ≡ kept g.s → (y : AttemptId) (own : Option Epoch) (how : Outcome) → Tells (ask_heard x g.l.from L).posts y own how → IsEndTrue r later v y own how
    ask-so same y own how tells = by (ask-answers L x g.l.from (end_to tells.to y own how) tells.sent)
      where
        told-as : (own2 : Option Epoch) (end : Outcome) → IsEndTrue r later v x own2 end → message.Ended y own how ≡ message.Ended x own2 end → IsEndTrue r later v y own how
        told-as own2 end so said =
            let is-x : x ≡ y = cc in
            let is-own : own2 ≡ own = cc in
            let is-how : end ≡ how = cc in
            subst (λ q. IsEndTrue r later v q own how) is-x (subst (λ q. IsEndTrue r later v x q how) is-own (subst (λ q. IsEndTrue r later v x own2 q) is-how so))

        gone : entry_led x L ≡ None → entry_at v (leader_of r x) x ≡ None
        gone none = ap (λ u. entry_at v u x) (sym leads) ∙ entry-now w v g.t g.s z g.here targets x ∙ ap (λ q. entry_of q.durable x) same ∙ unled none

        by : AnswersAsk L x g.l.from (end_to tells.to y own how) → IsEndTrue r later v y own how
        by (SaysCommitted e led known is) = told-as (Some e.epoch) outcome.Committed (record { committed = λ q. (e.epoch, refl, grown x e.epoch (led-decided e led known)); failed = λ q. let no : ⊥ = cc in absurd no }) (ap (λ p. p.message) is)
        by (SaysUnknown e down led is) = told-as (Some e.epoch) (outcome.Unknown down) (record { committed = λ q. let no : ⊥ = cc in absurd no; failed = λ q. let no : ⊥ = cc in absurd no }) (ap (λ p. p.message) is)
        by (SaysUnresolved none is) = told-as None (outcome.Restart (Unresolved x)) (record { committed = λ q. let no : ⊥ = cc in absurd no; failed = λ q. gone none }) (ap (λ p. p.message) is)

    ask-says : Turn (message.Ask x) → Says (message.Ask x)
    ask-says turn =
        silent (message.Ask x) refl (λ y own how some tells. ask-so left.same y own how (subst (λ i. Tells i.1.posts y own how) left.follows tells)) (ap (λ i. i.1.lines) left.follows)
      where
        left : Looked (ask_left (target_plan r g.t) g.s.memory g.l.from x) (kept g.s) g.new (g.memory, g.did)
        left = looked (ask_left (target_plan r g.t) g.s.memory g.l.from x) (kept g.s) g.new (g.memory, g.did) turn

  -- ---- a Status, the answer to it, and a Reset

  status-says : (x : AttemptId) (inc : ℕ) → Turn (message.Status x inc) → Says (message.Status x inc)
  status-says x inc turn = nothing (message.Status x inc) refl (subst (λ i. TellNothing i.1.posts) (sym left.follows) (nothing-one _ _ (λ y own how q. let no : ⊥ = cc in no))) (ap (λ i. i.1.lines) left.follows)
    where
      left : Looked (status_left g.s.memory g.l.from x inc) (kept g.s) g.new (g.memory, g.did)
      left = looked (status_left g.s.memory g.l.from x inc) (kept g.s) g.new (g.memory, g.did) turn

  reset-says : (by : ℕ) (down : Bool) (place : _) (asked : Message) (rest : _) → Turn (message.Reset' by down place (more_of-Message asked rest)) → Says (message.Reset' by down place (more_of-Message asked rest))
  reset-says by down place asked rest turn =
      nothing (message.Reset' by down place (more_of-Message asked rest)) refl (subst (λ i. TellNothing i.1.posts) (sym left.follows) (reset-nothing plan g.s.memory by down asked (kept g.s))) (ap (λ i. i.1.lines) left.follows ∙ reset-lines plan g.s.memory by down asked (kept g.s))
    where
      left : Looked (reset_by (target_plan r g.t) g.s.memory by down asked) (kept g.s) g.new (g.memory, g.did)
      left = looked (reset_by (target_plan r g.t) g.s.memory by down asked) (kept g.s) g.new (g.memory, g.did) turn

  state-says : (x : AttemptId) (inc : ℕ) (how : EntryState) → g.l.message ≡ message.StatusIs x inc how → Turn (message.StatusIs x inc how) → Says (message.StatusIs x inc how)
  state-says x inc how is turn = record {
    whose = λ y own end tells. elim (has-cases g.did.posts unsaid (end_to tells.to y own end) tells.sent) [
      | inl j ↦
          let row = ack-tells plan g.s.memory g.l.from.number x inc (status_refusal x how) (kept g.s) g.new turn.last (g.memory, g.did) turn.reached turn.ends y own end (record { to = tells.to; sent = j }) in
          record { whose = inl (row-held r h w g.t g.s g.s.memory x y own end k g.here refl row); dated = row.end.dated }
      | inr j ↦
          let old = silent-tells x (status_refusal x how) (entry_of g.s.durable x) (is_among x g.s.memory.leader.decided) (is_among x g.memory.leader.decided) (is_some (entry_of g.new.durable x)) y own end (record { to = tells.to; sent = j }) in
          record { whose = inl (subst (λ q. IsHeld w (leader_of r q) q) (sym old.end.same) (subst (λ u. IsHeld w u x) leads (record { entry = old.entry; found = ap (λ o. entry_in o x) g.here ∙ old.found }))); dated = old.end.dated }
    ];
    sent = λ y own end some tells. inl (record { to = tells.to; sent = has-left g.did.posts unsaid (end_to tells.to y own end) tells.sent });
    lines = lines turn.last g.new (g.memory, g.did) turn.ends;
  }
    where
      unsaid : List Post
      unsaid = silent_end x (status_refusal x how) (entry_of g.s.durable x) (is_among x g.s.memory.leader.decided) (is_among x g.memory.leader.decided) (is_some (entry_of g.new.durable x))

      says : IsStateRight r h w g.l.from g.l.to x inc how
      says = subst (IsSaidSo r h w g.l.from g.l.to) is (k.on.letters g.l flies)

      leads : g.t ≡ leader_of r x
      leads = target-is g.t (leader_of r x) (sym g.to_it ∙ says.way.receiver)

      lines : (s : AckStage) (n : Kept) (left : TargetMemory × Did) → AckEnds g.s.memory s n left → left.1.lines ≡ []
      lines s n left (IsFollowed n2 st left2 ends) = ap (λ i. i.1.lines) ends

  -- ---- a Commit with a member that is down

  commit-says : (x : AttemptId) (ep first : Option Epoch) (tracker : Epoch) (ws : List MinorWrite) → g.l.message ≡ message.Commit x ep first tracker ws → Turn (message.Commit x ep first tracker ws) → Says (message.Commit x ep first tracker ws)
  commit-says x ep first tracker ws is turn = by turn.last turn.reached g.did turn.ends refl
    where
      unborn : IsBorn r h w x → ⊥
      unborn = outcomes.new g.l x flies (ap (commits x) is ∙ same_attempt-itself x)

      gone : (last : commit.CommitStage) → Reached (commit.CommitNext plan g.s.opening g.s.memory g.reading (commit_request x ep first tracker ws)) commit.Asked (kept g.s) last g.new → is_stored last ≡ false → entry_at v (leader_of r x) x ≡ None
      gone last reached off = by (entry_at v (leader_of r x) x) refl
        where
          stays : entry_of g.s.durable x ≡ None → entry_of g.new.durable x ≡ None
          stays none = reached-keeps (commit.CommitNext plan g.s.opening g.s.memory g.reading (commit_request x ep first tracker ws)) (λ s n. is_stored s ≡ false → entry_of n.durable x ≡ None)
              (before-stored plan g.s.opening g.s.memory g.reading (commit_request x ep first tracker ws) x) commit.Asked (kept g.s) last g.new reached (λ first'. none) off

          by : (o : Option Entry) → entry_at v (leader_of r x) x ≡ o → o ≡ None
          by None at = refl
          by (Some e) at = absurd (unborn (inl (held-back w v g.t g.s z g.here targets (leader_of r x) x stays (record { entry = e; found = at }))))

      by : (last : commit.CommitStage) → Reached (commit.CommitNext plan g.s.opening g.s.memory g.reading (commit_request x ep first tracker ws)) commit.Asked (kept g.s) last g.new → (did : Did) → CommitDown plan g.s.memory g.reading (commit_request x ep first tracker ws) g.l.from last g.new (g.memory, did) → did ≡ g.did → Says (message.Commit x ep first tracker ws)
      by last reached did (IsSpent n e down left none known ends) same = record {
        whose = λ y own how tells. whose y own how (posts tells.to y own how (has-from_filter tells_fate g.did.posts (end_to tells.to y own how) tells.sent).0);
        sent = λ y own how some tells. inr (spent y own how (posts tells.to y own how tells.sent));
        lines = ap (λ i. i.lines) (sym same ∙ ap (λ i. i.1) ends);
      }
        where
          posts : (to : ActorId) (y : AttemptId) (own : Option Epoch) (how : Outcome) → Has (end_to to y own how) g.did.posts → Tells (end_to g.l.from x None outcome.EpochsSpent ∷ []) y own how
          posts to y own how i = record { to = to; sent = subst (λ j. Has (end_to to y own how) j.posts) (sym same ∙ ap (λ j. j.1) ends) i }

          whose : (y : AttemptId) (own : Option Epoch) (how : Outcome) → Tells (end_to g.l.from x None outcome.EpochsSpent ∷ []) y own how → IsToldOf r w g.l.message y own how
          whose y own how tells =
              let said : message.Ended x None outcome.EpochsSpent ≡ message.Ended y own how = single g.l.from (message.Ended x None outcome.EpochsSpent) y own how tells in
              let is-x : x ≡ y = cc in
              let is-how : outcome.EpochsSpent ≡ how = cc in
              record { whose = inr (ap (hands y) is ∙ ap (λ q. same_attempt q y) is-x ∙ same_attempt-itself y); dated = λ q2. let bad : outcome.EpochsSpent ≡ outcome.Committed = is-how ∙ q2 in let no : ⊥ = cc in absurd no }

          spent : (y : AttemptId) (own : Option Epoch) (how : Outcome) → Tells (end_to g.l.from x None outcome.EpochsSpent ∷ []) y own how → IsEndTrue r later v y own how
          spent y own how tells =
              let said : message.Ended x None outcome.EpochsSpent ≡ message.Ended y own how = single g.l.from (message.Ended x None outcome.EpochsSpent) y own how tells in
              let is-x : x ≡ y = cc in
              let is-how : outcome.EpochsSpent ≡ how = cc in
              record { committed = λ q2. let bad : outcome.EpochsSpent ≡ outcome.Committed = is-how ∙ q2 in let no : ⊥ = cc in absurd no; failed = λ q2. subst (λ y2. entry_at v (leader_of r y2) y2 ≡ None) is-x (gone commit.Asked reached refl) }
      by last reached did (IsUnknown n e down left known ends) same =
          nothing (message.Commit x ep first tracker ws) (ap (λ i. filter tells_fate i.posts) (sym same ∙ ap (λ i. i.1) ends)) (subst (λ i. TellNothing i.posts) (sym (sym same ∙ ap (λ i. i.1) ends)) (nothing-unknown g.l.from x (Some e) down)) (ap (λ i. i.lines) (sym same ∙ ap (λ i. i.1) ends))

  -- ---- all of them

  says-of : (m : Message) → g.l.message ≡ m → is_after_stop m ≡ true → Turn m → Says m
  says-of (message.Commit x ep first tracker ws) is after turn = commit-says x ep first tracker ws is turn
  says-of (message.Ask x) is after turn = ask-says x is turn
  says-of (message.Status x inc) is after turn = status-says x inc turn
  says-of (message.StatusIs x inc how) is after turn = state-says x inc how is turn
  says-of (message.Reset' by down place (more_of-Message asked rest)) is after turn = reset-says by down place asked rest turn
  says-of m is after turn = let no : ⊥ = cc in absurd no

-- such a message is heard
pub after_stop-concludes : (number : ℕ) (r : Rules) (h later : History) (w v : World) → Attempts r h w → Attempts r later v → Outcomes r h w → AsksGoRight r w → CommitsAreOfClients v → (g : TargetHearsBy (HearsFurther number) r w v) → is_after_stop g.l.message ≡ true
    → GrowsBy h (told_by_it g.l.message g.s (target_after g.s g.new g.memory) g.did.posts) later → Concludes r h later w v
after_stop-concludes number r h later w v k k2 outcomes right of_clients g after grows =
    hearing-concludes (HearsFurther number) r h later w v k k2 g (told_by_it g.l.message g.s (target_after g.s g.new g.memory) g.did.posts) grows of_clients
    (λ x off none. further-unstored x (target_plan r g.t) g.s.opening g.s.memory g.reading g.l.from (kept g.s) none number g.l.message g.new (g.memory, g.did) off g.turn) says.whose says.sent (λ a i. untried g.did.lines a says.lines i)
  where
    says : Says number r h later w v k k2 outcomes right of_clients g grows.decided g.l.message
    says = says-of number r h later w v k k2 outcomes right of_clients g grows.decided g.l.message refl after g.turn
