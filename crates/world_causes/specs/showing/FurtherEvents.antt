-- What is heard after stops, as an event.
use Rattle.std.specs.Prelude.{ℕ, ◌≡◌, ◌≤◌, ◌+◌, ◌++◌, Bool, true, false, List, [], None, refl}
use Rattle.std.proofs.Common.{append-nil, sym, ◌∙◌, ap, subst, arith}
use Rattle.base_types.specs.declared.entry.EntryState.{EntryState}
use Rattle.base_types.specs.declared.id.AttemptId.{AttemptId}
use Rattle.base_types.specs.declared.outcome.Outcome.TheVariants as outcome
use Rattle.base_types.specs.declared.report.Line.{Line}
use Rattle.base_messages.specs.declared.message.Message.{Message, more_of-Message}
use Rattle.base_messages.specs.declared.message.Message.TheVariants as message
use Rattle.model_laws.specs.Members.{Has}
use Rattle.daos_model.specs.Opening.{Opening}
use Rattle.dtx_base.specs.declared.member.Parked.{Parked}
use Rattle.dtx_base.specs.Joining as joining
use Rattle.world_base.specs.declared.did.Did.{Did}
use Rattle.world_base.specs.declared.request.CommitRequest.{CommitRequest}
use Rattle.world_base.specs.declared.target.TargetMemory.{TargetMemory}
use Rattle.world_base.specs.declared.target.TargetState.{TargetState}
use Rattle.world_base.specs.declared.world.World.{World}
use Rattle.world_base.specs.Acks as ack
use Rattle.world_base.specs.ChangeLaws.{conts-made, incarnation-made, lease-same, snaps-made}
use Rattle.world_base.specs.Changes.{Kept}
use Rattle.world_base.specs.Commits as commit
use Rattle.world_base.specs.Events.{Rules, kept, target_plan}
use Rattle.world_base.specs.Further.{CommitDown, HearsFurther, IsSpent, IsUnknown}
use Rattle.world_base.specs.Letters.{client}
use Rattle.world_base.specs.PathLaws.{whole-leaves}
use Rattle.world_base.specs.Requests.{says}
use Rattle.world_base.specs.Roles.{leader_at, member_at}
use Rattle.world_base.specs.Statuses.{EndsAs, Looking, NoChange, ask_left, reset_joins, reset_leads, reset_left, state_of, status_left, status_refusal}
use Rattle.world_base.specs.Stops.{HearsMore}
use Rattle.world_base.specs.TargetTurns.{commit_request}
use Rattle.world_base.specs.TurnLaws.{KeepsAs, ack-plain, ack-raises, commit-plain, commit-raises, whole-raises}
use Rattle.world_base.specs.Turns.{Whole}
use Rattle.world_contents.specs.world_letters.talks.Asked.{commit_of}
use Rattle.world_contents.specs.world_letters.talks.TalkLaws.{left-is-among}
use Rattle.world_causes.specs.causes.Causes.{Dated, Stored, stored_by}
use Rattle.world_causes.specs.causes.CommitTurns.{IsCommit, commit-ends, ends-left, writing}
use Rattle.world_causes.specs.causes.Heard.{meet-at}
use Rattle.world_causes.specs.causes.Leases.{CommitBelow, IsLeasedBelow, ack-to, commit-to, request-below, was-leased, whole-to}
use Rattle.world_causes.specs.causes.MemberTurns.{ack-leaves}
use Rattle.world_causes.specs.causes.Paths.{CommitSoFar, commit-path}
use Rattle.world_causes.specs.causes.Shown.{Causes, limit_over}
use Rattle.world_causes.specs.causes.TargetLaws.{leaves-keep}
use Rattle.world_causes.specs.causes.Turns.{AllMeet, AllShow, Leaves, all-both}
use Rattle.std.specs.Prelude.{not}
use Rattle.world_contents.specs.world_commit.statuses.Heard.{is_of_attempts}
use Rattle.world_contents.specs.world_commit.statuses.ResetTurns.{is_collecting}
use Rattle.daos_model.specs.Durables.{entry_of}
use Rattle.daos_model.specs.declared.durable.Durable.{Durable}
use Rattle.world_base.specs.Events as events
use Rattle.world_base.specs.Further.{reset_by}
use Rattle.world_causes.specs.causes.CommitTurns.{space-same}
use Rattle.world_causes.specs.causes.ReadTurns.{meet-more}
use Rattle.world_causes.specs.causes.Turns.{ParkedMeets, all-more}
use Rattle.world_causes.specs.showing.Further.{IsHeardFurther, TellsReset, ask-shows, joins-show, leads-show, state-shows}
use Rattle.world_contents.specs.world_commit.statuses.Turns.{looked}

not-false : (b : Bool) → not b ≡ true → b ≡ false
not-false true h = let no : ⊥ = cc in absurd no
not-false false h = refl

-- ---- a turn that changes nothing

-- it leaves what it left by what is kept
looks-so : (f : Kept → TargetMemory × Did) (old new : Kept) (left : TargetMemory × Did) → Whole NoChange (EndsAs f) Looking old new left → (new ≡ old) × (left ≡ f new)
looks-so f old new left w = let k = looked f old new left w in (k.same, k.follows ∙ ap f (sym k.same))

-- a turn that issues nothing, takes no blocks and waits for nothing more leaves what it sends
few-leaves : (r : Rules) (o : Opening) (stored : Stored) (issued : Dated) (lines : List Line) (t : ℕ) (m : TargetMemory) (old new : Kept) (left : TargetMemory × Did) → left.1.issued ≡ None → old.free ≤ new.free → left.0.ticks ≡ m.ticks
    → m.ticks ≤ limit_over o lines issued → ((p : Parked) → Has p left.0.member.parked → Has p m.member.parked) → AllMeet r issued m.member.parked → AllShow r o stored issued lines left.1.posts → Leaves r o stored issued lines t old new left
few-leaves r o stored issued lines t m old new left none low ticks within parked meet shows = record {
  posts = subst (λ i. AllShow r o (stored_by t old.durable new.durable ++ stored) (issued ++ events.listed i) lines left.1.posts) (sym none) (all-more r o (stored_by t old.durable new.durable) stored issued [] lines left.1.posts shows);
  ticks = subst (λ i. left.0.ticks ≤ limit_over o lines (issued ++ events.listed i)) (sym none) (subst (λ is. left.0.ticks ≤ limit_over o lines is) (sym (append-nil issued)) (subst (λ n. n ≤ limit_over o lines issued) (sym ticks) within));
  dated = λ x e some. let no : ⊥ = cc in absurd no;
  space = space-same r.script t stored old new low;
  parked = λ p i. subst (λ k. ParkedMeets r (issued ++ events.listed k) p) (sym none) (meet-more r issued [] m.member.parked meet p (parked p i));
}

-- ---- the event

module _ (r : Rules) (o : Opening) (stored : Stored) (w v : World) (C : Causes r o stored w) (g : HearsMore r w v) (K : IsHeardFurther r o stored w g.hears.t g.hears.s g.hears.l) where
  abbrev t : ℕ
  t = g.hears.t

  abbrev s : TargetState
  s = g.hears.s

  ticks : s.memory.ticks ≤ limit_over o w.lines w.issued
  ticks = C.bounded.ticks t s g.hears.here g.hears.runs

  meet : AllMeet r w.issued s.memory.member.parked
  meet = meet-at r o stored w t s C g.hears.here

  -- what such a turn leaves
  record FurtherLeaves (new : Kept) (left : TargetMemory × Did) : Type 0 where
    silent : left.1.lines ≡ []
    keeps : KeepsAs s.durable new.durable
    leased : IsLeasedBelow o w new
    leaves : Leaves r o stored w.issued w.lines t (kept s) new left

  same-keeps : (d : Durable) → d ≡ s.durable → KeepsAs s.durable d
  same-keeps d is = record { conts = ap (λ x. x.conts) is; snaps = ap (λ x. x.snaps) is; incarnation = ap (λ x. x.incarnation) is; lease = lease-same s.durable d (ap (λ x. x.lease) is) }

  -- a turn that changes nothing
  at-once : (f : Kept → TargetMemory × Did) (new : Kept) (left : TargetMemory × Did) → Whole NoChange (EndsAs f) Looking (kept s) new left → (f (kept s)).1.issued ≡ None → (f (kept s)).1.lines ≡ [] → (f (kept s)).0.ticks ≡ s.memory.ticks
      → ((p : Parked) → Has p (f (kept s)).0.member.parked → Has p s.memory.member.parked) → AllShow r o stored w.issued w.lines (f (kept s)).1.posts → FurtherLeaves new left
  at-once f new left whole none silent same parked shows = subst (λ k. FurtherLeaves k left) (sym so.0) (subst (FurtherLeaves (kept s)) (sym (so.1 ∙ ap f so.0)) (record {
    silent = silent;
    keeps = same-keeps s.durable refl;
    leased = was-leased o w (kept s) (C.bounded.leases t s g.hears.here);
    leaves = few-leaves r o stored w.issued w.lines t s.memory (kept s) (kept s) (f (kept s)) none (omega arith) same ticks parked meet shows;
  }))
    where
      so : (new ≡ kept s) × (left ≡ f new)
      so = looks-so f (kept s) new left whole

  ask-leaves : (x : AttemptId) (new : Kept) (left : TargetMemory × Did) → g.hears.l.message ≡ message.Ask x → Whole NoChange (EndsAs (ask_left (target_plan r t) s.memory g.hears.l.from x)) Looking (kept s) new left → FurtherLeaves new left
  ask-leaves x new left is whole = at-once (ask_left (target_plan r t) s.memory g.hears.l.from x) new left whole refl refl refl (λ p i. i) (ask-shows r o stored w g.hears.l.from x (leader_at (target_plan r t) s.memory s.durable) (K.ask x is))

  status-leaves : (x : AttemptId) (inc : ℕ) (new : Kept) (left : TargetMemory × Did) → Whole NoChange (EndsAs (status_left s.memory g.hears.l.from x inc)) Looking (kept s) new left → FurtherLeaves new left
  status-leaves x inc new left whole = at-once (status_left s.memory g.hears.l.from x inc) new left whole refl refl refl (λ p i. i)
      (state-shows r o stored w.issued w.lines g.hears.l.from x inc (state_of (entry_of s.durable x)), tt)

  state-leaves : (x : AttemptId) (inc : ℕ) (how : EntryState) (new : Kept) (left : TargetMemory × Did) → g.hears.l.message ≡ message.StatusIs x inc how
      → Whole (ack.AckNext (target_plan r t) s.memory g.hears.l.from.number x inc (status_refusal x how)) (ack.AckEnds s.memory) ack.Heard (kept s) new left → FurtherLeaves new left
  state-leaves x inc how new left is whole = record {
    silent = silent whole.last new left whole.ends;
    keeps = record {
      conts = whole-leaves (λ d. d.conts) conts-made _ _ _ (kept s) new left (ack-plain (target_plan r t) s.memory g.hears.l.from.number x inc (status_refusal x how)) whole;
      snaps = whole-leaves (λ d. d.snaps) snaps-made _ _ _ (kept s) new left (ack-plain (target_plan r t) s.memory g.hears.l.from.number x inc (status_refusal x how)) whole;
      incarnation = whole-leaves (λ d. d.incarnation) (λ c d plain. incarnation-made c d) _ _ _ (kept s) new left (ack-plain (target_plan r t) s.memory g.hears.l.from.number x inc (status_refusal x how)) whole;
      lease = whole-raises _ _ _ (kept s) new left (ack-raises (target_plan r t) s.memory g.hears.l.from.number x inc (status_refusal x how)) whole;
    };
    leased = whole-to _ _ _ (kept s) new left (limit_over o w.lines w.issued + 1 + 65535) (λ a. Unit {0}) tt (ack-to (limit_over o w.lines w.issued + 1) (target_plan r t) s.memory g.hears.l.from.number x inc (status_refusal x how))
        (was-leased o w (kept s) (C.bounded.leases t s g.hears.here)) whole;
    leaves = ack-leaves r o stored w.issued w.lines t (target_plan r t) s.memory (kept s) ticks meet g.hears.l.from.number x inc (status_refusal x how) new left (K.state x inc how is) whole;
  }
    where
      silent : (a : ack.AckStage) (k : Kept) (left : TargetMemory × Did) → ack.AckEnds s.memory a k left → left.1.lines ≡ []
      silent a k left (ack.IsFollowed j f z says) = ap (λ y. y.1.lines) says

  -- a Reset, but for one of what target 0 asked of the others for a snapshot or an aggregation
  reset-leaves : (by : ℕ) (down : Bool) (q : Message) (new : Kept) (left : TargetMemory × Did) → TellsReset by down q g.hears.l.message → Whole NoChange (EndsAs (reset_left (target_plan r t) s.memory by down q)) Looking (kept s) new left → FurtherLeaves new left
  reset-leaves by down q new left tells whole = at-once (reset_left (target_plan r t) s.memory by down q) new left whole refl refl refl joins.1
      (all-both r o stored w.issued w.lines (reset_leads (target_plan r t) s.memory by down q (kept s)).posts (reset_joins (target_plan r t) s.memory down q).freed.posts (leads-show r o stored w t s by down q (K.reset by down q tells) q refl) joins.0)
    where
      joins : AllShow r o stored w.issued w.lines (joining.reset_heard down q (member_at (target_plan r t) s.memory)).freed.posts × ((p : Parked) → Has p (joining.reset_heard down q (member_at (target_plan r t) s.memory)).member.memory.parked → Has p s.memory.member.parked)
      joins = joins-show r o stored w t s by down q (K.reset by down q tells) q refl

  -- a Commit with a member that is known to be down
  module _ (q : CommitRequest) (is : g.hears.l.message ≡ commit_of q) where
    c : IsCommit r o w.issued w.lines t (kept s) q × (g.hears.l.from ≡ client q.attempt.client)
    c = K.commit q is

    commit-kept : (new : Kept) (left : TargetMemory × Did) → Whole (commit.CommitNext (target_plan r t) s.opening s.memory g.hears.reading q) (CommitDown (target_plan r t) s.memory g.hears.reading q g.hears.l.from) commit.Asked (kept s) new left → KeepsAs s.durable new.durable
    commit-kept new left whole = record {
      conts = whole-leaves (λ d. d.conts) conts-made _ _ _ (kept s) new left (commit-plain (target_plan r t) s.opening s.memory g.hears.reading q) whole;
      snaps = whole-leaves (λ d. d.snaps) snaps-made _ _ _ (kept s) new left (commit-plain (target_plan r t) s.opening s.memory g.hears.reading q) whole;
      incarnation = whole-leaves (λ d. d.incarnation) (λ a d plain. incarnation-made a d) _ _ _ (kept s) new left (commit-plain (target_plan r t) s.opening s.memory g.hears.reading q) whole;
      lease = whole-raises _ _ _ (kept s) new left (commit-raises (target_plan r t) s.opening s.memory g.hears.reading q) whole;
    }

    down-ends : (a : commit.CommitStage) (new : Kept) (left : TargetMemory × Did) → CommitSoFar (target_plan r t) s.memory g.hears.reading q (kept s) a new → CommitDown (target_plan r t) s.memory g.hears.reading q g.hears.l.from a new left
        → (left.1.lines ≡ []) × Leaves r o stored w.issued w.lines t (kept s) new left
    down-ends a new left so (IsSpent j e down z none gone says) = (
      ap (λ y. y.1.lines) says,
      commit-ends r o stored w.issued w.lines t s.opening s.memory g.hears.reading q g.hears.l.from (kept s) K.at.target c.0 c.1 ticks meet K.at.stamps (C.space t s g.hears.here) commit.Asked new left so (commit.IsSpent new left none says),
    )
    down-ends a new left so (IsUnknown j e down z gone says) = (
      ap (λ y. y.1.lines) says,
      ends-left r o stored w.issued w.lines t s.opening s.memory g.hears.reading q g.hears.l.from (kept s) K.at.target c.0 c.1 ticks meet K.at.stamps (C.space t s g.hears.here) new e (outcome.Unknown down) left
          (writing r o stored w.issued w.lines t s.opening s.memory g.hears.reading q g.hears.l.from (kept s) K.at.target c.0 c.1 ticks meet K.at.stamps (C.space t s g.hears.here) e so.dated)
          (let f : s.free ≤ new.free + 0 = so.free in omega (arith, f)) (record { shows = K.gone q e down is gone; told = λ n i. absurd i }) says,
    )

    down-leaves : (new : Kept) (left : TargetMemory × Did) → Whole (commit.CommitNext (target_plan r t) s.opening s.memory g.hears.reading q) (CommitDown (target_plan r t) s.memory g.hears.reading q g.hears.l.from) commit.Asked (kept s) new left → FurtherLeaves new left
    down-leaves new left whole = record {
      silent = ends.0;
      keeps = commit-kept new left whole;
      leased = whole-to _ _ _ (kept s) new left (limit_over o w.lines w.issued + 1 + 65535) (CommitBelow (limit_over o w.lines w.issued + 1)) tt (commit-to (limit_over o w.lines w.issued + 1) (target_plan r t) s.opening s.memory g.hears.reading q
          (request-below r o w t s.memory ticks g.hears.reading q.attempt q.ep q.first q.tracker c.0.few c.0.request)) (was-leased o w (kept s) (C.bounded.leases t s g.hears.here)) whole;
      leaves = ends.1;
    }
      where
        ends : (left.1.lines ≡ []) × Leaves r o stored w.issued w.lines t (kept s) new left
        ends = down-ends whole.last new left (commit-path (target_plan r t) s.opening s.memory g.hears.reading q (kept s) whole.last new whole.reached.did whole.reached.path) whole.ends

  -- ---- whatever was heard

  resets-leave : (by : ℕ) (down : Bool) (q : Message) (new : Kept) (left : TargetMemory × Did) → is_collecting q ≡ false → TellsReset by down q g.hears.l.message → Whole NoChange (EndsAs (reset_by (target_plan r t) s.memory by down q)) Looking (kept s) new left → FurtherLeaves new left
  resets-leave by down (message.Freeze x c' e) new left plain tells whole = let no : ⊥ = cc in absurd no
  resets-leave by down (message.Prune x c' k e) new left plain tells whole = let no : ⊥ = cc in absurd no
  resets-leave by down q new left plain tells whole = reset-leaves by down q new left tells whole

  further-leaves : (m : Message) → g.hears.l.message ≡ m → is_of_attempts m ≡ true → HearsFurther g.number (target_plan r t) s.opening s.memory g.hears.reading g.hears.l.from m (kept s) g.hears.new (g.hears.memory, g.hears.did) → FurtherLeaves g.hears.new (g.hears.memory, g.hears.did)
  further-leaves (message.Commit x ep first tracker ws) is ours turn = down-leaves (commit_request x ep first tracker ws) is g.hears.new (g.hears.memory, g.hears.did) turn
  further-leaves (message.Ask x) is ours turn = ask-leaves x g.hears.new (g.hears.memory, g.hears.did) is turn
  further-leaves (message.Status x inc) is ours turn = status-leaves x inc g.hears.new (g.hears.memory, g.hears.did) turn
  further-leaves (message.StatusIs x inc how) is ours turn = state-leaves x inc how g.hears.new (g.hears.memory, g.hears.did) is turn
  further-leaves (message.Reset' by down place (more_of-Message q rest)) is ours turn =
      resets-leave by down q g.hears.new (g.hears.memory, g.hears.did) (not-false (is_collecting q) ours) (subst (TellsReset by down q) (sym is) (refl, refl, refl)) turn
  further-leaves (message.Snap x c' called tracker) is ours turn = let no : ⊥ = cc in absurd no
  further-leaves (message.Freeze x c' e) is ours turn = let no : ⊥ = cc in absurd no
  further-leaves (message.Held x refusal) is ours turn = let no : ⊥ = cc in absurd no
  further-leaves (message.Prune x c' tracker e) is ours turn = let no : ⊥ = cc in absurd no
  further-leaves m is ours turn = absurd turn

  pub further-keeps : is_of_attempts g.hears.l.message ≡ true → Causes r o (stored_by g.hears.t g.hears.s.durable g.hears.new.durable ++ stored) v
  further-keeps ours =
      subst (Causes r o (stored_by t s.durable g.hears.new.durable ++ stored)) (sym g.hears.after)
      (leaves-keep r o stored w t s g.hears.new g.hears.memory g.hears.did g.hears.rest C g.hears.here (λ l i. left-is-among w.messages g.hears.l g.hears.rest l g.hears.takes i) k.silent k.keeps k.leased k.leaves)
    where
      k : FurtherLeaves g.hears.new (g.hears.memory, g.hears.did)
      k = further-leaves g.hears.l.message refl ours g.hears.turn
