-- What a target hears after stops stores nothing, asks for nothing, and refuses nothing, but what the message tells to be refused; so it keeps
-- what is stored once.
use Rattle.std.specs.Prelude.{ℕ, ◌≡◌, ◌++◌, ◌==◌, ◌||◌, Bool, true, false, not, List, [], ◌∷◌, filter, Option, Some, None, refl, if◌then◌else◌}
use Rattle.std.proofs.Common.{sym, ◌∙◌, ap, subst}
use Rattle.base_types.specs.declared.entry.Entry.{Entry}
use Rattle.base_types.specs.declared.entry.EntryState.{EntryState}
use Rattle.base_types.specs.declared.entry.EntryState.TheVariants as state
use Rattle.base_types.specs.declared.epoch.Epoch.{Epoch}
use Rattle.base_types.specs.declared.id.AttemptId.{AttemptId}
use Rattle.base_types.specs.declared.outcome.Outcome.TheVariants as outcome
use Rattle.base_types.specs.declared.outcome.FloorWhy.{FloorWhy}
use Rattle.base_messages.specs.declared.actor.ActorId.{ActorId}
use Rattle.base_messages.specs.declared.message.Message.{Message, more_of-Message}
use Rattle.base_messages.specs.declared.message.Message.TheVariants as message
use Rattle.daos_model.specs.declared.durable.Durable.{Durable}
use Rattle.dtx_base.specs.declared.leading.Undecided.{Undecided}
use Rattle.dtx_base.specs.Asking.{ask_heard, asked_of, asked_open, tells_end}
use Rattle.dtx_base.specs.Joining as joining
use Rattle.dtx_base.specs.Joining.{MemberOf, is_waiting, unresolved}
use Rattle.dtx_base.specs.Leading.{LeaderOf, down_told, entry_led, first_down, mark_reset, prepare_reset, quietly, reset_of, status_asked, to_target, undecided_of}
use Rattle.dtx_base.specs.Rows.{is_among}
use Rattle.world_contents.specs.world_commit.attempts.History.{History}
use Rattle.world_base.specs.declared.did.Did.{Did}
use Rattle.world_base.specs.declared.request.CommitRequest.{CommitRequest}
use Rattle.world_base.specs.declared.target.TargetMemory.{TargetMemory}
use Rattle.world_base.specs.declared.target.TargetPlan.{TargetPlan}
use Rattle.world_base.specs.declared.world.World.{World}
use Rattle.world_base.specs.Acks as ack
use Rattle.world_base.specs.Changes.{Change, Kept}
use Rattle.world_base.specs.Commits as commit
use Rattle.world_base.specs.Events.{Rules, kept, target_plan}
use Rattle.world_base.specs.Further.{CommitDown, HearsFurther, IsSpent, IsUnknown, reset_by}
use Rattle.world_base.specs.PathLaws.{reached-keeps}
use Rattle.world_base.specs.Roles.{leader_at, member_at}
use Rattle.world_base.specs.Statuses.{AtOnce, EndsAs, IsDone, Looking, Looks, NoChange, ask_left, reset_joins, reset_leads, reset_left, status_left, status_refusal}
use Rattle.world_base.specs.Stops.{HearsMore}
use Rattle.world_base.specs.TargetTurns.{commit_request}
use Rattle.world_base.specs.Turns.{Whole}
use Rattle.world_causes.specs.causes.Causes.{stored_by, Stored}
use Rattle.world_causes.specs.causes.Storing.{RefusesAt}
use Rattle.world_causes.specs.causes.StoreTurns.{AreSaid, AsksFor, CommitAsks, Fits, FollowsSaid, NoneAsked, OnlyNew, StoresAs, ack-ends, ack-fits, ack-next, all-unresolved-said, begins-so, both-said, commit-any, commit-next, ended-said, none-said, one-dull, steps-only}
use Rattle.world_contents.specs.world_commit.statuses.Heard.{is_of_attempts}
use Rattle.world_contents.specs.world_commit.statuses.ResetTurns.{is_collecting}
use Rattle.world_causes.specs.stored.Over.{IsStoringKnown, StoringOver}
use Rattle.world_causes.specs.stored.Targets.{hearing-over}

-- ---- what is sent

-- where a member holds nothing, the refusal is no lack of space
no-space : (x : AttemptId) (inc : ℕ) (how : EntryState) (u : ℕ) (y : AttemptId) → RefusesAt (message.Ack x inc (status_refusal x how)) u y → ⊥
no-space x inc state.Prepared u y h = h
no-space x inc state.Committed u y h = h
no-space x inc state.Absent u y h = h

module _ (old : Durable) (t : ℕ) (m : Message) (new : Kept) where
  ask-said : (x : AttemptId) (from : ActorId) (l : LeaderOf) → AreSaid old t m new (ask_heard x from l).posts
  unfolding ask_heard
  ask-said x from l = by (entry_led x l) (is_among x l.memory.decided)
    where
      open' : (e : Entry) (o : Option ℕ) → AreSaid old t m new (asked_open x from e o l).posts
      open' e None = none-said old t m new
      open' e (Some down) = one-dull old t m new _ (λ u y h. h) (λ y h. h)

      told : (e : Entry) (b : Bool) → AreSaid old t m new (if b then record { leader = l; posts = tells_end from x (Some e.epoch) outcome.Committed } else asked_open x from e (first_down e.members l.memory.down) l).posts
      told e true = one-dull old t m new _ (λ u y h. h) (λ y h. h)
      told e false = open' e (first_down e.members l.memory.down)

      by : (e : Option Entry) (decided : Bool) → AreSaid old t m new (asked_of x from e decided l).posts
      by None decided = one-dull old t m new _ (λ u y h. h) (λ y h. h)
      by (Some e) decided = told e (e.committed || decided)

  down-said : (by : ℕ) (a : AttemptId) (e : Option Entry) (u : Option Undecided) (l : LeaderOf) → AreSaid old t m new (down_told by a e u l).posts
  down-said by a None u l = none-said old t m new
  down-said by a (Some e) None l = none-said old t m new
  down-said by a (Some e) (Some u) l = ended-said old t m new u.client a e.epoch (outcome.Unknown by) (λ n y h. absurd h)

  status-said : (by : ℕ) (a : AttemptId) (inc : ℕ) (l : LeaderOf) → AreSaid old t m new (status_asked by a inc l).posts
  status-said by a inc l = cases (inc == l.incarnation)
    where
      cases : (b : Bool) → AreSaid old t m new (if b then record { leader = l; posts = to_target by (message.Status a inc) ∷ [] } else quietly l).posts
      cases true = one-dull old t m new _ (λ u y h. h) (λ y h. h)
      cases false = none-said old t m new

  prepare-said : (by : ℕ) (down : Bool) (a : AttemptId) (inc : ℕ) (l : LeaderOf) → AreSaid old t m new (prepare_reset by down a inc l).posts
  unfolding prepare_reset
  prepare-said by true a inc l = down-said by a (entry_led a l) (undecided_of a l) l
  prepare-said by false a inc l = status-said by a inc l

  mark-said : (by : ℕ) (down : Bool) (inc : ℕ) (marks : List (AttemptId × Bool)) (l : LeaderOf) → AreSaid old t m new (mark_reset by down inc marks l).posts
  unfolding mark_reset
  mark-said by true inc marks l = none-said old t m new
  mark-said by false inc marks l = one-dull old t m new _ (λ u y h. h) (λ y h. h)

  leads-said : (by : ℕ) (down : Bool) (q : Message) (l : LeaderOf) → AreSaid old t m new (reset_of by down q l).posts
  leads-said by down (message.Prepare e first ws inc) l = prepare-said by down e.attempt inc l
  leads-said by down (message.Status a inc) l = prepare-said by down a inc l
  leads-said by down (message.Mark inc marks) l = mark-said by down inc marks l
  leads-said by down q l = none-said old t m new

  joins-said : (down : Bool) (q : Message) (s : MemberOf) → AreSaid old t m new (joining.reset_heard down q s).freed.posts
  unfolding unresolved
  joins-said down (message.Query a (Some x)) s = all-unresolved-said old t m new a (filter (is_waiting a x) s.memory.parked)
  joins-said down (message.Query a None) s = none-said old t m new
  joins-said down q s = none-said old t m new

-- ---- whole turns

looks-fit : (old : Durable) (P : AttemptId → Type 0) (s : AtOnce) (j : Kept) (o : Option Change) (u : AtOnce) → NoChange s j o u → Fits old P o
looks-fit old P s j o u (Looks i) = tt

not-collecting : (b : Bool) → not b ≡ true → b ≡ false
not-collecting false h = refl
not-collecting true h = let no : ⊥ = cc in absurd no

module _ (old : Durable) (k : Kept) (own : k.durable ≡ old) (t : TargetPlan) (n : TargetMemory) where
  at-once : (m : Message) (left_by : Kept → TargetMemory × Did) (new : Kept) (left : TargetMemory × Did) → Whole NoChange (EndsAs left_by) Looking k new left → ((j : Kept) → AreSaid old t.me m new (left_by j).1.posts) → StoresAs old t.me m new left.1.posts
  at-once m left_by new left h said = record { only = steps-only old NoChange (AsksFor m) (looks-fit old (AsksFor m)) Looking k h.last new h.reached (begins-so old k own (AsksFor m)); said = ends h.last new left h.ends }
    where
      ends : (s : AtOnce) (j : Kept) (z : TargetMemory × Did) → EndsAs left_by s j z → AreSaid old t.me m new z.1.posts
      ends s j z (IsDone i y is) = subst (λ x. AreSaid old t.me m new x.1.posts) (sym is) (said j)

  looks-silent : (left_by : Kept → TargetMemory × Did) (new : Kept) (left : TargetMemory × Did) → Whole NoChange (EndsAs left_by) Looking k new left → ((j : Kept) → (left_by j).1.lines ≡ []) → left.1.lines ≡ []
  looks-silent left_by new left h none = ends h.last new left h.ends
    where
      ends : (s : AtOnce) (j : Kept) (z : TargetMemory × Did) → EndsAs left_by s j z → z.1.lines ≡ []
      ends s j z (IsDone i y is) = ap (λ x. x.1.lines) is ∙ none j

  reset-silent : (by : ℕ) (down : Bool) (q : Message) (new : Kept) (left : TargetMemory × Did) → is_collecting q ≡ false → Whole NoChange (EndsAs (reset_by t n by down q)) Looking k new left → left.1.lines ≡ []
  reset-silent by down (message.Freeze x c e) new left plain h = let no : ⊥ = cc in absurd no
  reset-silent by down (message.Prune x c tracker e) new left plain h = let no : ⊥ = cc in absurd no
  reset-silent by down q new left plain h = looks-silent (reset_left t n by down q) new left h (λ j. refl)

  -- one with a member that is down ends before it stores anything
  down-ends : (reading : ℕ) (q : CommitRequest) (from : ActorId) (m : Message) (s : commit.CommitStage) (new : Kept) (left : TargetMemory × Did) → CommitDown t n reading q from s new left → AreSaid old t.me m new left.1.posts
  down-ends reading q from m s new left (IsSpent j e down z none gone is) = subst (λ x. AreSaid old t.me m new x.1.posts) (sym is) (one-dull old t.me m new _ (λ u y h. h) (λ y h. h))
  down-ends reading q from m s new left (IsUnknown j e down z gone is) = subst (λ x. AreSaid old t.me m new x.1.posts) (sym is) (one-dull old t.me m new _ (λ u y h. h) (λ y h. h))

  reset-stores : (by : ℕ) (down : Bool) (q : Message) (m : Message) (new : Kept) (left : TargetMemory × Did) → is_collecting q ≡ false → Whole NoChange (EndsAs (reset_by t n by down q)) Looking k new left → StoresAs old t.me m new left.1.posts
  reset-stores by down (message.Freeze x c e) m new left plain h = let no : ⊥ = cc in absurd no
  reset-stores by down (message.Prune x c tracker e) m new left plain h = let no : ⊥ = cc in absurd no
  reset-stores by down q m new left plain h = at-once m (reset_left t n by down q) new left h (λ j. both-said old t.me m new (reset_leads t n by down q j).posts (reset_joins t n down q).freed.posts (leads-said old t.me m new by down q (leader_at t n j.durable)) (joins-said old t.me m new down q (member_at t n)))

  pub further-stores : (number : ℕ) (opening : Epoch × FloorWhy) (reading : ℕ) (from : ActorId) (m : Message) (new : Kept) (left : TargetMemory × Did) → is_of_attempts m ≡ true → HearsFurther number t opening n reading from m k new left → StoresAs old t.me m new left.1.posts
  further-stores number opening reading from (message.Commit x ep first tracker ws) new left ours h =
      let q = commit_request x ep first tracker ws in
      record {
        only = commit-any old k own q h.last new (reached-keeps (commit.CommitNext t opening n reading q) (λ s j. OnlyNew old (CommitAsks old k own q s) j) (commit-next old k own t opening n reading q) commit.Asked k h.last new h.reached (begins-so old k own (NoneAsked old)));
        said = down-ends reading q from (message.Commit x ep first tracker ws) h.last new left h.ends;
      }
  further-stores number opening reading from (message.Ask x) new left ours h = at-once (message.Ask x) (ask_left t n from x) new left h (λ j. ask-said old t.me (message.Ask x) new x from (leader_at t n j.durable))
  further-stores number opening reading from (message.Status x inc) new left ours h = at-once (message.Status x inc) (status_left n from x inc) new left h (λ j. one-dull old t.me (message.Status x inc) new _ (λ u y f. f) (λ y f. f))
  further-stores number opening reading from (message.StatusIs x inc how) new left ours h =
      let m = message.StatusIs x inc how in
      record {
        only = steps-only old (ack.AckNext t n from.number x inc (status_refusal x how)) (AsksFor m) (ack-fits old k own (AsksFor m) t n from.number x inc (status_refusal x how)) ack.Heard k h.last new h.reached (begins-so old k own (AsksFor m));
        said = ack-ends old t.me m new n h.last new left h.ends
            (reached-keeps (ack.AckNext t n from.number x inc (status_refusal x how)) (λ s j. FollowsSaid old t.me m new s) (ack-next old t.me m new t n from.number x inc (status_refusal x how) (λ u y f. absurd (no-space x inc how u y f))) ack.Heard k h.last new h.reached tt);
      }
  further-stores number opening reading from (message.Reset' by down place (more_of-Message q rest)) new left ours h = reset-stores by down q (message.Reset' by down place (more_of-Message q rest)) new left (not-collecting (is_collecting q) ours) h
  further-stores number opening reading from (message.Snap x c called tracker) new left ours h = let no : ⊥ = cc in absurd no
  further-stores number opening reading from (message.Freeze x c e) new left ours h = let no : ⊥ = cc in absurd no
  further-stores number opening reading from (message.Held x refusal) new left ours h = let no : ⊥ = cc in absurd no
  further-stores number opening reading from (message.Prune x c tracker e) new left ours h = let no : ⊥ = cc in absurd no
  further-stores number opening reading from m new left ours h = absurd h

  -- ---- no line is told

  pub further-silent : (number : ℕ) (opening : Epoch × FloorWhy) (reading : ℕ) (from : ActorId) (m : Message) (new : Kept) (left : TargetMemory × Did) → is_of_attempts m ≡ true → HearsFurther number t opening n reading from m k new left → left.1.lines ≡ []
  further-silent number opening reading from (message.Commit x ep first tracker ws) new left ours h = by h.last new left h.ends
    where
      by : (s : commit.CommitStage) (j : Kept) (z : TargetMemory × Did) → CommitDown t n reading (commit_request x ep first tracker ws) from s j z → z.1.lines ≡ []
      by s j z (IsSpent i e down y none gone is) = ap (λ x. x.1.lines) is
      by s j z (IsUnknown i e down y gone is) = ap (λ x. x.1.lines) is
  further-silent number opening reading from (message.Ask x) new left ours h = looks-silent (ask_left t n from x) new left h (λ j. refl)
  further-silent number opening reading from (message.Status x inc) new left ours h = looks-silent (status_left n from x inc) new left h (λ j. refl)
  further-silent number opening reading from (message.StatusIs x inc how) new left ours h = by h.last new left h.ends
    where
      by : (s : ack.AckStage) (j : Kept) (z : TargetMemory × Did) → ack.AckEnds n s j z → z.1.lines ≡ []
      by s j z (ack.IsFollowed i step y is) = ap (λ x. x.1.lines) is
  further-silent number opening reading from (message.Reset' by down place (more_of-Message q rest)) new left ours h = reset-silent by down q new left (not-collecting (is_collecting q) ours) h
  further-silent number opening reading from (message.Snap x c called tracker) new left ours h = let no : ⊥ = cc in absurd no
  further-silent number opening reading from (message.Freeze x c e) new left ours h = let no : ⊥ = cc in absurd no
  further-silent number opening reading from (message.Held x refusal) new left ours h = let no : ⊥ = cc in absurd no
  further-silent number opening reading from (message.Prune x c tracker e) new left ours h = let no : ⊥ = cc in absurd no
  further-silent number opening reading from m new left ours h = absurd h

-- ---- the event

module _ (r : Rules) (h later : History) (stored : Stored) (w v : World) (G : IsStoringKnown r h later w v) (S : StoringOver r stored w) where
  pub further-over : (g : HearsMore r w v) → is_of_attempts g.hears.l.message ≡ true → StoringOver r (stored_by g.hears.t g.hears.s.durable g.hears.new.durable ++ stored) v
  further-over g ours = hearing-over r h later stored w v G S g.hears.t g.hears.s g.hears.l g.hears.rest g.hears.here g.hears.takes g.hears.to_it g.hears.new g.hears.memory g.hears.did g.hears.after
      (further-silent g.hears.s.durable (kept g.hears.s) refl (target_plan r g.hears.t) g.hears.s.memory g.number g.hears.s.opening g.hears.reading g.hears.l.from g.hears.l.message g.hears.new (g.hears.memory, g.hears.did) ours g.hears.turn)
      (further-stores g.hears.s.durable (kept g.hears.s) refl (target_plan r g.hears.t) g.hears.s.memory g.number g.hears.s.opening g.hears.reading g.hears.l.from g.hears.l.message g.hears.new (g.hears.memory, g.hears.did) ours g.hears.turn)
