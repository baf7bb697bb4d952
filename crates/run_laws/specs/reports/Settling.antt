-- While a run in an order settles, it is known of what a member was told isn't decided: a member of it was given up, or it is decided.
use Rattle.std.specs.Prelude.{ℕ, ◌≡◌, ◌⊎◌, ◌≤◌, ◌++◌, true, nat_le, List, [], length, slice_get, Some, None, refl, if◌then◌else◌}
use Rattle.std.proofs.Common.{inl, inr, sym, ◌∙◌, ap, subst, arith}
use Rattle.std.proofs.Math.ListN.{set}
use Rattle.std.proofs.lemmas.Bool.Decides.{nat_tests}
use Rattle.std.proofs.lemmas.Option.{slice_get_past}
use Rattle.base_types.specs.declared.epoch.Epoch.{Epoch}
use Rattle.base_types.specs.declared.id.AttemptId.{AttemptId}
use Rattle.base_types.specs.declared.outcome.FloorWhy.{FloorWhy}
use Rattle.base_types.specs.declared.report.Line.TheVariants as line
use Rattle.base_messages.specs.declared.actor.ActorId.{ActorId}
use Rattle.base_messages.specs.declared.message.Message.{Message}
use Rattle.base_messages.specs.declared.message.Message.TheVariants as message
use Rattle.base_messages.specs.declared.message.Post.{Post}
use Rattle.model_laws.specs.Members.{Has, has-left}
use Rattle.daos_model.specs.Opening.{Opening}
use Rattle.dtx_base.specs.declared.member.Inquiry.{Inquiry}
use Rattle.dtx_base.specs.declared.member.QueryState.TheVariants as state
use Rattle.world_commit.specs.asks.Asks.{Flies, IsUndecidedTold, IsVerdict}
use Rattle.world_commit.specs.attempts.Attempts.{IsHeld, entry_in, leader_of}
use Rattle.world_commit.specs.attempts.Counting.{has-taken}
use Rattle.world_commit.specs.attempts.History.{Decided, GrowsBy, History}
use Rattle.world_commit.specs.attempts.Turning.{one-or_another}
use Rattle.world_base.specs.declared.client.ClientPlan.{ClientPlan}
use Rattle.world_base.specs.declared.client.ClientState.{ClientState}
use Rattle.world_base.specs.declared.did.Did.{Did}
use Rattle.world_base.specs.declared.letter.Letter.{Letter}
use Rattle.world_base.specs.declared.target.TargetMemory.{TargetMemory}
use Rattle.world_base.specs.declared.target.TargetPlan.{TargetPlan}
use Rattle.world_base.specs.declared.target.TargetState.{TargetState}
use Rattle.world_base.specs.declared.world.World.{World}
use Rattle.world_base.specs.ClientTurns.{command_at, heard, heard_at, hears_epochs, is_done, is_waiting, moved, moves_at, rests}
use Rattle.world_base.specs.Changes.{Kept}
use Rattle.world_base.specs.Events.{ByClient, ByTarget, ClientGoes, ClientHears, Rules, ToClient, ToTarget, client_plan, kept, target_after, target_plan, rightly}
use Rattle.world_base.specs.Further.{HearsFurther}
use Rattle.world_base.specs.StepLaws.{by-hearing, by-next, set-here, set-there}
use Rattle.world_base.specs.Steps.{KeptByCounting, KeptByHearing, KeptByMoves}
use Rattle.world_base.specs.Stops.{Begins, Draws, Fails, Further, GivenUp, Goes, Happening, HearsMore, IsCut, Opens, Plainly, WorldEvent, WorldRun}
use Rattle.world_closing.specs.world_causes.causes.Causes.{Stored}
use Rattle.world_commit.specs.fates.Facts.{Attempts}
use Rattle.world_commit.specs.fates.Rightly.{letters-tell}
use Rattle.world_closing.specs.world_causes.handing.Handing.{asks-right, commits-of_clients, hands-over}
use Rattle.world_letters.specs.lines.LastLines.{AreDone}
use Rattle.world_closing.specs.world_causes.outcomes.AfterStops.{after_stop-concludes, is_after_stop}
use Rattle.world_closing.specs.world_causes.outcomes.Concluding.{Concludes, IsTaken}
use Rattle.world_closing.specs.world_causes.outcomes.Keeping.{IsOfTarget}
use Rattle.world_closing.specs.world_causes.outcomes.Making.{is_making_message, making-concludes}
use Rattle.world_closing.specs.world_causes.outcomes.Outcomes.{Outcomes}
use Rattle.world_closing.specs.world_causes.outcomes.Premises.{AsksGoRight, CommitsAreOfClients, MakersWriteNothing}
use Rattle.world_closing.specs.world_causes.outcomes.Rightly.{idling-concludes, rightly-concludes}
use Rattle.world_closing.specs.world_causes.outcomes.Stopping.{cut-concludes, cut-told, drawing-concludes, failing-concludes, giving-up-concludes, opening-concludes}
use Rattle.world_closing.specs.world_causes.showing.Happening.{stored_in}
use Rattle.world_closing.specs.world_making.makers.Events.{makers-write}
use Rattle.world_commit.specs.requests.Staying.{requests-happen}
use Rattle.world_commit.specs.statuses.Events.{told_by}
use Rattle.world_commit.specs.statuses.Fates.{told_by_it}
use Rattle.world_commit.specs.stops.Happenings.{told_in}
use Rattle.world_letters.specs.lives.Growing.{lines-grow}
use Rattle.world_closing.specs.Below.{AccountedFor, AreRulesInForm, Grounds, all-events-keep_accounts, attempts-happened, grows-with, later-with}
use Rattle.run_laws.specs.reports.Inquiries.{AnswersOne, AsksNow, InquiriesCome, InquiryComes, IsAnswered, IsAsked, IsSettling, LetterComes, Stays, WasFlying, inquiries-come, swept-come}
use Rattle.run_laws.specs.reports.Reports.{LacksMember}

-- ---- clients that are done

past-end : (m n : ℕ) → nat_le m n ≡ true → m ≤ n
past-end m n h = grind (arith, nat_tests)

moved-stays : (p : ClientPlan) (c : ClientState) → is_done p c ≡ true → c.present ≡ None → (moved p c).state ≡ c
unfolding moved
moved-stays p c over none =
    ap (λ a. (if is_waiting a then rests c else moves_at p c (command_at p c) a).state) none
    ∙ ap (λ d. (moves_at p c d None).state) (slice_get_past p.commands c.place (past-end (length p.commands) c.place over))

heard-stays : (p : ClientPlan) (c : ClientState) (m : Message) → c.present ≡ None → (heard p c m).state ≡ hears_epochs m c
unfolding heard
heard-stays p c m none = ap (λ a. (heard_at p (hears_epochs m c) m a).state) none

abbrev IsDone : ClientPlan → ClientState → Type 0
IsDone p c = (is_done p c ≡ true) × (c.present ≡ None)

module _ (r : Rules) where
  one-done : (cs : List ClientState) (n : ℕ) (c d : ClientState) → slice_get cs n ≡ Some c → IsDone (client_plan r n) d → ((m : ℕ) (z : ClientState) → slice_get cs m ≡ Some z → IsDone (client_plan r m) z)
      → (m : ℕ) (z : ClientState) → slice_get (set cs n d) m ≡ Some z → IsDone (client_plan r m) z
  one-done cs n c d here done all m z at = elim (one-or_another m n) [
    | inl same ↦
        let is : Some d ≡ Some z = sym (set-here cs n c d here) ∙ ap (slice_get (set cs n d)) (sym same) ∙ at in
        subst (λ k. IsDone (client_plan r k) z) (sym same) (subst (IsDone (client_plan r n)) (let one : d ≡ z = cc in one) done)
    | inr other ↦ all m z (sym (set-there cs n m d other) ∙ at)
  ]

  done-by-moves : KeptByMoves r (AreDone r)
  done-by-moves w n c here k = one-done w.clients n c (moved (client_plan r n) c).state here (subst (IsDone (client_plan r n)) (sym (moved-stays (client_plan r n) c (k n c here).0 (k n c here).1)) (k n c here)) k

  done-by-hearing : KeptByHearing r (AreDone r)
  done-by-hearing w n c l rest here awake takes to k =
      one-done w.clients n c (heard (client_plan r n) c l.message).state here
      (subst (IsDone (client_plan r n)) (sym (heard-stays (client_plan r n) c l.message (k n c here).1)) ((k n c here).0, (k n c here).1)) k

  done-by-counting : KeptByCounting (AreDone r)
  done-by-counting w n j c here k = one-done w.clients n c (record c { skip = j }) here ((k n c here).0, (k n c here).1) k

  done-goes : (w u : World) → AreDone r w → ClientGoes r w u → AreDone r u
  done-goes w u k g = by-next r (AreDone r) done-by-moves done-by-counting w u k g

  done-hears : (w u : World) → AreDone r w → ClientHears r w u → AreDone r u
  done-hears w u k g = by-hearing r (AreDone r) done-by-moves done-by-hearing w u k g

-- ---- what an event of a target leaves

-- what a target hears further is of attempts after a stop, or of a snapshot or an aggregation
further-kind : (number : ℕ) (p : TargetPlan) (opening : Epoch × FloorWhy) (m : TargetMemory) (reading : ℕ) (from : ActorId) (q : Message) (old new : Kept) (left : TargetMemory × Did) → HearsFurther number p opening m reading from q old new left
    → (is_after_stop q ≡ true) ⊎ (is_making_message q ≡ true)
further-kind number p opening m reading from (message.Commit x ep first tracker ws) old new left turn = inl refl
further-kind number p opening m reading from (message.Ask x) old new left turn = inl refl
further-kind number p opening m reading from (message.Status x inc) old new left turn = inl refl
further-kind number p opening m reading from (message.StatusIs x inc how) old new left turn = inl refl
further-kind number p opening m reading from (message.Reset' by down place more) old new left turn = inl refl
further-kind number p opening m reading from (message.Snap x c called tracker) old new left turn = inr refl
further-kind number p opening m reading from (message.Freeze x c s) old new left turn = inr refl
further-kind number p opening m reading from (message.Held x refusal) old new left turn = inr refl
further-kind number p opening m reading from (message.Prune x c tracker e) old new left turn = inr refl
further-kind number p opening m reading from q old new left turn = absurd turn

-- and where it is of the latter, it tells of no attempt's end
untold : (q : Message) (s z : TargetState) (posts : List Post) → is_making_message q ≡ true → told_by_it q s z posts ≡ []
untold (message.Snap x c name tracker) s z posts making = refl
untold (message.Freeze x c e) s z posts making = refl
untold (message.Held x refusal) s z posts making = refl
untold (message.Prune x c tracker e) s z posts making = refl
untold q s z posts making = let no : ⊥ = cc in absurd no

-- what an event of a target stands on: what became of attempts before it and then, and what is told of that; that those who ask know whom they
-- ask, that clients alone commit, and that attempts which make snapshots or aggregate write nothing
record TakesPlace (r : Rules) (h later : History) (w u : World) : Type 0 where
  attempts : Attempts r h w
  attempts_then : Attempts r later u
  outcomes : Outcomes r h w
  asks : AsksGoRight r w
  of_clients : CommitsAreOfClients u
  makers : MakersWriteNothing r w

module _ (r : Rules) (h later : History) (w u : World) (p : TakesPlace r h later w u) where
  further-concludes : (g : HearsMore r w u) → GrowsBy h (told_by (Further g)) later → Concludes r h later w u
  further-concludes g grows = elim (further-kind g.number (target_plan r g.hears.t) g.hears.s.opening g.hears.s.memory g.hears.reading g.hears.l.from g.hears.l.message (kept g.hears.s) g.hears.new (g.hears.memory, g.hears.did) g.hears.turn) [
    | inl after ↦ after_stop-concludes g.number r h later w u p.attempts p.attempts_then p.outcomes p.asks p.of_clients g.hears after grows
    | inr making ↦
        making-concludes g.number r h later w u p.attempts p.attempts_then p.makers p.of_clients g.hears making
        (subst (λ ps. GrowsBy h ps later) (untold g.hears.l.message g.hears.s (target_after g.hears.s g.hears.new g.hears.memory) g.hears.did.posts making) grows)
  ]

  concludes : (e : Happening r w u) → IsOfTarget e → GrowsBy h (told_by e) later → Concludes r h later w u
  concludes (Plainly (ByClient g) up) of_target grows = absurd of_target
  concludes (Plainly (ToClient g) up) of_target grows = absurd of_target
  concludes (Plainly (ToTarget g) up) of_target grows = rightly-concludes r h later w u p.attempts p.attempts_then p.of_clients (rightly r w u g (letters-tell r h w p.attempts g.l g.t g.s (has-taken w.messages g.l g.rest g.takes) g.to_it g.here)) grows
  concludes (Plainly (ByTarget g) up) of_target grows = idling-concludes r h later w u p.attempts p.attempts_then p.of_clients g grows
  concludes (Further g) of_target grows = further-concludes g grows
  concludes (IsCut g) of_target grows = cut-concludes r h later w u p.attempts p.attempts_then g (told_in (IsCut g)) grows (cut-told r h w u p.attempts g)
  concludes (Opens g) of_target grows = opening-concludes r h later w u g grows
  concludes (Fails g) of_target grows = failing-concludes r h later w u g grows
  concludes (GivenUp g) of_target grows = giving-up-concludes r h later w u g grows
  concludes (Draws g) of_target grows = drawing-concludes r h later w u g grows

  -- where no client waits, none is done otherwise, and no leader keeps an entry of an attempt that it had none of
  module _ (done : AreDone r w) (none-taken : (x : AttemptId) → IsTaken w u x → ⊥) where
    still-done : Concludes r h later w u → AreDone r u
    still-done c n z at = done n z (subst (λ cs. slice_get cs n ≡ Some z) c.clients at)

    clients-done : (e : Happening r w u) → GrowsBy h (told_by e) later → AreDone r u
    clients-done (Plainly (ByClient g) up) grows = done-goes r w u done g
    clients-done (Plainly (ToClient g) up) grows = done-hears r w u done g
    clients-done (Plainly (ToTarget g) up) grows = still-done (concludes (Plainly (ToTarget g) up) tt grows)
    clients-done (Plainly (ByTarget g) up) grows = still-done (concludes (Plainly (ByTarget g) up) tt grows)
    clients-done (Further g) grows = still-done (concludes (Further g) tt grows)
    clients-done (IsCut g) grows = still-done (concludes (IsCut g) tt grows)
    clients-done (Opens g) grows = still-done (concludes (Opens g) tt grows)
    clients-done (Fails g) grows = still-done (concludes (Fails g) tt grows)
    clients-done (GivenUp g) grows = still-done (concludes (GivenUp g) tt grows)
    clients-done (Draws g) grows = still-done (concludes (Draws g) tt grows)

    was-held : (x : AttemptId) → Concludes r h later w u → IsHeld u (leader_of r x) x → IsHeld w (leader_of r x) x
    was-held x c held = elim (c.stored x held) [ inl before ↦ before | inr taken ↦ absurd (none-taken x taken) ]

    same-held : (x : AttemptId) → u.targets ≡ w.targets → IsHeld u (leader_of r x) x → IsHeld w (leader_of r x) x
    same-held x same held = record { entry = held.entry; found = ap (λ ts. entry_in (slice_get ts (leader_of r x)) x) (sym same) ∙ held.found }

    held-back : (e : Happening r w u) → GrowsBy h (told_by e) later → (x : AttemptId) → IsHeld u (leader_of r x) x → IsHeld w (leader_of r x) x
    held-back (Plainly (ByClient g) up) grows x = same-held x (ap (λ y. y.targets) g.after)
    held-back (Plainly (ToClient g) up) grows x = same-held x (ap (λ y. y.targets) g.after)
    held-back (Plainly (ToTarget g) up) grows x = was-held x (concludes (Plainly (ToTarget g) up) tt grows)
    held-back (Plainly (ByTarget g) up) grows x = was-held x (concludes (Plainly (ByTarget g) up) tt grows)
    held-back (Further g) grows x = was-held x (concludes (Further g) tt grows)
    held-back (IsCut g) grows x = was-held x (concludes (IsCut g) tt grows)
    held-back (Opens g) grows x = was-held x (concludes (Opens g) tt grows)
    held-back (Fails g) grows x = was-held x (concludes (Fails g) tt grows)
    held-back (GivenUp g) grows x = was-held x (concludes (GivenUp g) tt grows)
    held-back (Draws g) grows x = was-held x (concludes (Draws g) tt grows)

-- ---- what is known

-- a member of an attempt was given up, or the attempt is decided
abbrev pub IsKnown : Rules → History → World → AttemptId → Type 0
IsKnown r h w x = LacksMember r w x ⊎ ((e : Epoch) × Decided h x e)

-- All that is accounted for; clients are done; and it is known of what a leader keeps an entry of, and so of what a member was told isn't decided, or
-- is told so by a letter in flight.
pub record Settles (r : Rules) (o : Opening) (stored : Stored) (h : History) (w : World) : Type 0 where
  pub accounted : AccountedFor r o h stored w
  pub done : AreDone r w
  pub fate : (x : AttemptId) → IsHeld w (leader_of r x) x → IsKnown r h w x
  pub rows : (m : ℕ) (s : TargetState) (q : Inquiry) → slice_get w.targets m ≡ Some s → Has q s.memory.member.inquiries → q.state ≡ state.Undecided → IsKnown r h w q.attempt
  pub letters : (m : ℕ) (x : AttemptId) → Flies w (IsUndecidedTold m x) → IsKnown r h w x

-- ---- each event keeps it

module _ (r : Rules) (o : Opening) (stored : Stored) (h : History) (w v : World) (A : AreRulesInForm r) (k : Settles r o stored h w) (e : WorldEvent r w v) where
  all : Grounds r o h w
  all = k.accounted.grounds

  abbrev later : History
  later = later-with h (told_by e.happens)

  grows : GrowsBy h (told_by e.happens) later
  grows = grows-with h (told_by e.happens)

  accounted-then : AccountedFor r o later (stored_in r e.happens ++ stored) v
  accounted-then = all-events-keep_accounts r o h later stored w v A k.accounted e grows

  attempts-then : Attempts r later e.u
  attempts-then = attempts-happened r o h later w v A.some_attempt all e grows

  none-taken : (x : AttemptId) → IsTaken w e.u x → ⊥
  none-taken x t =
      let q = (hands-over r w all.heard.talk all.heard.requests).waits t.l x (has-taken w.messages t.l t.rest t.takes) t.hands_it in
      let none : q.c.present ≡ None = (k.done x.client q.c q.here).1 in
      let some = q.waits.present in
      (let no : ⊥ = cc (none, some) in no)

  place : TakesPlace r h later w e.u
  place = record {
    attempts = all.heard.attempts;
    attempts_then = attempts-then;
    outcomes = all.outcomes;
    asks = asks-right r w all.heard.talk all.heard.requests all.heard.stand;
    of_clients = commits-of_clients e.u (requests-happen r w e.u all.heard.requests e.happens);
    makers = makers-write r w all.heard.makings all.makers;
  }

  known-on : (x : AttemptId) → IsKnown r h w x → IsKnown r later v x
  known-on x (inr d) = inr (d.0, grows.decided x d.0 d.1)
  known-on x (inl lacks) =
      let more = lines-grow r w v (Goes w v Begins e) in
      inl (record { member = lacks.member; its = lacks.its; down = subst (Has (line.Down lacks.member)) (sym more.1) (has-left w.lines more.0 (line.Down lacks.member) lacks.down) })

  fate-then : (x : AttemptId) → IsHeld v (leader_of r x) x → IsKnown r later v x
  fate-then x h2 = known-on x (k.fate x (held-back r h later w e.u place k.done none-taken e.happens grows x (record { entry = h2.entry; found = ap (λ y. entry_in (slice_get y.targets (leader_of r x)) x) (sym e.after) ∙ h2.found })))

  comes : InquiriesCome (IsSettling e.happens) r w e.u
  comes = inquiries-come r w e.u h later all.heard.attempts attempts-then e.happens

  -- what is known once it happened, of what was before
  row-known : (m : ℕ) (q : Inquiry) → q.state ≡ state.Undecided → InquiryComes (IsSettling e.happens) w m q → IsKnown r h w q.attempt
  row-known m q undecided (Stays z here i) = k.rows m z q here i undecided
  row-known m q undecided (IsAsked now is) = let bad : state.Unanswered ≡ state.Undecided = sym is ∙ undecided in let no : ⊥ = cc in absurd no
  row-known m q undecided (IsAnswered z old here i told) = k.letters m q.attempt (told undecided)

  letter-known : (m : ℕ) (x : AttemptId) (l : Letter) → IsUndecidedTold m x l → LetterComes (IsSettling e.happens) r w m x l → IsKnown r h w x
  letter-known m x l told (WasFlying i) = k.letters m x (l, i, told)
  letter-known m x l told (AnswersOne f keeps) = k.fate x (keeps told)
  letter-known m x l told (AsksNow now untold) = absurd (untold told)

  flying-known : (m : ℕ) (x : AttemptId) → Flies e.u (IsUndecidedTold m x) → IsKnown r h w x
  flying-known m x f = letter-known m x f.0 f.2 (comes.letters m x f.0 f.1 (IsVerdict f.2.inc _ f.2.says f.2.to))

  row-then : (m : ℕ) (q : Inquiry) → q.state ≡ state.Undecided → InquiryComes ⊥ e.u m q → IsKnown r h w q.attempt
  row-then m q undecided (Stays z here i) = row-known m q undecided (comes.rows m z q here i)
  row-then m q undecided (IsAsked now is) = absurd now
  row-then m q undecided (IsAnswered z old here i told) = flying-known m q.attempt (told undecided)

  letter-then : (m : ℕ) (x : AttemptId) (l : Letter) → IsUndecidedTold m x l → LetterComes ⊥ r e.u m x l → IsKnown r h w x
  letter-then m x l told (WasFlying i) = flying-known m x (l, i, told)
  letter-then m x l told (AnswersOne f keeps) = k.fate x (held-back r h later w e.u place k.done none-taken e.happens grows x (keeps told))
  letter-then m x l told (AsksNow now untold) = absurd now

  swept-comes : InquiriesCome ⊥ r e.u v
  swept-comes = subst (InquiriesCome ⊥ r e.u) (sym e.after) (swept-come r later e.u attempts-then)

  settles-on : Settles r o (stored_in r e.happens ++ stored) later v
  settles-on = record {
    accounted = accounted-then;
    done = λ n z at. clients-done r h later w e.u place k.done none-taken e.happens grows n z (ap (λ y. slice_get y.clients n) (sym e.after) ∙ at);
    fate = fate-then;
    rows = λ m s q here i undecided. known-on q.attempt (row-then m q undecided (swept-comes.rows m s q here i));
    letters = λ m x f. known-on x (letter-then m x f.0 f.2 (swept-comes.letters m x f.0 f.1 (IsVerdict f.2.inc _ f.2.says f.2.to)));
  }

-- ---- so it is at the end

pub record SettlesStill (r : Rules) (o : Opening) (v : World) : Type 0 where
  pub stored : Stored
  pub h : History
  pub so : Settles r o stored h v

pub runs-settle : (r : Rules) (o : Opening) (stored : Stored) (h : History) (u v : World) → AreRulesInForm r → Settles r o stored h u → WorldRun r u v → SettlesStill r o v
runs-settle r o stored h u v A k Begins = record { stored = stored; h = h; so = k }
runs-settle r o stored h u v A k (Goes x y run e) =
    let z = runs-settle r o stored h u x A k run in
    record { stored = stored_in r e.happens ++ z.stored; h = _; so = settles-on r o z.stored z.h x v A z.so e }
