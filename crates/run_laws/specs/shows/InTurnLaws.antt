-- What the lines tell of each client's commands begins in turn, whatever turns follow one another.
use Rattle.target_core.specs.target_snaps.Following.{TellsNoAttempt}
use Rattle.std.specs.Prelude.{ℕ, ◌≡◌, ◌<◌, ◌++◌, Bool, List, [], ◌∷◌, filter, length, map, slice_get, slice_set, Option, Some, None, Result, Err, IfOk, refl}
use Rattle.std.proofs.Common.{append-nil, inl, inr, sym, ◌∙◌, ap, subst}
use Rattle.std.proofs.lemmas.Bool.{cases_eq}
use Rattle.base_types.specs.declared.epoch.Epoch.{Epoch}
use Rattle.base_types.specs.declared.id.AttemptId.{AttemptId}
use Rattle.base_types.specs.declared.report.Line.{Line}
use Rattle.base_types.specs.declared.report.Line.TheVariants as line
use Rattle.client_core.specs.Clients.{ClientNow}
use Rattle.daos_model.specs.declared.durable.Durable.{Durable}
use Rattle.daos_model.specs.Attempts.{is_of_client, tried, tries, tries_of}
use Rattle.daos_model.specs.Laws.{tries-append}
use Rattle.daos_model.specs.Order.{client_commands}
use Rattle.model_laws.specs.Members.{has-right}
use Rattle.run_base.specs.Letters.{BetweenNow}
use Rattle.run_laws.specs.shows.InTurn.{AllBeginInTurn, BeginsInTurn, HasItsLines, TellInTurn}
use Rattle.run_laws.specs.shows.ListLaws.{length-set}
use Rattle.run_laws.specs.shows.Stages.{StageNow}
use Rattle.run_laws.specs.shows.Steps.{ClientTurned, ClientWorks, Cut, HeardOne, NotOpened, Opened, OpeningEnds, Reopened, TargetTurned, WentOn, Whole, WorkEnds, Worked}
use Rattle.run_laws.specs.shows.Turned.{AfterFailure, AfterStop, ByForeign, ByHearing, ByIdling, ByStop, Failed, IsTurned, LastTime, NotFailed, followed, swept_stage, with_between, with_client_at}
use Rattle.run_watch.specs.Watches.{opening_tried}
use Rattle.target_core.specs.Targets.{TargetOf}
use Rattle.run_opening.specs.target_parts.declared.stop.TargetStop.{TargetStop}
use Rattle.target_core.specs.target_resync.Openings.{TellsRestart}
use Rattle.vos_store.specs.Calls.{State}
use Rattle.world_base.specs.declared.did.Did.{Did}
use Rattle.world_base.specs.ClientTurns.{HearTurn, NextTurn}
use Rattle.world_base.specs.Events.{Rules, client_plan, with_epoch}
use Rattle.world_base.specs.Letters.{client}
use Rattle.world_base.specs.StepLaws.{set-here, set-is, set-there}
use Rattle.world_base.specs.Stops.{stops_so_far}
use Rattle.world_letters.specs.clients.MoveLaws.{clients-begin, hear-turn-keeps, next-turn-keeps}
use Rattle.world_letters.specs.clients.Standing.{HasTold, number_of}
use Rattle.world_letters.specs.lines.FilledLaws.{AreOf, others-same, own-more, same-append, same-filled, stands-of, tries-filled}
use Rattle.world_letters.specs.lines.Lines.{AreTheSame, filled}
use Rattle.world_closing.specs.Below.{nobody-begins, told-begins}

-- ---- what clients have told begins in turn

-- the attempts of every client begin those of its commands in turn
pub all-begin : {S C : Type 0} (r : Rules) (a : StageNow S C) → TellInTurn r a → AllBeginInTurn r.attempts r.script a.between.lines
all-begin r a k n = by (slice_get a.clients n) refl
  where
    by : (o : Option ClientNow) → slice_get a.clients n ≡ o → BeginsInTurn r.attempts n (client_commands r.script n) (tries_of n a.between.lines)
    by None e = nobody-begins r.attempts n (client_commands r.script n) (tries_of n a.between.lines) k.some_attempt (k.nobody n e)
    by (Some c) e = told-begins r n c.state a.between.lines k.some_attempt (k.told n c e)

-- ---- before any turn

-- nothing was told yet
pub tells-first : {S C : Type 0} (r : Rules) (a : StageNow S C) → 0 < r.attempts → length a.clients ≡ length r.script.clients → ((n : ℕ) (c : ClientNow) → slice_get a.clients n ≡ Some c → c.plan ≡ client_plan r n)
    → ((n : ℕ) (c : ClientNow) → slice_get a.clients n ≡ Some c → (c.state.place ≡ 0) × (c.state.command ≡ 0) × (c.state.present ≡ None)) → a.between.lines ≡ [] → TellInTurn r a
unfolding tries
tells-first r a some many plans first none = record {
  some_attempt = some;
  many = many;
  plans = plans;
  told = λ n c at. let s = first n c at in record { attempts = []; told = clients-begin (client_plan r n) c.state s.0 s.1 s.2; same = subst (AreTheSame []) (sym (no-tries n)) tt };
  nobody = λ n no. no-tries n;
}
  where
    no-tries : (n : ℕ) → tries_of n a.between.lines ≡ []
    no-tries n = ap (tries_of n) none

-- ---- a turn in which no attempt is told of

-- the clients stay, and the lines tell of no further attempt
pub quietly : {S C : Type 0} (r : Rules) (a b : StageNow S C) → b.clients ≡ a.clients → tries b.between.lines ≡ tries a.between.lines → TellInTurn r a → TellInTurn r b
quietly r a b clients lines k = record {
  some_attempt = k.some_attempt;
  many = ap length clients ∙ k.many;
  plans = λ n c at. k.plans n c (before n ∙ at);
  told = λ n c at. let t = k.told n c (before n ∙ at) in record { attempts = t.attempts; told = t.told; same = subst (λ as'. AreTheSame t.attempts (filter (is_of_client n) as')) (sym lines) t.same };
  nobody = λ n none. ap (filter (is_of_client n)) lines ∙ k.nobody n (before n ∙ none);
}
  where
    before : (n : ℕ) → slice_get a.clients n ≡ slice_get b.clients n
    before n = ap (λ cs. slice_get cs n) (sym clients)

-- a line that tells of none
pub one-line : (ls : List Line) (l : Line) → tried l ≡ [] → tries (ls ++ l ∷ []) ≡ tries ls
unfolding tries
one-line ls l none = tries-append ls (l ∷ []) ∙ ap (λ ts. tries ls ++ (ts ++ [])) none ∙ append-nil (tries ls)

-- lines that tell of none were added
pub none-tried : (issued : List (AttemptId × Epoch)) (ls more : List Line) → tries more ≡ [] → tries (ls ++ map (with_epoch issued) more) ≡ tries ls
none-tried issued ls more none =
    tries-append ls (map (with_epoch issued) more) ∙ ap (λ ts. tries ls ++ ts) (tries-filled issued more ∙ ap (map (filled issued)) none) ∙ append-nil (tries ls)

-- so where such a line follows them
pub line-alone : (ls more : List Line) (l : Line) → tries more ≡ [] → tried l ≡ [] → tries (ls ++ more ++ l ∷ []) ≡ tries ls
line-alone ls more l nothing none = one-line (ls ++ more) l none ∙ tries-append ls more ∙ ap (λ ts. tries ls ++ ts) nothing ∙ append-nil (tries ls)

-- ---- a client's turn

module _ {S C : Type 0} (r : Rules) (n : ℕ) (c d : ClientNow) (did : Did) (left : BetweenNow) (a : StageNow S C) (here : slice_get a.clients n ≡ Some c) (plan : d.plan ≡ c.plan) (lines : left.lines ≡ a.between.lines) (k : TellInTurn r a)
    (told : HasTold (client_plan r n) d.state ((k.told n c here).attempts ++ tries did.lines)) where
  abbrev lines_now : List Line
  lines_now = left.lines ++ map (with_epoch left.issued) did.lines

  -- its lines tell of its own attempts
  own : AreOf n (tries did.lines)
  own x i = stands-of (client_plan r n) d.state.place d.state.command (number_of d.state.present) ((k.told n c here).attempts ++ tries did.lines) told x (has-right (k.told n c here).attempts (tries did.lines) x i)

  its : HasItsLines (client_plan r n) n d.state lines_now
  its =
      let t = k.told n c here in
      record {
        attempts = t.attempts ++ tries did.lines;
        told = told;
        same = subst (AreTheSame (t.attempts ++ tries did.lines)) (sym (own-more left.issued n left.lines did.lines own))
            (same-append t.attempts (tries_of n left.lines) (tries did.lines) (map (filled left.issued) (tries did.lines)) (subst (λ ls. AreTheSame t.attempts (tries_of n ls)) (sym lines) t.same) (same-filled left.issued (tries did.lines)));
      }

  others : (m : ℕ) → (m ≡ n → ⊥) → tries_of m lines_now ≡ tries_of m a.between.lines
  others m apart = others-same left.issued n m left.lines did.lines (λ same. apart (sym same)) own ∙ ap (tries_of m) lines

  client-told : TellInTurn r (swept_stage (with_between (followed (client n) did left) (with_client_at n d a)))
  client-told = record {
    some_attempt = k.some_attempt;
    many = length-set a.clients n d ∙ k.many;
    plans = λ m x at. elim (cases_eq m n) [
      | inl same ↦ subst (λ q. x.plan ≡ client_plan r q) (sym same) (ap (λ z. z.plan) (sym (it-is m x same at)) ∙ plan ∙ k.plans n c here)
      | inr apart ↦ k.plans m x (sym (set-there a.clients n m d apart) ∙ at)
    ];
    told = λ m x at. elim (cases_eq m n) [
      | inl same ↦ subst (λ q. HasItsLines (client_plan r q) q x.state lines_now) (sym same) (subst (λ z. HasItsLines (client_plan r n) n z.state lines_now) (it-is m x same at) its)
      | inr apart ↦ (let t = k.told m x (sym (set-there a.clients n m d apart) ∙ at) in record { attempts = t.attempts; told = t.told; same = subst (AreTheSame t.attempts) (sym (others m apart)) t.same })
    ];
    nobody = λ m none. elim (cases_eq m n) [
      | inl same ↦ absurd (there m same none)
      | inr apart ↦ others m apart ∙ k.nobody m (sym (set-there a.clients n m d apart) ∙ none)
    ];
  }
    where
      it-is : (m : ℕ) (x : ClientNow) → m ≡ n → slice_get (slice_set a.clients n d) m ≡ Some x → d ≡ x
      it-is m x same at = set-is a.clients n d x (subst (λ q. slice_get (slice_set a.clients n d) q ≡ Some x) same at)

      there : (m : ℕ) → m ≡ n → slice_get (slice_set a.clients n d) m ≡ None → ⊥
      there m same none =
          let at : slice_get (slice_set a.clients n d) n ≡ Some d = set-here a.clients n c d here in
          let gone : slice_get (slice_set a.clients n d) n ≡ None = subst (λ q. slice_get (slice_set a.clients n d) q ≡ None) same none in
          cc (at, gone)

-- a client's turn goes on in turn
pub client-tells : {S C : Type 0} (r : Rules) (n number : ℕ) (a b : StageNow S C) → ClientTurned n number a b → TellInTurn r a → TellInTurn r b
client-tells r n number a b k t = subst (TellInTurn r) (sym k.after) (client-told r n k.before k.now k.did k.left a k.here k.plan (left k.works) t (told k.works))
  where
    its : k.before.plan ≡ client_plan r n
    its = t.plans n k.before k.here

    left : ClientWorks n number k.before k.now a.between k.left k.did → k.left.lines ≡ a.between.lines
    left (HeardOne l rest awake picked is turn) = ap (λ q. q.lines) is
    left (WentOn none is turn) = ap (λ q. q.lines) is

    told : ClientWorks n number k.before k.now a.between k.left k.did → HasTold (client_plan r n) k.now.state ((t.told n k.before k.here).attempts ++ tries k.did.lines)
    told (HeardOne l rest awake picked is turn) =
        hear-turn-keeps (client_plan r n) k.before.state k.now.state (t.told n k.before k.here).attempts l.message k.did t.some_attempt (t.told n k.before k.here).told (subst (λ p. HearTurn p k.before.state l.message k.did k.now.state) its turn)
    told (WentOn none is turn) =
        next-turn-keeps (client_plan r n) k.before.state k.now.state (t.told n k.before k.here).attempts k.did t.some_attempt (t.told n k.before k.here).told (subst (λ p. NextTurn p k.before.state k.did k.now.state) its turn)

-- ---- a target's turn

-- what comes of a store's stop
after-stop-tells : {S C : Type 0} (r : Rules) (t before now : ℕ) (a b : StageNow S C) → AfterStop t before now a b → TellInTurn r a → TellInTurn r b
after-stop-tells r t before now a b (NotFailed less same) k = subst (TellInTurn r) (sym same) k
after-stop-tells r t before now a b (Failed more n at few same) k = quietly r a b (ap (λ z. z.clients) same) (ap (λ z. tries z.between.lines) same) k
after-stop-tells r t before now a b (LastTime more at same) k = quietly r a b (ap (λ z. z.clients) same) (ap (λ z. tries z.between.lines) same ∙ one-line a.between.lines (line.Down t) refl) k

module _ {S C : Type 0} (durable : S → Option Durable) (state : S → State) (may : S → Durable → Type 0) (r : Rules) (a b : StageNow S C) (t : ℕ) where
  -- what a target heard, or its idle work, leaves of the lines
  pub turned-lines : (settling : Bool) (number : ℕ) (x y : TargetOf S C) (left : BetweenNow) (result : Result Did TargetStop) → IsTurned durable state may settling t number x y a.between left result → left.lines ≡ a.between.lines
  turned-lines settling number x y left result (ByHearing l rest reading picked is few turn) = ap (λ q. q.lines) is
  turned-lines settling number x y left result (ByIdling none is turn) = ap (λ q. q.lines) is

  work-tells : (x y : TargetOf S C) (left : BetweenNow) (result : Result Did TargetStop) → left.lines ≡ a.between.lines → TellsNoAttempt result → WorkEnds durable state may t x y left a b result → TellInTurn r a → TellInTurn r b
  work-tells x y left result lines told (Whole did is after) k =
      let none : tries did.lines ≡ [] = subst TellsNoAttempt is told in
      quietly r a b (ap (λ z. z.clients) after) (ap (λ z. tries z.between.lines) after ∙ none-tried left.issued left.lines did.lines none ∙ ap tries lines) k
  work-tells x y left result lines told (Cut stop is after) k =
      let none : tries after.lines ≡ [] = subst TellsNoAttempt (is ∙ ap Err after.cut) told in
      after-stop-tells r t _ _ _ b after.after
      (quietly r a _ refl (line-alone left.lines after.lines (line.Stop (stops_so_far left.lines) t) none refl ∙ ap tries lines) k)

  opening-tells : (x y : TargetOf S C) (ys : List (TargetOf S C)) (result : Result Did TargetStop) → IfOk result (TellsRestart a.watch.restarts x.plan.me) → OpeningEnds durable state may t x y (record a { targets = ys; watch = opening_tried a.watch }) b result → TellInTurn r a → TellInTurn r b
  opening-tells x y ys result line_is (Opened did is after) k =
      let tells = subst (λ q. IfOk q (TellsRestart a.watch.restarts x.plan.me)) is line_is in
      quietly r a b (ap (λ z. z.clients) after.after)
      (ap (λ z. tries z.between.lines) after.after ∙ ap (λ ls. tries (a.between.lines ++ map (with_epoch a.between.issued) ls)) tells.2 ∙ one-line a.between.lines (line.Restart a.watch.restarts x.plan.me tells.0 tells.1) refl) k
  opening-tells x y ys result line_is (NotOpened stop is after) k = by after
    where
      same : TellInTurn r (record a { targets = ys; watch = opening_tried a.watch })
      same = quietly r a (record a { targets = ys; watch = opening_tried a.watch }) refl refl k

      by : AfterFailure t (state x.store).faults (state y.store).faults stop (record a { targets = ys; watch = opening_tried a.watch }) b → TellInTurn r b
      by (ByStop issued lines why stopped) = after-stop-tells r t _ _ (record a { targets = ys; watch = opening_tried a.watch }) b stopped same
      by (ByForeign at byte why given_up) =
          quietly r (record a { targets = ys; watch = opening_tried a.watch }) b (ap (λ z. z.clients) given_up) (ap (λ z. tries z.between.lines) given_up ∙ one-line a.between.lines (line.Down t) refl) same

  -- a target's turn tells of no attempt
  pub target-tells : (is_read : C → C → Type 0) (next_reading : C → Option ℕ) (settling : Bool) (number : ℕ) → TargetTurned durable state may is_read next_reading settling t number a b → TellInTurn r a → TellInTurn r b
  target-tells is_read next_reading settling number (Worked k) = work-tells k.work.before k.work.now k.work.left k.work.result (turned-lines settling number k.work.before k.work.now k.work.left k.work.result k.work.came.turned) k.work.told k.ends
  target-tells is_read next_reading settling number (Reopened k) = opening-tells k.was.before k.was.now (slice_set a.targets t k.was.now) k.was.result k.was.line k.ends
