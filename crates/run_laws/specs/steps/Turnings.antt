-- A client's turn, and a target's turn, whole or cut, with all that they leave.
use Rattle.std.specs.Prelude.{ℕ, ◌≡◌, ◌<◌, ◌+◌, ◌==◌, Bool, true, false, List, [], length, slice_get, slice_set, Option, Some, None, Ok, Err, refl, if◌then◌else◌}
use Rattle.std.proofs.Common.{inl, inr, sym, ◌∙◌, ap, subst, arith}
use Rattle.std.proofs.lemmas.Bool.Decides.{nat_tests}
use Rattle.base_outside.specs.Causes.{Rose}
use Rattle.base_types.specs.declared.epoch.Epoch.{Epoch}
use Rattle.base_types.specs.declared.id.AttemptId.{AttemptId}
use Rattle.base_types.specs.declared.report.Line.{Line}
use Rattle.client_core.specs.Clients.{ClientNow}
use Rattle.daos_model.specs.declared.durable.Durable.{Durable}
use Rattle.model_laws.specs.Members.{Has, has-cases, has-left, has-right}
use Rattle.model_laws.specs.TargetLaws.{same_number}
use Rattle.run_base.specs.Letters.{BetweenNow, IsPicked}
use Rattle.run_base.specs.Picks.{count_to, heard_awake}
use Rattle.run_laws.specs.shows.Accounting.{fuse-less, none-rise, one-fault}
use Rattle.run_laws.specs.shows.Accounts.{AreServed, IsServed, stop_lines_of}
use Rattle.run_laws.specs.shows.CanGo.{CanGo}
use Rattle.run_laws.specs.shows.Clients.{client-goes, client-hears}
use Rattle.run_laws.specs.shows.Fitting.{Fits, few-numbers, fit-after_stop, fit-swept, fit-target, fits-of}
use Rattle.run_laws.specs.shows.Givings.{downs_after, fault-leads}
use Rattle.run_laws.specs.shows.Going.{AreAlike, AreFindable}
use Rattle.run_laws.specs.shows.Ends.{TellsOn}
use Rattle.run_laws.specs.shows.Leading.{turn-leads}
use Rattle.run_laws.specs.shows.Lettered.{AllInForm, InForm, asked-lost, followed-form, lost-form}
use Rattle.run_laws.specs.shows.ListLaws.{get-set, length-set}
use Rattle.run_laws.specs.shows.Parts.{IsTurnSo, is-set, set-same}
use Rattle.run_laws.specs.shows.Serving.{each-pair, served-first, served-one}
use Rattle.run_laws.specs.shows.Shows.{Leads}
use Rattle.run_laws.specs.shows.Stages.{IsPlace, StageNow}
use Rattle.run_laws.specs.shows.Stopping.{cut-leads}
use Rattle.run_laws.specs.shows.Turned.{AfterStop, ByHearing, ByIdling, Failed, HasTurned, IsTurned, LastTime, NotFailed, cut_between, followed, read_then, stopped_stage, swept_stage, with_between, with_client_at, with_target_at}
use Rattle.run_laws.specs.steps.Going.{GoesOn}
use Rattle.run_laws.specs.steps.Turning.{AtMostOne, Counts, counts-none, one-struck, turn-done}
use Rattle.run_laws.specs.steps.Ways.{turn_of}
use Rattle.run_laws.specs.turns.Faults.{once_for}
use Rattle.run_laws.specs.turns.Readings.{GivesOn, gives-none, others-read, reading_of}
use Rattle.run_watch.specs.Watches.{WatchNow, after_fault, with_life}
use Rattle.target_core.specs.Targets.{TargetOf}
use Rattle.run_opening.specs.target_parts.Parts.{Runs}
use Rattle.run_opening.specs.target_parts.Readings.{IsReadOn}
use Rattle.run_opening.specs.target_parts.Stops.{stop_store, stop_wanting}
use Rattle.run_opening.specs.target_parts.declared.stop.TargetStop.TheVariants as stop
use Rattle.vos_store.specs.Calls.{Ailed, Fires, State}
use Rattle.vos_store.specs.Refusals.{says}
use Rattle.world_base.specs.declared.did.Did.{Did}
use Rattle.world_base.specs.declared.letter.Letter.{Letter}
use Rattle.world_base.specs.declared.target.Life.TheVariants.{Running, Stopped}
use Rattle.world_base.specs.ClientTurns.{HearTurn, NextTurn}
use Rattle.world_base.specs.Events.{Rules, client_plan, target_plan}
use Rattle.world_base.specs.Letters.{client, target}
use Rattle.world_base.specs.StepLaws.{set-is, set-there}
use Rattle.world_letters.specs.lives.Adding.{stops_of}
use Rattle.run_opening.specs.world_contents.posts.FormLaws.{clients-send-letters, targets-send-letters}
use Rattle.run_opening.specs.world_contents.posts.Forms as posted
use Rattle.run_opening.specs.world_contents.posts.Forms.{ClientPosts, TargetPosts, TurnsPostInForm}
use Rattle.run_opening.specs.world_contents.posts.KnownSnapshots.{ReadsKnown, clients-keep-reads_known, hearers-keep-reads_known}
use Rattle.run_opening.specs.world_contents.posts.ClientPosts.{clients-post-in-form, hearers-post-in-form}

-- what is left of letters beside one that was taken was among them
rest-among : (letters rest : List Letter) (a : _) (number : ℕ) (l : Letter) → IsPicked letters a number l rest → (m : Letter) → Has m rest → Has m letters
rest-among letters rest a number l k m i = subst (Has m) (sym k.among) (elim (has-cases k.before k.after m (subst (Has m) k.left i)) [ inl j ↦ has-left k.before _ m j | inr j ↦ has-right k.before _ m (inr j) ])

-- ---- a client

module _ {S C : Type 0} (durable : S → Option Durable) (state : S → State) (may : S → Durable → Type 0) (is_read : C → C → Type 0) (next_reading : C → Option ℕ) (findable : AreFindable durable may) (alike : AreAlike durable) (a : StageNow S C) (can : CanGo durable state may a) where
  module _ (n : ℕ) (c d : ClientNow) (did : Did) (left : BetweenNow) (at : slice_get a.clients n ≡ Some c) (plan : d.plan ≡ c.plan) (asked : left.asked ≡ a.between.asked) (issued : left.issued ≡ a.between.issued) (lines : left.lines ≡ a.between.lines) where
    abbrev pub client-left : StageNow S C
    client-left = swept_stage (with_between (followed (client n) did left) (with_client_at n d a))

    client-fits : InForm (target_plan can.rules) left.messages → ClientPosts (target_plan can.rules) did.posts → ReadsKnown d.plan d.state → Fits state can.rules client-left
    client-fits letters posts known =
        let f = fits-of durable state may a can in
        fit-swept state can.rules can.form (with_between (followed (client n) did left) (with_client_at n d a))
        (record {
          plans = λ m x here. get-set (λ j y. y.plan ≡ client_plan can.rules j) a.clients n d (plan ∙ can.plans n c at) can.plans m x here;
          known = λ m x here. get-set (λ j y. ReadsKnown y.plan y.state) a.clients n d known can.known m x here;
          made = f.made;
          many = f.many;
          standing = f.standing;
          openings = f.openings;
          work = λ t x p. f.work t x (record { there = p.there; stands = p.stands });
          between = followed-form (target_plan can.rules) (client n) did left (record { messages = letters; asked = λ l i. f.between.asked l (subst (Has l) asked i) }) (λ q i. clients-send-letters (target_plan can.rules) n q (posts q i));
        })

    client-done : (settling : Bool) (number : ℕ) → ((r : Rules) → Leads durable state may (IsTurnSo settling r (client n) number 0 None None None None) r a client-left) → InForm (target_plan can.rules) left.messages → ClientPosts (target_plan can.rules) did.posts → ReadsKnown d.plan d.state → ((r : Rules) → TellsOn r a client-left)
        → GoesOn durable state may is_read next_reading (turn_of settling (client n) number) a client-left
    client-done settling number leads letters posts known tells =
        turn-done durable state may is_read next_reading a client-left settling (client n) number 0 None None None None can (λ tell. leads) findable alike (served-first durable state is_read a.targets)
        (λ t x y here there. gives-none is_read next_reading None t x.clock y.clock refl (let same : x ≡ y = let e : Some x ≡ Some y = sym here ∙ there in cc in ap (λ z. z.clock) (sym same))) (client-fits letters posts known) (omega arith) (length-set a.clients n d) tells
        (λ t x y here there told.
        let same : x ≡ y = let e : Some x ≡ Some y = sym here ∙ there in cc in
        subst (Counts state a client-left None None None t x) same (counts-none state a client-left None None None t x refl (λ e. let no : ⊥ = cc in no) refl (omega arith) (λ m h. h)))

    -- it heard a message
    pub client-heard-done : (settling : Bool) (number : ℕ) (l : Letter) (rest : List Letter) → c.state.skip ≡ 0 → IsPicked a.between.messages (client n) number l rest → left.messages ≡ rest → HearTurn c.plan c.state l.message did d.state → ((r : Rules) → TellsOn r a client-left) → GoesOn durable state may is_read next_reading (turn_of settling (client n) number) a client-left
    client-heard-done settling number l rest awake picked messages turn tells =
        client-done settling number (λ r. client-hears durable state may r n c d a did left at plan asked issued lines settling number l rest awake picked messages turn)
        (λ m i. (fits-of durable state may a can).between.messages m (rest-among a.between.messages rest (client n) number l picked m (subst (Has m) messages i)))
        (hearers-post-in-form can.rules n c.state d.state l.message did can.form.form (subst (λ p. ReadsKnown p c.state) (can.plans n c at) (can.known n c at)) (subst (λ p. HearTurn p c.state l.message did d.state) (can.plans n c at) turn))
        (subst (λ p. ReadsKnown p d.state) (sym plan) (hearers-keep-reads_known c.plan c.state d.state l.message did turn (can.known n c at))) tells

    -- it went on without one
    pub client-went-done : (settling : Bool) (number : ℕ) → heard_awake c.state (count_to (client n) a.between.messages) ≡ 0 → left.messages ≡ a.between.messages → NextTurn c.plan c.state did d.state → ((r : Rules) → TellsOn r a client-left) → GoesOn durable state may is_read next_reading (turn_of settling (client n) number) a client-left
    client-went-done settling number none messages turn tells =
        client-done settling number (λ r. client-goes durable state may r n c d a did left at plan asked issued lines settling number none messages turn) (λ m i. (fits-of durable state may a can).between.messages m (subst (Has m) messages i))
        (clients-post-in-form can.rules n c.state d.state did can.form.form (subst (λ p. ReadsKnown p c.state) (can.plans n c at) (can.known n c at)) (subst (λ p. NextTurn p c.state did d.state) (can.plans n c at) turn))
        (subst (λ p. ReadsKnown p d.state) (sym plan) (clients-keep-reads_known c.plan c.state d.state did turn (can.known n c at))) tells

-- ---- after a store stopped

-- what a fault that is counted leaves
counted : (P : WatchNow → Type 0) (t n : ℕ) (w : WatchNow) → P w → P (record w { faults = slice_set w.faults t (n + 1) }) → P (after_fault t n w)
counted P t n w same more = by (n == 8)
  where
    by : (b : Bool) → P (if b then w else record w { faults = slice_set w.faults t (n + 1) })
    by true = same
    by false = more

module _ {S C : Type 0} (t before now : ℕ) (a b : StageNow S C) where
  pub after-targets : AfterStop t before now a b → b.targets ≡ a.targets
  after-targets (NotFailed less same) = ap (λ z. z.targets) same
  after-targets (Failed more n at few same) = ap (λ z. z.targets) same
  after-targets (LastTime more at same) = ap (λ z. z.targets) same

  pub after-clients : AfterStop t before now a b → b.clients ≡ a.clients
  after-clients (NotFailed less same) = ap (λ z. z.clients) same
  after-clients (Failed more n at few same) = ap (λ z. z.clients) same
  after-clients (LastTime more at same) = ap (λ z. z.clients) same

  pub after-openings : AfterStop t before now a b → b.watch.openings ≡ a.watch.openings
  after-openings (NotFailed less same) = ap (λ z. z.watch.openings) same
  after-openings (Failed more n at few same) = ap (λ z. z.watch.openings) same ∙ counted (λ w. w.openings ≡ a.watch.openings) t n a.watch refl refl
  after-openings (LastTime more at same) = ap (λ z. z.watch.openings) same

  pub after-stops : AfterStop t before now a b → b.watch.stops ≡ a.watch.stops
  after-stops (NotFailed less same) = ap (λ z. z.watch.stops) same
  after-stops (Failed more n at few same) = ap (λ z. z.watch.stops) same ∙ counted (λ w. w.stops ≡ a.watch.stops) t n a.watch refl refl
  after-stops (LastTime more at same) = ap (λ z. z.watch.stops) same

  rose : before < now → Rose before now
  rose more = omega (arith, more)

  -- only that target is given up, the ninth time
  pub after-down : (after : AfterStop t before now a b) → (u : ℕ) → downs_after t before now a b after ≡ Some u → u ≡ t
  after-down (NotFailed less same) u e = let no : ⊥ = cc in absurd no
  after-down (Failed more n at few same) u e = let no : ⊥ = cc in absurd no
  after-down (LastTime more at same) u e = cc

  pub after-down-so : (after : AfterStop t before now a b) → downs_after t before now a b after ≡ Some t → (slice_get a.watch.faults t ≡ Some 8) × Rose before now
  after-down-so (NotFailed less same) e = let no : ⊥ = cc in absurd no
  after-down-so (Failed more n at few same) e = let no : ⊥ = cc in absurd no
  after-down-so (LastTime more at same) e = (at, rose more)

  -- how often the outside failed another target stays
  pub after-others : AfterStop t before now a b → (u : ℕ) → (u ≡ t → ⊥) → (m : ℕ) → slice_get b.watch.faults u ≡ Some m → slice_get a.watch.faults u ≡ Some m
  after-others (NotFailed less same) u apart m h = ap (λ z. slice_get z.watch.faults u) (sym same) ∙ h
  after-others (Failed more n at few same) u apart m h =
      counted (λ w. slice_get w.faults u ≡ Some m → slice_get a.watch.faults u ≡ Some m) t n a.watch (λ i. i) (λ i. sym (set-there a.watch.faults t u (n + 1) apart) ∙ i) (ap (λ z. slice_get z.watch.faults u) (sym same) ∙ h)
  after-others (LastTime more at same) u apart m h = ap (λ z. slice_get z.watch.faults u) (sym same) ∙ h

  -- and that of this target rises with the outside's count
  pub after-failed : AfterStop t before now a b → (n : ℕ) → slice_get b.watch.faults t ≡ Some n → (m : ℕ) × (slice_get a.watch.faults t ≡ Some m) × AtMostOne n m before now
  after-failed (NotFailed less same) n h = (n, ap (λ z. slice_get z.watch.faults t) (sym same) ∙ h, inl (omega arith))
  after-failed (Failed more k at few same) n h =
      counted (λ w. slice_get w.faults t ≡ Some n → (m : ℕ) × (slice_get a.watch.faults t ≡ Some m) × AtMostOne n m before now) t k a.watch (λ i. (n, i, inl (omega arith)))
      (λ i. let is : k + 1 ≡ n = set-is a.watch.faults t (k + 1) n i in (k, at, inr (omega (arith, is), rose more))) (ap (λ z. slice_get z.watch.faults t) (sym same) ∙ h)
  after-failed (LastTime more at same) n h = (n, ap (λ z. slice_get z.watch.faults t) (sym same) ∙ h, inl (omega arith))

-- ---- a target's turn

module _ {S C : Type 0} (durable : S → Option Durable) (state : S → State) (may : S → Durable → Type 0) (is_read : C → C → Type 0) (next_reading : C → Option ℕ) (findable : AreFindable durable may) (alike : AreAlike durable) (a : StageNow S C) (can : CanGo durable state may a) (t : ℕ) (x y : TargetOf S C)
    (place : IsPlace a t x Running) (plan : y.plan ≡ x.plan) (served : IsServed (state x.store) (state y.store) (durable x.store) (durable y.store)) (read : IsReadOn is_read x.clock y.clock) where
  -- what is left in flight was so before, and nothing else changed
  pub record IsLeft (left : BetweenNow) : Type 0 where
    pub messages : (l : Letter) → Has l left.messages → Has l a.between.messages
    pub asked : left.asked ≡ a.between.asked

  left-form : (left : BetweenNow) → IsLeft left → AllInForm (target_plan can.rules) left
  left-form left k = let f = fits-of durable state may a can in record { messages = λ l i. f.between.messages l (k.messages l i); asked = λ l i. f.between.asked l (subst (Has l) k.asked i) }

  pub turned-left : (settling : Bool) (number : ℕ) (left : BetweenNow) (result : _) → IsTurned durable state may settling t number x y a.between left result → IsLeft left
  turned-left settling number left result (ByHearing l rest reading picked left_is few turn) = record { messages = λ m i. rest-among a.between.messages rest (target t) number l picked m (subst (Has m) (ap (λ b. b.messages) left_is) i); asked = ap (λ b. b.asked) left_is }
  turned-left settling number left result (ByIdling none left_is turn) = record { messages = λ m i. subst (Has m) (ap (λ b. b.messages) left_is) i; asked = ap (λ b. b.asked) left_is }

  -- no other target reads its clock in its turn
  others-quiet : (settling : Bool) (number : ℕ) (left : BetweenNow) (result : _) (k : IsTurned durable state may settling t number x y a.between left result) (u : ℕ) → (u ≡ t → ⊥) → reading_of (read_then durable state may k) u ≡ []
  others-quiet settling number left result (ByHearing l rest reading picked left_is few turn) u apart = others-read t u l.message reading apart
  others-quiet settling number left result (ByIdling none left_is turn) u apart = refl

  -- so each clock gave what it is to give in it
  turned-clocks : (settling : Bool) (number : ℕ) (left : BetweenNow) (result : _) (came : HasTurned durable state may is_read next_reading settling t number x y a.between left result) → says stop_wanting result ≡ false
      → (u : ℕ) (p q : TargetOf S C) → slice_get a.targets u ≡ Some p → slice_get (slice_set a.targets t y) u ≡ Some q → GivesOn is_read next_reading (read_then durable state may came.turned) u p.clock q.clock
  turned-clocks settling number left result came whole =
      each-pair durable state is_read a.targets t x y place.there (λ v z w. GivesOn is_read next_reading (read_then durable state may came.turned) v z.clock w.clock) (came.clock whole)
      (λ v z apart. gives-none is_read next_reading (read_then durable state may came.turned) v z.clock z.clock (others-quiet settling number left result came.turned v apart) refl)

  small : t < 64
  small = few-numbers state can.rules can.form a (fits-of durable state may a can) t x place.there

  -- ---- a whole turn

  module _ (did : Did) (left : BetweenNow) (opened : y.opened ≡ true) (runs : Runs stop_store (Ok did) (state x.store) (state y.store) (durable x.store) (durable y.store)) (posts : TurnsPostInForm x.plan.targets x.memory y.memory did.posts) where
    abbrev pub target-left : StageNow S C
    target-left = swept_stage (with_between (followed (target t) did left) (with_target_at t y a))

    target-fits : AllInForm (target_plan can.rules) left → Fits state can.rules target-left
    target-fits letters =
        let f = fits-of durable state may a can in
        let sent : posted.TurnFollows x.plan.targets y.memory did.posts = posts (f.work t x place).waiting in
        fit-swept state can.rules can.form (with_between (followed (target t) did left) (with_target_at t y a))
        (fit-target state can.rules can.form a f t x y a.watch Running (followed (target t) did left) place.there plan (set-same a.watch.lives t Running place.stands) f.openings (λ is. record { opened = opened; running = runs.stops; waiting = sent.waiting })
        (followed-form (target_plan can.rules) (target t) did left letters
        (λ q i. targets-send-letters (target_plan can.rules) can.rules.script.targets t q small (λ u. refl) (subst (λ n. TargetPosts n did.posts) (ap (λ p. p.targets) (can.made t x place.there)) sent.form q i))))

    pub whole-done : (settling : Bool) (number : ℕ) → HasTurned durable state may is_read next_reading settling t number x y a.between left (Ok did) → ((r : Rules) → TellsOn r a target-left) → GoesOn durable state may is_read next_reading (turn_of settling (target t) number) a target-left
    whole-done settling number came tells =
        turn-done durable state may is_read next_reading a target-left settling (target t) number 0 None None None (read_then durable state may came.turned) can
        (λ tell r. turn-leads durable state r t x y a did place plan opened runs.opening runs.stops may settling number left came.turned) findable alike (served-one durable state is_read a.targets t x y place.there served read) (turned-clocks settling number left (Ok did) came refl)
        (target-fits (left-form left (turned-left settling number left (Ok did) came.turned))) (omega arith) refl tells
        (λ u p q here there told. each-pair durable state is_read a.targets t x y place.there (λ v z w. Counts state a target-left None None None v z w) its
        (λ v z apart. counts-none state a target-left None None None v z refl (λ e. let no : ⊥ = cc in no) refl (omega arith) (λ m h. h)) u p q here there)
      where
        its : Counts state a target-left None None None t x y
        its = record {
          up = served.faults;
          tells = served.tells_fuse;
          stopped = λ tells. let less = fuse-less (state x.store) (state y.store) runs.fuse tells in inl (omega (arith, less));
          failed = λ n at. (n, at, inl (omega arith));
          down = λ e. let no : ⊥ = cc in absurd no;
          fault = none-rise 0 (state x.store) (state y.store) refl served.faults served.burns;
          struck = λ tells. let less = fuse-less (state x.store) (state y.store) runs.fuse tells in inl (omega (arith, less));
        }

  -- ---- a cut turn

  module _ (left : BetweenNow) (issued : Option (AttemptId × Epoch)) (lines : List Line) (fires : Fires (state x.store) (state y.store)) (ailed : Ailed (state x.store) (state y.store)) (c : StageNow S C) where
    -- the actors after the cut
    abbrev pub cut-left : StageNow S C
    cut-left = swept_stage (stopped_stage t issued lines (record a { targets = slice_set a.targets t y; between = left }))

    cut-place : IsPlace cut-left t y Stopped
    cut-place = record { there = is-set a.targets t x y place.there; stands = is-set a.watch.lives t Running Stopped place.stands }

    cut-fits : AllInForm (target_plan can.rules) left → Fits state can.rules cut-left
    cut-fits letters =
        let f = fits-of durable state may a can in
        fit-swept state can.rules can.form (stopped_stage t issued lines (record a { targets = slice_set a.targets t y; between = left }))
        (fit-target state can.rules can.form a f t x y (with_life t Stopped a.watch) Stopped (cut_between t issued lines left) place.there plan refl f.openings (λ e. let no : ⊥ = cc in absurd no)
        (record { messages = lost-form (target_plan can.rules) t false left small letters; asked = asked-lost (target_plan can.rules) t left letters }))

    pub cut-done : (settling : Bool) (number : ℕ) → HasTurned durable state may is_read next_reading settling t number x y a.between left (Err (stop.Store issued lines)) → AfterStop t (state x.store).faults (state y.store).faults cut-left c → ((r : Rules) → TellsOn r a c)
        → GoesOn durable state may is_read next_reading (turn_of settling (target t) number) a c
    cut-done settling number came after tells =
        turn-done durable state may is_read next_reading a c settling (target t) number 0 (Some t) downs (Some t) (read_then durable state may came.turned) can
        (λ tell r. fault-leads durable state r t may settling number 0 (state x.store).faults (state y.store).faults (Some t) (read_then durable state may came.turned) a cut-left c y cut-place
        (cut-leads durable state r t x y a place plan issued lines may settling number left came.turned) after)
        findable alike (subst (AreServed durable state is_read a.targets) (sym (after-targets t _ _ cut-left c after)) (served-one durable state is_read a.targets t x y place.there served read))
        (λ u p q here there. turned-clocks settling number left (Err (stop.Store issued lines)) came refl u p q here (subst (λ xs. slice_get xs u ≡ Some q) (after-targets t _ _ cut-left c after) there))
        (fit-after_stop state can.rules t (state x.store).faults (state y.store).faults cut-left c can.form small (cut-fits (left-form left (turned-left settling number left (Err (stop.Store issued lines)) came.turned))) after)
        (let same = after-openings t _ _ cut-left c after in omega (arith, same)) (ap length (after-clients t _ _ cut-left c after)) tells
        (λ u p q here there told. each-pair durable state is_read a.targets t x y place.there (λ v z w. Counts state a c (Some t) downs (Some t) v z w) its others u p q here (subst (λ xs. slice_get xs u ≡ Some q) (after-targets t _ _ cut-left c after) there))
      where
        downs : Option ℕ
        downs = downs_after t (state x.store).faults (state y.store).faults cut-left c after

        stops-same : (u : ℕ) → stop_lines_of u c.watch.stops ≡ stop_lines_of u a.watch.stops
        stops-same u = ap (stop_lines_of u) (after-stops t _ _ cut-left c after)

        others : (u : ℕ) (z : TargetOf S C) → (u ≡ t → ⊥) → Counts state a c (Some t) downs (Some t) u z z
        others u z apart =
            let off : (t == u) ≡ false = grind (arith, nat_tests) in
            counts-none state a c (Some t) downs (Some t) u z (ap (λ b. if b then 1 else 0) off)
            (λ e. apart (after-down t _ _ cut-left c after u e)) (ap (λ b. if b then 1 else 0) off) (let same = stops-same u in omega (arith, same)) (λ m h. after-others t _ _ cut-left c after u apart m h)

        its : Counts state a c (Some t) downs (Some t) t x y
        its = record {
          up = served.faults;
          tells = served.tells_fuse;
          stopped = λ tells.
              one-struck (state x.store) (state y.store) fires ailed tells (stops_of (Some t) t) (stop_lines_of t a.watch.stops) (stop_lines_of t c.watch.stops) (ap (λ b. if b then 1 else 0) (same_number t)) (stops-same t);
          failed = λ n at. after-failed t _ _ cut-left c after n at;
          down = λ e. after-down-so t _ _ cut-left c after e;
          fault = one-fault (once_for (Some t) t) (state x.store) (state y.store) (ap (λ b. if b then 1 else 0) (same_number t)) served.faults served.burns ailed;
          struck = λ tells.
              one-struck (state x.store) (state y.store) fires ailed tells (once_for (Some t) t) (stop_lines_of t a.watch.stops) (stop_lines_of t c.watch.stops) (ap (λ b. if b then 1 else 0) (same_number t)) (stops-same t);
        }
