-- Attempts end well, whatever turns follow one another.
use Rattle.target_core.specs.target_snaps.Following.{TellsNoAttempt}
use Rattle.std.specs.Prelude.{ℕ, ◌≡◌, ◌++◌, Bool, true, false, All, List, [], ◌∷◌, filter, map, slice_get, slice_set, Option, Some, None, Result, Err, IfOk, refl}
use Rattle.std.proofs.Common.{inl, inr, sym, ◌∙◌, ap, subst, arith}
use Rattle.std.proofs.lemmas.Bool.{cases_eq}
use Rattle.std.proofs.lemmas.List.Elements.{All-append, All-map, All-nil, All-weaker}
use Rattle.base_types.specs.declared.epoch.Epoch.{Epoch}
use Rattle.base_types.specs.declared.id.AttemptId.{AttemptId}
use Rattle.base_types.specs.declared.operation.Op.{Op}
use Rattle.base_types.specs.declared.outcome.Outcome.{Outcome}
use Rattle.base_types.specs.declared.outcome.Outcome.TheVariants as outcome
use Rattle.base_types.specs.declared.report.Attempt.{Attempt}
use Rattle.base_types.specs.declared.report.Line.{Line}
use Rattle.base_types.specs.declared.report.Line.TheVariants as line
use Rattle.base_types.specs.declared.script.Script.{Script}
use Rattle.base_messages.specs.declared.actor.ActorId.{ActorId}
use Rattle.base_messages.specs.declared.message.Post.{Post}
use Rattle.client_core.specs.Clients.{ClientNow}
use Rattle.daos_model.specs.declared.durable.Durable.{Durable}
use Rattle.daos_model.specs.Attempts.{tries}
use Rattle.daos_model.specs.Laws.{tries-append}
use Rattle.daos_model.specs.Transactions.{attempt_ops}
use Rattle.model_laws.specs.DecidedLaws.{all-from_has, has-all}
use Rattle.model_laws.specs.Members.{Has, has-cases, has-from_filter, has-from_map, has-left, has-right}
use Rattle.run_base.specs.Letters.{BetweenNow, IsPicked}
use Rattle.run_base.specs.Sweeps.{is_left_by, is_lost_by}
use Rattle.run_laws.specs.shows.Asked.{AllTellInOrder, CameInOrder, TellsInOrder}
use Rattle.run_laws.specs.shows.AskedLaws.{IsWholeOrInOrder, hear-turn-so, next-turn-so, whole-in-order}
use Rattle.run_laws.specs.shows.Ends.{AllGoWith, AllWaitWith, BetweenGoes, EndsGoOn, IsEndingClient, LettersGoWith, TellsOn}
use Rattle.run_laws.specs.shows.InTurnLaws.{client-tells, line-alone, none-tried, one-line, target-tells, turned-lines}
use Rattle.run_laws.specs.shows.Kinds.{AnswersGoOn, loads_of}
use Rattle.run_laws.specs.shows.KindsLaws.{client-goes-on, fault-lives, picked-load, script-ops, target-goes-on}
use Rattle.run_laws.specs.shows.Lettered.{has-asked}
use Rattle.run_laws.specs.shows.Stages.{IsPlace, StageNow}
use Rattle.run_laws.specs.shows.Steps.{ClientTurned, ClientWorks, Cut, HeardOne, NotOpened, Opened, OpeningEnds, Reopened, TargetTurned, WentOn, Whole, WorkEnds, Worked}
use Rattle.run_laws.specs.shows.Turned.{AfterFailure, AfterStop, ByForeign, ByHearing, ByIdling, ByStop, Failed, IsTurned, LastTime, NotFailed, followed, given_up_stage, stopped_stage, swept_between, swept_stage, with_between, with_client_at, with_target_at}
use Rattle.run_watch.specs.Watches.{fuse_set, opened_again, opening_tried}
use Rattle.target_core.specs.Targets.{TargetOf}
use Rattle.run_opening.specs.target_parts.declared.stop.TargetStop.{TargetStop}
use Rattle.target_core.specs.target_resync.Openings.{TellsRestart}
use Rattle.vos_store.specs.Calls.{State}
use Rattle.world_base.specs.declared.client.ClientPlan.{ClientPlan}
use Rattle.world_base.specs.declared.client.ClientState.{ClientState}
use Rattle.world_base.specs.declared.did.Did.{Did}
use Rattle.world_base.specs.declared.letter.Letter.{Letter}
use Rattle.world_base.specs.declared.target.Life.{Life}
use Rattle.world_base.specs.declared.target.Life.TheVariants.{Down, Running, Stopped}
use Rattle.world_base.specs.ClientTurns.{HearTurn, NextTurn}
use Rattle.world_base.specs.Events.{Rules, client_plan, with_epoch}
use Rattle.world_base.specs.Letters.{client, letter_of, letters_of, target}
use Rattle.world_base.specs.StepLaws.{set-is, set-there}
use Rattle.world_base.specs.Stops.{is_not_to, is_to, reset_letter, resets, stops_so_far}
use Rattle.world_letters.specs.clients.AnswerLaws.{Tells}
use Rattle.world_letters.specs.clients.Answered.{EndsAsAnswered, EndsWell, IsAnsweredHere, ops_here}
use Rattle.world_letters.specs.clients.MoveLaws.{clients-begin}
use Rattle.world_letters.specs.clients.Standing.{number_of}
use Rattle.target_core.specs.world_ended.Asking.{Asked, GoesWith, PostsGoWith, RemembersWith, TurnLeavesWith, TurnsEndAsked}
use Rattle.target_core.specs.world_ended.Clients.{AllEndWell, AreMore, HasEndedWell, LeavesWell}
use Rattle.target_core.specs.world_ended.ClientLaws.{asking-others, clients-begin-asking, goes-more, hear-turn-well, next-turn-well, reset-goes}
use Rattle.world_letters.specs.lines.FilledLaws.{stands-of, tries-filled}
use Rattle.world_letters.specs.lines.Lines.{filled}

-- ---- letters

module _ (asked : Asked) where
  both-go : (xs ys : List Letter) → LettersGoWith asked xs → LettersGoWith asked ys → LettersGoWith asked (xs ++ ys)
  both-go xs ys one two l i = elim (has-cases xs ys l i) [ inl j ↦ one l j | inr j ↦ two l j ]

  fewer-go : (test : Letter → Bool) (xs : List Letter) → LettersGoWith asked xs → LettersGoWith asked (filter test xs)
  fewer-go test xs k l i = k l (has-from_filter test xs l i).0

  sent-go : (from : ActorId) (posts : List Post) → PostsGoWith asked posts → LettersGoWith asked (letters_of from posts)
  sent-go from posts k l i = let q = has-from_map (letter_of from) posts l i in subst (λ (m : Letter). GoesWith asked m.message) q.2 (k q.0 q.1)

  -- what tells that letters are lost
  resets-go : (down : Bool) (test : Letter → Bool) (ls : List Letter) → LettersGoWith asked ls → LettersGoWith asked (map (reset_letter down) (filter test ls))
  resets-go down test ls k l i =
      let q = has-from_map (reset_letter down) (filter test ls) l i in
      subst (λ (m : Letter). GoesWith asked m.message) q.2 (reset-goes asked q.0.message (k q.0 (has-from_filter test ls q.0 q.1).0))

  followed-goes : (from : ActorId) (did : Did) (b : BetweenNow) → BetweenGoes asked b → PostsGoWith asked did.posts → BetweenGoes asked (followed from did b)
  followed-goes from did b k new = record {
    letters = both-go b.messages (letters_of from did.posts) k.letters (sent-go from did.posts new);
    unanswered = λ l i. elim (has-asked b.asked (letters_of from did.posts) l i) [ inl old ↦ k.unanswered l old | inr sent ↦ sent-go from did.posts new l sent ];
  }

  swept-goes : (lives : List Life) (b : BetweenNow) → BetweenGoes asked b → BetweenGoes asked (swept_between lives b)
  swept-goes lives b k = record {
    letters = fewer-go (is_left_by lives) _ (both-go b.messages _ k.letters (resets-go true (is_lost_by lives) b.asked k.unanswered));
    unanswered = fewer-go (is_left_by lives) b.asked k.unanswered;
  }

  lost-go : (t : ℕ) (down : Bool) (b : BetweenNow) → BetweenGoes asked b → LettersGoWith asked (filter (is_not_to t) b.messages ++ resets t down b.asked)
  lost-go t down b k = both-go (filter (is_not_to t) b.messages) (resets t down b.asked) (fewer-go (is_not_to t) b.messages k.letters) (resets-go down (is_to t) b.asked k.unanswered)

-- where more was asked
more-go : (asked now : Asked) (ls : List Letter) → AreMore asked now → LettersGoWith asked ls → LettersGoWith now ls
more-go asked now ls more k l i = goes-more asked now l.message more (k l i)

between-more : (asked now : Asked) (b : BetweenNow) → AreMore asked now → BetweenGoes asked b → BetweenGoes now b
between-more asked now b more k = record { letters = more-go asked now b.messages more k.letters; unanswered = more-go asked now b.asked more k.unanswered }

-- a letter that was picked is among those in flight
pub picked-among : (ls : List Letter) (to : ActorId) (number : ℕ) (l : Letter) (rest : List Letter) → IsPicked ls to number l rest → Has l ls
picked-among ls to number l rest k = subst (Has l) (sym k.among) (has-right k.before (l ∷ k.after) l (inl refl))

left-goes : (asked : Asked) (b : BetweenNow) (to : ActorId) (number : ℕ) (l : Letter) (rest : List Letter) → IsPicked b.messages to number l rest → BetweenGoes asked b → BetweenGoes asked (record b { messages = rest })
left-goes asked b to number l rest k goes = record {
  letters = λ m i. goes.letters m (subst (Has m) (sym k.among) (elim (has-cases k.before k.after m (subst (Has m) k.left i)) [ inl j ↦ has-left k.before (l ∷ k.after) m j | inr j ↦ has-right k.before (l ∷ k.after) m (inr j) ]));
  unanswered = goes.unanswered;
}

-- ---- targets that run

module _ {S C : Type 0} (asked : Asked) (ts : List (TargetOf S C)) (lives : List Life) (k : AllWaitWith asked ts lives) where
  -- one of them changed, and how it stands
  wait-set : (t : ℕ) (y : TargetOf S C) (life : Life) → (life ≡ Running → RemembersWith asked y.memory) → AllWaitWith asked (slice_set ts t y) (slice_set lives t life)
  wait-set t y life new u z there stands = elim (cases_eq u t) [
    | inl same ↦
        (let one : y ≡ z = set-is ts t y z (subst (λ v. slice_get (slice_set ts t y) v ≡ Some z) same there) in
        let runs : life ≡ Running = set-is lives t life Running (subst (λ v. slice_get (slice_set lives t life) v ≡ Some Running) same stands) in
        subst (λ (q : TargetOf S C). RemembersWith asked q.memory) one (new runs))
    | inr apart ↦ k u z (sym (set-there ts t u y apart) ∙ there) (sym (set-there lives t u life apart) ∙ stands)
  ]

  wait-at : (t : ℕ) (y : TargetOf S C) (life : Life) → slice_get lives t ≡ Some life → (life ≡ Running → RemembersWith asked y.memory) → AllWaitWith asked (slice_set ts t y) lives
  wait-at t y life at new u z there stands = elim (cases_eq u t) [
    | inl same ↦
        (let one : y ≡ z = set-is ts t y z (subst (λ v. slice_get (slice_set ts t y) v ≡ Some z) same there) in
        let runs : Some life ≡ Some Running = sym at ∙ subst (λ v. slice_get lives v ≡ Some Running) same stands in
        let is : life ≡ Running = cc in
        subst (λ (q : TargetOf S C). RemembersWith asked q.memory) one (new is))
    | inr apart ↦ k u z (sym (set-there ts t u y apart) ∙ there) stands
  ]

  -- one of them doesn't run any more
  wait-life : (t : ℕ) (life : Life) → (life ≡ Running → ⊥) → AllWaitWith asked ts (slice_set lives t life)
  wait-life t life rests u z there stands = elim (cases_eq u t) [
    | inl same ↦ absurd (rests (set-is lives t life Running (subst (λ v. slice_get (slice_set lives t life) v ≡ Some Running) same stands)))
    | inr apart ↦ k u z there (sym (set-there lives t u life apart) ∙ stands)
  ]

down-rests : Down ≡ Running → ⊥
down-rests e = let no : ⊥ = cc in no

stopped-rests : Stopped ≡ Running → ⊥
stopped-rests e = let no : ⊥ = cc in no

-- ---- what a target's turn leaves

-- the clients stay, the lines tell of no further attempt, and all goes with what was asked
record Leaves {S C : Type 0} (asked : Asked) (a b : StageNow S C) : Type 0 where
  pub clients : b.clients ≡ a.clients
  pub lines : tries b.between.lines ≡ tries a.between.lines
  pub going : AllGoWith asked b

leaves-then : {S C : Type 0} (asked : Asked) (a b c : StageNow S C) → Leaves asked a b → Leaves asked b c → Leaves asked a c
leaves-then asked a b c k l = record { clients = l.clients ∙ k.clients; lines = l.lines ∙ k.lines; going = l.going }

swept-all : {S C : Type 0} (asked : Asked) (a : StageNow S C) → AllGoWith asked a → AllGoWith asked (swept_stage a)
swept-all asked a k = record { between = swept-goes asked a.watch.lives a.between k.between; targets = k.targets }

given-up-all : {S C : Type 0} (asked : Asked) (t : ℕ) (a : StageNow S C) → AllGoWith asked a → AllGoWith asked (given_up_stage t a)
given-up-all asked t a k = record {
  between = record { letters = lost-go asked t true a.between k.between; unanswered = fewer-go asked (is_not_to t) a.between.asked k.between.unanswered };
  targets = wait-life asked a.targets a.watch.lives k.targets t Down down-rests;
}

given-up-leaves : {S C : Type 0} (asked : Asked) (t : ℕ) (a : StageNow S C) → AllGoWith asked a → Leaves asked a (swept_stage (given_up_stage t a))
given-up-leaves asked t a k = record { clients = refl; lines = one-line a.between.lines (line.Down t) refl; going = swept-all asked (given_up_stage t a) (given-up-all asked t a k) }

-- what comes of a store's stop
after-stop-leaves : {S C : Type 0} (asked : Asked) (t before now : ℕ) (a b : StageNow S C) → AfterStop t before now a b → AllGoWith asked a → Leaves asked a b
after-stop-leaves asked t before now a b (NotFailed less same) k = subst (Leaves asked a) (sym same) (record { clients = refl; lines = refl; going = k })
after-stop-leaves asked t before now a b (Failed more n at few same) k = subst (Leaves asked a) (sym same) (record {
  clients = refl;
  lines = refl;
  going = record { between = record { letters = k.between.letters; unanswered = k.between.unanswered }; targets = subst (AllWaitWith asked a.targets) (sym (fault-lives t n a.watch)) k.targets };
})
after-stop-leaves asked t before now a b (LastTime more at same) k = subst (Leaves asked a) (sym same) (given-up-leaves asked t a k)

module _ {S C : Type 0} (durable : S → Option Durable) (state : S → State) (may : S → Durable → Type 0) (a b : StageNow S C) (t : ℕ) (asked : Asked) (k : AllGoWith asked a) where
  -- what a target heard is no more in flight
  turned-goes : (settling : Bool) (number : ℕ) (x y : TargetOf S C) (left : BetweenNow) (result : Result Did TargetStop) → IsTurned durable state may settling t number x y a.between left result → BetweenGoes asked left
  turned-goes settling number x y left result (ByHearing l rest reading picked is few turn) = subst (BetweenGoes asked) (sym is) (left-goes asked a.between (target t) number l rest picked k.between)
  turned-goes settling number x y left result (ByIdling none is turn) = subst (BetweenGoes asked) (sym is) k.between

  work-leaves : (x y : TargetOf S C) (left : BetweenNow) (result : Result Did TargetStop) → IsPlace a t x Running → left.lines ≡ a.between.lines → BetweenGoes asked left → TellsNoAttempt result
      → IfOk result (λ did. TurnsEndAsked asked x.memory y.memory did.posts) → WorkEnds durable state may t x y left a b result → Leaves asked a b
  work-leaves x y left result place lines goes told ends (Whole did is after) =
      let none : tries did.lines ≡ [] = subst TellsNoAttempt is told in
      let turn : TurnLeavesWith asked y.memory did.posts = (subst (λ q. IfOk q (λ did. TurnsEndAsked asked x.memory y.memory did.posts)) is ends) (k.targets t x place.there place.stands) in
      let now = with_between (followed (target t) did left) (with_target_at t y a) in
      subst (Leaves asked a) (sym after) (record {
        clients = refl;
        lines = none-tried left.issued left.lines did.lines none ∙ ap tries lines;
        going = swept-all asked now (record { between = followed-goes asked (target t) did left goes turn.said; targets = wait-at asked a.targets a.watch.lives k.targets t y Running place.stands (λ runs. turn.remembers) });
      })
  work-leaves x y left result place lines goes told ends (Cut stop is after) =
      let none : tries after.lines ≡ [] = subst TellsNoAttempt (is ∙ ap Err after.cut) told in
      let now = stopped_stage t after.issued after.lines (with_between left (with_target_at t y a)) in
      let all : AllGoWith asked (swept_stage now) = swept-all asked now (record {
        between = record { letters = lost-go asked t false left goes; unanswered = fewer-go asked (is_not_to t) left.asked goes.unanswered };
        targets = wait-set asked a.targets a.watch.lives k.targets t y Stopped (λ runs. absurd (stopped-rests runs));
      }) in
      leaves-then asked a (swept_stage now) b
      (record { clients = refl; lines = line-alone left.lines after.lines (line.Stop (stops_so_far left.lines) t) none refl ∙ ap tries lines; going = all })
      (after-stop-leaves asked t _ _ (swept_stage now) b after.after all)

  opening-leaves : (x y : TargetOf S C) (result : Result Did TargetStop) → IsPlace a t x Stopped → IfOk result (TellsRestart a.watch.restarts x.plan.me) → IfOk result (λ did. TurnLeavesWith asked y.memory did.posts)
      → OpeningEnds durable state may t x y (record a { targets = slice_set a.targets t y; watch = opening_tried a.watch }) b result → Leaves asked a b
  opening-leaves x y result place line_is ends opening = by opening
    where
      here : StageNow S C
      here = record a { targets = slice_set a.targets t y; watch = opening_tried a.watch }

      waits : AllWaitWith asked (slice_set a.targets t y) a.watch.lives
      waits = wait-at asked a.targets a.watch.lives k.targets t y Stopped place.stands (λ runs. absurd (stopped-rests runs))

      first : Leaves asked a here
      first = record { clients = refl; lines = refl; going = record { between = k.between; targets = waits } }

      failed : (stop : TargetStop) → AfterFailure t (state x.store).faults (state y.store).faults stop here b → Leaves asked a b
      failed stop (ByStop issued lines why stopped) = leaves-then asked a here b first (after-stop-leaves asked t _ _ here b stopped first.going)
      failed stop (ByForeign at byte why given_up) = leaves-then asked a here b first (subst (Leaves asked here) (sym given_up) (given-up-leaves asked t here first.going))

      by : OpeningEnds durable state may t x y here b result → Leaves asked a b
      by (Opened did is after) =
          let tells = subst (λ q. IfOk q (TellsRestart a.watch.restarts x.plan.me)) is line_is in
          let turn : TurnLeavesWith asked y.memory did.posts = subst (λ q. IfOk q (λ did. TurnLeavesWith asked y.memory did.posts)) is ends in
          let now : StageNow S C = record here { targets = slice_set here.targets t after.armed; watch = opened_again t (fuse_set t here.watch); between = followed (target t) did here.between } in
          subst (Leaves asked a) (sym after.after) (record {
            clients = refl;
            lines = ap (λ ls. tries (a.between.lines ++ map (with_epoch a.between.issued) ls)) tells.2 ∙ one-line a.between.lines (line.Restart a.watch.restarts x.plan.me tells.0 tells.1) refl;
            going = swept-all asked now (record {
              between = followed-goes asked (target t) did a.between k.between turn.said;
              targets = wait-set asked (slice_set a.targets t y) a.watch.lives waits t after.armed Running (λ runs. subst (RemembersWith asked) (sym after.fuse.memory) turn.remembers);
            });
          })
      by (NotOpened stop is after) = failed stop after

  turn-leaves : (r : Rules) (is_read : C → C → Type 0) (next_reading : C → Option ℕ) (settling : Bool) (number : ℕ) → TargetTurned durable state may is_read next_reading settling t number a b → Leaves asked a b
  turn-leaves r is_read next_reading settling number (Worked w) =
      work-leaves w.work.before w.work.now w.work.left w.work.result w.work.place (turned-lines durable state may r a b t settling number w.work.before w.work.now w.work.left w.work.result w.work.came.turned)
      (turned-goes settling number w.work.before w.work.now w.work.left w.work.result w.work.came.turned) w.work.told (w.work.ends asked k.between.letters) w.ends
  turn-leaves r is_read next_reading settling number (Reopened w) = opening-leaves w.was.before w.was.now w.was.result w.was.place w.was.line (w.was.ends asked) w.ends

-- a target's turn goes on so
target-ends : {S C : Type 0} (durable : S → Option Durable) (state : S → State) (may : S → Durable → Type 0) (r : Rules) (a b : StageNow S C) (t : ℕ) (is_read : C → C → Type 0) (next_reading : C → Option ℕ) (settling : Bool) (number : ℕ)
    → TargetTurned durable state may is_read next_reading settling t number a b → EndsGoOn r a → EndsGoOn r b
target-ends durable state may r a b t is_read next_reading settling number turned k =
    let left = turn-leaves durable state may a b t k.asked k.going r is_read next_reading settling number turned in
    record {
      answers = target-goes-on durable state may r a b t is_read next_reading settling number turned k.answers;
      asked = k.asked;
      clients = λ n c at. k.clients n c (ap (λ cs. slice_get cs n) (sym left.clients) ∙ at);
      going = left.going;
      lines = subst (All (HasEndedWell r.script)) (sym left.lines) k.lines;
      in_order = subst (All (TellsInOrder r.script)) (sym left.lines) k.in_order;
    }

-- ---- lines

-- what is filled in of an attempt is its epoch
well-filled : (ops : List Op) (issued : List (AttemptId × Epoch)) (a : Attempt) (how : Outcome) → EndsWell ops a how → EndsWell ops (filled issued a) how
well-filled ops issued a outcome.Committed k = record { asked = k.asked; answered = k.answered; hold = k.hold }
well-filled ops issued a (outcome.CondFailed op) k = record { held = k.held; there = k.there; told = k.told; asked = k.asked; hold = k.hold; fails = k.fails }
well-filled ops issued a (outcome.Restart cause) k = k
well-filled ops issued a (outcome.NoSpace target need free) k = k
well-filled ops issued a outcome.EpochsSpent k = k
well-filled ops issued a outcome.NoSnapshot k = k
well-filled ops issued a (outcome.Unknown target) k = k

all-filled : (s : Script) (issued : List (AttemptId × Epoch)) (as' : List Attempt) → All (HasEndedWell s) as' → All (HasEndedWell s) (map (filled issued) as')
all-filled s issued as' k = All-map (HasEndedWell s) (filled issued) as' (All-weaker (HasEndedWell s) (λ a. HasEndedWell s (filled issued a)) (λ a well. well-filled (attempt_ops s a.id) issued a a.outcome well) as' k)

lines-well : (s : Script) (issued : List (AttemptId × Epoch)) (ls more : List Line) → AllEndWell s ls → All (HasEndedWell s) (tries more) → AllEndWell s (ls ++ map (with_epoch issued) more)
lines-well s issued ls more k l =
    subst (All (HasEndedWell s)) (sym (tries-append ls (map (with_epoch issued) more)))
    (All-append (HasEndedWell s) (tries ls) (tries (map (with_epoch issued) more)) k (subst (All (HasEndedWell s)) (sym (tries-filled issued more)) (all-filled s issued (tries more) l)))

filled-in-order : (s : Script) (issued : List (AttemptId × Epoch)) (a : Attempt) → TellsInOrder s a → TellsInOrder s (filled issued a)
filled-in-order s issued a k = (k.0, record { conditions = k.1.conditions; answers = k.1.answers })

lines-in-order : (s : Script) (issued : List (AttemptId × Epoch)) (ls more : List Line) → AllTellInOrder s ls → All (TellsInOrder s) (tries more) → AllTellInOrder s (ls ++ map (with_epoch issued) more)
lines-in-order s issued ls more k l =
    subst (All (TellsInOrder s)) (sym (tries-append ls (map (with_epoch issued) more)))
    (All-append (TellsInOrder s) (tries ls) (tries (map (with_epoch issued) more)) k
    (subst (All (TellsInOrder s)) (sym (tries-filled issued more)) (All-map (TellsInOrder s) (filled issued) (tries more) (All-weaker (TellsInOrder s) (λ a. TellsInOrder s (filled issued a)) (filled-in-order s issued) (tries more) l))))

-- ---- a client's turn

module _ {S C : Type 0} (r : Rules) (n : ℕ) (c d : ClientNow) (did : Did) (left : BetweenNow) (a : StageNow S C) (here : slice_get a.clients n ≡ Some c) (lines : left.lines ≡ a.between.lines) (k : EndsGoOn r a) (goes : BetweenGoes k.asked left)
    (turn : LeavesWell (client_plan r n) k.asked d.state did.posts ((k.clients n c here).attempts ++ tries did.lines)) (so : All (IsWholeOrInOrder (client_plan r n)) (tries did.lines)) where
  abbrev client-now : StageNow S C
  client-now = swept_stage (with_between (followed (client n) did left) (with_client_at n d a))

  abbrev asked-now : Asked
  asked-now = turn.asking.now

  -- its attempts are attempts of commands of its own
  its-own : (x : Attempt) → Has x (tries did.lines) → x.id.client ≡ n
  its-own x i =
      stands-of (client_plan r n) d.state.place d.state.command (number_of d.state.present) ((k.clients n c here).attempts ++ tries did.lines) turn.tells.told x (has-right (k.clients n c here).attempts (tries did.lines) x i)

  -- they ended well, by the script
  told-well : All (HasEndedWell r.script) (tries did.lines)
  told-well = all-from_has (HasEndedWell r.script) (tries did.lines) (λ x i.
      subst (λ ops. EndsWell ops x x.outcome) (script-ops r n x (its-own x i))
      (has-all (EndsAsAnswered (client_plan r n)) ((k.clients n c here).attempts ++ tries did.lines) x turn.tells.answers.ended (has-right (k.clients n c here).attempts (tries did.lines) x i)))

  -- and tell of their operations in order
  told-in-order : All (TellsInOrder r.script) (tries did.lines)
  told-in-order = all-from_has (TellsInOrder r.script) (tries did.lines) (λ x i. elim (has-all (IsWholeOrInOrder (client_plan r n)) (tries did.lines) x so i) [
    | inl committed ↦ whole-in-order (attempt_ops r.script x.id) x (subst (EndsWell (attempt_ops r.script x.id) x) committed (has-all (HasEndedWell r.script) (tries did.lines) x told-well i))
    | inr came ↦ subst (λ ops. CameInOrder ops x) (script-ops r n x (its-own x i)) came
  ])

  client-well : AnswersGoOn r client-now → EndsGoOn r client-now
  client-well answers = record {
    answers = answers;
    asked = asked-now;
    clients = λ m x at. elim (cases_eq m n) [
      | inl same ↦ subst (λ q. IsEndingClient (client_plan r q) x.state asked-now) (sym same)
          (subst (λ z. IsEndingClient (client_plan r n) z.state asked-now) (it-is m x same at) (record { asking = turn.asking.client; attempts = (k.clients n c here).attempts ++ tries did.lines; tells = turn.tells }))
      | inr apart ↦ (let old = k.clients m x (sym (set-there a.clients n m d apart) ∙ at) in
          record { asking = asking-others (client_plan r m) x.state k.asked asked-now (λ y own is. turn.asking.own y (λ same. apart (sym own ∙ same)) is) old.asking; attempts = old.attempts; tells = old.tells })
    ];
    going = swept-all asked-now (with_between (followed (client n) did left) (with_client_at n d a)) (record {
      between = followed-goes asked-now (client n) did left (between-more k.asked asked-now left turn.asking.more goes) turn.asking.said;
      targets = λ t x there stands.
          let old = k.going.targets t x there stands in
          record { waiting = λ u y i is. turn.asking.more u.attempt (old.waiting u y i is); making = λ n i. turn.asking.more n.attempt (old.making n i) };
    });
    lines = lines-well r.script left.issued left.lines did.lines (subst (AllEndWell r.script) (sym lines) k.lines) told-well;
    in_order = lines-in-order r.script left.issued left.lines did.lines (subst (AllTellInOrder r.script) (sym lines) k.in_order) told-in-order;
  }
    where
      it-is : (m : ℕ) (x : ClientNow) → m ≡ n → slice_get (slice_set a.clients n d) m ≡ Some x → d ≡ x
      it-is m x same at = set-is a.clients n d x (subst (λ q. slice_get (slice_set a.clients n d) q ≡ Some x) same at)

-- a client's turn goes on so
client-ends : {S C : Type 0} (r : Rules) (n number : ℕ) (a b : StageNow S C) → ClientTurned n number a b → EndsGoOn r a → EndsGoOn r b
client-ends r n number a b w k = by w.works
  where
    its : w.before.plan ≡ client_plan r n
    its = k.answers.in_turn.plans n w.before w.here

    old : IsEndingClient (client_plan r n) w.before.state k.asked
    old = k.clients n w.before w.here

    answers : AnswersGoOn r (swept_stage (with_between (followed (client n) w.did w.left) (with_client_at n w.now a)))
    answers = subst (AnswersGoOn r) w.after (client-goes-on r n number a b w k.answers)

    by : ClientWorks n number w.before w.now a.between w.left w.did → EndsGoOn r b
    by (HeardOne l rest awake picked is turn) =
        subst (EndsGoOn r) (sym w.after)
        (client-well r n w.before w.now w.did w.left a w.here (ap (λ q. q.lines) is) k (subst (BetweenGoes k.asked) (sym is) (left-goes k.asked a.between (client n) number l rest picked k.going.between))
        (hear-turn-well (client_plan r n) w.before.state w.now.state old.attempts (loads_of a) k.asked l.message w.did k.answers.in_turn.some_attempt old.tells (k.answers.clients n w.before w.here) old.asking
        (λ x s. let all = picked-load a (client n) number l rest w.left picked is x s in omega (arith, all))
        (k.going.between.letters l (picked-among a.between.messages (client n) number l rest picked)) (subst (λ p. HearTurn p w.before.state l.message w.did w.now.state) its turn))
        (hear-turn-so (client_plan r n) w.before.state w.now.state l.message old.attempts w.did old.tells (subst (λ p. HearTurn p w.before.state l.message w.did w.now.state) its turn)) answers)
    by (WentOn none is turn) =
        subst (EndsGoOn r) (sym w.after)
        (client-well r n w.before w.now w.did w.left a w.here (ap (λ q. q.lines) is) k (subst (BetweenGoes k.asked) (sym is) k.going.between)
        (next-turn-well (client_plan r n) w.before.state w.now.state old.attempts k.asked w.did k.answers.in_turn.some_attempt old.tells old.asking (subst (λ p. NextTurn p w.before.state w.did w.now.state) its turn))
        (next-turn-so (client_plan r n) w.before.state w.now.state w.did (subst (λ p. NextTurn p w.before.state w.did w.now.state) its turn)) answers)

-- ---- before any turn

none-told : (s : Script) → AllEndWell s []
unfolding tries
none-told s = All-nil (HasEndedWell s)

none-in-order : (s : Script) → AllTellInOrder s []
unfolding tries
none-in-order s = All-nil (TellsInOrder s)

nothing-told : (p : ClientPlan) (c : ClientState) → c.place ≡ 0 → c.command ≡ 0 → c.present ≡ None → Tells p c []
nothing-told p c place command none = record {
  told = clients-begin p c place command none;
  answers = record { ended = All-nil (EndsAsAnswered p); here = subst (IsAnsweredHere (ops_here p c)) (sym none) tt };
}

-- nothing was asked yet
pub ends-first : {S C : Type 0} (r : Rules) (a : StageNow S C) → AnswersGoOn r a → ((n : ℕ) (c : ClientNow) → slice_get a.clients n ≡ Some c → (c.state.place ≡ 0) × (c.state.command ≡ 0) × (c.state.present ≡ None))
    → ((t : ℕ) (x : TargetOf S C) → slice_get a.targets t ≡ Some x → (x.memory.leader.undecided ≡ []) × (x.memory.collecting ≡ [])) → a.between.messages ≡ [] → a.between.asked ≡ [] → a.between.lines ≡ [] → EndsGoOn r a
ends-first r a answers clients targets messages unanswered lines = record {
  answers = answers;
  asked = λ x. false;
  clients = λ n c at. let first = clients n c at in record {
    asking = clients-begin-asking (client_plan r n) c.state first.2;
    attempts = [];
    tells = nothing-told (client_plan r n) c.state first.0 first.1 first.2;
  };
  going = record {
    between = record { letters = subst (LettersGoWith (λ x. false)) (sym messages) (λ l i. absurd i); unanswered = subst (LettersGoWith (λ x. false)) (sym unanswered) (λ l i. absurd i) };
    targets = λ t x there stands. record { waiting = λ u y i is. absurd (subst (Has u) (targets t x there).0 i); making = λ n i. absurd (subst (Has n) (targets t x there).1 i) };
  };
  lines = subst (AllEndWell r.script) (sym lines) (none-told r.script);
  in_order = subst (AllTellInOrder r.script) (sym lines) (none-in-order r.script);
}

-- ---- what turns keep

pub tells-none : {S C : Type 0} (r : Rules) (a : StageNow S C) → TellsOn r a a
tells-none r a = record { in_turn = λ k. k; answers = λ k. k; ends = λ k. k }

pub tells-then : {S C : Type 0} (r : Rules) (a b c : StageNow S C) → TellsOn r a b → TellsOn r b c → TellsOn r a c
tells-then r a b c k l = record { in_turn = λ t. l.in_turn (k.in_turn t); answers = λ t. l.answers (k.answers t); ends = λ t. l.ends (k.ends t) }

pub client-tells-on : {S C : Type 0} (r : Rules) (n number : ℕ) (a b : StageNow S C) → ClientTurned n number a b → TellsOn r a b
client-tells-on r n number a b k = record { in_turn = client-tells r n number a b k; answers = client-goes-on r n number a b k; ends = client-ends r n number a b k }

pub target-tells-on : {S C : Type 0} (durable : S → Option Durable) (state : S → State) (may : S → Durable → Type 0) (r : Rules) (a b : StageNow S C) (t : ℕ) (is_read : C → C → Type 0) (next_reading : C → Option ℕ) (settling : Bool) (number : ℕ)
    → TargetTurned durable state may is_read next_reading settling t number a b → TellsOn r a b
target-tells-on durable state may r a b t is_read next_reading settling number k = record {
  in_turn = target-tells durable state may r a b t is_read next_reading settling number k;
  answers = target-goes-on durable state may r a b t is_read next_reading settling number k;
  ends = target-ends durable state may r a b t is_read next_reading settling number k;
}
