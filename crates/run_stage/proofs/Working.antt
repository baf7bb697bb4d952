-- What an actor heard in its turn.
use Rattle.std.specs.Prelude.{ℕ, ◌≡◌, Bool, true, List, slice_set, Option, Result, Ok, Err, IfOk, OnErr, OnOk}
use Rattle.std.proofs.Common.{◌∙◌, ap, subst}
use Rattle.base_messages.specs.declared.actor.ActorId.{ActorId}
use Rattle.base_types.specs.declared.epoch.Epoch.{Epoch}
use Rattle.base_types.specs.declared.id.AttemptId.{AttemptId}
use Rattle.base_types.specs.declared.report.Line.{Line}
use Rattle.run_laws.specs.client_core.Clients.{ClientNow}
use Rattle.daos_model.specs.declared.durable.Durable.{Durable}
use Rattle.run_base.specs.Letters.{BetweenNow, IsPicked}
use Rattle.run_laws.specs.shows.Ends.{LettersGoWith}
use Rattle.run_laws.specs.shows.Kinds.{TurnsOnce}
use Rattle.run_laws.specs.world_ended.Asking.{Asked, TurnsEndAsked}
use Rattle.run_laws.specs.shows.Stages.{IsPlace, StageNow}
use Rattle.run_laws.specs.shows.Steps.{ClientWorks, Cut, HasWorked, HeardOne, InWork, TargetBroke, TargetWorked, Whole, WorkEnds}
use Rattle.run_laws.specs.shows.Turned.{AfterCut, HasTurned, followed, swept_stage, with_between, with_target_at}
use Rattle.run_laws.specs.target_core.Targets.{TargetOf}
use Rattle.run_laws.specs.target_parts.Parts.{Runs}
use Rattle.run_laws.specs.target_snaps.Following.{TellsNoAttempt}
use Rattle.run_laws.specs.target_parts.Readings.{IsReadOn}
use Rattle.run_laws.specs.target_parts.Stops.{stop_store}
use Rattle.run_laws.specs.target_parts.declared.stop.TargetStop.{TargetStop}
use Rattle.vos_store.specs.Calls.{State}
use Rattle.world_base.specs.declared.did.Did.{Did}
use Rattle.world_base.specs.declared.letter.Letter.{Letter}
use Rattle.world_base.specs.declared.target.Life.TheVariants.{Running}
use Rattle.world_base.specs.ClientTurns.{HearTurn}
use Rattle.world_base.specs.Letters.{client, target}
use Rattle.run_laws.specs.world_contents.posts.Forms.{TurnsPostInForm}

abbrev between : List Letter → List Letter → List (AttemptId × Epoch) → List Line → BetweenNow
between messages asked issued lines = record { messages = messages; asked = asked; issued = issued; lines = lines }

-- where nothing else changed that lies between actors, only messages did
pub only-messages : (b left : BetweenNow) → left.asked ≡ b.asked → left.issued ≡ b.issued → left.lines ≡ b.lines → left ≡ record b { messages = left.messages }
only-messages b left asked issued lines =
    ap (λ z. between left.messages z left.issued left.lines) asked
    ∙ ap (λ z. between left.messages b.asked z left.lines) issued
    ∙ ap (λ z. between left.messages b.asked b.issued z) lines

-- a client that is awake heard a letter
pub heard-one : {E : Type 0} (result : Result Did E) (n number : ℕ) (c d : ClientNow) (b left : BetweenNow) (l : Letter) → c.state.skip ≡ 0 → IsPicked b.messages (client n) number l left.messages → left ≡ record b { messages = left.messages }
    → IfOk result (λ did. HearTurn c.plan c.state l.message did d.state) → IfOk result (ClientWorks n number c d b left)
heard-one (Ok did) n number c d b left l awake picked only turn = HeardOne l left.messages awake picked only turn
heard-one (Err e) n number c d b left l awake picked only turn = tt

module _ {S C : Type 0} (durable : S → Option Durable) (state : S → State) (may : S → Durable → Type 0) (is_read : C → C → Type 0) (next_reading : C → Option ℕ) (settling : Bool) (t number : ℕ) (x y : TargetOf S C) (left : BetweenNow) (said : Result Did TargetStop) (a b : StageNow S C)
    (place : IsPlace a t x Running) (plan : y.plan ≡ x.plan) (opened : y.opened ≡ true) (runs : Runs stop_store said (state x.store) (state y.store) (durable x.store) (durable y.store)) (told : TellsNoAttempt said) (clock : IsReadOn is_read x.clock y.clock)
    (posts : IfOk said (λ did. TurnsPostInForm x.plan.targets x.memory y.memory did.posts)) (once : IfOk said (TurnsOnce a.between left x.memory.member y.memory.member))
    (ends-so : (asked : Asked) → LettersGoWith asked a.between.messages → IfOk said (λ did. TurnsEndAsked asked x.memory y.memory did.posts)) (came : HasTurned durable state may is_read next_reading settling t number x y a.between left said) where
  abbrev has-worked : HasWorked durable state may is_read next_reading settling t number a
  has-worked = record { before = x; now = y; left = left; result = said; place = place; plan = plan; opened = opened; runs = runs; told = told; clock = clock; posts = posts; once = once; ends = ends-so; came = came }

  worked : WorkEnds durable state may t x y left a b said → TargetWorked durable state may is_read next_reading settling t number a b
  worked ends = record { work = has-worked; ends = ends }

  -- the turn of a target that runs was whole
  pub worked-whole : {E : Type 0} (result : Result (Unit {0}) E) (did : Did) (name : ActorId) → said ≡ Ok did → name ≡ target t → OnOk result (b ≡ swept_stage (with_between (followed name did left) (with_target_at t y a)))
      → OnOk result (TargetWorked durable state may is_read next_reading settling t number a b)
  worked-whole (Ok u) did name is named came = worked (Whole did is (subst (λ z. b ≡ swept_stage (with_between (followed z did left) (with_target_at t y a))) named came))
  worked-whole (Err e) did name is named came = tt

  -- or it was cut
  pub worked-cut : {E : Type 0} (result : Result (Unit {0}) E) (stop : TargetStop) (before : ℕ) → said ≡ Err stop → before ≡ (state x.store).faults → OnOk result (AfterCut t before (state y.store).faults stop (with_between left (with_target_at t y a)) b)
      → OnOk result (TargetWorked durable state may is_read next_reading settling t number a b)
  worked-cut (Ok u) stop before is counted came = worked (Cut stop is (subst (λ n. AfterCut t n (state y.store).faults stop (with_between left (with_target_at t y a)) b) counted came))
  worked-cut (Err e) stop before is counted came = tt

  -- or memory was wanting for what came of it
  pub work-broke : {E : Type 0} (result : Result (Unit {0}) E) → b.targets ≡ slice_set a.targets t y → OnErr result (TargetBroke durable state may is_read next_reading settling t number a b.targets)
  work-broke (Ok u) left-so = tt
  work-broke (Err e) left-so = InWork has-worked left-so
