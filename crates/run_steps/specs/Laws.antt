-- A beginning is kept turn by turn.
use Rattle.std.specs.Prelude.{ℕ, ◌≡◌, ◌≤◌, Bool, true, false, List, [], length, Option, refl}
use Rattle.std.proofs.Common.{sym, ◌∙◌, ap, arith}
use Rattle.base_messages.specs.declared.actor.ActorId.{ActorId}
use Rattle.daos_model.specs.declared.durable.Durable.{Durable}
use Rattle.daos_model.specs.Durables.{empty_durable}
use Rattle.daos_model.specs.FormLaws.{length-map}
use Rattle.daos_model.specs.Opening.{Opening}
use Rattle.run_base.specs.Quiet.{quiet-has-ended}
use Rattle.run_laws.specs.shows.Beginning.{RunBegins}
use Rattle.run_laws.specs.shows.Broken.{BreaksOff, MayBeFoundOf, breaks-here}
use Rattle.run_laws.specs.shows.CanGo.{CanGo}
use Rattle.run_laws.specs.shows.Due.{AllAreDue}
use Rattle.run_laws.specs.shows.Going.{AreAlike, AreFindable, AreSteady, found-some, some-found}
use Rattle.run_laws.specs.shows.Shown.{due-shown}
use Rattle.run_laws.specs.shows.Shows.{IsReached, Shows, WasReached}
use Rattle.run_laws.specs.shows.Stages.{AreFound, StageNow}
use Rattle.run_laws.specs.shows.Steps.{ClientTurned, TargetBroke, TargetTurned}
use Rattle.run_laws.specs.steps.Breaking.{target-turn-breaks}
use Rattle.run_laws.specs.steps.Ended.{begun-tell}
use Rattle.run_laws.specs.steps.Going.{GoesOn, IsRun}
use Rattle.run_laws.specs.steps.Steps.{client-turn-goes, target-turn-goes}
use Rattle.run_laws.specs.turns.Drawn.{AreDrawn, turn-runs-on}
use Rattle.run_laws.specs.turns.Staying.{events-stay}
use Rattle.run_laws.specs.steps.Ways.{Way, turn_of}
use Rattle.run_steps.specs.Froms.{HasComeTo, HasEndedFrom, IsFrom, KeepsGoing}
use Rattle.run_laws.specs.target_core.Targets.{TargetOf}
use Rattle.vos_store.specs.Calls.{State}
use Rattle.world_base.specs.declared.world.World.{World}
use Rattle.world_base.specs.Events.{Rules}
use Rattle.world_base.specs.Letters.{client, target}
use Rattle.world_base.specs.Stops.{Begins, Goes, WorldRun}

-- as many clients are there all along a run
clients-stay : (r : Rules) (w v : World) → WorldRun r w v → length v.clients ≡ length w.clients
clients-stay r w v Begins = refl
clients-stay r w v (Goes u x run event) = (events-stay r u x event).clients ∙ clients-stay r w u run

-- a turn of an actor is a run of events
turns-run : (settling : Bool) (actor : ActorId) (number : ℕ) → IsRun (turn_of settling actor number)
turns-run settling actor number r w v turn = turn-runs-on settling r actor number w v turn

module _ {S C : Type 0} (durable : S → Option Durable) (state : S → State) (may : S → Durable → Type 0) where
  -- ---- at the beginning

  -- the actors are those of a run that has just begun
  pub from-first : AreAlike durable → (r : Rules) (o : Opening) (first : World) (a : StageNow S C) → RunBegins r o first → AreDrawn first → ((found : ℕ → Durable) → Shows durable state r found a first) → IsFrom durable state may r o first a
  from-first alike r o first a begins drawn shows = record {
    begins = begins;
    told = let any = (λ (t : ℕ). empty_durable 0) in begun-tell durable state alike r o first any a begins (shows any);
    reached = λ found are. record { now = first; run = Begins; drawn = drawn; shows = shows found };
  }

  -- ---- of actors with this beginning

  module _ (r : Rules) (o : Opening) (first : World) (a : StageNow S C) (k : IsFrom durable state may r o first a) where
    was : (found : ℕ → Durable) → (y : IsReached durable state may r first found a) → WasReached r y.now
    was found y = record { opening = o; first = first; begins = k.begins; run = y.run; drawn = y.drawn }

    -- there is something that stores would be found with
    pub some-choice : AreFindable durable may → (found : ℕ → Durable) × AreFound may a found
    some-choice findable = let all = (λ (x : TargetOf S C). k.told x.store) in (some-found durable state may findable a all, found-some durable state may findable a all)

    -- where none has anything to do any more, the run has ended
    pub ends-from : AllAreDue durable state true a [] → (found : ℕ → Durable) → AreFound may a found → HasEndedFrom durable state may r first found a
    ends-from quiet found are =
        let y = k.reached found are in
        let lists : length first.clients ≡ length r.script.clients = ap length k.begins.begins.clients ∙ length-map _ r.script.clients in
        record { reached = y; ended = quiet-has-ended r y.now (clients-stay r first y.now y.run ∙ lists) (sym (due-shown durable state r found a y.now y.shows true [] quiet)) }

    -- turns that go on lead to actors with the same beginning
    pub from-on : (is_read : C → C → Type 0) (next_reading : C → Option ℕ) (way : Way) (b : StageNow S C) → IsRun way → GoesOn durable state may is_read next_reading way a b → IsFrom durable state may r o first b
    from-on is_read next_reading way b runs goes = record {
      begins = k.begins;
      told = k.told;
      reached = λ found are.
          let z = goes.led k.told r found are in
          let y = k.reached z.before z.were in
          let l = z.led y.now (was z.before y) y.shows in
          let on = runs r y.now l.next l.turn.goes in
          record { now = l.next; run = on.run first y.run; drawn = on.drawn y.drawn; shows = l.shows };
    }

    -- where they broke off, a run from the beginning has come to what is found
    pub come-to : (xs : List (TargetOf S C)) → BreaksOff durable state may r a xs → (found : ℕ → Durable) → MayBeFoundOf durable state may xs found → HasComeTo r first (length xs) found
    come-to xs breaks found m =
        let z = breaks found m in
        let y = k.reached z.before z.were in
        let e = z.led y.now (was z.before y) y.shows in
        record { last = e.last; run = e.run first y.run; many = e.many; keeps = e.keeps }

    -- between turns
    pub come-between : AreSteady durable state may → (found : ℕ → Durable) → MayBeFoundOf durable state may a.targets found → HasComeTo r first (length a.targets) found
    come-between steady = come-to a.targets (breaks-here durable state may steady r a)

  -- ---- turns

  -- there are few targets
  pub few-targets : (a : StageNow S C) → CanGo durable state may a → length a.targets ≤ 64
  few-targets a can = let many = can.many in let most = can.form.few_targets in omega (arith, many, most)

  module _ (is_read : C → C → Type 0) (next_reading : C → Option ℕ) where
    -- what goes on keeps all that is said of any stores
    pub keeps-on : (way : Way) (a b : StageNow S C) → GoesOn durable state may is_read next_reading way a b → KeepsGoing durable state may is_read a b
    keeps-on way a b goes = record { can = goes.going; clients = goes.clients; served = goes.served; accounts = goes.accounts; tells = goes.tells }

    module _ (findable : AreFindable durable may) (alike : AreAlike durable) (a : StageNow S C) (can : CanGo durable state may a) where
      module _ (b : StageNow S C) where
        module _ (n number : ℕ) (turned : ClientTurned n number a b) where
          client-goes : GoesOn durable state may is_read next_reading (turn_of false (client n) number) a b
          client-goes = client-turn-goes durable state may is_read next_reading findable alike a b can n number turned false

          -- a client's turn
          pub client-keeps : KeepsGoing durable state may is_read a b
          client-keeps = keeps-on (turn_of false (client n) number) a b client-goes

          pub client-from : (r : Rules) (o : Opening) (first : World) → IsFrom durable state may r o first a → IsFrom durable state may r o first b
          client-from r o first k = from-on r o first a k is_read next_reading (turn_of false (client n) number) b (turns-run false (client n) number) client-goes

        module _ (settling : Bool) (t number : ℕ) (turned : TargetTurned durable state may is_read next_reading settling t number a b) where
          target-goes : GoesOn durable state may is_read next_reading (turn_of settling (target t) number) a b
          target-goes = target-turn-goes durable state may is_read next_reading findable alike a b can settling t number turned

          -- a target's turn
          pub target-keeps : KeepsGoing durable state may is_read a b
          target-keeps = keeps-on (turn_of settling (target t) number) a b target-goes

          pub target-from : (r : Rules) (o : Opening) (first : World) → IsFrom durable state may r o first a → IsFrom durable state may r o first b
          target-from r o first k = from-on r o first a k is_read next_reading (turn_of settling (target t) number) b (turns-run settling (target t) number) target-goes

      -- one in which memory was wanting
      pub come-in_turn : AreSteady durable state may → (settling : Bool) (t number : ℕ) (xs : List (TargetOf S C)) → TargetBroke durable state may is_read next_reading settling t number a xs → (r : Rules) (o : Opening) (first : World) → IsFrom durable state may r o first a → (found : ℕ → Durable)
          → MayBeFoundOf durable state may xs found → HasComeTo r first (length xs) found
      come-in_turn steady settling t number xs broke r o first k = come-to r o first a k xs (target-turn-breaks durable state may is_read next_reading steady findable alike a can settling t number xs broke k.told r)
