-- What a turn of any actor leads to, and that a target can have its turn.
use Rattle.world_closing.specs.Below.{IsCovered, all-runs-are_covered, begins-well}
use Rattle.std.specs.Prelude.{ℕ, ◌≡◌, ◌<◌, ◌+◌, ◌^◌, Bool, IfOk, slice_get, Option, Some, is_some, Err}
use Rattle.std.proofs.Common.{sym, ◌∙◌, ap, subst, arith}
use Rattle.daos_model.specs.declared.durable.Durable.{Durable}
use Rattle.run_laws.specs.shows.CanGo.{CanGo, CanTurn}
use Rattle.run_laws.specs.shows.Going.{AreAlike, AreFindable, found-with, some-found}
use Rattle.run_laws.specs.shows.Ends.{TellsOn}
use Rattle.run_laws.specs.shows.EndsLaws.{client-tells-on, target-tells-on}
use Rattle.run_laws.specs.shows.Parts.{target-there}
use Rattle.run_laws.specs.shows.Reopening.{choosing, chosen}
use Rattle.run_laws.specs.shows.Serving.{served-by-runs}
use Rattle.run_laws.specs.shows.Stages.{StageNow}
use Rattle.run_laws.specs.shows.Steps.{ClientTurned, ClientWorks, Cut, HeardOne, Reopened, TargetTurned, TargetWorked, WentOn, Whole, WorkEnds, Worked}
use Rattle.run_laws.specs.shows.Turned.{HasTurned, followed, swept_stage, with_between, with_client_at}
use Rattle.run_laws.specs.steps.Going.{AllTell, GoesOn}
use Rattle.run_laws.specs.steps.Hearing.{hearable}
use Rattle.run_laws.specs.steps.Openings.{reopening-goes}
use Rattle.run_laws.specs.steps.Turnings.{client-heard-done, client-went-done, cut-done, whole-done}
use Rattle.run_laws.specs.steps.Ways.{turn_of}
use Rattle.target_core.specs.Targets.{TargetOf}
use Rattle.run_opening.specs.target_parts.Knowing.{IsHeard}
use Rattle.run_opening.specs.target_parts.Parts.{Runs}
use Rattle.run_opening.specs.target_parts.Stops.{stop_store}
use Rattle.vos_store.specs.Calls.{State}
use Rattle.vos_store.specs.Refusals.{says}
use Rattle.world_base.specs.declared.target.Life.TheVariants.{Stopped}
use Rattle.world_base.specs.Events.{Rules}
use Rattle.world_base.specs.Letters.{client, target}
use Rattle.run_opening.specs.world_contents.posts.Forms.{TurnsPostInForm}

module _ {S C : Type 0} (durable : S → Option Durable) (state : S → State) (may : S → Durable → Type 0) where
  module _ (is_read : C → C → Type 0) (next_reading : C → Option ℕ) (findable : AreFindable durable may) (alike : AreAlike durable) (a b : StageNow S C) (can : CanGo durable state may a) where
    -- a client's turn
    pub client-turn-goes : (n number : ℕ) → ClientTurned n number a b → (settling : Bool) → GoesOn durable state may is_read next_reading (turn_of settling (client n) number) a b
    client-turn-goes n number k settling = subst (λ s. GoesOn durable state may is_read next_reading (turn_of settling (client n) number) a s) (sym k.after) (by k.works)
      where
        tells : (r : Rules) → TellsOn r a (swept_stage (with_between (followed (client n) k.did k.left) (with_client_at n k.now a)))
        tells r = subst (TellsOn r a) k.after (client-tells-on r n number a b k)

        by : ClientWorks n number k.before k.now a.between k.left k.did → GoesOn durable state may is_read next_reading (turn_of settling (client n) number) a (swept_stage (with_between (followed (client n) k.did k.left) (with_client_at n k.now a)))
        by (HeardOne l rest awake picked left turn) =
            client-heard-done durable state may is_read next_reading findable alike a can n k.before k.now k.did k.left k.here k.plan (ap (λ q. q.asked) left) (ap (λ q. q.issued) left) (ap (λ q. q.lines) left) settling number l rest awake picked (ap (λ q. q.messages) left) turn tells
        by (WentOn none left turn) =
            client-went-done durable state may is_read next_reading findable alike a can n k.before k.now k.did k.left k.here k.plan (ap (λ q. q.asked) left) (ap (λ q. q.issued) left) (ap (λ q. q.lines) left) settling number none (ap (λ q. q.messages) left) turn tells

    module _ (settling : Bool) (t number : ℕ) where
      pub worked-goes : TargetWorked durable state may is_read next_reading settling t number a b → GoesOn durable state may is_read next_reading (turn_of settling (target t) number) a b
      worked-goes k = by k.ends
        where
          tells : (r : Rules) → TellsOn r a b
          tells r = target-tells-on durable state may r a b t is_read next_reading settling number (Worked k)

          by : WorkEnds durable state may t k.work.before k.work.now k.work.left a b k.work.result → GoesOn durable state may is_read next_reading (turn_of settling (target t) number) a b
          by (Whole did is after) =
              subst (λ s. GoesOn durable state may is_read next_reading (turn_of settling (target t) number) a s) (sym after)
              (whole-done durable state may is_read next_reading findable alike a can t k.work.before k.work.now k.work.place k.work.plan (served-by-runs stop_store k.work.result (state k.work.before.store) (state k.work.now.store) (durable k.work.before.store) (durable k.work.now.store) k.work.runs) k.work.clock did k.work.left k.work.opened
              (subst (λ q. Runs stop_store q (state k.work.before.store) (state k.work.now.store) (durable k.work.before.store) (durable k.work.now.store)) is k.work.runs)
              (subst (λ q. IfOk q (λ d. TurnsPostInForm k.work.before.plan.targets k.work.before.memory k.work.now.memory d.posts)) is k.work.posts) settling number
              (subst (HasTurned durable state may is_read next_reading settling t number k.work.before k.work.now a.between k.work.left) is k.work.came) (λ r. subst (TellsOn r a) after (tells r)))
          by (Cut why is after) =
              let cut = is ∙ ap Err after.cut in
              cut-done durable state may is_read next_reading findable alike a can t k.work.before k.work.now k.work.place k.work.plan (served-by-runs stop_store k.work.result (state k.work.before.store) (state k.work.now.store) (durable k.work.before.store) (durable k.work.now.store) k.work.runs) k.work.clock k.work.left after.issued after.lines k.work.runs.fuse
              (k.work.runs.cause (ap (says stop_store) cut)) b settling number (subst (HasTurned durable state may is_read next_reading settling t number k.work.before k.work.now a.between k.work.left) cut k.work.came) after.after tells

      -- a target's turn
      pub target-turn-goes : TargetTurned durable state may is_read next_reading settling t number a b → GoesOn durable state may is_read next_reading (turn_of settling (target t) number) a b
      target-turn-goes (Worked k) = worked-goes k
      target-turn-goes (Reopened k) = reopening-goes durable state may is_read next_reading findable alike a b can settling t number k

  -- ---- a target can have its turn

  module _ (findable : AreFindable durable may) (alike : AreAlike durable) (a : StageNow S C) (can : CanGo durable state may a) (t : ℕ) (x : TargetOf S C) (at : slice_get a.targets t ≡ Some x) where
    tells : (d : Durable) (z : TargetOf S C) → durable z.store ≡ Some d → AllTell durable
    tells d z told s = alike z.store s (ap is_some told)

    counted : (stopped : slice_get a.watch.lives t ≡ Some Stopped) (d : Durable) → durable x.store ≡ Some d → (e : Durable) → may x.store e → e.incarnation + 1 < 2 ^ 64
    counted stopped d told e m =
        let g = can.told t x d at told in
        let most = g.counted t x Stopped (record { there = at; stands = stopped }) e m in
        let few = can.openings in
        omega (arith, most, few)

    covered : (stopped : slice_get a.watch.lives t ≡ Some Stopped) (d : Durable) → durable x.store ≡ Some d → (e : Durable) → may x.store e → IsHeard e.lease e
    covered stopped d told e m =
        let g = can.told t x d at told in
        let all = tells d x told in
        let found = choosing t e (some-found durable state may findable a (λ z. all z.store)) in
        let y = g.reached found (found-with durable state may findable a (λ z. all z.store) t x e at m) in
        let s = target-there durable state g.rules found a y.now t x Stopped y.shows (record { there = at; stands = stopped }) in
        let same : s.s.durable ≡ e = s.is.so.keeps ∙ chosen t e (some-found durable state may findable a (λ z. all z.store)) in
        record { versions = subst (λ k. IsCovered k) same (all-runs-are_covered g.rules g.opening g.first y.now g.begins.form (begins-well g.rules g.opening g.first g.begins.begins) y.run t s.s s.here).versions; leased = omega arith }

    -- it can: it hears what it is to hear, and what may be found of it where it is stopped is counted and covered
    pub can-turn : (number : ℕ) → CanTurn durable state may a t number x
    can-turn number = record {
      opened = λ runs. (can.work t x (record { there = at; stands = runs })).opened;
      running = λ runs. (can.work t x (record { there = at; stands = runs })).running;
      hears = λ runs l rest picked. hearable durable state may a can t number l rest picked findable tells x (record { there = at; stands = runs });
      counted = λ stopped d told e m. counted stopped d told e m;
      covered = λ stopped d told e m. covered stopped d told e m;
    }
