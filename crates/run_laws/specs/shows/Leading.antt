-- A whole turn of a target leads from a world that the actors show to one that they show then.
use Rattle.run_laws.specs.turns.Turns.{IsNumberNext}
use Rattle.run_laws.specs.turns.Drawn.{AreDrawn, next-fresh}
use Rattle.run_base.specs.Numbers.{next_aggregate}
use Rattle.std.specs.Prelude.{ℕ, ◌≡◌, List, slice_get, Bool, true, false, Option, Some, None, Ok, refl}
use Rattle.std.proofs.Common.{inl, inr, sym, ◌∙◌, ap, subst}
use Rattle.std.proofs.lemmas.Bool.{cases_eq}
use Rattle.daos_model.specs.declared.durable.Durable.{Durable}
use Rattle.run_base.specs.Letters.{BetweenNow, IsPicked}
use Rattle.run_base.specs.Picks.{count_to}
use Rattle.run_laws.specs.shows.Parts.{IsTurnSo, follow-shown, picked-takes, set-same, swept-shown, target-shown, target-there, IsThere}
use Rattle.run_laws.specs.shows.Shows.{IsLed, IsTargetOf, Leads, Shows}
use Rattle.run_laws.specs.shows.Stages.{IsPlace, StageNow}
use Rattle.run_laws.specs.shows.Turned.{ByHearing, ByIdling, IsTurned, followed, read_then, swept_stage, with_between, with_target_at}
use Rattle.run_laws.specs.turns.Readings.{read_for}
use Rattle.run_laws.specs.turns.Turns.{Doing}
use Rattle.target_core.specs.Targets as heard
use Rattle.target_core.specs.Targets.{Heard, TargetOf}
use Rattle.vos_store.specs.Calls.{State}
use Rattle.world_base.specs.declared.did.Did.{Did}
use Rattle.world_base.specs.declared.letter.Letter.{Letter}
use Rattle.world_base.specs.declared.target.Life.TheVariants.{Running}
use Rattle.world_base.specs.declared.target.TargetState.{TargetState}
use Rattle.world_base.specs.declared.world.World.{World}
use Rattle.world_base.specs.Changes.{Kept}
use Rattle.world_base.specs.Events.{ByTarget, Rules, ToTarget, after_turn, kept, target_after, target_plan, with_target}
use Rattle.world_base.specs.Further.{HearsFurther, KnowsNoneDown}
use Rattle.world_base.specs.Letters.{Takes, target}
use Rattle.world_base.specs.StepLaws.{set-there}
use Rattle.world_base.specs.Stops.{Further, IsNumberFresh, Plainly, swept}
use Rattle.world_base.specs.TargetTurns.{Hearing, Hears, IdlesWhole}

module _ {S C : Type 0} (durable : S → Option Durable) (state : S → State) (r : Rules) (t : ℕ) (x y : TargetOf S C) (a : StageNow S C) (did : Did) (place : IsPlace a t x Running) (plan : y.plan ≡ x.plan) (opened : y.opened ≡ true)
    (opening : (state y.store).opening ≡ (state x.store).opening) (running : (state y.store).stopped ≡ false) where
  -- the actors after this
  abbrev after : BetweenNow → StageNow S C
  after left = swept_stage (with_between (followed (target t) did left) (with_target_at t y a))

  module _ (found : ℕ → Durable) (w : World) (k : Shows durable state r found a w) (s : TargetState) (here : slice_get w.targets t ≡ Some s) (is : IsTargetOf durable state (target_plan r t) Running (found t) x s) (new : Durable) (told : durable y.store ≡ Some new) where
    abbrev kept' : Kept
    kept' = record { durable = new; free = (state y.store).free }

    abbrev s' : TargetState
    s' = target_after s kept' y.memory

    now : IsTargetOf durable state (target_plan r t) Running (found t) y s'
    now = record { made = plan ∙ is.made; lives = is.lives; so = record { told = told; free = refl; opening = opening ∙ is.so.opening; opened = opened; running = running; knows = refl } }

    shown : (left : BetweenNow) (rest : List Letter) → left.messages ≡ rest → left.asked ≡ a.between.asked → left.issued ≡ a.between.issued → left.lines ≡ a.between.lines
        → Shows durable state r found (after left) (swept (with_target t s' (after_turn w (target t) did rest)))
    shown left rest messages asked issued lines =
        swept-shown durable state r found _ _
        (target-shown durable state r found found (with_between (followed (target t) did left) a) a.watch t y Running (after_turn w (target t) did rest) s' (follow-shown durable state r found a w (target t) did left rest k messages asked issued lines)
        (set-same a.watch.lives t Running place.stands) refl now (λ u apart. refl))

    had : (d : Durable) → durable x.store ≡ Some d → record { durable = d; free = (state x.store).free } ≡ kept s
    had d is' =
        let same : d ≡ s.durable = let e : Some d ≡ Some s.durable = sym is' ∙ is.so.told in cc in
        ap (λ z. record { durable = z; free = (state x.store).free }) same ∙ ap (λ z. record { durable = s.durable; free = z }) is.so.free

    -- what it did by its own plan, opening, memory and store it did in the world
    in-world : (Turn : Hearing) (reading : ℕ) (l : Letter) (d : Durable) → durable x.store ≡ Some d → Turn x.plan (state x.store).opening x.memory reading l.from l.message (record { durable = d; free = (state x.store).free }) kept' (y.memory, did)
        → Turn (target_plan r t) s.opening s.memory reading l.from l.message (kept s) kept' (y.memory, did)
    in-world Turn reading l d is' turn =
        subst (λ m. Turn (target_plan r t) s.opening m reading l.from l.message (kept s) kept' (y.memory, did)) is.so.knows
        (subst (λ o. Turn (target_plan r t) o x.memory reading l.from l.message (kept s) kept' (y.memory, did)) is.so.opening
        (subst (λ p. Turn p (state x.store).opening x.memory reading l.from l.message (kept s) kept' (y.memory, did)) is.made
        (subst (λ q. Turn x.plan (state x.store).opening x.memory reading l.from l.message q kept' (y.memory, did)) (had d is') turn)))

    -- it heard a letter
    hearing : (settling : Bool) (number reading n : ℕ) (l : Letter) (rest : List Letter) (d : Durable) → durable x.store ≡ Some d → IsPicked a.between.messages (target t) number l rest → IsNumberNext w l.message n → IsNumberFresh w l.message n
        → Heard n x.plan (state x.store).opening x.memory reading l.from l.message (record { durable = d; free = (state x.store).free }) kept' (y.memory, did)
        → IsTurnSo settling r (target t) number 0 None None None (read_for t l.message reading) w (swept (with_target t s' (after_turn w (target t) did rest)))
    hearing settling number reading n l rest d is' picked next fresh (heard.Plainly none turn) = record {
      turn = Doing (record {
        event = record {
          u = with_target t s' (after_turn w (target t) did rest);
          happens = Plainly (ToTarget (record {
            t = t;
            s = s;
            new = kept';
            memory = y.memory;
            did = did;
            reading = reading;
            l = l;
            rest = rest;
            here = here;
            runs = is.lives;
            takes = subst (λ ls. Takes ls l rest) k.messages (picked-takes a.between.messages number l rest (target t) picked);
            to_it = picked.to_it;
            turn = in-world Hears reading l d is' turn;
            after = refl;
          })) (subst (λ p. KnowsNoneDown p s.memory l.message) is.made (subst (λ m. KnowsNoneDown x.plan m l.message) is.so.knows none));
          after = refl;
        };
        by = (refl, subst (λ ls. IsPicked ls (target t) number l rest) k.messages picked);
      }) tt;
      raised_is = refl;
      stops_is = refl;
      downs_is = refl;
      faults_is = refl;
      read_is = refl;
    }
    hearing settling number reading n l rest d is' picked next fresh (heard.Further turn) = record {
      turn = Doing (record {
        event = record {
          u = with_target t s' (after_turn w (target t) did rest);
          happens = Further (record {
            number = n;
            hears = record {
              t = t;
              s = s;
              new = kept';
              memory = y.memory;
              did = did;
              reading = reading;
              l = l;
              rest = rest;
              here = here;
              runs = is.lives;
              takes = subst (λ ls. Takes ls l rest) k.messages (picked-takes a.between.messages number l rest (target t) picked);
              to_it = picked.to_it;
              turn = in-world (HearsFurther n) reading l d is' turn;
              after = refl;
            };
            fresh = fresh;
          });
          after = refl;
        };
        by = (refl, subst (λ ls. IsPicked ls (target t) number l rest) k.messages picked, next);
      }) tt;
      raised_is = refl;
      stops_is = refl;
      downs_is = refl;
      faults_is = refl;
      read_is = refl;
    }

    -- it did its idle work
    idling : (settling : Bool) (number : ℕ) (d : Durable) → durable x.store ≡ Some d → count_to (target t) a.between.messages ≡ 0 → IdlesWhole settling x.plan x.memory (record { durable = d; free = (state x.store).free }) kept' (y.memory, did)
        → IsTurnSo settling r (target t) number 0 None None None None w (swept (with_target t s' (after_turn w (target t) did w.messages)))
    idling settling number d is' none turn = record {
      turn = Doing (record {
        event = record {
          u = with_target t s' (after_turn w (target t) did w.messages);
          happens = Plainly (ByTarget (record {
            settling = settling;
            t = t;
            s = s;
            new = kept';
            memory = y.memory;
            did = did;
            here = here;
            runs = is.lives;
            turn = subst (λ m. IdlesWhole settling (target_plan r t) m (kept s) kept' (y.memory, did)) is.so.knows
                (subst (λ p. IdlesWhole settling p x.memory (kept s) kept' (y.memory, did)) is.made (subst (λ q. IdlesWhole settling x.plan x.memory q kept' (y.memory, did)) (had d is') turn));
            after = refl;
          })) tt;
          after = refl;
        };
        by = (refl, ap (count_to (target t)) (sym k.messages) ∙ none, refl);
      }) tt;
      raised_is = refl;
      stops_is = refl;
      downs_is = refl;
      faults_is = refl;
      read_is = refl;
    }

  -- a whole turn leads so, whatever is found of other stores
  pub turn-leads : (may : S → Durable → Type 0) (settling : Bool) (number : ℕ) (left : BetweenNow) (turned : IsTurned durable state may settling t number x y a.between left (Ok did)) → Leads durable state may (IsTurnSo settling r (target t) number 0 None None None (read_then durable state may turned)) r a (after left)
  turn-leads may settling number left turned found are = record {
    before = found;
    were = λ u z life p rests. old u z life p rests;
    led = λ w reached k. led w reached.drawn k (target-there durable state r found a w t x Running k place) turned;
  }
    where
      old : (u : ℕ) (z : TargetOf S C) (life : _) → IsPlace a u z life → (life ≡ Running → ⊥) → may z.store (found u)
      old u z life p rests = elim (cases_eq u t) [
        | inl same ↦ absurd (rests (let e : Some life ≡ Some Running = sym p.stands ∙ subst (λ v. slice_get a.watch.lives v ≡ Some Running) (sym same) place.stands in cc))
        | inr apart ↦ are u z life (record { there = set-there a.targets t u y apart ∙ p.there; stands = p.stands }) rests
      ]

      led : (w : World) → AreDrawn w → Shows durable state r found a w → IsThere durable state r found w t x Running → (k : IsTurned durable state may settling t number x y a.between left (Ok did)) → IsLed durable state (IsTurnSo settling r (target t) number 0 None None None (read_then durable state may k)) r found w (after left)
      led w drawn k s (ByHearing l rest reading picked left_is few turn) =
          let n = turn (next_aggregate a.between.lines) (λ asks. refl) s.s.durable s.is.so.told in
          record {
            next = swept (with_target t (s' found w k s.s s.here s.is n.durable n.kept_is) (after_turn w (target t) did rest));
            turn = hearing found w k s.s s.here s.is n.durable n.kept_is settling number reading (next_aggregate a.between.lines) l rest s.s.durable s.is.so.told picked
                (λ asks. ap next_aggregate k.lines) (next-fresh w a.between.lines l.message drawn k.lines few) n.holds;
            shows = shown found w k s.s s.here s.is n.durable n.kept_is left rest (ap (λ b. b.messages) left_is) (ap (λ b. b.asked) left_is) (ap (λ b. b.issued) left_is) (ap (λ b. b.lines) left_is);
          }
      led w drawn k s (ByIdling none left_is turn) =
          let n = turn s.s.durable s.is.so.told in
          record {
            next = swept (with_target t (s' found w k s.s s.here s.is n.durable n.kept_is) (after_turn w (target t) did w.messages));
            turn = idling found w k s.s s.here s.is n.durable n.kept_is settling number s.s.durable s.is.so.told none n.holds;
            shows = shown found w k s.s s.here s.is n.durable n.kept_is left w.messages (ap (λ b. b.messages) left_is ∙ k.messages) (ap (λ b. b.asked) left_is) (ap (λ b. b.issued) left_is) (ap (λ b. b.lines) left_is);
          }
