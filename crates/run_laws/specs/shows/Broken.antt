-- Where a run broke off for want of memory.
use Rattle.run_laws.specs.turns.Drawn.{AreDrawn, next-fresh}
use Rattle.run_base.specs.Numbers.{next_aggregate}
use Rattle.run_laws.specs.turns.Drawn.{RunsOn}
use Rattle.std.specs.Prelude.{ℕ, ◌≡◌, false, Bool, List, [], length, slice_get, slice_set, Option, Some, None, Err, refl}
use Rattle.std.proofs.Common.{inl, inr, sym, ◌∙◌, ap, subst}
use Rattle.std.proofs.Math.ListN.{set}
use Rattle.std.proofs.lemmas.Bool.{cases_eq}
use Rattle.daos_model.specs.declared.durable.Durable.{Durable}
use Rattle.run_base.specs.Letters.{BetweenNow}
use Rattle.target_core.specs.Targets.{TargetOf}
use Rattle.run_opening.specs.target_parts.declared.stop.TargetStop.TheVariants as stop
use Rattle.vos_store.specs.Calls.{State}
use Rattle.world_base.specs.declared.target.Life.{Life}
use Rattle.world_base.specs.declared.target.Life.TheVariants.{Down, Running, Stopped}
use Rattle.world_base.specs.declared.target.TargetState.{TargetState}
use Rattle.world_base.specs.declared.world.World.{World}
use Rattle.world_base.specs.CutTurns.{Cutting}
use Rattle.world_base.specs.Events.{Rules, target_plan}
use Rattle.world_base.specs.Letters.{Takes, target}
use Rattle.world_base.specs.StepLaws.{set-is, set-there}
use Rattle.world_base.specs.Stops.{AtWork, CutOf, Goes, Hearing, IdleWork, IsCut, IsInHand, WorldRun, after_cut, stopped_at, swept}
use Rattle.run_laws.specs.shows.Going.{AreSteady}
use Rattle.run_laws.specs.shows.ListLaws.{length-set}
use Rattle.run_laws.specs.shows.Parts.{IsThere, at-both, is-set, picked-takes, place-of, target-there}
use Rattle.run_laws.specs.shows.Shows.{IsTargetOf, Leads, Shows, WasReached}
use Rattle.run_laws.specs.shows.Stages.{AreFound, IsPlace, StageNow}
use Rattle.run_laws.specs.shows.Stopping.{hearing-in-world, idling-in-world}
use Rattle.run_laws.specs.shows.Turned.{ByHearing, ByIdling, IsTurned}

-- ---- the statements

-- From a world a run has come to one of so many targets that keep this.
pub record HasBrokenOff (r : Rules) (w : World) (n : ℕ) (found : ℕ → Durable) : Type 0 where
  pub last : World
  pub run : (first : World) → WorldRun r first w → WorldRun r first last
  pub many : length last.targets ≡ n
  pub keeps : (t : ℕ) (s : TargetState) → slice_get last.targets t ≡ Some s → s.durable ≡ found t

-- what leads from one world to another goes on a run
abbrev pub GoesOnRuns : (World → World → Type 0) → Rules → Type 0
GoesOnRuns T r = (w v : World) → T w v → RunsOn r w v

module _ {S C : Type 0} (durable : S → Option Durable) (state : S → State) (may : S → Durable → Type 0) where
  -- the next openings of these targets' stores may find this
  abbrev pub MayBeFoundOf : List (TargetOf S C) → (ℕ → Durable) → Type 0
  MayBeFoundOf xs found = (t : ℕ) (x : TargetOf S C) → slice_get xs t ≡ Some x → may x.store (found t)

  -- what was to be found before, so that the targets keep what is found of these now
  pub record IsBrokenFrom (r : Rules) (a : StageNow S C) (xs : List (TargetOf S C)) (found : ℕ → Durable) : Type 0 where
    pub before : ℕ → Durable
    pub were : AreFound may a before
    pub led : (w : World) → WasReached r w → Shows durable state r before a w → HasBrokenOff r w (length xs) found

  -- A run broke off, and left these targets: from each world that it had reached before and the actors showed, a run has come to one whose targets keep
  -- what the next openings find, whatever that is.
  abbrev pub BreaksOff : Rules → StageNow S C → List (TargetOf S C) → Type 0
  BreaksOff r a xs = (found : ℕ → Durable) → MayBeFoundOf xs found → IsBrokenFrom r a xs found

  -- ---- what is shown

  module _ (steady : AreSteady durable state may) where
    -- a target that is shown keeps what may be found of it
    keeps-found : (r : Rules) (found : ℕ → Durable) (a : StageNow S C) (w : World) (t : ℕ) (x : TargetOf S C) (s : TargetState) → Shows durable state r found a w → slice_get a.targets t ≡ Some x → slice_get w.targets t ≡ Some s → may x.store (found t)
        → s.durable ≡ found t
    keeps-found r found a w t x s shows at here may-be =
        let p = place-of durable state r found a w t x shows at in
        by p.0 (shows.targets t x p.0 s p.1 here)
      where
        by : (life : Life) → IsTargetOf durable state (target_plan r t) life (found t) x s → s.durable ≡ found t
        by Running is = sym (steady x.store s.durable (found t) is.so.running is.so.told may-be)
        by Stopped is = is.so.keeps
        by Down is = is.so.keeps

    -- ---- between turns

    -- it broke off where the actors show a world
    pub breaks-here : (r : Rules) (a : StageNow S C) → BreaksOff r a a.targets
    breaks-here r a found m = record {
      before = found;
      were = λ t x life p rests. m t x p.there;
      led = λ w reached shows. record {
        last = w;
        run = λ first run. run;
        many = shows.many;
        keeps = λ t s here. let x = at-both w.targets a.targets t s (sym shows.many) here in keeps-found r found a w t x.0 s shows x.1 here (m t x.0 x.1);
      };
    }

    -- some turns, and then it broke off
    pub breaks-then : (T : World → World → Type 0) (r : Rules) (a b : StageNow S C) (xs : List (TargetOf S C)) → GoesOnRuns T r → Leads durable state may T r a b → BreaksOff r b xs → BreaksOff r a xs
    breaks-then T r a b xs runs leads breaks found m =
        let y = breaks found m in
        let z = leads y.before y.were in
        record {
          before = z.before;
          were = z.were;
          led = λ w reached shows.
              let n = z.led w reached shows in
              let on = runs w n.next n.turn in
              let e = y.led n.next (record { opening = reached.opening; first = reached.first; begins = reached.begins; run = on.run reached.first reached.run; drawn = on.drawn reached.drawn }) n.shows in
              record { last = e.last; run = λ first run. e.run first (on.run first run); many = e.many; keeps = e.keeps };
        }

    -- a whole turn, of which what followed didn't come about
    pub breaks-after : (T : World → World → Type 0) (r : Rules) (a b : StageNow S C) → GoesOnRuns T r → Leads durable state may T r a b → BreaksOff r a b.targets
    breaks-after T r a b runs leads = breaks-then T r a b b.targets runs leads (breaks-here r b)

    -- ---- in a turn

    module _ (r : Rules) (t : ℕ) (x y : TargetOf S C) (a : StageNow S C) (place : IsPlace a t x Running) (plan : y.plan ≡ x.plan) (running : (state y.store).stopped ≡ false) where
      module _ (found : ℕ → Durable) (m : MayBeFoundOf (slice_set a.targets t y) found) where
        were-found : AreFound may a found
        were-found u z life p rests = elim (cases_eq u t) [
          | inl same ↦ absurd (rests (let e : Some life ≡ Some Running = sym p.stands ∙ subst (λ v. slice_get a.watch.lives v ≡ Some Running) (sym same) place.stands in cc))
          | inr apart ↦ m u z (set-there a.targets t u y apart ∙ p.there)
        ]

        module _ (w : World) (k : Shows durable state r found a w) (s : TargetState) (here : slice_get w.targets t ≡ Some s) (cut : Cutting) (kept : durable y.store ≡ Some cut.left.durable) where
          own : cut.left.durable ≡ found t
          own = sym (steady y.store cut.left.durable (found t) running kept (m t y (is-set a.targets t x y place.there)))

          keeps : (u : ℕ) (z : TargetState) → slice_get (set w.targets t (stopped_at s cut.left)) u ≡ Some z → z.durable ≡ found u
          keeps u z at = elim (cases_eq u t) as (λ c. z.durable ≡ found u) [
            | inl same ↦
                (let is : stopped_at s cut.left ≡ z = set-is w.targets t (stopped_at s cut.left) z (subst (λ n. slice_get (set w.targets t (stopped_at s cut.left)) n ≡ Some z) same at) in
                ap (λ q. q.durable) (sym is) ∙ own ∙ ap found (sym same))
            | inr apart ↦
                (let there = sym (set-there w.targets t u (stopped_at s cut.left) apart) ∙ at in
                let q = at-both w.targets a.targets u z (sym k.many) there in
                keeps-found r found a w u q.0 z k q.1 there (m u q.0 (set-there a.targets t u y apart ∙ q.1)))
          ]

          broken : (work : AtWork) → IsInHand w t work → s.life ≡ Running → CutOf (target_plan r t) s work cut → HasBrokenOff r w (length (slice_set a.targets t y)) found
          broken work in_hand runs turn = record {
            last = swept (after_cut w t s cut);
            run = λ first run. Goes w (swept (after_cut w t s cut)) run (record {
              u = after_cut w t s cut;
              happens = IsCut (record { t = t; s = s; work = work; cut = cut; here = here; runs = runs; in_hand = in_hand; turn = turn; after = refl });
              after = refl;
            });
            many = length-set w.targets t (stopped_at s cut.left) ∙ k.many ∙ sym (length-set a.targets t y);
            keeps = keeps;
          }

        wanting-led : (settling : Bool) (number : ℕ) (left : BetweenNow) → IsTurned durable state may settling t number x y a.between left (Err stop.Memory) → (w : World) → AreDrawn w → Shows durable state r found a w
            → IsThere durable state r found w t x Running → HasBrokenOff r w (length (slice_set a.targets t y)) found
        wanting-led settling number left (ByHearing l rest reading picked left_is few turn) w drawn k s =
            let next = next_aggregate a.between.lines in
            let it = turn next (λ asks. refl) s.s.durable s.is.so.told in
            let n = it.holds.stops in
            let takes = picked-takes a.between.messages number l rest (target t) picked in
            broken w k s.s s.here n.cut (it.kept_is ∙ ap (λ z. Some z.durable) (sym n.left)) (Hearing l reading next)
            ((rest, subst (λ ls. Takes ls l rest) k.messages takes), picked.to_it, next-fresh w a.between.lines l.message drawn k.lines few) s.is.lives
            (hearing-in-world durable state r t x y a place plan None [] found w k s.s s.here s.is next n.cut l reading n.was)
        wanting-led settling number left (ByIdling none left_is turn) w drawn k s =
            let it = turn s.s.durable s.is.so.told in
            let n = it.holds.stops in
            broken w k s.s s.here n.cut (it.kept_is ∙ ap (λ z. Some z.durable) (sym n.left)) IdleWork tt s.is.lives (idling-in-world durable state r t x y a place plan None [] found w k s.s s.here s.is n.cut n.was)

      -- memory was wanting in it: what the target keeps then is what a stop there leaves
      pub breaks-in_work : (settling : Bool) (number : ℕ) (left : BetweenNow) → IsTurned durable state may settling t number x y a.between left (Err stop.Memory) → BreaksOff r a (slice_set a.targets t y)
      breaks-in_work settling number left turned found m = record {
        before = found;
        were = were-found found m;
        led = λ w reached k. wanting-led found m settling number left turned w reached.drawn k (target-there durable state r found a w t x Running k place);
      }
