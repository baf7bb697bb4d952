-- What the stores of targets keep where a run has ended.
use Rattle.std.specs.Prelude.{ℕ, ◌≡◌, true, List, length, map, slice_get, Option, Some, is_some}
use Rattle.std.proofs.Common.{sym, ◌∙◌, ap, subst}
use Rattle.base_types.specs.declared.report.Line.{Line}
use Rattle.daos_model.specs.declared.durable.Durable.{Durable}
use Rattle.daos_model.specs.FormLaws.{length-map}
use Rattle.run_laws.specs.shows.Going.{AreFindable, AreSteady}
use Rattle.run_laws.specs.shows.ListLaws.{map-get}
use Rattle.run_laws.specs.shows.Parts.{at-both}
use Rattle.run_laws.specs.shows.Shows.{IsTargetOf}
use Rattle.run_laws.specs.shows.Stages.{AreFound, StageNow}
use Rattle.run_laws.specs.steps.Ended.{HasRun, left_of}
use Rattle.run_watch.specs.Watches.{WatchNow}
use Rattle.target_core.specs.Targets.{TargetOf}
use Rattle.vos_store.specs.Calls.{State}
use Rattle.world_base.specs.declared.target.Life.{Life}
use Rattle.world_base.specs.declared.target.Life.TheVariants.{Down, Running, Stopped}
use Rattle.world_base.specs.declared.target.TargetState.{TargetState}
use Rattle.world_base.specs.declared.world.World.{World}
use Rattle.world_base.specs.Events.{Rules, target_plan}
use Rattle.world_closing.specs.Below.{durable_of, durables_of}
use Rattle.run_laws.specs.ends.Arming.{HaveFuses}
use Rattle.run_laws.specs.ends.Comes.{MayBeFound}
use Rattle.run_laws.specs.ends.Places.{from-map, same-lists}
use Rattle.run_laws.specs.ends.Starts.{or_empty, stores_of}

-- of these one is at a place
abbrev pub found_at : List Durable → ℕ → Durable
found_at lasts t = or_empty (slice_get lasts t)

-- ---- something may be found

module _ {S : Type 0} (durable : S → Option Durable) (may : S → Durable → Type 0) (findable : AreFindable durable may) (all : (s : S) → is_some (durable s) ≡ true) where
  abbrev one_found : S → Durable
  one_found s = (findable s (all s)).0

  -- a choice of what the next openings of these stores find
  abbrev pub some_lasts : List S → List Durable
  some_lasts ys = map one_found ys

  pub some-may_be : (ys : List S) → MayBeFound may ys (some_lasts ys)
  some-may_be ys = record {
    many = length-map one_found ys;
    each = λ t y d there at.
        let same : one_found y ≡ d = let e : Some (one_found y) ≡ Some d = sym (map-get one_found ys t y there) ∙ at in cc in
        subst (may y) same (findable y (all y)).1;
  }

-- ---- where a run has ended

module _ {S C : Type 0} (durable : S → Option Durable) (state : S → State) (may : S → Durable → Type 0) where
  -- what may be found once no fuse is set any more might have been found before
  module _ (ws ys : List (TargetOf S C)) {write : ℕ → ℕ} (unfused : HaveFuses durable state may write ws ys) (lasts : List Durable) (m : MayBeFound may (stores_of ys) lasts) where
    pub one-may_be : (t : ℕ) (x : TargetOf S C) → slice_get ws t ≡ Some x → (d : Durable) × (slice_get lasts t ≡ Some d) × may x.store d
    one-may_be t x at =
        let y = at-both ws ys t x unfused.many at in
        let there = map-get (λ z. z.store) ys t y.0 y.1 in
        let d = at-both (stores_of ys) lasts t y.0.store m.many there in
        (d.0, d.1, (unfused.each t x y.0 at y.1).left d.0 (m.each t y.0.store d.0 there d.1))

  module _ (steady : AreSteady durable state may) (ws ys : List (TargetOf S C)) (watch : WatchNow) (lines : List Line) {write : ℕ → ℕ} (unfused : HaveFuses durable state may write ws ys) where
    abbrev left : StageNow S C
    left = left_of ws watch lines

    module _ (lasts : List Durable) (m : MayBeFound may (stores_of ys) lasts) where
      pub are-found : AreFound may left (found_at lasts)
      are-found t x life place rests =
          let d = one-may_be ws ys unfused lasts m t x place.there in
          subst (may x.store) (ap or_empty (sym d.1)) d.2

      -- so the last world keeps that
      module _ (is_read : C → C → Type 0) (next_reading : C → Option ℕ) (r : Rules) (order : ℕ) (first : World) {start : StageNow S C} (run : HasRun durable state is_read next_reading r order first start (found_at lasts) left) where
        lives-there : (t : ℕ) (s : TargetState) → slice_get run.last.targets t ≡ Some s → slice_get watch.lives t ≡ Some s.life
        lives-there t s here = ap (λ ls. slice_get ls t) (sym run.lives) ∙ map-get (λ z. z.life) run.last.targets t s here

        pub its-target : (t : ℕ) (s : TargetState) → slice_get run.last.targets t ≡ Some s → (x : TargetOf S C) × (slice_get ws t ≡ Some x) × IsTargetOf durable state (target_plan r t) s.life (found_at lasts t) x s
        its-target t s here =
            let x = at-both run.last.targets ws t s (sym run.many) here in
            (x.0, x.1, run.targets t x.0 s.life s (record { there = x.1; stands = lives-there t s here }) here)

        kept-there : (t : ℕ) (s : TargetState) (d : Durable) → slice_get run.last.targets t ≡ Some s → slice_get lasts t ≡ Some d → s.durable ≡ d
        kept-there t s d here at =
            let x = its-target t s here in
            let e = one-may_be ws ys unfused lasts m t x.0 x.1 in
            let same : e.0 ≡ d = let two : Some e.0 ≡ Some d = sym e.1 ∙ at in cc in
            by s.life x.0 x.2 (subst (may x.0.store) same e.2)
          where
            rests : found_at lasts t ≡ d
            rests = ap or_empty at

            by : (life : Life) (x : TargetOf S C) → IsTargetOf durable state (target_plan r t) life (found_at lasts t) x s → may x.store d → s.durable ≡ d
            by Running x is may-be = sym (steady x.store s.durable d is.so.running is.so.told may-be)
            by Stopped x is may-be = is.so.keeps ∙ rests
            by Down x is may-be = is.so.keeps ∙ rests

        pub keeps-lasts : durables_of run.last ≡ lasts
        keeps-lasts = same-lists (durables_of run.last) lasts many (λ t e d here at. let s = from-map durable_of run.last.targets t e here in s.is ∙ kept-there t s.of_it d s.at at)
          where
            many : length (durables_of run.last) ≡ length lasts
            many = length-map durable_of run.last.targets ∙ run.many ∙ sym unfused.many ∙ sym (length-map (λ z. z.store) ys) ∙ sym m.many
