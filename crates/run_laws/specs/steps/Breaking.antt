-- Where memory is wanting in a turn, the run has come to a world whose targets keep what the next openings find.
use Rattle.run_base.specs.Numbers.{next_aggregate}
use Rattle.run_laws.specs.turns.Drawn.{act-runs-on, turn-runs-on}
use Rattle.std.specs.Prelude.{ℕ, ◌≡◌, Bool, List, slice_set, Option, Some, None, Result, Ok, Err, OnErr, refl}
use Rattle.std.proofs.Common.{sym, ◌∙◌, ap, subst}
use Rattle.daos_model.specs.declared.durable.Durable.{Durable}
use Rattle.run_laws.specs.shows.Broken.{BreaksOff, GoesOnRuns, breaks-after, breaks-here, breaks-in_work, breaks-then}
use Rattle.run_laws.specs.shows.CanGo.{CanGo}
use Rattle.run_laws.specs.shows.Givings.{FaultBy}
use Rattle.run_laws.specs.shows.Going.{AreAlike, AreFindable, AreSteady}
use Rattle.run_laws.specs.shows.Openings.{HasFuse}
use Rattle.run_laws.specs.shows.Reopening.{failure-leads, set-twice}
use Rattle.run_laws.specs.shows.Stages.{StageNow}
use Rattle.run_laws.specs.shows.Steps.{HasWorked, InOpening, InWork, NotBegun, OnceOpened, Opened, TargetBroke, WasReopened, Whole}
use Rattle.run_laws.specs.shows.Stopping.{cut-leads}
use Rattle.run_laws.specs.shows.Turned.{ByHearing, ByIdling, IsTurned, followed, read_then, swept_stage, with_between, with_target_at}
use Rattle.run_laws.specs.steps.Going.{AllTell, GoesOn, IsRun}
use Rattle.run_laws.specs.steps.Openings.{reopening-goes, some-told}
use Rattle.run_laws.specs.steps.Steps.{worked-goes}
use Rattle.run_laws.specs.steps.Ways.{GoesWithin, Way, turn_of}
use Rattle.run_watch.specs.Watches.{fuse_set, next_fuse, opened_again, opening_tried}
use Rattle.target_core.specs.Targets.{TargetOf}
use Rattle.run_opening.specs.target_parts.Stops.{stop_store}
use Rattle.run_opening.specs.target_parts.declared.stop.TargetStop.{TargetStop}
use Rattle.run_opening.specs.target_parts.declared.stop.TargetStop.TheVariants as stop
use Rattle.vos_store.specs.Calls.{State}
use Rattle.vos_store.specs.Refusals.{says}
use Rattle.world_base.specs.declared.did.Did.{Did}
use Rattle.world_base.specs.Events.{Rules}
use Rattle.world_base.specs.Letters.{target}

-- A run broke off and left these targets, where stores tell what they keep.
abbrev pub Breaks : {S C : Type 0} → (S → Option Durable) → (S → State) → (S → Durable → Type 0) → StageNow S C → List (TargetOf S C) → Type 0
Breaks durable state may a xs = AllTell durable → (r : Rules) → BreaksOff durable state may r a xs

module _ {S C : Type 0} (durable : S → Option Durable) (state : S → State) (may : S → Durable → Type 0) (is_read : C → C → Type 0) (next_reading : C → Option ℕ) (steady : AreSteady durable state may) where
  -- ---- between turns

  -- it broke off before a turn
  pub broke-between : (a : StageNow S C) (xs : List (TargetOf S C)) → xs ≡ a.targets → Breaks durable state may a xs
  broke-between a xs same tell r = subst (BreaksOff durable state may r a) (sym same) (breaks-here durable state may steady r a)

  -- some turns, and then it broke off
  pub goes-then_breaks : (way : Way) (a b : StageNow S C) (xs : List (TargetOf S C)) → IsRun way → GoesOn durable state may is_read next_reading way a b → Breaks durable state may b xs → Breaks durable state may a xs
  goes-then_breaks way a b xs runs k broke tell r = breaks-then durable state may steady (GoesWithin state is_read next_reading way r a b) r a b xs (λ w v turn. runs r w v turn.goes) (k.led tell r) (broke tell r)

  pub goes-then_breaks-err : {T E : Type 0} (way : Way) (a b : StageNow S C) (xs : List (TargetOf S C)) (result : Result T E) → IsRun way → GoesOn durable state may is_read next_reading way a b → OnErr result (Breaks durable state may b xs)
      → OnErr result (Breaks durable state may a xs)
  goes-then_breaks-err way a b xs (Ok x) runs k broke = broke
  goes-then_breaks-err way a b xs (Err e) runs k broke = goes-then_breaks way a b xs runs k broke

  pub broke-between-err : {T E : Type 0} (a : StageNow S C) (xs : List (TargetOf S C)) (result : Result T E) → xs ≡ a.targets → OnErr result (Breaks durable state may a xs)
  broke-between-err a xs (Ok x) same = tt
  broke-between-err a xs (Err e) same = broke-between a xs same

  -- what some turns led to, where a call after them failed
  pub broke-after-err : {T E : Type 0} (way : Way) (a b : StageNow S C) (xs : List (TargetOf S C)) (result : Result T E) → IsRun way → GoesOn durable state may is_read next_reading way a b → Breaks durable state may b xs → OnErr result (Breaks durable state may a xs)
  broke-after-err way a b xs (Ok x) runs k broke = tt
  broke-after-err way a b xs (Err e) runs k broke = goes-then_breaks way a b xs runs k broke

  -- ---- in a target's turn

  module _ (findable : AreFindable durable may) (alike : AreAlike durable) (a : StageNow S C) (can : CanGo durable state may a) (settling : Bool) (t number : ℕ) (tell : AllTell durable) (r : Rules) where
    turns-go : (b : StageNow S C) → GoesOnRuns (GoesWithin state is_read next_reading (turn_of settling (target t) number) r a b) r
    turns-go b w v turn = turn-runs-on settling r (target t) number w v turn.goes

    faults-go : (raised : ℕ) (stops : Option ℕ) (read : Option (ℕ × ℕ)) → GoesOnRuns (FaultBy r t settling number raised stops read) r
    faults-go raised stops read w v by = act-runs-on settling r (target t) number w v by.0

    after-turn : (b : StageNow S C) → GoesOn durable state may is_read next_reading (turn_of settling (target t) number) a b → BreaksOff durable state may r a b.targets
    after-turn b goes = breaks-after durable state may steady (GoesWithin state is_read next_reading (turn_of settling (target t) number) r a b) r a b (turns-go b) (goes.led tell r)

    -- a store that tells what it keeps meets no foreign byte
    none-foreign : (x y : TargetOf S C) (left : _) (at byte : ℕ) → IsTurned durable state may settling t number x y a.between left (Err (stop.Foreign at byte)) → ⊥
    none-foreign x y left at byte (ByHearing l rest reading picked left_is few turn) = let d = some-told (durable x.store) (tell x.store) in turn (next_aggregate a.between.lines) (λ asks. refl) d.0 d.1
    none-foreign x y left at byte (ByIdling none left_is turn) = let d = some-told (durable x.store) (tell x.store) in turn d.0 d.1

    work-breaks : (k : HasWorked durable state may is_read next_reading settling t number a) → BreaksOff durable state may r a (slice_set a.targets t k.now)
    work-breaks k = by k.result refl
      where
        turned : (said : Result Did TargetStop) → k.result ≡ said → IsTurned durable state may settling t number k.before k.now a.between k.left said
        turned said is = subst (IsTurned durable state may settling t number k.before k.now a.between k.left) is k.came.turned

        by : (said : Result Did TargetStop) → k.result ≡ said → BreaksOff durable state may r a (slice_set a.targets t k.now)
        by (Ok did) is =
            let left = swept_stage (with_between (followed (target t) did k.left) (with_target_at t k.now a)) in
            after-turn left (worked-goes durable state may is_read next_reading findable alike a left can settling t number (record { work = k; ends = Whole did is refl }))
        by (Err (stop.Store issued lines)) is =
            breaks-after durable state may steady (FaultBy r t settling number 0 (Some t) (read_then durable state may (turned (Err (stop.Store issued lines)) is))) r a _ (faults-go 0 (Some t) (read_then durable state may (turned (Err (stop.Store issued lines)) is)))
            (cut-leads durable state r t k.before k.now a k.place k.plan issued lines may settling number k.left (turned (Err (stop.Store issued lines)) is))
        by (Err (stop.Foreign at byte)) is = absurd (none-foreign k.before k.now k.left at byte (turned (Err (stop.Foreign at byte)) is))
        by (Err stop.Memory) is =
            breaks-in_work durable state may steady r t k.before k.now a k.place k.plan (k.runs.stops ∙ ap (says stop_store) is) settling number k.left (turned (Err stop.Memory) is)

    opening-breaks : (k : WasReopened durable state may t a) → BreaksOff durable state may r a (slice_set a.targets t k.now)
    opening-breaks k =
        breaks-after durable state may steady (FaultBy r t settling number 1 None None) r a (record a { targets = slice_set a.targets t k.now }) (faults-go 1 None None)
        (failure-leads durable state may r t k.before k.now a a.watch k.place k.plan k.left (k.opens.free (tell k.before.store)) refl refl settling number)

    opened-breaks : (k : WasReopened durable state may t a) (did : Did) (armed : TargetOf S C) → k.result ≡ Ok did → HasFuse durable state may (next_fuse t a.watch.stops) k.now armed → BreaksOff durable state may r a (slice_set a.targets t armed)
    opened-breaks k did armed is fuse =
        let left = swept_stage (record a { targets = slice_set (slice_set a.targets t k.now) t armed; watch = opened_again t (fuse_set t (opening_tried a.watch)); between = followed (target t) did a.between }) in
        subst (BreaksOff durable state may r a) (set-twice a.targets t k.now armed)
        (after-turn left (reopening-goes durable state may is_read next_reading findable alike a left can settling t number (record { was = k; ends = Opened did is (record { armed = armed; fuse = fuse; after = refl }) })))

  pub target-turn-breaks : AreFindable durable may → AreAlike durable → (a : StageNow S C) → CanGo durable state may a → (settling : Bool) (t number : ℕ) (xs : List (TargetOf S C)) → TargetBroke durable state may is_read next_reading settling t number a xs → Breaks durable state may a xs
  target-turn-breaks findable alike a can settling t number xs (NotBegun same) tell r = broke-between a xs same tell r
  target-turn-breaks findable alike a can settling t number xs (InWork k same) tell r = subst (BreaksOff durable state may r a) (sym same) (work-breaks findable alike a can settling t number tell r k)
  target-turn-breaks findable alike a can settling t number xs (InOpening k why is same) tell r = subst (BreaksOff durable state may r a) (sym same) (opening-breaks findable alike a can settling t number tell r k)
  target-turn-breaks findable alike a can settling t number xs (OnceOpened k did armed is fuse same) tell r = subst (BreaksOff durable state may r a) (sym same) (opened-breaks findable alike a can settling t number tell r k did armed is fuse)

  pub target-turn-breaks-err : {T E : Type 0} → AreFindable durable may → AreAlike durable → (a : StageNow S C) → CanGo durable state may a → (settling : Bool) (t number : ℕ) (xs : List (TargetOf S C)) (result : Result T E)
      → OnErr result (TargetBroke durable state may is_read next_reading settling t number a xs) → OnErr result (Breaks durable state may a xs)
  target-turn-breaks-err findable alike a can settling t number xs (Ok x) broke = tt
  target-turn-breaks-err findable alike a can settling t number xs (Err e) broke = target-turn-breaks findable alike a can settling t number xs broke
