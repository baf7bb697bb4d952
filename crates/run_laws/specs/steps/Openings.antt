-- What it leads to that a stopped target is opened: it runs again, or it doesn't open.
use Rattle.std.specs.Prelude.{ℕ, suc, zero, ◌≡◌, ◌==◌, ◌≤◌, ◌<◌, ◌+◌, ◌++◌, ◌^◌, Bool, true, false, IfOk, IsSome, is_ok, List, [], ◌∷◌, filter, length, slice_get, slice_set, Option, Some, None, is_some, Ok, Err, refl, if◌then◌else◌}
use Rattle.std.proofs.Common.{drop, take, inl, sym, ◌∙◌, ap, subst, arith}
use Rattle.std.proofs.lemmas.Bool.Decides.{nat_tests}
use Rattle.std.specs.List.{before_first, position_or_len}
use Rattle.base_types.specs.declared.script.StopDecl.{StopDecl}
use Rattle.daos_model.specs.Stops.{is_stop_at}
use Rattle.daos_model.specs.declared.durable.Durable.{Durable}
use Rattle.model_laws.specs.TargetLaws.{same_number}
use Rattle.run_laws.specs.shows.Accounting.{fuse-less, fuse-taken, none-rise, one-fault}
use Rattle.run_laws.specs.shows.Accounts.{AreServed, one_if, stop_lines_of}
use Rattle.run_laws.specs.shows.CanGo.{CanGo}
use Rattle.run_laws.specs.shows.Fitting.{Fits, few-numbers, fit-after_stop, fit-given_up, fit-swept, fit-target, fits-of}
use Rattle.run_laws.specs.shows.Givings.{downs_after, fault-leads}
use Rattle.run_laws.specs.shows.Going.{AreAlike, AreFindable}
use Rattle.run_laws.specs.shows.Lettered.{followed-form}
use Rattle.run_laws.specs.shows.Ends.{TellsOn}
use Rattle.run_laws.specs.shows.EndsLaws.{target-tells-on}
use Rattle.run_laws.specs.shows.Openings.{HasFuse}
use Rattle.run_laws.specs.shows.Parts.{IsTurnSo, is-set, set-same}
use Rattle.run_laws.specs.shows.Reopening.{failure-leads, opening-leads, set-twice}
use Rattle.run_laws.specs.shows.Serving.{each-pair, served-by-fuse, served-by-opening, served-on, served-one}
use Rattle.run_laws.specs.shows.Shows.{Leads}
use Rattle.run_laws.specs.shows.Stages.{IsPlace, StageNow}
use Rattle.run_laws.specs.shows.Steps.{NotOpened, Opened, OpeningEnds, Reopened, TargetReopened}
use Rattle.run_laws.specs.shows.Turned.{AfterFailure, AfterStop, ByForeign, ByStop, followed, given_up_stage, swept_stage}
use Rattle.run_laws.specs.steps.Going.{AllTell, GoesOn}
use Rattle.run_laws.specs.steps.Turning.{Counts, counts-none, one-struck, turn-done}
use Rattle.run_laws.specs.steps.Turnings.{after-clients, after-down, after-down-so, after-failed, after-openings, after-others, after-stops, after-targets}
use Rattle.run_laws.specs.steps.Ways.{turn_of}
use Rattle.run_laws.specs.turns.Readings.{GivesOn, gives-none}
use Rattle.run_laws.specs.turns.Faults.{once_for}
use Rattle.run_watch.specs.Watches.{WatchNow, fuse_set, next_fuse, opened_again, opening_tried}
use Rattle.target_core.specs.Targets.{OpensAs, TargetOf}
use Rattle.run_opening.specs.target_parts.Readings.{IsReadOn, not-read_on}
use Rattle.run_opening.specs.target_parts.Stops.{stop_foreign, stop_store}
use Rattle.run_opening.specs.target_parts.declared.stop.TargetStop.{TargetStop}
use Rattle.target_core.specs.target_resync.Openings.{Left, Reopens}
use Rattle.vos_store.specs.Calls.{Ailed, State}
use Rattle.vos_store.specs.Refusals.{says}
use Rattle.world_base.specs.declared.did.Did.{Did}
use Rattle.world_base.specs.declared.target.Life.TheVariants.{Running, Stopped}
use Rattle.world_base.specs.Events.{Rules, target_plan}
use Rattle.world_base.specs.Letters.{target, without_first}
use Rattle.run_opening.specs.world_contents.posts.FormLaws.{targets-send-letters}
use Rattle.run_opening.specs.world_contents.posts.Forms as posted
use Rattle.run_opening.specs.world_contents.posts.Forms.{TargetPosts}

-- ---- stop lines

-- of a list without one of its elements no more pass a test
fewer-pass : (q : StopDecl → Bool) (n : ℕ) (xs : List StopDecl) → length (filter q (take n xs ++ drop (suc n) xs)) ≤ length (filter q xs)
fewer-pass q zero [] = omega arith
fewer-pass q zero (x ∷ xs) = by (q x)
  where
    by : (b : Bool) → length (filter q xs) ≤ length (if b then x ∷ filter q xs else filter q xs)
    by true = omega arith
    by false = omega arith
fewer-pass q (suc n) [] = omega arith
fewer-pass q (suc n) (x ∷ xs) = by (q x) (fewer-pass q n xs)
  where
    rest : List StopDecl
    rest = filter q (take n xs ++ drop (suc n) xs)

    by : (b : Bool) → length rest ≤ length (filter q xs) → length (if b then x ∷ rest else rest) ≤ length (if b then x ∷ filter q xs else filter q xs)
    by true h = omega (arith, h)
    by false h = h

-- one target's fuse is set: no more stop lines of any are to come
pub fewer-lines : (t u : ℕ) (stops : List StopDecl) → stop_lines_of u (without_first (is_stop_at t) stops) ≤ stop_lines_of u stops
fewer-lines t u stops =
    let next : suc (position_or_len (is_stop_at t) stops) ≡ position_or_len (is_stop_at t) stops + 1 = omega arith in
    subst (λ n. length (filter (is_stop_at u) (before_first (is_stop_at t) stops ++ drop n stops)) ≤ stop_lines_of u stops) next (fewer-pass (is_stop_at u) (position_or_len (is_stop_at t) stops) stops)

-- ---- what is told

pub some-told : (o : Option Durable) → is_some o ≡ true → (d : Durable) × (o ≡ Some d)
some-told None is = let no : ⊥ = cc in absurd no
some-told (Some d) is = (d, refl)

module _ {S C : Type 0} (durable : S → Option Durable) (state : S → State) (may : S → Durable → Type 0) (is_read : C → C → Type 0) (next_reading : C → Option ℕ) (findable : AreFindable durable may) (alike : AreAlike durable) (a : StageNow S C) (can : CanGo durable state may a) (t : ℕ) (x y : TargetOf S C)
    (place : IsPlace a t x Stopped) (few : a.watch.openings + 1 < 2 ^ 32) (plan : y.plan ≡ x.plan) (clock : y.clock ≡ x.clock) where
  -- no clock is read then
  still-clocks : (z : TargetOf S C) → z.clock ≡ x.clock → (u : ℕ) (p q : TargetOf S C) → slice_get a.targets u ≡ Some p → slice_get (slice_set a.targets t z) u ≡ Some q → GivesOn is_read next_reading None u p.clock q.clock
  still-clocks z same =
      each-pair durable state is_read a.targets t x z place.there (λ v w s. GivesOn is_read next_reading None v w.clock s.clock) (gives-none is_read next_reading None t x.clock z.clock refl same)
      (λ v w apart. gives-none is_read next_reading None v w.clock w.clock refl refl)

  -- ---- it opens

  module _ (did : Did) (z : TargetOf S C) (opens : Reopens (Ok did) (state x.store) (state y.store) (durable x.store) (durable y.store)) (turn : (d : Durable) → durable x.store ≡ Some d → OpensAs x.plan a.watch.restarts (may x.store) (durable y.store) (state y.store) y.memory did)
      (posts : posted.TurnFollows x.plan.targets y.memory did.posts) (has_opened : y.opened ≡ true) (fuse : HasFuse durable state may (next_fuse t a.watch.stops) y z) where
    abbrev again : WatchNow
    again = opened_again t (fuse_set t (opening_tried a.watch))

    -- the actors after this
    abbrev pub opened-left : StageNow S C
    opened-left = swept_stage (record a { targets = slice_set a.targets t z; watch = again; between = followed (target t) did a.between })

    opened-served : AreServed durable state is_read a.targets (slice_set a.targets t z)
    opened-served =
        served-one durable state is_read a.targets t x z place.there
        (served-on (state x.store) (state y.store) (state z.store) (durable x.store) (durable y.store) (durable z.store) (served-by-opening (Ok did) (state x.store) (state y.store) (durable x.store) (durable y.store) opens) (served-by-fuse durable state may (next_fuse t a.watch.stops) y z fuse))
        (subst (IsReadOn is_read x.clock) (sym (fuse.clock ∙ clock)) (not-read_on is_read x.clock))

    opened-fits : Fits state can.rules opened-left
    opened-fits =
        let f = fits-of durable state may a can in
        fit-swept state can.rules can.form (record a { targets = slice_set a.targets t z; watch = again; between = followed (target t) did a.between })
        (fit-target state can.rules can.form a f t x z again Running (followed (target t) did a.between) place.there (fuse.plan ∙ plan) refl few
        (λ is. record { opened = fuse.opened ∙ has_opened; running = ap (λ h. h.stopped) fuse.state_is.rest ∙ opens.runs; waiting = subst posted.ClientsAwait (sym fuse.memory) posts.waiting })
        (followed-form (target_plan can.rules) (target t) did a.between f.between
        (λ q i. targets-send-letters (target_plan can.rules) can.rules.script.targets t q (few-numbers state can.rules can.form a f t x place.there) (λ u. refl) (subst (λ n. TargetPosts n did.posts) (ap (λ p. p.targets) (can.made t x place.there)) posts.form q i))))

    opened-counts : Counts state a opened-left None None None t x z
    opened-counts = record {
      up = let same = ap (λ h. h.faults) fuse.state_is.rest in let more = opens.faults in omega (arith, same, more);
      tells = ap (λ h. h.tells_fuse) fuse.state_is.rest ∙ opens.tells_fuse;
      stopped = λ tells.
          let told = ap one_if (fuse.state_is.told (opens.tells_fuse ∙ tells)).0 in
          let taken = fuse-taken t a.watch.stops in
          inl (omega (arith, told, taken));
      failed = λ n at. (n, at, inl (omega arith));
      down = λ e. let no : ⊥ = cc in absurd no;
      fault =
          let same = ap (λ h. h.faults) fuse.state_is.rest in
          let burnt = ap (λ h. h.burns) fuse.state_is.rest in
          let faults = opens.faults in
          let burns = opens.burns in
          none-rise 0 (state x.store) (state z.store) refl (omega (arith, same, faults)) (omega (arith, burnt, burns));
      struck = λ tells.
          let told = ap one_if (fuse.state_is.told (opens.tells_fuse ∙ tells)).0 in
          let taken = fuse-taken t a.watch.stops in
          inl (omega (arith, told, taken));
    }

    pub opened-goes : (settling : Bool) (number : ℕ) → ((r : Rules) → TellsOn r a opened-left) → GoesOn durable state may is_read next_reading (turn_of settling (target t) number) a opened-left
    opened-goes settling number tells =
        turn-done durable state may is_read next_reading a opened-left settling (target t) number 1 None None None None can leads findable alike opened-served (still-clocks z (fuse.clock ∙ clock)) opened-fits (omega arith) refl tells
        (λ u p q here there told. each-pair durable state is_read a.targets t x z place.there (λ v w s. Counts state a opened-left None None None v w s) opened-counts
        (λ v w apart. counts-none state a opened-left None None None v w refl (λ e. let no : ⊥ = cc in no) refl (fewer-lines t v a.watch.stops) (λ m h. h)) u p q here there)
      where
        leads : AllTell durable → (r : Rules) → Leads durable state may (IsTurnSo settling r (target t) number 1 None None None None) r a opened-left
        leads tell r =
            let d = some-told (durable x.store) (tell x.store) in
            opening-leads durable state may r t x y z a again did (next_fuse t a.watch.stops) place plan (turn d.0 d.1) has_opened opens.runs (opens.free (tell x.store)) fuse refl refl settling number

  -- ---- it doesn't open

  module _ (why : TargetStop) (opens : Reopens {T = Did} (Err why) (state x.store) (state y.store) (durable x.store) (durable y.store)) where
    -- the actors after this, before it is given up, if it is
    abbrev pub failed-left : StageNow S C
    failed-left = record a { targets = slice_set a.targets t y; watch = opening_tried a.watch }

    failed-place : IsPlace failed-left t y Stopped
    failed-place = record { there = is-set a.targets t x y place.there; stands = place.stands }

    failed-served : AreServed durable state is_read a.targets (slice_set a.targets t y)
    failed-served =
        served-one durable state is_read a.targets t x y place.there (served-by-opening (Err why) (state x.store) (state y.store) (durable x.store) (durable y.store) opens) (subst (IsReadOn is_read x.clock) (sym clock) (not-read_on is_read x.clock))

    failed-fits : Fits state can.rules failed-left
    failed-fits =
        let f = fits-of durable state may a can in
        fit-target state can.rules can.form a f t x y (opening_tried a.watch) Stopped a.between place.there plan (set-same a.watch.lives t Stopped place.stands) few (λ e. let no : ⊥ = cc in absurd no) f.between

    few-of : t < 64
    few-of = few-numbers state can.rules can.form a (fits-of durable state may a can) t x place.there

    -- its store stopped
    pub failed-goes : (settling : Bool) (number : ℕ) (b : StageNow S C) → Ailed (state x.store) (state y.store) → Left (may x.store) (may y.store) → AfterStop t (state x.store).faults (state y.store).faults failed-left b → ((r : Rules) → TellsOn r a b) → GoesOn durable state may is_read next_reading (turn_of settling (target t) number) a b
    failed-goes settling number b ailed left after tells =
        turn-done durable state may is_read next_reading a b settling (target t) number 1 None downs (Some t) None can
        (λ tell r. fault-leads durable state r t may settling number 1 (state x.store).faults (state y.store).faults None None a failed-left b y failed-place
        (failure-leads durable state may r t x y a (opening_tried a.watch) place plan left (opens.free (tell x.store)) refl refl settling number) after)
        findable alike (subst (AreServed durable state is_read a.targets) (sym (after-targets t _ _ failed-left b after)) failed-served)
        (λ u p q here there. still-clocks y clock u p q here (subst (λ xs. slice_get xs u ≡ Some q) (after-targets t _ _ failed-left b after) there))
        (fit-after_stop state can.rules t (state x.store).faults (state y.store).faults failed-left b can.form few-of failed-fits after)
        (let same = after-openings t _ _ failed-left b after in omega (arith, same)) (ap length (after-clients t _ _ failed-left b after)) tells
        (λ u p q here there told. each-pair durable state is_read a.targets t x y place.there (λ v w s. Counts state a b None downs (Some t) v w s) its
        (λ v w apart. counts-none state a b None downs (Some t) v w refl (λ e. apart (after-down t _ _ failed-left b after v e)) (let off : (t == v) ≡ false = grind (arith, nat_tests) in ap (λ c. if c then 1 else 0) off) (let same = same-lines v in omega (arith, same)) (λ m h. after-others t _ _ failed-left b after v apart m h)) u p q here
        (subst (λ xs. slice_get xs u ≡ Some q) (after-targets t _ _ failed-left b after) there))
      where
        downs : Option ℕ
        downs = downs_after t (state x.store).faults (state y.store).faults failed-left b after

        same-lines : (u : ℕ) → stop_lines_of u b.watch.stops ≡ stop_lines_of u a.watch.stops
        same-lines u = ap (stop_lines_of u) (after-stops t _ _ failed-left b after)

        its : Counts state a b None downs (Some t) t x y
        its = record {
          up = opens.faults;
          tells = opens.tells_fuse;
          stopped = λ tells. let less = fuse-less (state x.store) (state y.store) opens.fuse tells in let same = same-lines t in inl (omega (arith, less, same));
          failed = λ n at. after-failed t _ _ failed-left b after n at;
          down = λ e. after-down-so t _ _ failed-left b after e;
          fault = one-fault (once_for (Some t) t) (state x.store) (state y.store) (ap (λ c. if c then 1 else 0) (same_number t)) opens.faults opens.burns ailed;
          struck = λ tells.
              one-struck (state x.store) (state y.store) opens.fuse ailed tells (once_for (Some t) t) (stop_lines_of t a.watch.stops) (stop_lines_of t b.watch.stops) (ap (λ c. if c then 1 else 0) (same_number t)) (same-lines t);
        }

    -- it isn't a store that was made here: then it doesn't tell what it keeps
    pub foreign-goes : (settling : Bool) (number : ℕ) → (IsSome (durable x.store) → stop_foreign why ≡ false) → stop_foreign why ≡ true → ((r : Rules) → TellsOn r a (swept_stage (given_up_stage t failed-left))) → GoesOn durable state may is_read next_reading (turn_of settling (target t) number) a (swept_stage (given_up_stage t failed-left))
    foreign-goes settling number native is tells =
        turn-done durable state may is_read next_reading a (swept_stage (given_up_stage t failed-left)) settling (target t) number 1 None None None None can (λ tell r. absurd (untold (tell x.store))) findable alike failed-served (still-clocks y clock)
        (fit-swept state can.rules can.form (given_up_stage t failed-left) (fit-given_up state can.rules can.form failed-left failed-fits t few-of)) (omega arith) refl tells
        (λ u p q here there told. absurd (untold (alike p.store x.store told)))
      where
        untold : IsSome (durable x.store) → ⊥
        untold some = let off = native some in cc (off, is)

-- ---- an opening

module _ {S C : Type 0} (durable : S → Option Durable) (state : S → State) (may : S → Durable → Type 0) (is_read : C → C → Type 0) (next_reading : C → Option ℕ) (findable : AreFindable durable may) (alike : AreAlike durable) (a b : StageNow S C) (can : CanGo durable state may a) (settling : Bool) (t number : ℕ) where
  -- whatever comes of it
  pub reopening-goes : TargetReopened durable state may t a b → GoesOn durable state may is_read next_reading (turn_of settling (target t) number) a b
  reopening-goes k = by k.ends
    where
      tells : (r : Rules) → TellsOn r a b
      tells r = target-tells-on durable state may r a b t is_read next_reading settling number (Reopened k)

      by : OpeningEnds durable state may t k.was.before k.was.now (record a { targets = slice_set a.targets t k.was.now; watch = opening_tried a.watch }) b k.was.result → GoesOn durable state may is_read next_reading (turn_of settling (target t) number) a b
      by (Opened did is after) =
          let same = ap (λ xs. swept_stage (record a { targets = xs; watch = opened_again t (fuse_set t (opening_tried a.watch)); between = followed (target t) did a.between })) (sym (set-twice a.targets t k.was.now after.armed)) ∙ sym after.after in
          subst (λ s. GoesOn durable state may is_read next_reading (turn_of settling (target t) number) a s) same
          (opened-goes durable state may is_read next_reading findable alike a can t k.was.before k.was.now k.was.place k.was.few k.was.plan k.was.clock did after.armed
          (subst (λ q. Reopens q (state k.was.before.store) (state k.was.now.store) (durable k.was.before.store) (durable k.was.now.store)) is k.was.opens)
          (λ d told. subst (λ q. IfOk q (OpensAs k.was.before.plan a.watch.restarts (may k.was.before.store) (durable k.was.now.store) (state k.was.now.store) k.was.now.memory)) is (k.was.turn d told))
          (subst (λ q. IfOk q (λ e. posted.TurnFollows k.was.before.plan.targets k.was.now.memory e.posts)) is k.was.posts) (k.was.opened ∙ ap is_ok is) after.fuse settling number (λ r. subst (TellsOn r a) (sym same) (tells r)))
      by (NotOpened why is after) = ends after
        where
          opens : Reopens {T = Did} (Err why) (state k.was.before.store) (state k.was.now.store) (durable k.was.before.store) (durable k.was.now.store)
          opens = subst (λ q. Reopens q (state k.was.before.store) (state k.was.now.store) (durable k.was.before.store) (durable k.was.now.store)) is k.was.opens

          ends : AfterFailure t (state k.was.before.store).faults (state k.was.now.store).faults why (record a { targets = slice_set a.targets t k.was.now; watch = opening_tried a.watch }) b → GoesOn durable state may is_read next_reading (turn_of settling (target t) number) a b
          ends (ByStop issued lines same stopped) = failed-goes durable state may is_read next_reading findable alike a can t k.was.before k.was.now k.was.place k.was.few k.was.plan k.was.clock why opens settling number b (opens.cause (ap (λ z. says {T = Did} stop_store (Err z)) same)) k.was.left stopped tells
          ends (ByForeign at byte same given_up) =
              subst (λ s. GoesOn durable state may is_read next_reading (turn_of settling (target t) number) a s) (sym given_up)
              (foreign-goes durable state may is_read next_reading findable alike a can t k.was.before k.was.now k.was.place k.was.few k.was.plan k.was.clock why opens settling number (λ some. ap (says stop_foreign) (sym is) ∙ k.was.native some) (ap stop_foreign same) (λ r. subst (TellsOn r a) given_up (tells r)))
