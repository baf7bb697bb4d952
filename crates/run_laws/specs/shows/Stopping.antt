-- A target's turn that is cut leads to a world in which it is stopped, whatever it would be found with; and it may be given up then.
use Rattle.run_laws.specs.turns.Drawn.{AreDrawn, next-fresh}
use Rattle.run_base.specs.Numbers.{next_aggregate}
use Rattle.std.specs.Prelude.{ℕ, ◌≡◌, ◌++◌, List, ◌∷◌, filter, slice_get, slice_set, not, Bool, false, Option, Some, Err, refl, if◌then◌else◌}
use Rattle.std.proofs.Common.{inl, inr, sym, ◌∙◌, ap, subst}
use Rattle.std.proofs.lemmas.Bool.{cases_eq}
use Rattle.base_types.specs.declared.epoch.Epoch.{Epoch}
use Rattle.base_types.specs.declared.id.AttemptId.{AttemptId}
use Rattle.base_types.specs.declared.report.Line.{Line}
use Rattle.daos_model.specs.declared.durable.Durable.{Durable}
use Rattle.model_laws.specs.TargetLaws.{same_number}
use Rattle.run_base.specs.Letters.{BetweenNow, IsPicked}
use Rattle.run_base.specs.Picks.{count_to}
use Rattle.run_laws.specs.shows.Givings.{FaultBy}
use Rattle.run_laws.specs.shows.Parts.{IsThere, filter-both, is-set, picked-takes, swept-shown, target-shown, target-there}
use Rattle.run_laws.specs.shows.Shows.{IsLed, IsTargetOf, Leads, Shows}
use Rattle.run_laws.specs.shows.Stages.{IsPlace, StageNow}
use Rattle.run_laws.specs.shows.Turned.{ByHearing, ByIdling, IsTurned, cut_between, read_then, stopped_stage, swept_stage}
use Rattle.run_laws.specs.turns.Readings.{read_at_work}
use Rattle.run_laws.specs.turns.Turns.{IsAtWork}
use Rattle.run_watch.specs.Watches.{with_life}
use Rattle.target_core.specs.Targets.{TargetOf, cutting}
use Rattle.run_opening.specs.target_parts.declared.stop.TargetStop.TheVariants as stop
use Rattle.vos_store.specs.Calls.{State}
use Rattle.world_base.specs.declared.letter.Letter.{Letter}
use Rattle.world_base.specs.declared.target.Life.{Life}
use Rattle.world_base.specs.declared.target.Life.TheVariants.{Running, Stopped}
use Rattle.world_base.specs.declared.target.TargetState.{TargetState}
use Rattle.world_base.specs.declared.world.World.{World}
use Rattle.world_base.specs.Changes.{Kept}
use Rattle.world_base.specs.CutTurns.{Cutting, HearingIsCut, IdleWorkIsCut, listed_issue}
use Rattle.world_base.specs.Events.{Rules, kept, target_plan, with_target}
use Rattle.world_base.specs.Letters.{Takes, target}
use Rattle.world_base.specs.Roles.{is_prepared}
use Rattle.world_base.specs.StepLaws.{set-there}
use Rattle.world_base.specs.Stops.{AtWork, CutOf, Hearing, IdleWork, IsCut, IsInHand, after_cut, is_not_to, is_to, resets, stopped_at, swept}

-- ---- letters

filter-first : {T : Type 0} (p : T → Bool) (x : T) (xs : List T) → p x ≡ false → filter p (x ∷ xs) ≡ filter p xs
filter-first p x xs off = ap (λ b. if b then x ∷ filter p xs else filter p xs) off

-- of what goes to a target nothing is left, also of the letter that it hears
pub lost-too : (t : ℕ) (letters rest : List Letter) (l : Letter) → Takes letters l rest → l.to ≡ target t → filter (is_not_to t) rest ≡ filter (is_not_to t) letters
lost-too t letters rest l k to =
    ap (filter (is_not_to t)) k.left ∙ filter-both (is_not_to t) k.before k.after ∙ ap (λ zs. filter (is_not_to t) k.before ++ zs) (sym (filter-first (is_not_to t) l k.after off))
    ∙ sym (filter-both (is_not_to t) k.before (l ∷ k.after)) ∙ ap (filter (is_not_to t)) (sym k.among)
  where
    off : is_not_to t l ≡ false
    off = ap not (ap (λ a. is_to t (record l { to = a })) to ∙ same_number t)

-- ---- a cut turn

module _ {S C : Type 0} (durable : S → Option Durable) (state : S → State) (r : Rules) (t : ℕ) (x y : TargetOf S C) (a : StageNow S C) (place : IsPlace a t x Running) (plan : y.plan ≡ x.plan) (issued : Option (AttemptId × Epoch)) (lines : List Line) where
  -- the actors after this
  abbrev stopped : BetweenNow → StageNow S C
  stopped left = swept_stage (stopped_stage t issued lines (record a { targets = slice_set a.targets t y; between = left }))

  module _ (found : ℕ → Durable) (w : World) (k : Shows durable state r found a w) (s : TargetState) (here : slice_get w.targets t ≡ Some s) (is : IsTargetOf durable state (target_plan r t) Running (found t) x s) where
    -- it would be found with this
    abbrev would : Kept
    would = record { durable = found t; free = (state y.store).free }

    abbrev cut : Cutting
    cut = cutting would issued lines

    now : IsTargetOf durable state (target_plan r t) Stopped (found t) y (stopped_at s would)
    now = record { made = plan ∙ is.made; lives = refl; so = record { keeps = refl; free = refl; forgot = refl } }

    shown : (left : BetweenNow) → filter (is_not_to t) left.messages ≡ filter (is_not_to t) a.between.messages → left.asked ≡ a.between.asked → left.issued ≡ a.between.issued → left.lines ≡ a.between.lines
        → Shows durable state r found (stopped left) (swept (after_cut w t s cut))
    shown left messages asked issues told =
        swept-shown durable state r found _ _ (record {
          clients = put.clients;
          plans = put.plans;
          many = put.many;
          lives = put.lives;
          targets = λ u z life v p at. put.targets u z life v (record { there = p.there; stands = p.stands }) at;
          messages = ap (λ ms. ms ++ resets t false left.asked) (messages ∙ ap (filter (is_not_to t)) k.messages) ∙ ap (λ q. filter (is_not_to t) w.messages ++ resets t false q) (asked ∙ k.asked);
          asked = ap (filter (is_not_to t)) (asked ∙ k.asked);
          issued = ap (λ is'. is' ++ listed_issue issued) (issues ∙ k.issued);
          lines = ap (λ ls. (cut_between t issued lines (record left { lines = ls })).lines) (told ∙ k.lines);
          restarts = put.restarts;
        })
      where
        put : Shows durable state r found (record a { targets = slice_set a.targets t y; watch = with_life t Stopped a.watch }) (with_target t (stopped_at s would) w)
        put = target-shown durable state r found found a (with_life t Stopped a.watch) t y Stopped w (stopped_at s would) k refl refl now (λ u apart. refl)

    had : (d : Durable) → durable x.store ≡ Some d → record { durable = d; free = (state x.store).free } ≡ kept s
    had d is' =
        let same : d ≡ s.durable = let e : Some d ≡ Some s.durable = sym is' ∙ is.so.told in cc in
        ap (λ z. record { durable = z; free = (state x.store).free }) same ∙ ap (λ z. record { durable = s.durable; free = z }) is.so.free

    -- what was cut so of its work is cut so in the world
    pub hearing-in-world : (n : ℕ) (c : Cutting) (l : Letter) (reading : ℕ) → HearingIsCut is_prepared n x.plan (state x.store).opening x.memory reading l.from l.message (record { durable = s.durable; free = (state x.store).free }) c
        → HearingIsCut is_prepared n (target_plan r t) s.opening s.memory reading l.from l.message (kept s) c
    hearing-in-world n c l reading it =
        subst (λ m. HearingIsCut is_prepared n (target_plan r t) s.opening m reading l.from l.message (kept s) c) is.so.knows
        (subst (λ o. HearingIsCut is_prepared n (target_plan r t) o x.memory reading l.from l.message (kept s) c) is.so.opening
        (subst (λ p. HearingIsCut is_prepared n p (state x.store).opening x.memory reading l.from l.message (kept s) c) is.made
        (subst (λ q. HearingIsCut is_prepared n x.plan (state x.store).opening x.memory reading l.from l.message q c) (had s.durable is.so.told) it)))

    pub idling-in-world : (c : Cutting) → IdleWorkIsCut x.plan.me x.memory (record { durable = s.durable; free = (state x.store).free }) c → IdleWorkIsCut (target_plan r t).me s.memory (kept s) c
    idling-in-world c it =
        subst (λ m. IdleWorkIsCut (target_plan r t).me m (kept s) c) is.so.knows
        (subst (λ p. IdleWorkIsCut p.me x.memory (kept s) c) is.made
        (subst (λ q. IdleWorkIsCut x.plan.me x.memory q c) (had s.durable is.so.told) it))

    -- its turn was cut so in the world
    acts : (settling : Bool) (number : ℕ) (work : AtWork) → IsInHand w t work → CutOf (target_plan r t) s work cut → IsAtWork w (target t) number work → FaultBy r t settling number 0 (Some t) (read_at_work t work) w (swept (after_cut w t s cut))
    acts settling number work in_hand turn b = (
      record {
        event = record {
          u = after_cut w t s cut;
          happens = IsCut (record { t = t; s = s; work = work; cut = cut; here = here; runs = is.lives; in_hand = in_hand; turn = turn; after = refl });
          after = refl;
        };
        by = (refl, b);
      },
      tt,
      refl,
      refl,
      refl,
    )

  pub cut-leads : (may : S → Durable → Type 0) (settling : Bool) (number : ℕ) (left : BetweenNow) (turned : IsTurned durable state may settling t number x y a.between left (Err (stop.Store issued lines))) → Leads durable state may (FaultBy r t settling number 0 (Some t) (read_then durable state may turned)) r a (stopped left)
  cut-leads may settling number left turned found are = record {
    before = found;
    were = λ u z life p rests. old u z life p rests;
    led = λ w reached k. led w reached.drawn k (target-there durable state r found a w t x Running k place) turned;
  }
    where
      -- the next opening may find it so
      may-be : may y.store (found t)
      may-be = are t y Stopped (record { there = set-there-it; stands = stands-it }) (λ same. let no : ⊥ = cc in no)
        where
          set-there-it : slice_get (slice_set a.targets t y) t ≡ Some y
          set-there-it = is-set a.targets t x y place.there

          stands-it : slice_get (slice_set a.watch.lives t Stopped) t ≡ Some Stopped
          stands-it = is-set a.watch.lives t Running Stopped place.stands

      old : (u : ℕ) (z : TargetOf S C) (life : Life) → IsPlace a u z life → (life ≡ Running → ⊥) → may z.store (found u)
      old u z life p rests = elim (cases_eq u t) [
        | inl same ↦ absurd (rests (let e : Some life ≡ Some Running = sym p.stands ∙ subst (λ v. slice_get a.watch.lives v ≡ Some Running) (sym same) place.stands in cc))
        | inr apart ↦ are u z life (record { there = set-there a.targets t u y apart ∙ p.there; stands = set-there a.watch.lives t u Stopped apart ∙ p.stands }) rests
      ]

      led : (w : World) → AreDrawn w → Shows durable state r found a w → IsThere durable state r found w t x Running → (k : IsTurned durable state may settling t number x y a.between left (Err (stop.Store issued lines))) → IsLed durable state (FaultBy r t settling number 0 (Some t) (read_then durable state may k)) r found w (stopped left)
      led w drawn k s (ByHearing l rest reading picked left_is few turn) =
          let takes = picked-takes a.between.messages number l rest (target t) picked in
          let n = next_aggregate a.between.lines in
          let it = turn n (λ asks. refl) s.s.durable s.is.so.told (would found w k s.s s.here s.is) (may-be, refl) in
          record {
            next = swept (after_cut w t s.s (cut found w k s.s s.here s.is));
            turn = acts found w k s.s s.here s.is settling number (Hearing l reading n) ((rest, subst (λ ls. Takes ls l rest) k.messages takes), picked.to_it, next-fresh w a.between.lines l.message drawn k.lines few) (hearing-in-world found w k s.s s.here s.is n (cut found w k s.s s.here s.is) l reading it)
                (rest, subst (λ ls. IsPicked ls (target t) number l rest) k.messages picked, λ asks. ap next_aggregate k.lines);
            shows = shown found w k s.s s.here s.is left (ap (λ b. filter (is_not_to t) b.messages) left_is ∙ lost-too t a.between.messages rest l takes picked.to_it) (ap (λ b. b.asked) left_is) (ap (λ b. b.issued) left_is) (ap (λ b. b.lines) left_is);
          }
      led w drawn k s (ByIdling none left_is turn) =
          let it = turn s.s.durable s.is.so.told (would found w k s.s s.here s.is) (may-be, refl) in
          record {
            next = swept (after_cut w t s.s (cut found w k s.s s.here s.is));
            turn = acts found w k s.s s.here s.is settling number IdleWork tt (idling-in-world found w k s.s s.here s.is (cut found w k s.s s.here s.is) it) (ap (count_to (target t)) (sym k.messages) ∙ none);
            shows = shown found w k s.s s.here s.is left (ap (λ b. filter (is_not_to t) b.messages) left_is) (ap (λ b. b.asked) left_is) (ap (λ b. b.issued) left_is) (ap (λ b. b.lines) left_is);
          }
