-- A target that is stopped opens again, or fails to.
use Rattle.std.specs.Prelude.{ℕ, ◌≡◌, ◌≤◌, ◌+◌, ◌⊎◌, ◌==◌, ◌++◌, All, List, [], ◌∷◌, filter, map, slice_get, slice_set, Bool, true, false, Option, Some, None, refl, if◌then◌else◌}
use Rattle.std.proofs.Common.{append-nil, zero, suc, inl, inr, sym, ◌∙◌, ap, subst, arith}
use Rattle.std.proofs.lemmas.Bool.{cases_eq}
use Rattle.std.proofs.lemmas.Bool.Decides.{nat_tests}
use Rattle.base_types.specs.declared.report.Line.{Line}
use Rattle.base_types.specs.declared.report.Line.TheVariants as line
use Rattle.std.proofs.lemmas.List.Elements.{All-cons, All-head, All-nil, All-tail}
use Rattle.daos_model.specs.Changes.{reopened}
use Rattle.model_laws.specs.Members.{Has}
use Rattle.model_laws.specs.TargetLaws.{same_number}
use Rattle.daos_model.specs.declared.durable.Durable.{Durable}
use Rattle.run_laws.specs.shows.Parts.{IsThere, IsTurnSo, is-set, set-same, swept-shown, target-shown, target-there}
use Rattle.run_laws.specs.shows.Givings.{FaultBy}
use Rattle.run_laws.specs.shows.Openings.{HasFuse}
use Rattle.run_laws.specs.shows.Shows.{IsFoundFrom, IsTargetOf, Leads, Shows, WasReached}
use Rattle.run_laws.specs.shows.Stages.{AreFound, IsPlace, StageNow}
use Rattle.run_laws.specs.shows.Turned.{followed, swept_stage}
use Rattle.run_laws.specs.turns.Turns.{Acts, Opening}
use Rattle.run_watch.specs.Watches.{WatchNow}
use Rattle.target_core.specs.Targets.{OpensAs, TargetOf}
use Rattle.target_core.specs.target_resync.Openings.{Left, opening_did, opening_floor}
use Rattle.vos_store.specs.Calls.{State}
use Rattle.world_base.specs.declared.did.Did.{Did}
use Rattle.world_base.specs.declared.target.Life.TheVariants.{Running, Stopped}
use Rattle.world_base.specs.declared.target.TargetState.{TargetState}
use Rattle.world_base.specs.declared.world.World.{World}
use Rattle.world_base.specs.Events.{Rules, listed, target_plan, with_epoch, with_target}
use Rattle.world_base.specs.Letters.{asked_after, letters_of, target}
use Rattle.world_base.specs.Statuses.{opening_memory}
use Rattle.world_base.specs.StepLaws.{set-there}
use Rattle.world_base.specs.Stops.{Draws, Fails, IsBelowNumbers, IsFreeRestart, Opens, WorldEvent, WorldRun, after_opening, is_restart_of, opened_at, restart_line, swept}
use Rattle.run_base.specs.Sweeps.{is_left_by, is_lost_by, lives_of, sweeping-is_done, sweeps-are_of_lives}
use Rattle.world_base.specs.Stops.{Begins, Goes, reset_letter}
use Rattle.world_closing.specs.Below.{begins-well, runs-have_grounds}

-- ---- worlds that were reached

-- what goes to targets that are given up was lost
pub reached-swept : (r : Rules) (w : World) → WasReached r w → swept w ≡ w
reached-swept r w k = by w k.run
  where
    empty : (v : World) → v.messages ≡ [] → v.asked ≡ [] → swept v ≡ v
    empty v messages asked = ap (λ ms. swept (record v { messages = ms })) messages ∙ ap (λ qs. swept (record v { messages = []; asked = qs })) asked ∙ ap (λ qs. record v { messages = []; asked = qs }) (sym asked) ∙ ap (λ ms. record v { messages = ms }) (sym messages)

    by : (v : World) → WorldRun r k.first v → swept v ≡ v
    by v Begins = empty k.first k.begins.begins.messages k.begins.begins.asked
    by v (Goes u x run e) = subst (λ z. swept z ≡ z) (sym e.after) (sweeping-is_done e.u)

-- the number of the next restart stands in no line
next-free : (w : World) (v : World) → All (IsBelowNumbers w.numbers) w.lines → v.lines ≡ w.lines → v.numbers.restarts ≡ w.numbers.restarts + 1 → IsFreeRestart v w.numbers.restarts
next-free w v below lines next = record {
  drawn = let e = next in omega (arith, e);
  unused = ap (filter (is_restart_of w.numbers.restarts)) lines ∙ none w.lines (all-below w.lines below);
}
  where
    apart : (m : Line) → IsBelowNumbers w.numbers m → is_restart_of w.numbers.restarts m ≡ false
    apart (line.Restart n t inc floor) k = grind (arith, nat_tests)
    apart m k = refl

    none : (ls : List Line) → ((l : Line) → Has l ls → IsBelowNumbers w.numbers l) → filter (is_restart_of w.numbers.restarts) ls ≡ []
    none [] h = refl
    none (l ∷ ls) h = by (is_restart_of w.numbers.restarts l) (apart l (h l (inl refl))) (none ls (λ m i. h m (inr i)))
      where
        by : (b : Bool) → b ≡ false → filter (is_restart_of w.numbers.restarts) ls ≡ [] → (if b then l ∷ filter (is_restart_of w.numbers.restarts) ls else filter (is_restart_of w.numbers.restarts) ls) ≡ []
        by true off rest = let no : ⊥ = cc in absurd no
        by false off rest = rest

    all-below : (ls : List Line) → All (IsBelowNumbers w.numbers) ls → (l : Line) → Has l ls → IsBelowNumbers w.numbers l
    all-below (x ∷ ls) all l (inl same) = subst (IsBelowNumbers w.numbers) (sym same) (All-head (IsBelowNumbers w.numbers) x ls all)
    all-below (x ∷ ls) all l (inr i) = all-below ls (All-tail (IsBelowNumbers w.numbers) x ls all) l i
    all-below [] all l i = absurd i

-- ---- choices

-- of one target this would be found, and of the others what was chosen
abbrev pub choosing : ℕ → Durable → (ℕ → Durable) → ℕ → Durable
choosing t d found u = if u == t then d else found u

pub chosen : (t : ℕ) (d : Durable) (found : ℕ → Durable) → choosing t d found t ≡ d
chosen t d found = ap (λ b. if b then d else found t) (same_number t)

pub others : (t : ℕ) (d : Durable) (found : ℕ → Durable) (u : ℕ) → (u ≡ t → ⊥) → choosing t d found u ≡ found u
others t d found u apart = let off : (u == t) ≡ false = grind (arith, nat_tests) in ap (λ b. if b then d else found u) off

-- of two that are set at one place the second stands
pub set-twice : {A : Type 0} (xs : List A) (n : ℕ) (x y : A) → slice_set (slice_set xs n x) n y ≡ slice_set xs n y
set-twice [] n x y = refl
set-twice (z ∷ xs) zero x y = refl
set-twice (z ∷ xs) (suc n) x y = ap (λ zs. z ∷ zs) (set-twice xs n x y)

-- ---- an opening fails

module _ {S C : Type 0} (durable : S → Option Durable) (state : S → State) (may : S → Durable → Type 0) (r : Rules) (t : ℕ) (x y : TargetOf S C) (a : StageNow S C) (watch : WatchNow) (place : IsPlace a t x Stopped) (plan : y.plan ≡ x.plan) where
  module _ (left : Left (may x.store) (may y.store)) (free : (state x.store).free ≤ (state y.store).free) (lives : watch.lives ≡ a.watch.lives) (restarts : watch.restarts ≡ a.watch.restarts) where
    -- the actors after this
    abbrev failed : StageNow S C
    failed = record a { targets = slice_set a.targets t y; watch = watch }

    there : slice_get failed.targets t ≡ Some y
    there = is-set a.targets t x y place.there

    module _ (found : ℕ → Durable) (d : Durable) (kept : (found t ≡ d) ⊎ (found t ≡ reopened d)) where
      abbrev world-failed : World → TargetState → World
      world-failed w s = with_target t (record s { durable = found t; free = (state y.store).free }) w

      shown : (w : World) → WasReached r w → Shows durable state r (choosing t d found) a w → (s : IsThere durable state r (choosing t d found) w t x Stopped) → Shows durable state r found failed (swept (world-failed w s.s))
      shown w reached k s = record {
        clients = put.clients;
        plans = put.plans;
        many = put.many;
        lives = put.lives;
        targets = put.targets;
        messages = k.messages ∙ sym (ap (λ v. v.messages) (reached-swept r w reached)) ∙ (sweeps-are_of_lives w).0 ∙ ap (λ ls. filter (is_left_by ls) (w.messages ++ map (reset_letter true) (filter (is_lost_by ls) w.asked))) same-lives ∙ sym (sweeps-are_of_lives (world-failed w s.s)).0;
        asked = k.asked ∙ sym (ap (λ v. v.asked) (reached-swept r w reached)) ∙ (sweeps-are_of_lives w).1 ∙ ap (λ ls. filter (is_left_by ls) w.asked) same-lives ∙ sym (sweeps-are_of_lives (world-failed w s.s)).1;
        issued = k.issued;
        lines = k.lines;
        restarts = put.restarts;
      }
        where
          now : IsTargetOf durable state (target_plan r t) Stopped (found t) y (record s.s { durable = found t; free = (state y.store).free })
          now = record { made = plan ∙ s.is.made; lives = s.is.lives; so = record { keeps = refl; free = refl; forgot = s.is.so.forgot } }

          put : Shows durable state r found failed (world-failed w s.s)
          put = target-shown durable state r (choosing t d found) found a watch t y Stopped w (record s.s { durable = found t; free = (state y.store).free }) k (lives ∙ set-same a.watch.lives t Stopped place.stands) restarts now (λ u apart. sym (others t d found u apart))

          same-lives : lives_of w ≡ lives_of (world-failed w s.s)
          same-lives = k.lives ∙ sym lives ∙ sym put.lives

      fails : (settling : Bool) (number : ℕ) (w : World) (k : Shows durable state r (choosing t d found) a w) (s : IsThere durable state r (choosing t d found) w t x Stopped) → FaultBy r t settling number 1 None None w (swept (world-failed w s.s))
      fails settling number w k s = (
        record {
          event = record {
            u = world-failed w s.s;
            happens = Fails (record { t = t; s = s.s; k = record { durable = found t; free = (state y.store).free }; here = s.here; stopped = s.is.lives; left = was kept; no_less = no-less; after = refl });
            after = refl;
          };
          by = refl;
        },
        tt,
        refl,
        refl,
        refl,
      )
        where
          own : s.s.durable ≡ d
          own = s.is.so.keeps ∙ chosen t d found

          was : (found t ≡ d) ⊎ (found t ≡ reopened d) → (found t ≡ s.s.durable) ⊎ (found t ≡ reopened s.s.durable)
          was (inl e) = inl (e ∙ sym own)
          was (inr e) = inr (e ∙ ap reopened (sym own))

          no-less : s.s.free ≤ (state y.store).free
          no-less = subst (λ n. n ≤ (state y.store).free) s.is.so.free free

    pub failure-leads : (settling : Bool) (number : ℕ) → Leads durable state may (FaultBy r t settling number 1 None None) r a failed
    failure-leads settling number found are = by (left (found t) (are t y Stopped (record { there = there; stands = ap (λ ls. slice_get ls t) lives ∙ place.stands }) (λ e. let no : ⊥ = cc in no)))
      where
        were : (d : Durable) → may x.store d → AreFound may a (choosing t d found)
        were d m u z life p rests = elim (cases_eq u t) [
          | inl same ↦ (let one : x ≡ z = let e : Some x ≡ Some z = sym place.there ∙ subst (λ v. slice_get a.targets v ≡ Some z) same p.there in cc in
              subst (λ q. may q.store (choosing t d found u)) one (subst (may x.store) (sym (ap (choosing t d found) same ∙ chosen t d found)) m))
          | inr apart ↦ subst (may z.store) (sym (others t d found u apart)) (are u z life (record { there = set-there a.targets t u y apart ∙ p.there; stands = ap (λ ls. slice_get ls u) lives ∙ p.stands }) rests)
        ]

        with-choice : (d : Durable) → may x.store d → (found t ≡ d) ⊎ (found t ≡ reopened d) → IsFoundFrom durable state may (FaultBy r t settling number 1 None None) r a failed found
        with-choice d m kept = record {
          before = choosing t d found;
          were = were d m;
          led = λ w reached k. let s = target-there durable state r (choosing t d found) a w t x Stopped k place in
              record { next = swept (world-failed found d kept w s.s); turn = fails found d kept settling number w k s; shows = shown found d kept w reached k s };
        }

        by : may x.store (found t) ⊎ ((d : Durable) × may x.store d × (found t ≡ reopened d)) → IsFoundFrom durable state may (FaultBy r t settling number 1 None None) r a failed found
        by (inl m) = with-choice (found t) m (inl refl)
        by (inr z) = with-choice z.0 z.1 (inr z.2)

-- ---- it opens

module _ {S C : Type 0} (durable : S → Option Durable) (state : S → State) (may : S → Durable → Type 0) (r : Rules) (t : ℕ) (x y z : TargetOf S C) (a : StageNow S C) (watch : WatchNow) (did : Did) (k : ℕ) (place : IsPlace a t x Stopped) (plan : y.plan ≡ x.plan)
    (opens : OpensAs x.plan a.watch.restarts (may x.store) (durable y.store) (state y.store) y.memory did) (has_opened : y.opened ≡ true) (runs : (state y.store).stopped ≡ false) (free : (state x.store).free ≤ (state y.store).free) (fuse : HasFuse durable state may k y z)
    (lives : watch.lives ≡ slice_set a.watch.lives t Running) (restarts : watch.restarts ≡ a.watch.restarts + 1) where
  -- the actors after this
  abbrev pub opened : StageNow S C
  opened = swept_stage (record a { targets = slice_set a.targets t z; watch = watch; between = followed (target t) did a.between })

  module _ (found : ℕ → Durable) (w : World) (reached : WasReached r w) (shows : Shows durable state r (choosing t opens.found found) a w) (s : IsThere durable state r (choosing t opens.found found) w t x Stopped) where
    own : s.s.durable ≡ opens.found
    own = s.is.so.keeps ∙ chosen t opens.found found

    -- a number was drawn
    abbrev drawn : World
    drawn = record w { numbers = record w.numbers { restarts = w.numbers.restarts + 1 } }

    below : All (IsBelowNumbers w.numbers) w.lines
    below = (runs-have_grounds r reached.opening reached.first w reached.begins.form (begins-well r reached.opening reached.first reached.begins.begins) reached.run).1.lives.drawn

    rises : (ls : List Line) → All (IsBelowNumbers w.numbers) ls → All (IsBelowNumbers drawn.numbers) ls
    rises [] all = All-nil (IsBelowNumbers drawn.numbers)
    rises (l ∷ ls) all = All-cons (IsBelowNumbers drawn.numbers) l ls (higher l (All-head (IsBelowNumbers w.numbers) l ls all)) (rises ls (All-tail (IsBelowNumbers w.numbers) l ls all))
      where
        higher : (m : Line) → IsBelowNumbers w.numbers m → IsBelowNumbers drawn.numbers m
        higher (line.Restart n u inc floor) h = omega (arith, h)
        higher (line.Aggregate n u c upto) h = h
        higher m h = tt

    abbrev draws : WorldEvent r w (swept drawn)
    draws = record { u = drawn; happens = Draws (record { numbers = drawn.numbers; above = rises w.lines below; after = refl }); after = refl }

    abbrev world-opened : World
    world-opened = after_opening r (swept drawn) t w.numbers.restarts s.s (state z.store).free

    same-state : (state z.store).free ≡ (state y.store).free
    same-state = ap (λ h. h.free) fuse.state_is.rest

    abbrev acts : (settling : Bool) (number : ℕ) → Acts settling r (target t) number (swept drawn) (swept world-opened)
    acts settling number = record {
      event = record {
        u = world-opened;
        happens = Opens (record {
          t = t;
          s = s.s;
          number = w.numbers.restarts;
          free = (state z.store).free;
          here = s.here;
          stopped = s.is.lives;
          is_free = next-free w (swept drawn) below refl refl;
          no_less = subst (λ n. s.s.free ≤ n) (sym same-state) (subst (λ n. n ≤ (state y.store).free) s.is.so.free free);
          after = refl;
        });
        after = refl;
      };
      by = refl;
    }

    turn : (settling : Bool) (number : ℕ) → IsTurnSo settling r (target t) number 1 None None None None w (swept world-opened)
    turn settling number = record { turn = Opening (swept drawn) draws (refl, refl) (acts settling number) refl; raised_is = refl; stops_is = refl; downs_is = refl; faults_is = refl; read_is = refl }

    -- ---- what is shown

    number-is : w.numbers.restarts ≡ a.watch.restarts
    number-is = shows.restarts

    did-is : did ≡ opening_did (target_plan r t) w.numbers.restarts s.s.durable
    did-is = opens.did_is ∙ ap (λ p. opening_did p a.watch.restarts opens.found) s.is.made ∙ ap (λ n. opening_did (target_plan r t) n opens.found) (sym number-is) ∙ ap (opening_did (target_plan r t) w.numbers.restarts) (sym own)

    now : IsTargetOf durable state (target_plan r t) Running (found t) z (opened_at r t w.numbers.restarts s.s (state z.store).free)
    now = record {
      made = fuse.plan ∙ plan ∙ s.is.made;
      lives = refl;
      so = record {
        told = fuse.kept ∙ opens.kept_is ∙ ap (λ d. Some (reopened d)) (sym own);
        free = refl;
        opening = ap (λ h. h.opening) fuse.state_is.rest ∙ opens.opening ∙ ap (λ n. opening_floor n opens.found) (sym number-is) ∙ ap (opening_floor w.numbers.restarts) (sym own);
        opened = fuse.opened ∙ has_opened;
        running = ap (λ h. h.stopped) fuse.state_is.rest ∙ runs;
        knows = fuse.memory ∙ opens.memory_is ∙ ap (λ p. opening_memory p (reopened opens.found)) s.is.made ∙ ap (λ d. opening_memory (target_plan r t) (reopened d)) (sym own);
      };
    }

    put : Shows durable state r found (record a { targets = slice_set a.targets t z; watch = record watch { restarts = a.watch.restarts } }) (with_target t (opened_at r t w.numbers.restarts s.s (state z.store).free) w)
    put = target-shown durable state r (choosing t opens.found found) found a (record watch { restarts = a.watch.restarts }) t z Running w (opened_at r t w.numbers.restarts s.s (state z.store).free) shows lives refl now (λ u apart. sym (others t opens.found found u apart))

    still : swept w ≡ w
    still = reached-swept r w reached

    opened-shown : Shows durable state r found opened (swept world-opened)
    opened-shown = swept-shown durable state r found _ _ (record {
      clients = put.clients;
      plans = put.plans;
      many = put.many;
      lives = put.lives;
      targets = λ u q life v p at. put.targets u q life v (record { there = p.there; stands = p.stands }) at;
      messages = ap (λ ms. ms ++ letters_of (target t) did.posts) (shows.messages ∙ sym (ap (λ v. v.messages) still)) ∙ ap (λ e. (swept w).messages ++ letters_of (target t) e.posts) did-is;
      asked = ap (λ qs. asked_after qs (letters_of (target t) did.posts)) (shows.asked ∙ sym (ap (λ v. v.asked) still)) ∙ ap (λ e. asked_after (swept w).asked (letters_of (target t) e.posts)) did-is;
      issued = ap (λ e. a.between.issued ++ listed e.issued) did-is ∙ append-nil a.between.issued ∙ shows.issued;
      lines = ap (λ e. a.between.lines ++ map (with_epoch a.between.issued) e.lines) did-is ∙ ap (λ ls. ls ++ restart_line w.numbers.restarts t s.s.durable ∷ []) shows.lines;
      restarts = ap (λ n. n + 1) number-is ∙ sym restarts;
    })

  pub opening-leads : (settling : Bool) (number : ℕ) → Leads durable state may (IsTurnSo settling r (target t) number 1 None None None None) r a opened
  opening-leads settling number found are = record {
    before = choosing t opens.found found;
    were = were;
    led = λ w reached shows. let s = target-there durable state r (choosing t opens.found found) a w t x Stopped shows place in
        record { next = swept (world-opened found w reached shows s); turn = turn found w reached shows s settling number; shows = opened-shown found w reached shows s };
  }
    where
      were : AreFound may a (choosing t opens.found found)
      were u q life p rests = elim (cases_eq u t) [
        | inl same ↦ (let one : x ≡ q = let e : Some x ≡ Some q = sym place.there ∙ subst (λ v. slice_get a.targets v ≡ Some q) same p.there in cc in
            subst (λ v. may v.store (choosing t opens.found found u)) one (subst (may x.store) (sym (ap (choosing t opens.found found) same ∙ chosen t opens.found found)) opens.may_be))
        | inr apart ↦ subst (may q.store) (sym (others t opens.found found u apart)) (are u q life (record { there = set-there a.targets t u z apart ∙ p.there; stands = ap (λ ls. slice_get ls u) lives ∙ set-there a.watch.lives t u Running apart ∙ p.stands }) rests)
      ]
