-- A stopped target is given up, or the outside's failure is counted.
use Rattle.std.specs.Prelude.{ℕ, ◌≡◌, ◌+◌, ◌==◌, ◌++◌, ◌∷◌, List, [], filter, slice_get, slice_set, Bool, true, false, Option, Some, None, refl, if◌then◌else◌}
use Rattle.std.proofs.Common.{inl, inr, sym, ◌∙◌, ap, subst}
use Rattle.std.proofs.lemmas.Bool.{cases_eq}
use Rattle.base_types.specs.declared.report.Line.TheVariants as line
use Rattle.daos_model.specs.declared.durable.Durable.{Durable}
use Rattle.run_laws.specs.shows.Parts.{IsThere, IsTurnSo, is-set, set-same, swept-shown, target-shown, target-there}
use Rattle.run_laws.specs.shows.ListLaws.{length-set}
use Rattle.run_laws.specs.shows.Shows.{IsTargetOf, Leads, Shows}
use Rattle.run_laws.specs.shows.Stages.{AreFound, IsPlace, StageNow}
use Rattle.run_laws.specs.shows.Turned.{AfterStop, Failed, LastTime, NotFailed, failed_stage, given_up_stage, swept_stage}
use Rattle.world_closing.specs.safety.Raising.{raised_by}
use Rattle.run_laws.specs.turns.Faults.{fault-own}
use Rattle.run_laws.specs.turns.Readings.{read_in}
use Rattle.run_laws.specs.turns.Turns.{Acts, Doing, GivingUp, IsFault, IsNoOpening}
use Rattle.world_letters.specs.lives.Events.{stops_in}
use Rattle.run_watch.specs.Watches.{WatchNow, after_fault, with_life}
use Rattle.target_core.specs.Targets.{TargetOf}
use Rattle.vos_store.specs.Calls.{State}
use Rattle.world_base.specs.declared.letter.Letter.{Letter}
use Rattle.world_base.specs.declared.target.Life.TheVariants.{Down, Stopped}
use Rattle.world_base.specs.declared.target.TargetState.{TargetState}
use Rattle.world_base.specs.declared.world.World.{World}
use Rattle.world_base.specs.Events.{Rules, target_plan, with_target}
use Rattle.world_base.specs.Letters.{target}
use Rattle.world_base.specs.StepLaws.{set-there}
use Rattle.world_base.specs.Stops.{Draws, Fails, Further, GivenUp, Happening, IsCut, Opens, Plainly, WorldEvent, is_not_to, resets, swept, with_lost}

-- One event of a target, in which its store failed it; it raised incarnations so often, this target stopped in it, if one did, and this reading was
-- given by its clock, if one was.
abbrev pub FaultBy : (r : Rules) → ℕ → Bool → ℕ → ℕ → Option ℕ → Option (ℕ × ℕ) → World → World → Type 0
FaultBy r t settling number raised stops read w v = (d : Acts settling r (target t) number w v) × IsFault r d.event.happens × (raised_by r d.event.happens ≡ raised) × (stops_in d.event.happens ≡ stops) × (read_in d.event.happens ≡ read)

-- the target that is given up then, if it is
abbrev pub downs_after : {S C : Type 0} (t before now : ℕ) (a b : StageNow S C) → AfterStop t before now a b → Option ℕ
downs_after t before now a b (NotFailed less same) = None
downs_after t before now a b (Failed more n at few same) = None
downs_after t before now a b (LastTime more at same) = Some t

-- that a fault is counted changes nothing else
pub lives-same : (t n : ℕ) (w : WatchNow) → w.lives ≡ (after_fault t n w).lives
lives-same t n w = by (n == 8)
  where
    by : (b : Bool) → w.lives ≡ (if b then w else record w { faults = slice_set w.faults t (n + 1) }).lives
    by true = refl
    by false = refl

restarts-same : (t n : ℕ) (w : WatchNow) → w.restarts ≡ (after_fault t n w).restarts
restarts-same t n w = by (n == 8)
  where
    by : (b : Bool) → w.restarts ≡ (if b then w else record w { faults = slice_set w.faults t (n + 1) }).restarts
    by true = refl
    by false = refl

-- a fault is no opening
fault-opens-none : (r : Rules) {w u : World} (e : Happening r w u) → IsFault r e → IsNoOpening r e
fault-opens-none r (Plainly e up) f = absurd f
fault-opens-none r (Further g) f = absurd f
fault-opens-none r (IsCut g) f = tt
fault-opens-none r (Opens g) f = absurd f
fault-opens-none r (Fails g) f = tt
fault-opens-none r (GivenUp g) f = absurd f
fault-opens-none r (Draws g) f = absurd f

-- the world once a target was given up
abbrev world-after : ℕ → World → TargetState → World
world-after t w s = with_lost t true (with_target t (record s { life = Down }) (record w { lines = w.lines ++ line.Down t ∷ [] }))

module _ {S C : Type 0} (durable : S → Option Durable) (state : S → State) (r : Rules) (t : ℕ) where
  -- ---- given up

  module _ (a : StageNow S C) (x : TargetOf S C) (place : IsPlace a t x Stopped) (found : ℕ → Durable) (w : World) (k : Shows durable state r found a w) (s : IsThere durable state r found w t x Stopped) where
    gone : IsTargetOf durable state (target_plan r t) Down (found t) x (record s.s { life = Down })
    gone = record { made = s.is.made; lives = refl; so = record { keeps = s.is.so.keeps; free = s.is.so.free; forgot = s.is.so.forgot } }

    pub given_up-shown : Shows durable state r found (swept_stage (given_up_stage t a)) (swept (world-after t w s.s))
    given_up-shown = swept-shown durable state r found _ _ (record {
      clients = put.clients;
      plans = put.plans;
      many = put.many ∙ length-set a.targets t x;
      lives = put.lives;
      targets = λ u z life v p at. put.targets u z life v (record { there = ap (λ xs. slice_get xs u) (sym (set-same a.targets t x place.there)) ∙ p.there; stands = p.stands }) at;
      messages = ap (λ ms. (given_up-of ms a.between.asked)) k.messages ∙ ap (λ q. given_up-of w.messages q) k.asked;
      asked = ap (filter (is_not_to t)) k.asked;
      issued = k.issued;
      lines = ap (λ ls. ls ++ line.Down t ∷ []) k.lines;
      restarts = put.restarts;
    })
      where
        given_up-of : List Letter → List Letter → List Letter
        given_up-of ms q = filter (is_not_to t) ms ++ resets t true q

        put : Shows durable state r found (record a { targets = slice_set a.targets t x; watch = with_life t Down a.watch }) (with_target t (record s.s { life = Down }) w)
        put = target-shown durable state r found found a (with_life t Down a.watch) t x Down w (record s.s { life = Down }) k refl refl gone (λ u apart. refl)

    abbrev pub gives-up : WorldEvent r w (swept (world-after t w s.s))
    gives-up = record { u = world-after t w s.s; happens = GivenUp (record { t = t; s = s.s; here = s.here; stopped = s.is.lives; after = refl }); after = refl }

  -- what would be found of a target that is given up, would be found of it before
  pub found-before : (may : S → Durable → Type 0) (found : ℕ → Durable) (a : StageNow S C) (x : TargetOf S C) → IsPlace a t x Stopped → AreFound may (swept_stage (given_up_stage t a)) found → AreFound may a found
  found-before may found a x place are u z life p rests = elim (cases_eq u t) [
    | inl same ↦ subst (λ v. may z.store (found v)) (sym same) (are t z Down (record { there = subst (λ v. slice_get a.targets v ≡ Some z) same p.there; stands = is-set a.watch.lives t Stopped Down place.stands }) (λ e. let no : ⊥ = cc in no))
    | inr apart ↦ are u z life (record { there = p.there; stands = set-there a.watch.lives t u Down apart ∙ p.stands }) rests
  ]

  -- ---- counted

  found-counted : (may : S → Durable → Type 0) (n : ℕ) (found : ℕ → Durable) (a : StageNow S C) → AreFound may (failed_stage t n a) found → AreFound may a found
  found-counted may n found a are u z life p rests = are u z life (record { there = p.there; stands = ap (λ ls. slice_get ls u) (sym (lives-same t n a.watch)) ∙ p.stands }) rests

  pub faults-shown : (n : ℕ) (found : ℕ → Durable) (a : StageNow S C) (w : World) → Shows durable state r found a w → Shows durable state r found (failed_stage t n a) w
  faults-shown n found a w k = record {
    clients = k.clients;
    plans = k.plans;
    many = k.many;
    lives = k.lives ∙ same-lives;
    targets = λ u z life v p at. k.targets u z life v (record { there = p.there; stands = ap (λ ls. slice_get ls u) same-lives ∙ p.stands }) at;
    messages = k.messages;
    asked = k.asked;
    issued = k.issued;
    lines = k.lines;
    restarts = k.restarts ∙ same-restarts;
  }
    where
      same-lives : a.watch.lives ≡ (after_fault t n a.watch).lives
      same-lives = lives-same t n a.watch

      same-restarts : a.watch.restarts ≡ (after_fault t n a.watch).restarts
      same-restarts = restarts-same t n a.watch

  -- ---- what a fault comes to

  -- A target's store failed it, and then this came of it: a turn of the target.
  pub fault-leads : (may : S → Durable → Type 0) (settling : Bool) (number raised before now : ℕ) (stops : Option ℕ) (read : Option (ℕ × ℕ)) (a b c : StageNow S C) (y : TargetOf S C) → IsPlace b t y Stopped → Leads durable state may (FaultBy r t settling number raised stops read) r a b → (after : AfterStop t before now b c)
      → Leads durable state may (IsTurnSo settling r (target t) number raised stops (downs_after t before now b c after) (Some t) read) r a c
  fault-leads may settling number raised before now stops read a b c y place leads (NotFailed less same) found are =
      let z = leads found (subst (λ q. AreFound may q found) same are) in
      record {
        before = z.before;
        were = z.were;
        led = λ w reached k. let l = z.led w reached k in record { next = l.next; turn = record { turn = Doing l.turn.0 (fault-opens-none r l.turn.0.event.happens l.turn.1); raised_is = l.turn.2; stops_is = l.turn.3; downs_is = refl; faults_is = fault-own settling r t number w l.turn.0.event.u l.turn.0.event.happens l.turn.1 l.turn.0.by; read_is = l.turn.4 }; shows = subst (λ q. Shows durable state r found q l.next) (sym same) l.shows };
      }
  fault-leads may settling number raised before now stops read a b c y place leads (Failed more n at few same) found are =
      let z = leads found (found-counted may n found b (subst (λ q. AreFound may q found) same are)) in
      record {
        before = z.before;
        were = z.were;
        led = λ w reached k. let l = z.led w reached k in
            record { next = l.next; turn = record { turn = Doing l.turn.0 (fault-opens-none r l.turn.0.event.happens l.turn.1); raised_is = l.turn.2; stops_is = l.turn.3; downs_is = refl; faults_is = fault-own settling r t number w l.turn.0.event.u l.turn.0.event.happens l.turn.1 l.turn.0.by; read_is = l.turn.4 }; shows = subst (λ q. Shows durable state r found q l.next) (sym same) (faults-shown n found b l.next l.shows) };
      }
  fault-leads may settling number raised before now stops read a b c y place leads (LastTime more at same) found are =
      let z = leads found (found-before may found b y place (subst (λ q. AreFound may q found) same are)) in
      record {
        before = z.before;
        were = z.were;
        led = λ w reached k. let l = z.led w reached k in
            let s = target-there durable state r found b l.next t y Stopped l.shows place in
            record {
              next = swept (world-after t l.next s.s);
              turn = record { turn = GivingUp l.next l.turn.0 l.turn.1 (gives-up b y place found l.next l.shows s) refl; raised_is = l.turn.2; stops_is = l.turn.3; downs_is = refl; faults_is = fault-own settling r t number w l.turn.0.event.u l.turn.0.event.happens l.turn.1 l.turn.0.by; read_is = l.turn.4 };
              shows = subst (λ q. Shows durable state r found q (swept (world-after t l.next s.s))) (sym same) (given_up-shown b y place found l.next l.shows s);
            };
      }
