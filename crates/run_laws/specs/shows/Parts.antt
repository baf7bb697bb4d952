-- What the actors show of a world once a part of it changed.
use Rattle.std.specs.Prelude.{ℕ, ◌≡◌, ◌++◌, List, [], ◌∷◌, filter, length, map, slice_get, slice_set, Bool, true, false, Option, Some, refl, if◌then◌else◌}
use Rattle.std.proofs.Common.{zero, suc, inl, inr, sym, ◌∙◌, ap, subst, arith}
use Rattle.std.proofs.Math.ListN.{set}
use Rattle.std.proofs.lemmas.Bool.{cases_eq}
use Rattle.daos_model.specs.declared.durable.Durable.{Durable}
use Rattle.run_base.specs.Letters.{BetweenNow, IsPicked}
use Rattle.run_base.specs.Sweeps.{lives_of, sweeps-are_of_lives}
use Rattle.run_laws.specs.shows.ListLaws.{length-set, map-get, map-set}
use Rattle.run_laws.specs.shows.Shows.{IsTargetOf, Shows}
use Rattle.run_laws.specs.shows.Stages.{IsPlace, StageNow}
use Rattle.run_laws.specs.shows.Turned.{followed, swept_between, swept_stage, with_between}
use Rattle.run_laws.specs.turns.Faults.{fault_by}
use Rattle.run_laws.specs.turns.Raising.{raised_in}
use Rattle.run_laws.specs.turns.Readings.{read_by}
use Rattle.run_laws.specs.turns.StopLines.{given_up_by, stops_by}
use Rattle.run_laws.specs.turns.Turns.{TurnOf}
use Rattle.run_watch.specs.Watches.{WatchNow}
use Rattle.target_core.specs.Targets.{TargetOf}
use Rattle.vos_store.specs.Calls.{State}
use Rattle.base_messages.specs.declared.actor.ActorId.{ActorId}
use Rattle.world_base.specs.declared.did.Did.{Did}
use Rattle.world_base.specs.declared.letter.Letter.{Letter}
use Rattle.world_base.specs.declared.target.Life.{Life}
use Rattle.world_base.specs.declared.target.TargetState.{TargetState}
use Rattle.world_base.specs.declared.world.World.{World}
use Rattle.world_base.specs.Events.{Rules, after_turn, listed, target_plan, with_epoch, with_target}
use Rattle.world_base.specs.Letters.{Takes, asked_after, letters_of}
use Rattle.world_base.specs.StepLaws.{set-is, set-there}
use Rattle.world_base.specs.Stops.{swept}

pub picked-takes : (letters : List Letter) (n : ℕ) (l : Letter) (rest : List Letter) → (a : _) → IsPicked letters a n l rest → Takes letters l rest
picked-takes letters n l rest a k = record { before = k.before; after = k.after; among = k.among; left = k.left }

-- a list as long as another one has an element where that has one
pub at-both : {A B : Type 0} (xs : List A) (ys : List B) (n : ℕ) (x : A) → length ys ≡ length xs → slice_get xs n ≡ Some x → (y : B) × (slice_get ys n ≡ Some y)
at-both [] ys n x many at = let no : ⊥ = cc in absurd no
at-both (z ∷ xs) [] n x many at = let no : ⊥ = omega (arith, many) in absurd no
at-both (z ∷ xs) (y ∷ ys) zero x many at = (y, refl)
at-both (z ∷ xs) (y ∷ ys) (suc n) x many at = at-both xs ys n x (omega (arith, many)) at

module _ {S C : Type 0} (durable : S → Option Durable) (state : S → State) (r : Rules) where
  -- ---- a target of the world

  pub record IsThere (found : ℕ → Durable) (w : World) (t : ℕ) (x : TargetOf S C) (life : Life) : Type 0 where
    pub s : TargetState
    pub here : slice_get w.targets t ≡ Some s
    pub is : IsTargetOf durable state (target_plan r t) life (found t) x s

  pub target-there : (found : ℕ → Durable) (a : StageNow S C) (w : World) (t : ℕ) (x : TargetOf S C) (life : Life) → Shows durable state r found a w → IsPlace a t x life → IsThere found w t x life
  target-there found a w t x life k place =
      let s = at-both a.targets w.targets t x k.many place.there in
      record { s = s.0; here = s.1; is = k.targets t x life s.0 place s.1 }

  -- each target that is there stands in some way
  pub place-of : (found : ℕ → Durable) (a : StageNow S C) (w : World) (t : ℕ) (x : TargetOf S C) → Shows durable state r found a w → slice_get a.targets t ≡ Some x → (life : Life) × IsPlace a t x life
  place-of found a w t x k at =
      let s = at-both a.targets w.targets t x k.many at in
      (s.0.life, record { there = at; stands = ap (λ ls. slice_get ls t) (sym k.lives) ∙ map-get (λ z. z.life) w.targets t s.0 s.1 })

  -- ---- a target changes

  module _ (found found' : ℕ → Durable) (a : StageNow S C) (watch : WatchNow) (t : ℕ) (y : TargetOf S C) (life : Life) (w : World) (s : TargetState) where
    abbrev target-put : StageNow S C
    target-put = record a { targets = slice_set a.targets t y; watch = watch }

    -- a target changes, and how it stands
    pub target-shown : Shows durable state r found a w → watch.lives ≡ slice_set a.watch.lives t life → watch.restarts ≡ a.watch.restarts → IsTargetOf durable state (target_plan r t) life (found' t) y s → ((u : ℕ) → (u ≡ t → ⊥) → found' u ≡ found u)
        → Shows durable state r found' target-put (with_target t s w)
    target-shown k lives restarts now apart-same = record {
      clients = k.clients;
      plans = k.plans;
      many = length-set w.targets t s ∙ k.many ∙ sym (length-set a.targets t y);
      lives = map-set (λ z. z.life) w.targets t s ∙ ap (λ ls. set ls t s.life) k.lives ∙ ap (set a.watch.lives t) now.lives ∙ sym lives;
      targets = λ m z l u place here. pairs m z l u place here;
      messages = k.messages;
      asked = k.asked;
      issued = k.issued;
      lines = k.lines;
      restarts = k.restarts ∙ sym restarts;
    }
      where
        pairs : (m : ℕ) (z : TargetOf S C) (l : Life) (u : TargetState) → IsPlace target-put m z l → slice_get (set w.targets t s) m ≡ Some u → IsTargetOf durable state (target_plan r m) l (found' m) z u
        pairs m z l u place here = elim (cases_eq m t) [
          | inl same ↦ subst (λ j. IsTargetOf durable state (target_plan r j) l (found' j) z u) (sym same) (at-it same)
          | inr apart ↦
              subst (λ d. IsTargetOf durable state (target_plan r m) l d z u) (sym (apart-same m apart))
              (k.targets m z l u
              (record { there = sym (set-there a.targets t m y apart) ∙ place.there; stands = sym (set-there a.watch.lives t m life apart) ∙ ap (λ ls. slice_get ls m) (sym lives) ∙ place.stands })
              (sym (set-there w.targets t m s apart) ∙ here))
        ]
          where
            at-it : m ≡ t → IsTargetOf durable state (target_plan r t) l (found' t) z u
            at-it same =
                let one : y ≡ z = set-is a.targets t y z (subst (λ j. slice_get (set a.targets t y) j ≡ Some z) same place.there) in
                let two : s ≡ u = set-is w.targets t s u (subst (λ j. slice_get (set w.targets t s) j ≡ Some u) same here) in
                let three : life ≡ l = set-is a.watch.lives t life l (subst (λ j. slice_get (set a.watch.lives t life) j ≡ Some l) same (ap (λ ls. slice_get ls m) (sym lives) ∙ place.stands)) in
                subst (λ q. IsTargetOf durable state (target_plan r t) q (found' t) z u) three
                (subst (λ q. IsTargetOf durable state (target_plan r t) life (found' t) q u) one (subst (λ q. IsTargetOf durable state (target_plan r t) life (found' t) y q) two now))

  -- ---- what lies between changes

  -- what goes to targets that are given up is lost
  pub swept-shown : (found : ℕ → Durable) (a : StageNow S C) (w : World) → Shows durable state r found a w → Shows durable state r found (swept_stage a) (swept w)
  swept-shown found a w k = record {
    clients = k.clients;
    plans = k.plans;
    many = k.many;
    lives = k.lives;
    targets = λ t x life s place here. k.targets t x life s (record { there = place.there; stands = place.stands }) here;
    messages =
        ap (λ ls. (swept_between ls a.between).messages) (sym k.lives)
        ∙ ap (λ ms. (swept_between (lives_of w) (record a.between { messages = ms })).messages) k.messages
        ∙ ap (λ qs. (swept_between (lives_of w) (record a.between { messages = w.messages; asked = qs })).messages) k.asked
        ∙ sym (sweeps-are_of_lives w).0;
    asked = ap (λ ls. (swept_between ls a.between).asked) (sym k.lives) ∙ ap (λ qs. (swept_between (lives_of w) (record a.between { asked = qs })).asked) k.asked ∙ sym (sweeps-are_of_lives w).1;
    issued = k.issued;
    lines = k.lines;
    restarts = k.restarts;
  }

  -- what follows from an actor's turn comes about, where these letters were left in flight
  pub follow-shown : (found : ℕ → Durable) (a : StageNow S C) (w : World) (from : ActorId) (did : Did) (left : BetweenNow) (rest : List Letter) → Shows durable state r found a w → left.messages ≡ rest → left.asked ≡ a.between.asked → left.issued ≡ a.between.issued
      → left.lines ≡ a.between.lines → Shows durable state r found (with_between (followed from did left) a) (after_turn w from did rest)
  follow-shown found a w from did left rest k messages asked issued lines = record {
    clients = k.clients;
    plans = k.plans;
    many = k.many;
    lives = k.lives;
    targets = λ t x life s place here. k.targets t x life s (record { there = place.there; stands = place.stands }) here;
    messages = ap (λ ls. ls ++ letters_of from did.posts) messages;
    asked = ap (λ q. asked_after q (letters_of from did.posts)) (asked ∙ k.asked);
    issued = ap (λ is. is ++ listed did.issued) (issued ∙ k.issued);
    lines = ap (λ ls. ls ++ map (with_epoch left.issued) did.lines) (lines ∙ k.lines) ∙ ap (λ is. w.lines ++ map (with_epoch is) did.lines) (issued ∙ k.issued);
    restarts = k.restarts;
  }

-- what is set where it stood changes nothing
pub set-same : {A : Type 0} (xs : List A) (n : ℕ) (x : A) → slice_get xs n ≡ Some x → xs ≡ slice_set xs n x
set-same [] n x at = refl
set-same (y ∷ ys) zero x at = let same : y ≡ x = cc in ap (λ z. z ∷ ys) same
set-same (y ∷ ys) (suc n) x at = ap (λ zs. y ∷ zs) (set-same ys n x at)

-- those of two lists that pass a test
pub filter-both : {T : Type 0} (p : T → Bool) (xs ys : List T) → filter p (xs ++ ys) ≡ filter p xs ++ filter p ys
filter-both p [] ys = refl
filter-both p (x ∷ xs) ys = by (p x) (filter-both p xs ys)
  where
    by : (b : Bool) → filter p (xs ++ ys) ≡ filter p xs ++ filter p ys → (if b then x ∷ filter p (xs ++ ys) else filter p (xs ++ ys)) ≡ (if b then x ∷ filter p xs else filter p xs) ++ filter p ys
    by true h = ap (λ zs. x ∷ zs) h
    by false h = h

-- what was set stands there
pub is-set : {A : Type 0} (xs : List A) (n : ℕ) (x y : A) → slice_get xs n ≡ Some x → slice_get (slice_set xs n y) n ≡ Some y
is-set [] n x y at = let no : ⊥ = cc in absurd no
is-set (z ∷ xs) zero x y at = refl
is-set (z ∷ xs) (suc n) x y at = is-set xs n x y at

-- ---- what a turn counts

-- a turn raised incarnations so often; in it these targets stopped and were given up, and the turn of this one was cut or its opening failed, if any;
-- and this reading was given by the clock of a target, if one was
pub record IsTurnSo (settling : Bool) (r : Rules) (a : ActorId) (k : ℕ) (raised : ℕ) (stops downs faults : Option ℕ) (read : Option (ℕ × ℕ)) (w v : World) : Type 0 where
  pub turn : TurnOf settling r a k w v
  pub raised_is : raised_in settling r a k turn ≡ raised
  pub stops_is : stops_by turn ≡ stops
  pub downs_is : given_up_by turn ≡ downs
  pub faults_is : fault_by turn ≡ faults
  pub read_is : read_by turn ≡ read
