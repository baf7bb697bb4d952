-- Targets before their first turns, whose fuses were set.
use Rattle.std.specs.Prelude.{ℕ, ◌≡◌, ◌≤◌, ◌+◌, true, false, nat_lt, List, [], length, map, slice_get, Option, Some, None, is_some}
use Rattle.std.proofs.Common.{inr, sym, ◌∙◌, ap, subst, arith}
use Rattle.std.proofs.lemmas.Option.{slice_get_within}
use Rattle.base_types.specs.declared.outcome.FloorWhy.TheVariants as floor
use Rattle.base_types.specs.declared.script.StopDecl.{StopDecl}
use Rattle.client_core.specs.Clients.{ClientNow}
use Rattle.daos_model.specs.declared.durable.Durable.{Durable}
use Rattle.daos_model.specs.FormLaws.{length-map}
use Rattle.daos_model.specs.Opening.{Given}
use Rattle.model_laws.specs.Members.{has-from_contains}
use Rattle.run_laws.specs.shows.Accounts.{AreAccounted, AreServed, one_if, stop_lines_of}
use Rattle.run_laws.specs.shows.Openings.{HasFuse}
use Rattle.run_laws.specs.shows.Parts.{at-both}
use Rattle.run_laws.specs.shows.Serving.{served-by-fuse}
use Rattle.run_watch.specs.Watches.{WatchNow, first_watch, next_fuse}
use Rattle.target_core.specs.Targets.{TargetOf}
use Rattle.run_opening.specs.target_parts.Readings.{IsReadOn, not-read_on}
use Rattle.vos_store.specs.Calls.{State}
use Rattle.world_base.specs.declared.target.Life.TheVariants.{Running}
use Rattle.run_laws.specs.ends.Arming.{AreArmed, HaveFuses, lines_left}
use Rattle.run_laws.specs.ends.Begun.{IsFirstWatch, first_stage, told-there}
use Rattle.run_laws.specs.ends.FuseLaws.{taken-left}
use Rattle.run_laws.specs.ends.Places.{from-map, replicate-at, same-lists}
use Rattle.run_laws.specs.ends.Starts.{AllTell, BeginsSo, HasStarted, HaveStarted, first_world, or_empty, state_now, stores_of, target_state}

-- ---- what stores say of themselves

-- what is said of a store that isn't there
abbrev no_state : State
no_state = record { stopped = false; faults = 0; burns = 0; may_fail = false; fused = false; tells_fuse = false; left = 0; free = 0; targets = 0; opening = (record { 0 = 0 }, floor.Opening) }

abbrev pub state_or_none : {S C : Type 0} → (S → State) → Option (TargetOf S C) → State
state_or_none state None = no_state
state_or_none state (Some x) = state x.store

-- the stores of these targets, by their numbers
abbrev pub states_of : {S C : Type 0} → (S → State) → List (TargetOf S C) → ℕ → State
states_of state xs t = state_or_none state (slice_get xs t)

pub state-at : {S C : Type 0} (state : S → State) (xs : List (TargetOf S C)) (t : ℕ) (x : TargetOf S C) → slice_get xs t ≡ Some x → states_of state xs t ≡ state x.store
state-at state xs t x at = ap (state_or_none state) at

module _ {S C : Type 0} (durable : S → Option Durable) (state : S → State) (may : S → Durable → Type 0) where
  -- ---- one target

  module _ (n : ℕ) (x y : TargetOf S C) (f : HasFuse durable state may n x y) where
    -- where a fuse of its store is told, this says whether one is set
    pub told-fuse : (state y.store).tells_fuse ≡ true → (state y.store).fused ≡ nat_lt 0 n
    told-fuse tells = (f.state_is.told (sym (ap (λ h. h.tells_fuse) f.state_is.rest) ∙ tells)).0

    -- in a world it is as before
    state-stays : (d : Durable) → target_state durable state y d ≡ target_state durable state x d
    state-stays d =
        ap (λ h. record { durable = d; free = h.free; opening = h.opening; life = Running; memory = y.memory }) f.state_is.rest
        ∙ ap (λ m. record { durable = d; free = (state x.store).free; opening = (state x.store).opening; life = Running; memory = m }) f.memory

    fuse-started : (g : Given) (t : ℕ) → HasStarted durable state g t x → HasStarted durable state g t y
    fuse-started g t k = record {
      plan = f.plan ∙ k.plan;
      opened = f.opened ∙ k.opened;
      running = ap (λ h. h.stopped) f.state_is.rest ∙ k.running;
      leader = ap (λ m. m.leader) f.memory ∙ k.leader;
      waits = ap (λ m. m.member.parked) f.memory ∙ k.waits;
      makes = ap (λ m. m.collecting) f.memory ∙ k.makes;
      ticks = λ d is. ap (λ m. m.ticks) f.memory ∙ k.ticks d (sym f.kept ∙ is);
      seldom = λ d is. k.seldom d (sym f.kept ∙ is);
    }

  -- ---- all targets

  module _ (xs ys : List (TargetOf S C)) {write : ℕ → ℕ} (fuses : HaveFuses durable state may write xs ys) where
    -- the target before its fuse was set
    pub before-fuse : (t : ℕ) (y : TargetOf S C) → slice_get ys t ≡ Some y → (x : TargetOf S C) × (slice_get xs t ≡ Some x)
    before-fuse t y at = at-both ys xs t y (sym fuses.many) at

    -- and so is the first world
    same-now : (t : ℕ) (x y : TargetOf S C) → slice_get xs t ≡ Some x → slice_get ys t ≡ Some y → state_now durable state y ≡ state_now durable state x
    same-now t x y here there =
        let f = fuses.each t x y here there in
        ap (λ o. target_state durable state y (or_empty o)) f.kept ∙ state-stays (write t) x y f (or_empty (durable x.store))

    pub same-first : (cs : List ClientNow) → first_world durable state cs xs ≡ first_world durable state cs ys
    same-first cs =
        ap (λ ts. record (first_world durable state cs xs) { targets = ts })
        (same-lists (map (state_now durable state) xs) (map (state_now durable state) ys) (length-map (state_now durable state) xs ∙ sym fuses.many ∙ sym (length-map (state_now durable state) ys))
        (λ t a b at there.
        let x = from-map (state_now durable state) xs t a at in
        let y = from-map (state_now durable state) ys t b there in
        x.is ∙ sym (same-now t x.of_it y.of_it x.at y.at) ∙ sym y.is))

    -- what is told once fuses were set was told before
    untell : AllTell durable (stores_of ys) → AllTell durable (stores_of xs)
    untell told t s there =
        let x = from-map (λ z. z.store) xs t s there in
        let y = at-both xs ys t x.of_it fuses.many x.at in
        ap (λ z. is_some (durable z)) x.is ∙ sym (ap is_some (fuses.each t x.of_it y.0 x.at y.1).kept) ∙ told-there durable ys told t y.0 y.1

    pub fuses-started : (g : Given) (cs : List ClientNow) → HaveStarted durable state g cs xs → HaveStarted durable state g cs ys
    fuses-started g cs k = record {
      form = k.form;
      those = k.those;
      many = fuses.many ∙ k.many;
      each = λ t y there. let x = before-fuse t y there in let f = fuses.each t x.0 y x.1 there in fuse-started (write t) x.0 y f g t (k.each t x.0 x.1);
      so = λ told. subst (BeginsSo g) (same-first cs) (k.so (untell told));
    }

    pub fuses-tell : AllTell durable (stores_of xs) → AllTell durable (stores_of ys)
    fuses-tell told t s there =
        let y = from-map (λ z. z.store) ys t s there in
        let x = before-fuse t y.of_it y.at in
        ap (λ z. is_some (durable z)) y.is ∙ ap is_some (fuses.each t x.0 y.of_it x.1 y.at).kept ∙ told-there durable xs told t x.0 x.1

    -- and their stores and clocks had no calls
    pub fuses-serve : (is_read : C → C → Type 0) → AreServed durable state is_read xs ys
    fuses-serve is_read = record {
      many = fuses.many;
      stores = λ t x y at there. served-by-fuse durable state may (write t) x y (fuses.each t x y at there);
      clocks = λ t x y at there. subst (IsReadOn is_read x.clock) (sym (fuses.each t x y at there).clock) (not-read_on is_read x.clock);
    }

  -- ---- how often targets stopped

  -- each fuse that is set is of a stop line that is no more to come
  pub armed-lines : (stops : List StopDecl) (targets : ℕ) (xs ys : List (TargetOf S C)) (v : WatchNow) → AreArmed durable state may xs ys (first_watch targets stops) v → (t : ℕ) (y : TargetOf S C) → slice_get ys t ≡ Some y → (state y.store).tells_fuse ≡ true
      → stop_lines_of t v.stops + one_if (state y.store).fused ≤ stop_lines_of t stops
  armed-lines stops targets xs ys v k t y there tells =
      let x = before-fuse xs ys k.fuses t y there in
      let set : one_if (state y.store).fused ≡ one_if (nat_lt 0 (next_fuse t stops)) = ap one_if (told-fuse (next_fuse t stops) x.0 y (k.fuses.each t x.0 y x.1 there) tells) in
      let left : stop_lines_of t v.stops ≡ stop_lines_of t (lines_left (length xs) stops) = ap (λ w. stop_lines_of t w.stops) k.watch in
      let few = taken-left (length xs) t stops (slice_get_within xs t x.0 x.1) in
      omega (arith, set, left, few)

  -- Nothing is told of stops yet.
  pub armed-accounted : (stops : List StopDecl) (targets : ℕ) (cs : List ClientNow) (xs ys : List (TargetOf S C)) (v : WatchNow) → AreArmed durable state may xs ys (first_watch targets stops) v
      → AreAccounted durable state (states_of state xs) stops (first_stage cs ys v)
  armed-accounted stops targets cs xs ys v k t y there told = record {
    stopped = λ tells. (let few = armed-lines stops targets xs ys v k t y there (fuse-same ∙ tells) in inr (omega (arith, few, same)));
    failed = λ n at. let none : n ≡ 0 = replicate-at targets t 0 n (ap (λ w. slice_get w.faults t) (sym k.watch) ∙ at) in inr (low n (states_of state xs t).faults (state y.store).faults none same);
    down = λ i. absurd (has-from_contains [] t i);
    told = fuse-same;
  }
    where
      fuse-same : (state y.store).tells_fuse ≡ (states_of state xs t).tells_fuse
      fuse-same =
          let x = before-fuse xs ys k.fuses t y there in
          ap (λ z. z.tells_fuse) (k.fuses.each t x.0 y x.1 there).state_is.rest ∙ ap (λ z. z.tells_fuse) (sym (state-at state xs t x.0 x.1))

      same : (state y.store).faults ≡ (states_of state xs t).faults
      same =
          let x = before-fuse xs ys k.fuses t y there in
          ap (λ z. z.faults) (k.fuses.each t x.0 y x.1 there).state_is.rest ∙ ap (λ z. z.faults) (sym (state-at state xs t x.0 x.1))

      low : (n before now : ℕ) → n ≡ 0 → now ≡ before → n + before ≤ 0 + now
      low n before now none e = omega (arith, none, e)

  -- nothing else is told of the targets yet
  pub armed-first : (stops : List StopDecl) (targets : ℕ) (xs ys : List (TargetOf S C)) (v : WatchNow) → AreArmed durable state may xs ys (first_watch targets stops) v → IsFirstWatch targets v
  armed-first stops targets xs ys v k = k.watch ∙ ap (first_watch targets) (sym (ap (λ w. w.stops) k.watch))
