-- What caused that targets stopped and were given up.
use Rattle.std.specs.Prelude.{ℕ, ◌≡◌, ◌≤◌, ◌<◌, ◌+◌, ◌-◌, ◌^◌, ◌⊎◌, true, false, List, All, Contains, length, slice_get, Option, Some, None, is_some, refl}
use Rattle.std.proofs.Common.{get_or, inl, inr, sym, ap, subst, arith}
use Rattle.std.proofs.lemmas.Bool.Decides.{nat_tests}
use Rattle.std.proofs.lemmas.Option.{slice_get_cases}
use Rattle.base_types.specs.declared.report.Line.{Line}
use Rattle.base_types.specs.declared.script.StopDecl.{StopDecl}
use Rattle.daos_model.specs.declared.durable.Durable.{Durable}
use Rattle.daos_model.specs.Opening.{Outside}
use Rattle.daos_model.specs.Stops.{AtMostWith, HasTarget, IsBelowSome, IsGivenUpBy, down_targets, is_at, is_number, stop_numbers, target_of}
use Rattle.model_laws.specs.DecidedLaws.{has-all}
use Rattle.run_laws.specs.shows.Accounting.{no-more}
use Rattle.run_laws.specs.shows.Accounts.{AreAccounted, AtMostRises, IsAccounted, one_if, stop_lines_of, stops_told_in}
use Rattle.run_laws.specs.shows.ListLaws.{map-get}
use Rattle.run_laws.specs.shows.Parts.{at-both}
use Rattle.run_laws.specs.shows.Stages.{StageNow}
use Rattle.target_core.specs.Targets.{TargetOf}
use Rattle.vos_store.specs.Calls.{State}
use Rattle.world_letters.specs.waits.Lists.{filter-none}
use Rattle.run_laws.specs.ends.Armed.{state-at, states_of}
use Rattle.run_laws.specs.ends.Arming.{HaveFuses}
use Rattle.run_laws.specs.ends.Comes.{IsOutside}
use Rattle.run_laws.specs.ends.Starts.{stores_of}

-- ---- by one store's counts

-- what is no more than these and the rises of a count is no more than these and k, where the count rose at most so often
pub at-most_with : (n more k before now : ℕ) → now < 2 ^ 64 - 1 → now ≤ before + k → AtMostRises n more before now → n ≤ more + k
at-most_with n more k before now low few (inl last) = absurd (omega (arith, last, low))
at-most_with n more k before now low few (inr most) = omega (arith, most, few)

-- ---- of targets that aren't there

-- no line tells of a stop
pub none-past : (t targets : ℕ) (lines : List Line) → targets ≤ t → All (HasTarget targets) lines → stops_told_in lines t ≡ 0
none-past t targets lines past bounded = ap (λ ls. length (stop_numbers ls)) (filter-none (is_at t) lines (λ l i. off (target_of l) (has-all (HasTarget targets) lines l bounded i)))
  where
    off : (o : Option ℕ) → IsBelowSome targets o → is_number t o ≡ false
    off None low = refl
    off (Some m) low = grind (arith, nat_tests)

-- ---- of all targets

module _ {S C : Type 0} (durable : S → Option Durable) (state : S → State) (may : S → Durable → Type 0) (all : (s : S) → is_some (durable s) ≡ true) (stops : List StopDecl) (xs ys : List (TargetOf S C)) (a : StageNow S C)
    (k : AreAccounted durable state (states_of state xs) stops a) {write : ℕ → ℕ} (unfused : HaveFuses durable state may write a.targets ys) (o : Outside) (outside : IsOutside state o (stores_of xs) (stores_of ys)) where
  module _ (t : ℕ) (x y : TargetOf S C) (here : slice_get xs t ≡ Some x) (there : slice_get ys t ≡ Some y) where
    left : (z : TargetOf S C) × (slice_get a.targets t ≡ Some z)
    left = at-both ys a.targets t y (sym unfused.many) there

    -- what is told of its stops, by what its store said before the run and says after it
    told : IsAccounted state (state x.store) stops a t left.0
    told = subst (λ h. IsAccounted state h stops a t left.0) (state-at state xs t x here) (k t left.0 left.1 (all left.0.store))

    same : (state y.store).faults ≡ (state left.0.store).faults
    same = ap (λ h. h.faults) (unfused.each t left.0 y left.1 there).state_is.rest

    counts : (n : ℕ) → o.rises t ≡ Some n → ((state x.store).tells_fuse ≡ true) × ((state y.store).faults < 2 ^ 64 - 1) × ((state y.store).faults ≤ (state x.store).faults + n)
    counts n is = outside.counts t x.store y.store n (map-get (λ z. z.store) xs t x here) (map-get (λ z. z.store) ys t y there) is

    low : (n : ℕ) → o.rises t ≡ Some n → (state left.0.store).faults < 2 ^ 64 - 1
    low n is = let c = (counts n is).1 in omega (arith, c, same)

    few : (n : ℕ) → o.rises t ≡ Some n → (state left.0.store).faults ≤ (state x.store).faults + n
    few n is = let c = (counts n is).2 in omega (arith, c, same)

    its-stops : (n : ℕ) → o.rises t ≡ Some n → stops_told_in a.between.lines t ≤ stop_lines_of t stops + n
    its-stops n is =
        at-most_with (stops_told_in a.between.lines t) (stop_lines_of t stops) n (state x.store).faults (state left.0.store).faults (low n is) (few n is)
        (no-more (stops_told_in a.between.lines t + stop_lines_of t a.watch.stops + one_if (state left.0.store).fused) (stops_told_in a.between.lines t) (stop_lines_of t stops) (state x.store).faults (state left.0.store).faults (state left.0.store).faults
        (omega arith) (omega arith) (told.stopped (counts n is).0))

    -- a target that was given up was failed nine times
    pub end-caused : Contains (down_targets a.between.lines) t → IsGivenUpBy (o.rises t) (o.foreign t) (o.keeps t)
    end-caused i = by (o.rises t) refl
      where
        by : (c : Option ℕ) → o.rises t ≡ c → IsGivenUpBy c (o.foreign t) (o.keeps t)
        by None is = tt
        by (Some n) is = (let nine = at-most_with 9 0 n (state x.store).faults (state left.0.store).faults (low n is) (few n is) (told.down i) in inl (omega (arith, nine)))

  -- stop lines of the script and the outside caused each stop that is told
  pub stops-caused : length ys ≡ length xs → All (HasTarget (length xs)) a.between.lines → (t : ℕ) → AtMostWith (stops_told_in a.between.lines t) (stop_lines_of t stops) (o.rises t)
  stops-caused many bounded t = by (o.rises t) refl
    where
      there : (n : ℕ) → o.rises t ≡ Some n → ((x : TargetOf S C) × (t < length xs) × (slice_get xs t ≡ Some x) × (get_or xs t x ≡ x)) ⊎ ((length xs ≤ t) × (slice_get xs t ≡ None)) → stops_told_in a.between.lines t ≤ stop_lines_of t stops + n
      there n is (inl z) = let y = at-both xs ys t z.0 many z.2 in its-stops t z.0 y.0 z.2 y.1 n is
      there n is (inr past) = let none = none-past t (length xs) a.between.lines past.0 bounded in omega (arith, none)

      by : (c : Option ℕ) → o.rises t ≡ c → AtMostWith (stops_told_in a.between.lines t) (stop_lines_of t stops) c
      by None is = tt
      by (Some n) is = there n is (slice_get_cases xs t).1
