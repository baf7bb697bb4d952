-- What turns leave of the stores and the clocks, and how often targets stopped and why.
use Rattle.std.specs.Prelude.{ℕ, ◌≡◌, ◌≤◌, ◌+◌, ◌⊎◌, ◌^◌, ◌-◌, Bool, true, false, List, filter, length, slice_get, Contains, Option, Some, is_some}
use Rattle.base_types.specs.declared.report.Line.{Line}
use Rattle.base_types.specs.declared.script.StopDecl.{StopDecl}
use Rattle.daos_model.specs.declared.durable.Durable.{Durable}
use Rattle.daos_model.specs.Stops.{down_targets, is_stop_at, lines_at, stop_numbers}
use Rattle.run_laws.specs.shows.Stages.{StageNow}
use Rattle.target_core.specs.Targets.{TargetOf}
use Rattle.run_opening.specs.target_parts.Readings.{IsReadOn}
use Rattle.vos_store.specs.Calls.{State}

-- ---- stores and clocks

-- Between these two moments a store had calls: its counts never fell, and what it was made for and what can stop it stays; where the outside
-- can't fail it, that count stays too.
pub record IsServed (h k : State) (old new : Option Durable) : Type 0 where
  pub faults : h.faults ≤ k.faults
  pub burns : h.burns ≤ k.burns
  pub tells_fuse : k.tells_fuse ≡ h.tells_fuse
  pub may_fail : k.may_fail ≡ h.may_fail
  pub sure : h.may_fail ≡ false → k.faults ≡ h.faults
  pub targets : k.targets ≡ h.targets
  pub told : is_some new ≡ is_some old

-- so had the stores of these targets, and their clocks were read
pub record AreServed {S C : Type 0} (durable : S → Option Durable) (state : S → State) (is_read : C → C → Type 0) (xs ys : List (TargetOf S C)) : Type 0 where
  pub many : length ys ≡ length xs
  pub stores : (t : ℕ) (x y : TargetOf S C) → slice_get xs t ≡ Some x → slice_get ys t ≡ Some y → IsServed (state x.store) (state y.store) (durable x.store) (durable y.store)
  pub clocks : (t : ℕ) (x y : TargetOf S C) → slice_get xs t ≡ Some x → slice_get ys t ≡ Some y → IsReadOn is_read x.clock y.clock

-- ---- stops

-- how often a target stopped, by some lines
abbrev pub stops_told_in : List Line → ℕ → ℕ
stops_told_in lines t = length (stop_numbers (lines_at t lines))

-- so many are no more than these and the rises of a count together, unless that count stands at the end of its range
abbrev pub AtMostRises : ℕ → ℕ → ℕ → ℕ → Type 0
AtMostRises n more before now = (2 ^ 64 - 1 ≤ now) ⊎ (n + before ≤ more + now)

abbrev pub one_if : Bool → ℕ
one_if true = 1
one_if false = 0

-- so many are no more than the rises of both counts of a store together, unless one of them stands at the end of its range
abbrev pub AtMostBothRise : ℕ → State → State → Type 0
AtMostBothRise n before now = (2 ^ 64 - 1 ≤ now.faults) ⊎ ((2 ^ 64 - 1 ≤ now.burns) ⊎ (n + before.faults + before.burns ≤ now.faults + now.burns))

-- of each target so many, as these numbers say, are no more than the rises of its store's counts from the first of these moments to the second
abbrev pub AreWithinRises : {S C : Type 0} → (S → State) → (ℕ → ℕ) → List (TargetOf S C) → List (TargetOf S C) → Type 0
AreWithinRises {S} {C} state n xs ys = (t : ℕ) (x y : TargetOf S C) → slice_get xs t ≡ Some x → slice_get ys t ≡ Some y → AtMostBothRise (n t) (state x.store) (state y.store)

-- how many of some stop lines of a script are a target's
abbrev pub stop_lines_of : ℕ → List StopDecl → ℕ
stop_lines_of t stops = length (filter (is_stop_at t) stops)

-- Of each target so many, as these numbers say, came of its stop lines and of the outside, where its fuse is told: with the stop lines that are to come,
-- and that of the fuse that is set, they are no more than these were before and the faults of its store rose.
abbrev pub AreOfStopLines : {S C : Type 0} → (S → State) → (ℕ → ℕ) → StageNow S C → StageNow S C → Type 0
AreOfStopLines {S} {C} state n a b = (t : ℕ) (x y : TargetOf S C) → slice_get a.targets t ≡ Some x → slice_get b.targets t ≡ Some y → (state x.store).tells_fuse ≡ true
    → AtMostRises (n t + stop_lines_of t b.watch.stops + one_if (state y.store).fused) (stop_lines_of t a.watch.stops + one_if (state x.store).fused) (state x.store).faults (state y.store).faults

-- What is told of the stops of a target, where its store tells what it keeps, and said h of itself before: where its fuse is told, it stopped as
-- often at most as fuses of its stop lines fired and the outside failed it; the outside failed it in as many turns as are counted, and where it was
-- given up in nine.
pub record IsAccounted {S C : Type 0} (state : S → State) (h : State) (stops : List StopDecl) (a : StageNow S C) (t : ℕ) (x : TargetOf S C) : Type 0 where
  pub stopped : h.tells_fuse ≡ true → AtMostRises (stops_told_in a.between.lines t + stop_lines_of t a.watch.stops + one_if (state x.store).fused) (stop_lines_of t stops) h.faults (state x.store).faults
  pub failed : (n : ℕ) → slice_get a.watch.faults t ≡ Some n → AtMostRises n 0 h.faults (state x.store).faults
  pub down : Contains (down_targets a.between.lines) t → AtMostRises 9 0 h.faults (state x.store).faults
  pub told : (state x.store).tells_fuse ≡ h.tells_fuse

-- so it is of all targets, whose stores said this of themselves before the run, of a script with these stop lines
abbrev pub AreAccounted : {S C : Type 0} → (S → Option Durable) → (S → State) → (ℕ → State) → List StopDecl → StageNow S C → Type 0
AreAccounted {S} {C} durable state h stops a = (t : ℕ) (x : TargetOf S C) → slice_get a.targets t ≡ Some x → is_some (durable x.store) ≡ true → IsAccounted state (h t) stops a t x
