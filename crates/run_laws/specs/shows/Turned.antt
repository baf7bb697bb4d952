-- What a part of a turn leaves of a target and of what lies between actors.
use Rattle.std.specs.Prelude.{ℕ, ◌≡◌, ◌≤◌, ◌<◌, ◌^◌, Bool, true, false, List, slice_get, slice_set, Option, Some, None, Result}
use Rattle.base_types.specs.declared.epoch.Epoch.{Epoch}
use Rattle.base_types.specs.declared.id.AttemptId.{AttemptId}
use Rattle.base_types.specs.declared.report.Line.{Line}
use Rattle.client_core.specs.Clients.{ClientNow}
use Rattle.daos_model.specs.declared.durable.Durable.{Durable}
pub use Rattle.run_base.specs.Changes.{cut_between, followed, given_up_between, swept_between}
use Rattle.run_base.specs.Letters.{BetweenNow, IsPicked}
use Rattle.run_base.specs.Numbers.{next_aggregate}
use Rattle.run_base.specs.Picks.{count_to}
use Rattle.run_laws.specs.shows.Stages.{StageNow}
use Rattle.run_laws.specs.turns.Readings.{GivesOn, read_for}
use Rattle.target_core.specs.Targets.{HearsOrStops, IdlesOrStops, TargetOf}
use Rattle.run_watch.specs.Watches.{after_fault, with_life}
use Rattle.run_opening.specs.target_parts.Stops.{stop_wanting}
use Rattle.run_opening.specs.target_parts.declared.stop.TargetStop.{TargetStop}
use Rattle.run_opening.specs.target_parts.declared.stop.TargetStop.TheVariants as stops
use Rattle.vos_store.specs.Calls.{State}
use Rattle.vos_store.specs.Refusals.{says}
use Rattle.world_base.specs.declared.did.Did.{Did}
use Rattle.world_base.specs.declared.letter.Letter.{Letter}
use Rattle.world_base.specs.declared.target.Life.TheVariants.{Down, Stopped}
use Rattle.world_base.specs.Letters.{target}
use Rattle.world_base.specs.Stops.{is_prune_message}

-- ---- between actors

-- this lies between the actors from now on
abbrev pub with_between : {S C : Type 0} → BetweenNow → StageNow S C → StageNow S C
with_between b a = record a { between = b }

-- what goes to targets that are given up was lost
abbrev pub swept_stage : {S C : Type 0} → StageNow S C → StageNow S C
swept_stage a = with_between (swept_between a.watch.lives a.between) a

-- ---- a target's store stopped

-- a target was given up
abbrev pub given_up_stage : {S C : Type 0} → ℕ → StageNow S C → StageNow S C
given_up_stage t a = record a { watch = with_life t Down a.watch; between = given_up_between t a.between }

-- a target's turn was cut, in which it issued this epoch and told these lines
abbrev pub stopped_stage : {S C : Type 0} → ℕ → Option (AttemptId × Epoch) → List Line → StageNow S C → StageNow S C
stopped_stage t issued lines a = record a { watch = with_life t Stopped a.watch; between = cut_between t issued lines a.between }

-- the outside failed a target in a turn, which it had done n times before
abbrev pub failed_stage : {S C : Type 0} → ℕ → ℕ → StageNow S C → StageNow S C
failed_stage t n a = record a { watch = after_fault t n a.watch }

-- What a turn leaves of a target whose store stopped in it, and of which the outside's count stood at these before and after it: where the
-- outside's count rose, that is counted, and at the ninth time the target is given up. A count at the end of its range rises no more.
pub data AfterStop {S C : Type 0} (t before now : ℕ) (a b : StageNow S C) : Type 0 where
  NotFailed : now ≤ before → b ≡ a → AfterStop t before now a b
  Failed : before < now → (n : ℕ) → slice_get a.watch.faults t ≡ Some n → (n ≡ 8 → ⊥) → b ≡ failed_stage t n a → AfterStop t before now a b
  LastTime : before < now → slice_get a.watch.faults t ≡ Some 8 → b ≡ swept_stage (given_up_stage t a) → AfterStop t before now a b

-- a target's turn was cut, by which this is told
pub record AfterCut {S C : Type 0} (t before now : ℕ) (stop : TargetStop) (a b : StageNow S C) : Type 0 where
  pub issued : Option (AttemptId × Epoch)
  pub lines : List Line
  pub cut : stop ≡ stops.Store issued lines
  pub after : AfterStop t before now (swept_stage (stopped_stage t issued lines a)) b

-- a target's opening failed, for this reason
pub data AfterFailure {S C : Type 0} (t before now : ℕ) (stop : TargetStop) (a b : StageNow S C) : Type 0 where
  ByStop : (issued : Option (AttemptId × Epoch)) → (lines : List Line) → stop ≡ stops.Store issued lines → AfterStop t before now a b → AfterFailure t before now stop a b
  ByForeign : (at byte : ℕ) → stop ≡ stops.Foreign at byte → b ≡ swept_stage (given_up_stage t a) → AfterFailure t before now stop a b

-- ---- a target's turn

-- this client is so from now on
abbrev pub with_client_at : {S C : Type 0} → ℕ → ClientNow → StageNow S C → StageNow S C
with_client_at n d a = record a { clients = slice_set a.clients n d }

-- this target is so from now on
abbrev pub with_target_at : {S C : Type 0} → ℕ → TargetOf S C → StageNow S C → StageNow S C
with_target_at t x a = record a { targets = slice_set a.targets t x }

module _ {S C : Type 0} (durable : S → Option Durable) (state : S → State) (may : S → Durable → Type 0) where
  -- In a turn of a target that ran it heard the letter of this number among those in flight to it, or, where none was, did its idle work;
  -- that came to this result. Where that asked for an aggregation, it had the next number.
  pub data IsTurned (settling : Bool) (t number : ℕ) (x y : TargetOf S C) (b left : BetweenNow) (result : Result Did TargetStop) : Type 0 where
    ByHearing : (l : Letter) (rest : List Letter) (reading : ℕ) → IsPicked b.messages (target t) number l rest → left ≡ record b { messages = rest } → (is_prune_message l.message ≡ true → next_aggregate b.lines < 2 ^ 32)
        → ((n : ℕ) → (is_prune_message l.message ≡ true → n ≡ next_aggregate b.lines) → (d : Durable) → durable x.store ≡ Some d → HearsOrStops n x.plan x.memory reading l.from l.message d (state x.store) (durable y.store) (state y.store) (may y.store) y.memory result) → IsTurned settling t number x y b left result
    ByIdling : count_to (target t) b.messages ≡ 0 → left ≡ b
        → ((d : Durable) → durable x.store ≡ Some d → IdlesOrStops settling x.plan x.memory d (state x.store) (durable y.store) (state y.store) (may y.store) y.memory result) → IsTurned settling t number x y b left result

  -- the reading at which a target heard, where an epoch was to be issued for that
  abbrev pub read_then : {settling : Bool} {t number : ℕ} {x y : TargetOf S C} {b left : BetweenNow} {result : Result Did TargetStop} → IsTurned settling t number x y b left result → Option (ℕ × ℕ)
  read_then {t = t} (ByHearing l rest reading picked left_is few turn) = read_for t l.message reading
  read_then (ByIdling none left_is turn) = None

  -- It was so; and unless memory was wanting, its clock gave just that reading, if there is one.
  pub record HasTurned (is_read : C → C → Type 0) (next_reading : C → Option ℕ) (settling : Bool) (t number : ℕ) (x y : TargetOf S C) (b left : BetweenNow) (result : Result Did TargetStop) : Type 0 where
    pub turned : IsTurned settling t number x y b left result
    pub clock : says stop_wanting result ≡ false → GivesOn is_read next_reading (read_then turned) t x.clock y.clock
