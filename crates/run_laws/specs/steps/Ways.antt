-- The ways in which turns lead from one world to another: turns one after another, rounds, draws, and runs in an order.
use Rattle.std.specs.Prelude.{ℕ, ◌≡◌, Bool, List, slice_get, Option, Some}
use Rattle.base_messages.specs.declared.actor.ActorId.{ActorId}
use Rattle.run_base.specs.Picks.{actors}
use Rattle.run_laws.specs.shows.Accounts.{AreOfStopLines, AreWithinRises}
use Rattle.run_laws.specs.shows.Stages.{StageNow}
use Rattle.run_laws.specs.turns.Faults.{fault_by, faults_in_draws, faults_in_order, faults_in_rounds, faults_in_turn, once_for}
use Rattle.run_laws.specs.turns.Keeping.{TurnsKeep, draws-keep, in_turn-keeps, order-keeps, rounds-keep}
use Rattle.run_laws.specs.turns.OrderLaws.{turn-goes}
use Rattle.run_laws.specs.turns.Orders.{Draws, InDraws, InOrder, InRounds, InTurn, RoundOf, Rounds}
use Rattle.run_laws.specs.turns.Readings.{HasGiven, readings_of}
use Rattle.run_laws.specs.turns.Turns.{TurnOf}
use Rattle.target_core.specs.Targets.{TargetOf}
use Rattle.vos_store.specs.Calls.{State}
use Rattle.world_base.specs.declared.world.World.{World}
use Rattle.world_base.specs.Events.{Rules}
use Rattle.world_base.specs.Stops.{WorldRun}

-- A way from one world to another: how often a target's turn was cut on it, or its opening failed, and what a run of events comes to by it.
pub record Way : Type 1 where
  pub goes : Rules → World → World → Type 0
  pub faults : (r : Rules) (w v : World) → goes r w v → ℕ → ℕ
  pub runs : (r : Rules) (u w v : World) → goes r w v → WorldRun r u w → WorldRun r u v

-- Whatever the clocks of some targets have given in a run of events, those of others have given in another run.
abbrev pub HaveGiven : {S C : Type 0} → (C → C → Type 0) → (C → Option ℕ) → List (TargetOf S C) → List (TargetOf S C) → {r : Rules} {u w v : World} → WorldRun r u w → WorldRun r u v → Type 0
HaveGiven {S} {C} is_read next_reading xs ys run later = (t : ℕ) (x y : TargetOf S C) → slice_get xs t ≡ Some x → slice_get ys t ≡ Some y → (first : C) → HasGiven is_read next_reading first (readings_of t run) x.clock → HasGiven is_read next_reading first (readings_of t later) y.clock

-- It was gone from one world to another, with no more such faults of each target than counts of its store rose meanwhile, each by a stop line or by the
-- outside; and its clock gave the readings of the events, and no others.
pub record GoesWithin {S C : Type 0} (state : S → State) (is_read : C → C → Type 0) (next_reading : C → Option ℕ) (way : Way) (r : Rules) (a b : StageNow S C) (w v : World) : Type 0 where
  pub goes : way.goes r w v
  pub within : AreWithinRises state (way.faults r w v goes) a.targets b.targets
  pub by_lines : AreOfStopLines state (way.faults r w v goes) a b
  pub clocks : (u : World) (run : WorldRun r u w) → HaveGiven is_read next_reading a.targets b.targets run (way.runs r u w v goes run)

-- ---- the ways

-- each turn makes a run of events longer
abbrev pub turns_run : (r : Rules) (u : World) → TurnsKeep r (WorldRun r u)
turns_run r u settling a k w v turn run = turn-goes settling r a k u w v turn run

-- a turn of an actor
abbrev pub turn_of : Bool → ActorId → ℕ → Way
turn_of settling a k = record { goes = λ r. TurnOf settling r a k; faults = λ r w v turn t. once_for (fault_by turn) t; runs = λ r u w v turn run. turn-goes settling r a k u w v turn run }

-- these actors have had their turns in a round
abbrev pub turned : Bool → List ActorId → Way
turned settling before = record { goes = λ r w v. InTurn settling r w before v; faults = λ r w v k t. faults_in_turn t k; runs = λ r u w v k run. in_turn-keeps r (WorldRun r u) (turns_run r u) settling w before v k run }

-- a round
abbrev pub round_of : Bool → Way
round_of settling = record { goes = RoundOf settling; faults = λ r w v k t. faults_in_turn t k; runs = λ r u w v k run. in_turn-keeps r (WorldRun r u) (turns_run r u) settling w (actors w) v k run }

-- some rounds
abbrev pub some_rounds : Bool → Way
some_rounds settling = record { goes = Rounds settling; faults = λ r w v k t. faults_in_rounds t k; runs = λ r u w v k run. rounds-keep r (WorldRun r u) (turns_run r u) settling w v k run }

-- rounds, until no actor has anything to do
abbrev pub all_rounds : Bool → Way
all_rounds settling = record { goes = InRounds settling; faults = λ r w v k t. faults_in_rounds t k.rounds; runs = λ r u w v k run. rounds-keep r (WorldRun r u) (turns_run r u) settling w v k.rounds run }

-- it was drawn from x to y
abbrev pub from_draw : Bool → ℕ → ℕ → Way
from_draw settling x y = record { goes = λ r w v. Draws settling r x w y v; faults = λ r w v k t. faults_in_draws t k; runs = λ r u w v k run. draws-keep r (WorldRun r u) (turns_run r u) settling x w y v k run }

-- so it was, until no actor had anything to do
abbrev pub all_from_draw : Bool → ℕ → ℕ → Way
all_from_draw settling x y = record { goes = λ r w v. InDraws settling r x w y v; faults = λ r w v k t. faults_in_draws t k.draws; runs = λ r u w v k run. draws-keep r (WorldRun r u) (turns_run r u) settling x w y v k.draws run }

-- a run in an order
abbrev pub in_order : ℕ → Way
in_order order = record { goes = λ r. InOrder r order; faults = λ r w v k t. faults_in_order t k; runs = λ r u w v k run. order-keeps r (WorldRun r u) (turns_run r u) order w v k run }
