-- What the turns of a run in an order leave open: what they tell of later reads and of space, and where they were cut.
use Rattle.std.specs.Prelude.{ℕ, Bool, true, false, List, [], ◌∷◌, ◌++◌}
use Rattle.base_types.specs.declared.outcome.Outcome.{Outcome}
use Rattle.base_messages.specs.declared.actor.ActorId.{ActorId}
use Rattle.run_laws.specs.turns.Keeping.{TurnsKeep, order-keeps}
use Rattle.run_laws.specs.turns.Orders.{InOrder}
use Rattle.run_laws.specs.turns.Turns.{Doing, GivingUp, Opening, TurnOf}
use Rattle.world_base.specs.declared.world.World.{World}
use Rattle.world_base.specs.Events.{Rules}
use Rattle.world_base.specs.Stops.{Fails, Happening, IsCut}
use Rattle.world_determined.specs.Choices.{Choice, choice_of, told_open}

-- An event that was whole tells this of later reads that it shows, and of want of space; or a turn was cut, or an opening failed, at such a place.
pub data LeftOpen : Type 0 where
  Told : (told : List Outcome) → LeftOpen
  Fault : (at : Choice) → LeftOpen

abbrev pub left_at : (r : Rules) → {w u : World} → Happening r w u → LeftOpen
left_at r (IsCut g) = Fault (choice_of r (IsCut g))
left_at r (Fails g) = Fault (choice_of r (Fails g))
left_at r e = Told (told_open r e)

-- what a turn leaves open, and whether its target was given up in it
pub record TurnLeft : Type 0 where
  pub left : LeftOpen
  pub given_up : Bool

abbrev pub left_by : {settling : Bool} {r : Rules} {a : ActorId} {k : ℕ} {w v : World} → TurnOf settling r a k w v → TurnLeft
left_by {r = r} (Doing d plain) = record { left = left_at r d.event.happens; given_up = false }
left_by (Opening u n draws d by) = record { left = Told []; given_up = false }
left_by {r = r} (GivingUp u d fault g up) = record { left = left_at r d.event.happens; given_up = true }

-- of some turns it is known what they leave open, and of one more
abbrev pub one_more_left : (r : Rules) → TurnsKeep r (λ (w : World). List TurnLeft)
one_more_left r settling a k w v turn before = before ++ left_by turn ∷ []

-- what the turns of a run in an order leave open, one after another
abbrev pub left_in : (r : Rules) (order : ℕ) (w v : World) → InOrder r order w v → List TurnLeft
left_in r order w v k = order-keeps r (λ (x : World). List TurnLeft) (one_more_left r) order w v k []
