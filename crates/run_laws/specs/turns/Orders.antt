-- In which order actors have their turns, where targets may stop and open again.
use Rattle.std.specs.Prelude.{ℕ, ◌≡◌, ◌++◌, ◌%◌, Bool, true, false, List, [], ◌∷◌, length, slice_get, Some}
use Rattle.base_random.specs.Draws.{drawn}
use Rattle.base_messages.specs.declared.actor.ActorId.{ActorId}
use Rattle.run_base.specs.Picks.{actors, due, is_due, after_pick, pick}
use Rattle.run_laws.specs.turns.Turns.{TurnOf, heard_in}
use Rattle.world_base.specs.declared.world.World.{World}
use Rattle.world_base.specs.Events.{Rules}

-- ---- rounds

-- An actor in a round: where it has something to do by then, it has one turn, and hears the letter that was sent to it first, if it hears one.
pub data OneTurn (settling : Bool) (r : Rules) (a : ActorId) (w v : World) : Type 0 where
  HasIt : is_due settling r w a ≡ true → TurnOf settling r a 0 w v → OneTurn settling r a w v
  HasNone : is_due settling r w a ≡ false → v ≡ w → OneTurn settling r a w v

-- these actors, one after another
pub data InTurn (settling : Bool) (r : Rules) (w : World) : List ActorId → World → Type 0 where
  Nobody : InTurn settling r w [] w
  AndThen : (before : List ActorId) (a : ActorId) (u v : World) → InTurn settling r w before u → OneTurn settling r a u v → InTurn settling r w (before ++ a ∷ []) v

-- a round: all actors, clients first, each kind in order of number
abbrev pub RoundOf : Bool → Rules → World → World → Type 0
RoundOf settling r w = InTurn settling r w (actors w)

-- some rounds, each from a world in which an actor has something to do
pub data Rounds (settling : Bool) (r : Rules) (w : World) : World → Type 0 where
  NoRound : Rounds settling r w w
  OneRound : (u v : World) → Rounds settling r w u → (due settling r u ≡ [] → ⊥) → RoundOf settling r u v → Rounds settling r w v

-- rounds, until no actor has anything to do
pub record InRounds (settling : Bool) (r : Rules) (w v : World) : Type 0 where
  pub rounds : Rounds settling r w v
  pub over : due settling r v ≡ []

-- ---- draws

-- The turn of the actor that is drawn after x, among those that have something to do; where it hears a letter, a second draw says which
-- of those in flight to it. A client that skips and a target that is stopped hear none. The last number drawn is y then.
pub record DrawnTurn (settling : Bool) (r : Rules) (x : ℕ) (w : World) (y : ℕ) (v : World) : Type 0 where
  pub actor : ActorId
  pub its : slice_get (due settling r w) (drawn x % length (due settling r w)) ≡ Some actor
  pub turn : TurnOf settling r actor (pick (drawn x) (heard_in w actor)) w v
  pub last : y ≡ after_pick (drawn x) (heard_in w actor)

-- some such turns, one after another
pub data Draws (settling : Bool) (r : Rules) (x : ℕ) (w : World) : ℕ → World → Type 0 where
  NoDraw : Draws settling r x w x w
  OneDraw : (y z : ℕ) (u v : World) → Draws settling r x w y u → DrawnTurn settling r y u z v → Draws settling r x w z v

-- such turns, until no actor has anything to do
pub record InDraws (settling : Bool) (r : Rules) (x : ℕ) (w : World) (y : ℕ) (v : World) : Type 0 where
  pub draws : Draws settling r x w y v
  pub over : due settling r v ≡ []

-- ---- orders

-- A run in this order: 0 goes round, and any other order is the number before the first one drawn. When no actor has anything to do, the
-- actors settle in the same order, until none has anything to do in that.
pub data InOrder (r : Rules) (order : ℕ) (w v : World) : Type 0 where
  ByRounds : order ≡ 0 → (u : World) → InRounds false r w u → InRounds true r u v → InOrder r order w v
  ByDraws : (order ≡ 0 → ⊥) → (x y : ℕ) (u : World) → InDraws false r order w x u → InDraws true r x u y v → InOrder r order w v
