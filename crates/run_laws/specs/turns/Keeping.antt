-- What every turn keeps, a run in an order keeps.
use Rattle.std.specs.Prelude.{ℕ, ◌≡◌, ◌+◌, Bool, true, false, List}
use Rattle.std.proofs.Common.{sym, subst, arith}
use Rattle.base_messages.specs.declared.actor.ActorId.{ActorId}
use Rattle.run_base.specs.Picks.{actors}
use Rattle.run_laws.specs.turns.Faults.{count-same, fault_by, faults_in_draws, faults_in_one, faults_in_order, faults_in_rounds, faults_in_turn, once_for}
use Rattle.run_laws.specs.turns.Orders.{AndThen, ByDraws, ByRounds, Draws, HasIt, HasNone, InOrder, InTurn, NoDraw, NoRound, Nobody, OneDraw, OneRound, OneTurn, Rounds}
use Rattle.run_laws.specs.turns.Turns.{TurnOf}
use Rattle.world_base.specs.declared.world.World.{World}
use Rattle.world_base.specs.Events.{Rules}

-- every turn keeps this
abbrev pub TurnsKeep : Rules → (World → Type 0) → Type 0
TurnsKeep r P = (settling : Bool) (a : ActorId) (k : ℕ) (w v : World) → TurnOf settling r a k w v → P w → P v

module _ (r : Rules) (P : World → Type 0) (keep : TurnsKeep r P) where
  unfoldable pub one-keeps : (settling : Bool) (a : ActorId) (w v : World) → OneTurn settling r a w v → P w → P v
  one-keeps settling a w v (HasIt is t) p = keep settling a 0 w v t p
  one-keeps settling a w v (HasNone is same) p = subst P (sym same) p

  unfoldable pub in_turn-keeps : (settling : Bool) (w : World) (as' : List ActorId) (v : World) → InTurn settling r w as' v → P w → P v
  in_turn-keeps settling w as' v Nobody p = p
  in_turn-keeps settling w as' v (AndThen before a u x k t) p = one-keeps settling a u x t (in_turn-keeps settling w before u k p)

  unfoldable pub rounds-keep : (settling : Bool) (w v : World) → Rounds settling r w v → P w → P v
  rounds-keep settling w v NoRound p = p
  rounds-keep settling w v (OneRound u x k some round) p = in_turn-keeps settling u (actors u) x round (rounds-keep settling w u k p)

  unfoldable pub draws-keep : (settling : Bool) (x : ℕ) (w : World) (y : ℕ) (v : World) → Draws settling r x w y v → P w → P v
  draws-keep settling x w y v NoDraw p = p
  draws-keep settling x w y v (OneDraw z a u b k t) p = keep settling t.actor _ u b t.turn (draws-keep settling x w z u k p)

  unfoldable pub order-keeps : (order : ℕ) (w v : World) → InOrder r order w v → P w → P v
  order-keeps order w v (ByRounds is u k l) p = rounds-keep true u v l.rounds (rounds-keep false w u k.rounds p)
  order-keeps order w v (ByDraws is x y u k l) p = draws-keep true x u y v l.draws (draws-keep false order w x u k.draws p)

  -- ---- what every turn counts

  -- What every turn with a fault of a target counts by one, and every other turn leaves, a run in an order counts by its faults of that target.
  module _ (t : ℕ) (count : (v : World) → P v → ℕ) (adds : (settling : Bool) (a : ActorId) (k : ℕ) (w v : World) (turn : TurnOf settling r a k w v) (p : P w) → count v (keep settling a k w v turn p) ≡ count w p + once_for (fault_by turn) t) where
    one-adds : (settling : Bool) (a : ActorId) (w v : World) (k : OneTurn settling r a w v) (p : P w) → count v (one-keeps settling a w v k p) ≡ count w p + faults_in_one t k
    unfolding one-keeps
    one-adds settling a w v (HasIt is turn) p = adds settling a 0 w v turn p
    one-adds settling a w v (HasNone is same) p = let e = count-same P count (sym same) p in omega (arith, e)

    in_turn-adds : (settling : Bool) (w : World) (as' : List ActorId) (v : World) (k : InTurn settling r w as' v) (p : P w) → count v (in_turn-keeps settling w as' v k p) ≡ count w p + faults_in_turn t k
    unfolding in_turn-keeps
    in_turn-adds settling w as' v Nobody p = omega arith
    in_turn-adds settling w as' v (AndThen before a u x k one) p =
        let first = in_turn-adds settling w before u k p in
        let next = one-adds settling a u x one (in_turn-keeps settling w before u k p) in
        omega (arith, first, next)

    rounds-add : (settling : Bool) (w v : World) (k : Rounds settling r w v) (p : P w) → count v (rounds-keep settling w v k p) ≡ count w p + faults_in_rounds t k
    unfolding rounds-keep
    rounds-add settling w v NoRound p = omega arith
    rounds-add settling w v (OneRound u x k some round) p =
        let first = rounds-add settling w u k p in
        let next = in_turn-adds settling u (actors u) x round (rounds-keep settling w u k p) in
        omega (arith, first, next)

    draws-add : (settling : Bool) (x : ℕ) (w : World) (y : ℕ) (v : World) (k : Draws settling r x w y v) (p : P w) → count v (draws-keep settling x w y v k p) ≡ count w p + faults_in_draws t k
    unfolding draws-keep
    draws-add settling x w y v NoDraw p = omega arith
    draws-add settling x w y v (OneDraw z a u b k one) p =
        let first = draws-add settling x w z u k p in
        let next = adds settling one.actor _ u b one.turn (draws-keep settling x w z u k p) in
        omega (arith, first, next)

    pub order-adds : (order : ℕ) (w v : World) (k : InOrder r order w v) (p : P w) → count v (order-keeps order w v k p) ≡ count w p + faults_in_order t k
    unfolding order-keeps
    order-adds order w v (ByRounds is u k l) p =
        let first = rounds-add false w u k.rounds p in
        let next = rounds-add true u v l.rounds (rounds-keep false w u k.rounds p) in
        omega (arith, first, next)
    order-adds order w v (ByDraws is x y u k l) p =
        let first = draws-add false order w x u k.draws p in
        let next = draws-add true x u y v l.draws (draws-keep false order w x u k.draws p) in
        omega (arith, first, next)
