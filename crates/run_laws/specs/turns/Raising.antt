-- How often targets were opened: a turn raises no incarnation, but for one in which a target opens again, or fails to.
use Rattle.std.specs.Prelude.{ℕ, ◌≡◌, ◌≤◌, Bool, refl}
use Rattle.std.proofs.Common.{arith}
use Rattle.base_messages.specs.declared.actor.ActorId.{ActorId}
use Rattle.world_closing.specs.safety.Raising.{RaisesAtMost, event-raises_most, raised_by, raises-then}
use Rattle.run_laws.specs.turns.Turns.{Doing, GivingUp, IsDraw, GivesUp, Opening, TurnOf}
use Rattle.world_base.specs.declared.world.World.{World}
use Rattle.world_base.specs.Events.{Rules}
use Rattle.world_base.specs.Stops.{Draws, Fails, Further, GivenUp, Happening, IsCut, Opens, Plainly}

-- ---- the statements

-- how often a turn raises an incarnation
abbrev pub raised_in : (settling : Bool) (r : Rules) (a : ActorId) (k : ℕ) {w v : World} → TurnOf settling r a k w v → ℕ
raised_in settling r a k (Doing d plain) = raised_by r d.event.happens
raised_in settling r a k (Opening u n draw d by) = 1
raised_in settling r a k (GivingUp u d fault g gives) = raised_by r d.event.happens

-- no target was opened more often in it
abbrev pub TurnsRaise : Type 0
TurnsRaise = (settling : Bool) (r : Rules) (a : ActorId) (k : ℕ) (w v : World) (d : TurnOf settling r a k w v) → RaisesAtMost (raised_in settling r a k d) w v

-- ---- turns

draw-raises : (r : Rules) (w u : World) (e : Happening r w u) → IsDraw r e → raised_by r e ≡ 0
draw-raises r w u (Draws g) d = refl
draw-raises r w u (Plainly e up) d = absurd d
draw-raises r w u (Further g) d = absurd d
draw-raises r w u (IsCut g) d = absurd d
draw-raises r w u (Opens g) d = absurd d
draw-raises r w u (Fails g) d = absurd d
draw-raises r w u (GivenUp g) d = absurd d

gives-raises : (r : Rules) (a : ActorId) (w u : World) (e : Happening r w u) → GivesUp r a e → raised_by r e ≡ 0
gives-raises r a w u (GivenUp g) d = refl
gives-raises r a w u (Plainly e up) d = absurd d
gives-raises r a w u (Further g) d = absurd d
gives-raises r a w u (IsCut g) d = absurd d
gives-raises r a w u (Opens g) d = absurd d
gives-raises r a w u (Fails g) d = absurd d
gives-raises r a w u (Draws g) d = absurd d

once : (r : Rules) (w u : World) (e : Happening r w u) → raised_by r e ≤ 1
once r w u (Opens g) = omega arith
once r w u (Fails g) = omega arith
once r w u (Plainly e up) = omega arith
once r w u (Further g) = omega arith
once r w u (IsCut g) = omega arith
once r w u (GivenUp g) = omega arith
once r w u (Draws g) = omega arith

pub turns-raise : TurnsRaise
turns-raise settling r a k w v (Doing d plain) = event-raises_most r w v d.event
turns-raise settling r a k w v (Opening u n draw d by) =
    raises-then (raised_by r n.happens) (raised_by r d.event.happens) 1 w u v (let p = draw-raises r w n.u n.happens draw in let q = once r u d.event.u d.event.happens in omega (arith, p, q)) (event-raises_most r w u n) (event-raises_most r u v d.event)
turns-raise settling r a k w v (GivingUp u d fault g gives) =
    raises-then (raised_by r d.event.happens) (raised_by r g.happens) (raised_by r d.event.happens) w u v (let p = gives-raises r a u g.u g.happens gives in omega (arith, p)) (event-raises_most r w u d.event) (event-raises_most r u v g)
