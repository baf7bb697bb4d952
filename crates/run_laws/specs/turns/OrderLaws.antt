-- A run in an order is a run of events, and where it ends no actor has anything to do.
use Rattle.std.specs.Prelude.{ℕ, ◌≡◌, ◌⊎◌, ◌<◌, ◌+◌, Bool, true, false, List, [], length, nat_lt, slice_get, Some, if◌then◌else◌}
use Rattle.std.proofs.Common.{inl, inr, sym, ◌∙◌, ap, subst, arith}
use Rattle.std.proofs.lemmas.Bool.Decides.{nat_tests}
use Rattle.base_messages.specs.declared.actor.ActorId.{ActorId}
use Rattle.run_base.specs.Letters.{IsPicked}
use Rattle.run_base.specs.Picked.{picked-is-counted}
use Rattle.run_base.specs.Picks.{count_to, due, heard, heard_by_client}
use Rattle.run_base.specs.Quiet.{quiet-has-ended}
use Rattle.run_laws.specs.turns.Faults.{cuts_and_failures, draw-faults_none, fault_by, fault_in, faults_in_order, giving-faults_none, once_for, opening-faults_none}
use Rattle.run_laws.specs.turns.Keeping.{order-adds, order-keeps}
use Rattle.run_laws.specs.turns.Orders.{ByDraws, ByRounds, InOrder}
use Rattle.run_laws.specs.turns.Staying.{orders-stay}
use Rattle.run_laws.specs.turns.Turns.{Doing, GivingUp, IsAtWork, IsDoneBy, IsDraw, Opening, OpensBy, TurnOf}
use Rattle.world_base.specs.declared.client.ClientState.{ClientState}
use Rattle.world_base.specs.declared.letter.Letter.{Letter}
use Rattle.world_base.specs.declared.target.Life.TheVariants.{Stopped}
use Rattle.world_base.specs.declared.target.TargetState.{TargetState}
use Rattle.world_base.specs.declared.world.World.{World}
use Rattle.world_base.specs.Ended.{HasEnded}
use Rattle.world_base.specs.Events.{ByClient, ByTarget, Rules, ToClient, ToTarget}
use Rattle.world_base.specs.Letters.{client, target}
use Rattle.world_base.specs.Stops.{AtWork, Begins, Draws, Fails, Further, GivenUp, Goes, Happening, Hearing, IdleWork, IsCut, Opens, Plainly, WorldRun}

-- an actor is a target that is stopped
pub record IsStopped (w : World) (a : ActorId) : Type 0 where
  pub t : ℕ
  pub s : TargetState
  pub is : a ≡ target t
  pub here : slice_get w.targets t ≡ Some s
  pub stopped : s.life ≡ Stopped

-- ---- the statements

-- a run in an order is a run of events
abbrev pub OrdersAreRuns : Type 0
OrdersAreRuns = (r : Rules) (order : ℕ) (w v : World) → InOrder r order w v → WorldRun r w v

-- it ends where no actor has anything to do
abbrev pub OrdersEndQuiet : Type 0
OrdersEndQuiet = (r : Rules) (order : ℕ) (w v : World) → InOrder r order w v → due true r v ≡ []

-- so the run has ended then
abbrev pub OrdersHaveEnded : Type 0
OrdersHaveEnded = (r : Rules) (order : ℕ) (w v : World) → length w.clients ≡ length r.script.clients → InOrder r order w v → HasEnded r v

-- in a turn of an actor that isn't stopped no letter is heard, or one of those that it hears one of
abbrev pub TurnsHear : Type 0
TurnsHear = (settling : Bool) (r : Rules) (a : ActorId) (k : ℕ) (w v : World) → TurnOf settling r a k w v → IsStopped w a ⊎ ((heard w a ≡ 0) ⊎ (k < heard w a))

-- ---- runs

unfoldable pub turn-goes : (settling : Bool) (r : Rules) (a : ActorId) (k : ℕ) (w u v : World) → TurnOf settling r a k u v → WorldRun r w u → WorldRun r w v
turn-goes settling r a k w u v (Doing d plain) run = Goes u v run d.event
turn-goes settling r a k w u v (Opening x n draws d by) run = Goes x v (Goes u x run n) d.event
turn-goes settling r a k w u v (GivingUp x d fault g up) run = Goes x v (Goes u x run d.event) g

unfoldable pub orders-are-runs : OrdersAreRuns
orders-are-runs r order w v k = order-keeps r (WorldRun r w) (λ settling a n u x t run. turn-goes settling r a n w u x t run) order w v k Begins

-- a turn adds its fault of a target to what a run counts
turn-adds : (t : ℕ) (settling : Bool) (r : Rules) (a : ActorId) (k : ℕ) (w u v : World) (turn : TurnOf settling r a k u v) (run : WorldRun r w u) → cuts_and_failures t (turn-goes settling r a k w u v turn run) ≡ cuts_and_failures t run + once_for (fault_by turn) t
unfolding turn-goes
turn-adds t settling r a k w u v (Doing d plain) run = omega arith
turn-adds t settling r a k w u v (Opening x n draws d by) run =
    let first : once_for (fault_in n.happens) t ≡ 0 = ap (λ o. once_for o t) (draw-faults_none r u n.u n.happens draws) in
    let next : once_for (fault_in d.event.happens) t ≡ 0 = ap (λ o. once_for o t) (opening-faults_none r u.numbers.restarts x d.event.u d.event.happens by) in
    omega (arith, first, next)
turn-adds t settling r a k w u v (GivingUp x d fault g up) run =
    let none : once_for (fault_in g.happens) t ≡ 0 = ap (λ o. once_for o t) (giving-faults_none r a x g.u g.happens up) in
    omega (arith, none)

-- the Cuts and failed openings of a run in an order are those of its turns
pub order-faults : (t : ℕ) (r : Rules) (order : ℕ) (w v : World) (k : InOrder r order w v) → cuts_and_failures t (orders-are-runs r order w v k) ≡ faults_in_order t k
unfolding orders-are-runs
order-faults t r order w v k =
    let all = order-adds r (WorldRun r w) (λ settling a n u x turn run. turn-goes settling r a n w u x turn run) t (λ u run. cuts_and_failures t run) (λ settling a n u x turn run. turn-adds t settling r a n w u x turn run) order w v k Begins in
    omega (arith, all)

pub orders-end-quiet : OrdersEndQuiet
orders-end-quiet r order w v (ByRounds is u k l) = l.over
orders-end-quiet r order w v (ByDraws is x y u k l) = l.over

pub orders-have-ended : OrdersHaveEnded
orders-have-ended r order w v lists k = quiet-has-ended r v ((orders-stay r order w v k).clients ∙ lists) (orders-end-quiet r order w v k)

-- ---- turns

-- a client that is awake hears one of those to it
all-heard : (w : World) (n : ℕ) (c : ClientState) → slice_get w.clients n ≡ Some c → c.skip ≡ 0 → heard w (client n) ≡ count_to (client n) w.messages
all-heard w n c here awake =
    let asleep : nat_lt 0 c.skip ≡ false = grind (arith, nat_tests) in
    ap (heard_by_client (count_to (client n) w.messages)) here ∙ ap (λ b. if b then 0 else count_to (client n) w.messages) asleep

module _ (r : Rules) (a : ActorId) (k : ℕ) (w : World) where
  abbrev HearsSo : Type 0
  HearsSo = IsStopped w a ⊎ ((heard w a ≡ 0) ⊎ (k < heard w a))

  -- a target hears one of those to it
  target-hears : (t : ℕ) (l : Letter) (rest : List Letter) → a ≡ target t → IsPicked w.messages a k l rest → HearsSo
  target-hears t l rest is picked = inr (inr (subst (λ x. k < heard w x) (sym is) (picked-is-counted (target t) w.messages k l rest (subst (λ x. IsPicked w.messages x k l rest) is picked))))

  client-hears : (n : ℕ) (c : ClientState) (l : Letter) (rest : List Letter) → slice_get w.clients n ≡ Some c → c.skip ≡ 0 → a ≡ client n → IsPicked w.messages a k l rest → HearsSo
  client-hears n c l rest here awake is picked =
      let own : k < count_to (client n) w.messages = picked-is-counted (client n) w.messages k l rest (subst (λ x. IsPicked w.messages x k l rest) is picked) in
      inr (inr (subst (λ x. k < heard w x) (sym is) (subst (λ m. k < m) (sym (all-heard w n c here awake)) own)))

  at-work : (t : ℕ) (work : AtWork) → a ≡ target t → IsAtWork w a k work → HearsSo
  at-work t (Hearing l reading number) is at = target-hears t l at.0 is at.1
  at-work t IdleWork is at = inr (inl at)

  done-hears : (settling : Bool) (u : World) (e : Happening r w u) → IsDoneBy settling r a k e → HearsSo
  done-hears settling u (Plainly (ByClient g) up) by = inr (inl by.1)
  done-hears settling u (Plainly (ToClient g) up) by = client-hears g.n g.c g.l g.rest g.here g.awake by.0 by.1
  done-hears settling u (Plainly (ToTarget g) up) by = target-hears g.t g.l g.rest by.0 by.1
  done-hears settling u (Plainly (ByTarget g) up) by = inr (inl by.1)
  done-hears settling u (Further g) by = target-hears g.hears.t g.hears.l g.hears.rest by.0 by.1
  done-hears settling u (IsCut g) by = at-work g.t g.work by.0 by.1
  done-hears settling u (Opens g) by = inl (record { t = g.t; s = g.s; is = by; here = g.here; stopped = g.stopped })
  done-hears settling u (Fails g) by = inl (record { t = g.t; s = g.s; is = by; here = g.here; stopped = g.stopped })
  done-hears settling u (GivenUp g) by = absurd by
  done-hears settling u (Draws g) by = absurd by

-- one that opens was stopped before the number was drawn for it
drawn-targets : (r : Rules) (w u : World) (e : Happening r w u) → IsDraw r e → u.targets ≡ w.targets
drawn-targets r w u (Draws g) draws = ap (λ x. x.targets) g.after
drawn-targets r w u (Plainly e up) draws = absurd draws
drawn-targets r w u (Further g) draws = absurd draws
drawn-targets r w u (IsCut g) draws = absurd draws
drawn-targets r w u (Opens g) draws = absurd draws
drawn-targets r w u (Fails g) draws = absurd draws
drawn-targets r w u (GivenUp g) draws = absurd draws

opening-stopped : (settling : Bool) (r : Rules) (a : ActorId) (k n : ℕ) (w u : World) (e : Happening r w u) → IsDoneBy settling r a k e → OpensBy r n e → IsStopped w a
opening-stopped settling r a k n w u (Opens g) by opens = record { t = g.t; s = g.s; is = by; here = g.here; stopped = g.stopped }
opening-stopped settling r a k n w u (Plainly e up) by opens = absurd opens
opening-stopped settling r a k n w u (Further g) by opens = absurd opens
opening-stopped settling r a k n w u (IsCut g) by opens = absurd opens
opening-stopped settling r a k n w u (Fails g) by opens = absurd opens
opening-stopped settling r a k n w u (GivenUp g) by opens = absurd opens
opening-stopped settling r a k n w u (Draws g) by opens = absurd opens

pub turns-hear : TurnsHear
turns-hear settling r a k w v (Doing d plain) = done-hears r a k w settling d.event.u d.event.happens d.by
turns-hear settling r a k w v (Opening u n draws d by) =
    let s = opening-stopped settling r a k _ u d.event.u d.event.happens d.by by in
    let same : u.targets ≡ w.targets = ap (λ x. x.targets) n.after ∙ drawn-targets r w n.u n.happens draws in
    inl (record { t = s.t; s = s.s; is = s.is; here = ap (λ ts. slice_get ts s.t) (sym same) ∙ s.here; stopped = s.stopped })
turns-hear settling r a k w v (GivingUp u d fault g up) = done-hears r a k w settling d.event.u d.event.happens d.by
