-- A turn of an actor is determined, in worlds that are the same but for free blocks.
use Rattle.std.specs.Prelude.{ℕ, ◌≡◌, ◌+◌, Bool, true, false, List, [], slice_get, Option, Some, None, refl}
use Rattle.std.specs.Option.{option_map}
use Rattle.std.proofs.Common.{sym, ◌∙◌, ap, ap₂, subst}
use Rattle.std.proofs.lemmas.Option.{slice_get-map}
use Rattle.base_types.specs.declared.outcome.Outcome.{Outcome}
use Rattle.base_messages.specs.declared.actor.ActorId.{ActorId}
use Rattle.run_determined.specs.Clocks.{ReadAlike}
use Rattle.run_determined.specs.Events.{OneEvent, done-one}
use Rattle.run_determined.specs.Kinds.{stopped-fails}
use Rattle.run_determined.specs.Knowing.{IsSettledBy}
use Rattle.run_determined.specs.Leaving.{LeftOpen, Told, TurnLeft, left_at, left_by}
use Rattle.run_laws.specs.turns.OrderLaws.{IsStopped}
use Rattle.run_laws.specs.turns.Readings.{read_by, read_in}
use Rattle.run_laws.specs.turns.Turns.{Acts, Doing, GivesUp, GivingUp, IsDoneBy, IsDraw, IsFault, IsNoOpening, Opening, OpensBy, TurnOf}
use Rattle.world_base.specs.declared.target.TargetState.{TargetState}
use Rattle.world_base.specs.declared.world.Numbers.{Numbers}
use Rattle.world_base.specs.declared.world.World.{World}
use Rattle.world_base.specs.Events.{Rules}
use Rattle.world_base.specs.Letters.{target}
use Rattle.world_base.specs.Stops.{Draws, Fails, GivenUp, Happening, IsCut, Opens, WorldEvent}
use Rattle.world_determined.specs.StopEvents.{draws-one, given_up-one, opens-one}
use Rattle.world_determined.specs.Worlds.{SameButFree, but_free, swept-same, target_but_free}

-- two turns lead to worlds that are the same but for free blocks, and the same clock is read in them, if one is
pub record OneTurn {settling : Bool} {r : Rules} {a b : ActorId} {k l : ℕ} {w w' v v' : World} (turn : TurnOf settling r a k w w') (other : TurnOf settling r b l v v') : Type 0 where
  pub then_same : SameButFree w' v'
  pub reads : read_by turn ≡ read_by other

-- ---- events of turns

-- what is lost after an event is the same
after-events : (r : Rules) (w v w' v' : World) (e : WorldEvent r w w') (f : WorldEvent r v v') → SameButFree e.u f.u → SameButFree w' v'
after-events r w v w' v' e f same = ap but_free e.after ∙ swept-same e.u f.u same ∙ sym (ap but_free f.after)

-- one number of a restart is drawn
drawn-one : (r : Rules) (w v w' v' : World) (e : Happening r w w') (f : Happening r v v') → SameButFree w v → IsDraw r e → IsDraw r f → SameButFree w' v'
drawn-one r w v w' v' (Draws g) (Draws h) same draws draws' =
    draws-one r w v w' v' same g h (ap₂ (λ m n. record { restarts = m; aggregates = n })
    (ap (λ (x : World). x.numbers.restarts) (sym g.after) ∙ draws.0 ∙ ap (λ (x : World). x.numbers.restarts + 1) same ∙ sym draws'.0 ∙ ap (λ (x : World). x.numbers.restarts) h.after)
    (ap (λ (x : World). x.numbers.aggregates) (sym g.after) ∙ draws.1 ∙ ap (λ (x : World). x.numbers.aggregates) same ∙ sym draws'.1 ∙ ap (λ (x : World). x.numbers.aggregates) h.after))
drawn-one r w v w' v' (Draws g) f same draws draws' = absurd draws'
drawn-one r w v w' v' e f same draws draws' = absurd draws

-- a target opens again
opened-one : (r : Rules) (settling : Bool) (a : ActorId) (k m n : ℕ) (w v w' v' : World) (e : Happening r w w') (f : Happening r v v') → SameButFree w v → m ≡ n → IsDoneBy settling r a k e → IsDoneBy settling r a k f → OpensBy r m e → OpensBy r n f
    → SameButFree w' v'
opened-one r settling a k m n w v w' v' (Opens g) (Opens h) same number by by' opens opens' = opens-one r w v w' v' same g h (ap (λ (x : ActorId). x.number) (sym by ∙ by')) (opens ∙ number ∙ sym opens')
opened-one r settling a k m n w v w' v' (Opens g) f same number by by' opens opens' = absurd opens'
opened-one r settling a k m n w v w' v' e f same number by by' opens opens' = absurd opens

-- a target is given up
gone-one : (r : Rules) (a : ActorId) (w v w' v' : World) (e : Happening r w w') (f : Happening r v v') → SameButFree w v → GivesUp r a e → GivesUp r a f → SameButFree w' v'
gone-one r a w v w' v' (GivenUp g) (GivenUp h) same up up' = given_up-one r w v w' v' same g h (ap (λ (x : ActorId). x.number) (sym up ∙ up'))
gone-one r a w v w' v' (GivenUp g) f same up up' = absurd up'
gone-one r a w v w' v' e f same up up' = absurd up

fault-plain : (r : Rules) (w u : World) (e : Happening r w u) → IsFault r e → IsNoOpening r e
fault-plain r w u (IsCut g) fault = tt
fault-plain r w u (Fails g) fault = tt
fault-plain r w u e fault = absurd fault

-- a target that opens again was stopped
drawn-targets : (r : Rules) (w u : World) (e : Happening r w u) → IsDraw r e → u.targets ≡ w.targets
drawn-targets r w u (Draws g) draws = ap (λ (x : World). x.targets) g.after
drawn-targets r w u e draws = absurd draws

opens-stopped : (r : Rules) (settling : Bool) (a : ActorId) (k n : ℕ) (w u : World) (e : Happening r w u) → IsDoneBy settling r a k e → OpensBy r n e → IsStopped w a
opens-stopped r settling a k n w u (Opens g) by opens = record { t = g.t; s = g.s; is = by; here = g.here; stopped = g.stopped }
opens-stopped r settling a k n w u e by opens = absurd opens

stopped-before : (w u : World) (a : ActorId) → u.targets ≡ w.targets → IsStopped u a → IsStopped w a
stopped-before w u a same z = subst (λ ts. IsStopped (record w { targets = ts }) a) same (record { t = z.t; s = z.s; is = z.is; here = z.here; stopped = z.stopped })

was-mapped : (f : TargetState → TargetState) (o : Option TargetState) (u : TargetState) → option_map f o ≡ Some u → (x : TargetState) × (o ≡ Some x) × (f x ≡ u)
was-mapped f None u h = let no : ⊥ = cc in absurd no
was-mapped f (Some x) u h = (x, refl, cc)

stopped-same : (w v : World) (a : ActorId) → SameButFree w v → IsStopped v a → IsStopped w a
stopped-same w v a same z =
    let found = was-mapped target_but_free (slice_get w.targets z.t) (target_but_free z.s)
    (sym (slice_get-map target_but_free w.targets z.t) ∙ ap (λ (x : World). slice_get x.targets z.t) same ∙ slice_get-map target_but_free v.targets z.t ∙ ap (option_map target_but_free) z.here) in
    record { t = z.t; s = found.0; is = z.is; here = found.1; stopped = ap (λ (x : TargetState). x.life) found.2 ∙ z.stopped }

-- ---- turns

module _ (r : Rules) (settling : Bool) (a : ActorId) (k : ℕ) (w v : World) (same : SameButFree w v) (facts : IsSettledBy r w) where
  acts-one : (u x : World) (d : Acts settling r a k w u) (c : Acts settling r a k v x) → IsNoOpening r d.event.happens → IsNoOpening r c.event.happens → ReadAlike (read_in d.event.happens) (read_in c.event.happens)
      → left_at r d.event.happens ≡ left_at r c.event.happens → OneEvent d.event.happens c.event.happens
  acts-one u x d c plain plain' alike left = done-one r settling a k w v same facts d.event.u c.event.u d.event.happens c.event.happens d.by c.by plain plain' alike left

  pub turn-one : (w' v' : World) (turn : TurnOf settling r a k w w') (other : TurnOf settling r a k v v') → ReadAlike (read_by turn) (read_by other) → left_by turn ≡ left_by other → OneTurn turn other
  turn-one w' v' (Doing d plain) (Doing c plain') alike left =
      let one = acts-one w' v' d c plain plain' alike (ap (λ (z : TurnLeft). z.left) left) in
      record { then_same = after-events r w v w' v' d.event c.event one.then_same; reads = one.reads }
  turn-one w' v' (Opening u n draws d by) (Opening x m draws' c by') alike left =
      let first = after-events r w v u x n m (drawn-one r w v n.u m.u n.happens m.happens same draws draws') in
      let then = opened-one r settling a k w.numbers.restarts v.numbers.restarts u x d.event.u c.event.u d.event.happens c.event.happens first (ap (λ (z : World). z.numbers.restarts) same) d.by c.by by by' in
      record { then_same = after-events r u x w' v' d.event c.event then; reads = refl }
  turn-one w' v' (GivingUp u d fault g up) (GivingUp x c fault' h up') alike left =
      let one = acts-one u x d c (fault-plain r w d.event.u d.event.happens fault) (fault-plain r v c.event.u c.event.happens fault') alike (ap (λ (z : TurnLeft). z.left) left) in
      let first = after-events r w v u x d.event c.event one.then_same in
      record { then_same = after-events r u x w' v' g h (gone-one r a u x g.u h.u g.happens h.happens first up up'); reads = one.reads }
  turn-one w' v' (Doing d plain) (Opening x m draws c by) alike left =
      absurd (stopped-fails r settling a k w d.event.u d.event.happens [] d.by plain (ap (λ (z : TurnLeft). z.left) left)
      (stopped-same w v a same (stopped-before v x a (ap (λ (z : World). z.targets) m.after ∙ drawn-targets r v m.u m.happens draws) (opens-stopped r settling a k v.numbers.restarts x c.event.u c.event.happens c.by by))))
  turn-one w' v' (Opening u n draws d by) (Doing c plain) alike left =
      absurd (stopped-fails r settling a k v c.event.u c.event.happens [] c.by plain (sym (ap (λ (z : TurnLeft). z.left) left))
      (stopped-same v w a (sym same) (stopped-before w u a (ap (λ (z : World). z.targets) n.after ∙ drawn-targets r w n.u n.happens draws) (opens-stopped r settling a k w.numbers.restarts u d.event.u d.event.happens d.by by))))
  turn-one w' v' turn (GivingUp x c fault h up) alike left = let no = ap (λ (z : TurnLeft). z.given_up) left in let n : ⊥ = cc (no) in absurd n
  turn-one w' v' (GivingUp u d fault g up) other alike left = let no = ap (λ (z : TurnLeft). z.given_up) left in let n : ⊥ = cc (no) in absurd n
