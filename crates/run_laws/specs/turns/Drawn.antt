-- The numbers of aggregations are drawn before a run, and its lines count them.
use Rattle.std.specs.Prelude.{ℕ, ◌≡◌, ◌≤◌, ◌<◌, ◌+◌, ◌^◌, ◌==◌, Bool, true, false, List, [], ◌∷◌, filter, length, refl, if◌then◌else◌}
use Rattle.std.proofs.Common.{inl, inr, ◌∙◌, ap, subst, sym, arith}
use Rattle.std.proofs.lemmas.Bool.Decides.{nat_tests}
use Rattle.base_messages.specs.declared.actor.ActorId.{ActorId}
use Rattle.base_messages.specs.declared.message.Message.{Message}
use Rattle.base_types.specs.declared.report.Line.{Line}
use Rattle.base_types.specs.declared.report.Line.TheVariants as line
use Rattle.daos_model.specs.Stops.{AreCounted, aggregate_numbers}
use Rattle.model_laws.specs.Members.{Has}
use Rattle.run_base.specs.Numbers.{next_aggregate}
use Rattle.run_laws.specs.turns.Aggregates.{AddsNext, done-new, done-numbers, given_up-new, given_up-numbers, next-counted}
use Rattle.run_laws.specs.turns.OrderLaws.{turn-goes}
use Rattle.run_laws.specs.turns.Turns.{Acts, Doing, GivingUp, IsDoneBy, IsDraw, Opening, TurnOf}
use Rattle.world_base.specs.declared.world.World.{World}
use Rattle.world_base.specs.Events.{Rules}
use Rattle.world_base.specs.Stops.{Draws, Fails, Further, GivenUp, Goes, Happening, IsCut, IsFreeAggregate, IsNumberFresh, Opens, Plainly, WorldEvent, WorldRun, is_aggregate_of, is_prune_message}

-- all numbers of 32 bits were drawn for aggregations, and those that have lines are counted in their order
pub record AreDrawn (w : World) : Type 0 where
  pub drawn : 2 ^ 32 ≤ w.numbers.aggregates
  pub counted : AreCounted 0 (aggregate_numbers w.lines)

-- a run that has reached the one world goes on to the other, and its numbers too
pub record RunsOn (r : Rules) (w v : World) : Type 0 where
  pub run : (first : World) → WorldRun r first w → WorldRun r first v
  pub drawn : AreDrawn w → AreDrawn v

-- ---- the statements

-- each turn keeps it
abbrev pub TurnsKeepDrawn : Type 0
TurnsKeepDrawn = (settling : Bool) (r : Rules) (a : ActorId) (k : ℕ) (w v : World) → TurnOf settling r a k w v → AreDrawn w → AreDrawn v

-- and then the next number is free
abbrev pub NextIsFree : Type 0
NextIsFree = (w : World) → AreDrawn w → next_aggregate w.lines < 2 ^ 32 → IsFreeAggregate w (next_aggregate w.lines)

-- ---- a number that no line has

below : (n : ℕ) (ns : List ℕ) (m : ℕ) → AreCounted n ns → Has m ns → m < n + length ns
below n [] m k i = absurd i
below n (x ∷ ns) m k (inl same) = let e : x ≡ n = k.0 in omega (arith, same, e)
below n (x ∷ ns) m k (inr i) = let less = below (n + 1) ns m k.1 i in omega (arith, less)

unused : (n : ℕ) (ls : List Line) → (Has n (aggregate_numbers ls) → ⊥) → filter (is_aggregate_of n) ls ≡ []
unused n [] none = refl
unused n (line.Aggregate m t c upto ∷ ls) none = ap (λ b. if b then line.Aggregate m t c upto ∷ filter (is_aggregate_of n) ls else filter (is_aggregate_of n) ls) apart ∙ unused n ls (λ i. none (inr i))
  where
    other : n ≡ m → ⊥
    other same = none (inl same)

    apart : (m == n) ≡ false
    apart = grind (arith, nat_tests)
unused n (line.Try a ∷ ls) none = unused n ls none
unused n (line.Stop number t ∷ ls) none = unused n ls none
unused n (line.Restart number t inc floor ∷ ls) none = unused n ls none
unused n (line.Freeze t c e ∷ ls) none = unused n ls none
unused n (line.Snapshot name c e ∷ ls) none = unused n ls none
unused n (line.Down t ∷ ls) none = unused n ls none

pub next-free : NextIsFree
next-free w k few = record {
  drawn = let all = k.drawn in omega (arith, all, few);
  unused = unused (next_aggregate w.lines) w.lines (λ i. let less = below 0 (aggregate_numbers w.lines) (next_aggregate w.lines) k.counted i in omega (arith, less));
}

-- so it is for what asks for an aggregation
pub next-fresh : (w : World) (lines : List Line) (q : Message) → AreDrawn w → lines ≡ w.lines → (is_prune_message q ≡ true → next_aggregate lines < 2 ^ 32) → IsNumberFresh w q (next_aggregate lines)
next-fresh w lines q k same few asks = subst (λ ls. IsFreeAggregate w (next_aggregate ls)) (sym same) (next-free w k (subst (λ ls. next_aggregate ls < 2 ^ 32) same (few asks)))

-- ---- turns

-- as many were drawn as before
drawn-on : (w v : World) → v.numbers.aggregates ≡ w.numbers.aggregates → AddsNext w v → AreDrawn w → AreDrawn v
drawn-on w v same next k = record { drawn = subst (λ n. 2 ^ 32 ≤ n) (sym same) k.drawn; counted = next-counted w v next k.counted }

-- what is lost is neither a number nor a line
swept-drawn : (r : Rules) (w v : World) (e : WorldEvent r w v) → AreDrawn e.u → AreDrawn v
swept-drawn r w v e k = subst AreDrawn (sym e.after) (record { drawn = k.drawn; counted = k.counted })

done-drawn : (settling : Bool) (r : Rules) (a : ActorId) (k : ℕ) (w v : World) (e : Happening r w v) → IsDoneBy settling r a k e → AreDrawn w → AreDrawn v
done-drawn settling r a k w v e by = drawn-on w v (ap (λ ns. ns.aggregates) (done-numbers settling r a k w v e by)) (done-new settling r a k w v e by)

draw-drawn : (r : Rules) (w u : World) (e : Happening r w u) → IsDraw r e → AreDrawn w → AreDrawn u
draw-drawn r w u (Draws g) draws = drawn-on w u draws.1 (inl (ap (λ x. aggregate_numbers x.lines) g.after))
draw-drawn r w u (Plainly e up) draws = absurd draws
draw-drawn r w u (Further g) draws = absurd draws
draw-drawn r w u (IsCut g) draws = absurd draws
draw-drawn r w u (Opens g) draws = absurd draws
draw-drawn r w u (Fails g) draws = absurd draws
draw-drawn r w u (GivenUp g) draws = absurd draws

pub turns-keep_drawn : TurnsKeepDrawn
turns-keep_drawn settling r a k w v (Doing d plain) m = swept-drawn r w v d.event (done-drawn settling r a k w d.event.u d.event.happens d.by m)
turns-keep_drawn settling r a k w v (Opening u n draws d by) m = swept-drawn r u v d.event (done-drawn settling r a k u d.event.u d.event.happens d.by (swept-drawn r w u n (draw-drawn r w n.u n.happens draws m)))
turns-keep_drawn settling r a k w v (GivingUp u d fault g up) m =
    let first = swept-drawn r w u d.event (done-drawn settling r a k w d.event.u d.event.happens d.by m) in
    swept-drawn r u v g (drawn-on u g.u (ap (λ ns. ns.aggregates) (given_up-numbers r a u g.u g.happens up)) (given_up-new r a u g.u g.happens up) first)

-- ---- runs

pub runs-on-none : (r : Rules) (w : World) → RunsOn r w w
runs-on-none r w = record { run = λ first run. run; drawn = λ k. k }

pub runs-on-then : (r : Rules) (w u v : World) → RunsOn r w u → RunsOn r u v → RunsOn r w v
runs-on-then r w u v k l = record { run = λ first run. l.run first (k.run first run); drawn = λ m. l.drawn (k.drawn m) }

-- by a turn
pub turn-runs-on : (settling : Bool) (r : Rules) (a : ActorId) (k : ℕ) (w v : World) → TurnOf settling r a k w v → RunsOn r w v
turn-runs-on settling r a k w v t = record { run = λ first run. turn-goes settling r a k first w v t run; drawn = turns-keep_drawn settling r a k w v t }

-- or by what an actor does
pub act-runs-on : (settling : Bool) (r : Rules) (a : ActorId) (k : ℕ) (w v : World) → Acts settling r a k w v → RunsOn r w v
act-runs-on settling r a k w v d = record { run = λ first run. Goes w v run d.event; drawn = λ m. swept-drawn r w v d.event (done-drawn settling r a k w d.event.u d.event.happens d.by m) }
