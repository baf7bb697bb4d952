-- Where turns are taken in an order, restarts and aggregations are counted by the lines.
use Rattle.std.specs.Prelude.{ℕ, ◌≡◌, ◌<◌, ◌+◌, ◌++◌, Bool, false, nat_eq, List, [], ◌∷◌, length, Option}
use Rattle.std.proofs.Common.{append-nil, inl, inr, sym, ◌∙◌, ap, subst, arith}
use Rattle.std.proofs.lemmas.Bool.Decides.{nat_tests}
use Rattle.std.proofs.lemmas.List.{length-append}
use Rattle.base_messages.specs.declared.actor.ActorId.{ActorId}
use Rattle.base_types.specs.declared.report.Line.{Line}
use Rattle.daos_model.specs.Stops.{AreCounted, aggregate_numbers, restart_numbers}
use Rattle.model_laws.specs.Members.{Has}
use Rattle.run_laws.specs.turns.Aggregates.{AddsNext, done-new, done-numbers, given_up-new, given_up-numbers, next-counted}
use Rattle.run_laws.specs.turns.Keeping.{order-keeps}
use Rattle.run_laws.specs.turns.Orders.{InOrder}
use Rattle.run_laws.specs.turns.Turns.{Doing, GivingUp, IsDraw, Opening, OpensBy, TurnOf}
use Rattle.world_base.specs.declared.world.World.{World}
use Rattle.world_base.specs.Events.{Rules}
use Rattle.world_base.specs.Stops.{Draws, Fails, Further, GivenUp, Happening, IsCut, IsFreeRestart, NumbersDrawn, Opens, Plainly, TargetOpens, WorldEvent, restart_line}
use Rattle.world_letters.specs.lives.Adding.{Adds, HasNew, NoNumber, OneNumber, aggregates-append, restart-apart, restarts-append}
use Rattle.world_letters.specs.lives.Counting.{AreCountedSo}
use Rattle.world_letters.specs.lives.Events.{happening-adds}
use Rattle.world_letters.specs.lives.Numbers.{counted-next, counted-on}

-- Each number of a restart that was drawn has its line, and these are counted in their order; and so are the lines of aggregations.
pub record AreAllTold (w : World) : Type 0 where
  pub drawn : w.numbers.restarts ≡ length (restart_numbers w.lines)
  pub counted : AreCounted 0 (restart_numbers w.lines)
  pub aggregated : AreCounted 0 (aggregate_numbers w.lines)

-- ---- the statements

-- each turn keeps it
abbrev pub TurnsTellAll : Type 0
TurnsTellAll = (settling : Bool) (r : Rules) (a : ActorId) (k : ℕ) (w v : World) → TurnOf settling r a k w v → AreAllTold w → AreAllTold v

-- so it is at the end of a run in an order from a world with no lines, where no number was drawn
abbrev pub OrdersTellAll : Type 0
OrdersTellAll = (r : Rules) (order : ℕ) (w v : World) → w.lines ≡ [] → w.numbers.restarts ≡ 0 → InOrder r order w v → AreAllTold v

-- and then restarts and aggregations are counted by the lines, as a legal report asks
abbrev pub AllToldAreCounted : Type 0
AllToldAreCounted = (w : World) → AreAllTold w → AreCountedSo w

-- ---- lines

-- no number is free
none-free : (w : World) → AreAllTold w → (n : ℕ) → IsFreeRestart w n → ⊥
none-free w k n f =
    let next : n ≡ length (restart_numbers w.lines) = counted-next (restart_numbers w.lines) n k.counted own less in
    let all = k.drawn in
    let below = f.drawn in
    let no : ⊥ = omega (arith, next, all, below) in
    no
  where
    own : Has n (restart_numbers w.lines) → ⊥
    own i = let off : nat_eq n n ≡ false = restart-apart n w.lines f.unused n i in let no : ⊥ = grind (arith, nat_tests) in no

    less : n < length (restart_numbers w.lines) + 1
    less = let all = k.drawn in let below = f.drawn in omega (arith, all, below)

no-new : (IsFree : ℕ → Type 0) (ns : List ℕ) → ((n : ℕ) → IsFree n → ⊥) → HasNew IsFree ns → ns ≡ []
no-new IsFree ns none (NoNumber is) = is
no-new IsFree ns none (OneNumber n free is) = absurd (none n free)

-- where no number is drawn, no line of a restart has one
adds-tell : (who : Option ℕ) (w v : World) → Adds who w v → AddsNext w v → AreAllTold w → AreAllTold v
adds-tell who w v a next k = record {
  drawn = ap (λ ns. ns.restarts) a.numbers ∙ k.drawn ∙ ap length (sym same);
  counted = subst (AreCounted 0) (sym same) k.counted;
  aggregated = next-counted w v next k.aggregated;
}
  where
    same : restart_numbers v.lines ≡ restart_numbers w.lines
    same =
        ap restart_numbers a.lines ∙ restarts-append w.lines a.more
        ∙ ap (λ ns. restart_numbers w.lines ++ ns) (no-new (IsFreeRestart w) (restart_numbers a.more) (none-free w k) a.restarts) ∙ append-nil (restart_numbers w.lines)

drawn-tells : (w v : World) → NumbersDrawn w v → v.numbers ≡ w.numbers → AreAllTold w → AreAllTold v
drawn-tells w v g numbers k = record {
  drawn = ap (λ ns. ns.restarts) numbers ∙ k.drawn ∙ ap (λ ls. length (restart_numbers ls)) (sym lines);
  counted = subst (λ ls. AreCounted 0 (restart_numbers ls)) (sym lines) k.counted;
  aggregated = subst (λ ls. AreCounted 0 (aggregate_numbers ls)) (sym lines) k.aggregated;
}
  where
    lines : v.lines ≡ w.lines
    lines = ap (λ x. x.lines) g.after

-- ---- what happens

happening-tells : (r : Rules) (w v : World) (e : Happening r w v) → v.numbers ≡ w.numbers → AddsNext w v → AreAllTold w → AreAllTold v
happening-tells r w v e numbers next k = elim (happening-adds r w v e) [
  | inl a ↦ adds-tell _ w v a next k
  | inr g ↦ drawn-tells w v g.1 numbers k
]

-- what is lost then is neither a number nor a line
swept-tells : (r : Rules) (w v : World) (e : WorldEvent r w v) → AreAllTold e.u → AreAllTold v
swept-tells r w v e k = subst AreAllTold (sym e.after) (record { drawn = k.drawn; counted = k.counted; aggregated = k.aggregated })

-- ---- an opening

-- a number was drawn, which has no line yet
record IsOneDrawn (w u : World) : Type 0 where
  lines : u.lines ≡ w.lines
  restarts : u.numbers.restarts ≡ w.numbers.restarts + 1

draws-one : (r : Rules) (w u : World) (e : Happening r w u) → IsDraw r e → IsOneDrawn w u
draws-one r w u (Draws g) draws = record { lines = ap (λ x. x.lines) g.after; restarts = draws.0 }
draws-one r w u (Plainly e up) draws = absurd draws
draws-one r w u (Further g) draws = absurd draws
draws-one r w u (IsCut g) draws = absurd draws
draws-one r w u (Opens g) draws = absurd draws
draws-one r w u (Fails g) draws = absurd draws
draws-one r w u (GivenUp g) draws = absurd draws

event-draws : (r : Rules) (w u : World) (n : WorldEvent r w u) → IsDraw r n.happens → IsOneDrawn w u
event-draws r w u n draws = let k = draws-one r w n.u n.happens draws in record {
  lines = ap (λ x. x.lines) n.after ∙ k.lines;
  restarts = ap (λ x. x.numbers.restarts) n.after ∙ k.restarts;
}

-- an opening's line has it
opening-tells : (r : Rules) (w u v : World) → IsOneDrawn w u → (g : TargetOpens r u v) → g.number ≡ w.numbers.restarts → AreAllTold w → AreAllTold v
opening-tells r w u v one g number k = record {
  drawn = ap (λ x. x.numbers.restarts) g.after ∙ one.restarts ∙ ap (λ n. n + 1) k.drawn ∙ sym (length-append (restart_numbers w.lines) (g.number ∷ [])) ∙ ap length (sym told);
  counted = subst (AreCounted 0) (sym told) (counted-on (restart_numbers w.lines) (g.number ∷ []) k.counted (number ∙ k.drawn, tt));
  aggregated = subst (AreCounted 0) (sym (ap aggregate_numbers lines ∙ aggregates-append w.lines (opens ∷ []) ∙ append-nil (aggregate_numbers w.lines))) k.aggregated;
}
  where
    opens : Line
    opens = restart_line g.number g.t g.s.durable

    lines : v.lines ≡ w.lines ++ opens ∷ []
    lines = ap (λ x. x.lines) g.after ∙ ap (λ ls. ls ++ opens ∷ []) one.lines

    told : restart_numbers v.lines ≡ restart_numbers w.lines ++ g.number ∷ []
    told = ap restart_numbers lines ∙ restarts-append w.lines (opens ∷ [])

opens-tells : (r : Rules) (w u v : World) (e : Happening r u v) → IsOneDrawn w u → OpensBy r w.numbers.restarts e → AreAllTold w → AreAllTold v
opens-tells r w u v (Opens g) one by k = opening-tells r w u v one g by k
opens-tells r w u v (Plainly e up) one by k = absurd by
opens-tells r w u v (Further g) one by k = absurd by
opens-tells r w u v (IsCut g) one by k = absurd by
opens-tells r w u v (Fails g) one by k = absurd by
opens-tells r w u v (GivenUp g) one by k = absurd by
opens-tells r w u v (Draws g) one by k = absurd by

-- ---- the laws

pub turns-tell_all : TurnsTellAll
turns-tell_all settling r a k w v (Doing d plain) told = swept-tells r w v d.event (happening-tells r w d.event.u d.event.happens (done-numbers settling r a k w d.event.u d.event.happens d.by) (done-new settling r a k w d.event.u d.event.happens d.by) told)
turns-tell_all settling r a k w v (Opening u n draws d by) told = swept-tells r u v d.event (opens-tells r w u d.event.u d.event.happens (event-draws r w u n draws) by told)
turns-tell_all settling r a k w v (GivingUp u d fault g up) told =
    let first = swept-tells r w u d.event (happening-tells r w d.event.u d.event.happens (done-numbers settling r a k w d.event.u d.event.happens d.by) (done-new settling r a k w d.event.u d.event.happens d.by) told) in
    swept-tells r u v g (happening-tells r u g.u g.happens (given_up-numbers r a u g.u g.happens up) (given_up-new r a u g.u g.happens up) first)

none-told : (w : World) → w.lines ≡ [] → w.numbers.restarts ≡ 0 → AreAllTold w
none-told w lines restarts = record {
  drawn = restarts ∙ ap (λ ls. length (restart_numbers ls)) (sym lines);
  counted = subst (λ ls. AreCounted 0 (restart_numbers ls)) (sym lines) tt;
  aggregated = subst (λ ls. AreCounted 0 (aggregate_numbers ls)) (sym lines) tt;
}

pub orders-tell_all : OrdersTellAll
orders-tell_all r order w v lines restarts k = order-keeps r AreAllTold (λ settling a n u x t. turns-tell_all settling r a n u x t) order w v k (none-told w lines restarts)

pub all-told_are_counted : AllToldAreCounted
all-told_are_counted w k = record { restarts = k.counted; aggregations = k.aggregated }
