-- What an actor does adds at most one line of an aggregation, of the next number.
use Rattle.std.specs.Prelude.{ℕ, ◌≡◌, ◌⊎◌, ◌++◌, Bool, List, [], ◌∷◌, map, refl}
use Rattle.std.proofs.Common.{append-nil, append_assoc, inl, inr, sym, ◌∙◌, ap, subst}
use Rattle.base_messages.specs.declared.actor.ActorId.{ActorId}
use Rattle.base_messages.specs.declared.message.Message.{Message}
use Rattle.base_messages.specs.declared.message.Message.TheVariants as message
use Rattle.base_types.specs.declared.report.Line.{Line}
use Rattle.base_types.specs.declared.report.Line.TheVariants as line
use Rattle.daos_model.specs.Stops.{AreCounted, aggregate_numbers}
use Rattle.run_base.specs.Numbers.{next_aggregate}
use Rattle.run_laws.specs.turns.Turns.{GivesUp, IsAtWork, IsDoneBy, IsNumberNext}
use Rattle.world_base.specs.declared.world.World.{World}
use Rattle.world_base.specs.Events.{ByClient, ByTarget, Event, Rules, ToClient, ToTarget, client_plan, kept, target_plan, with_epoch}
use Rattle.world_base.specs.Roles.{is_prepared}
use Rattle.world_base.specs.Stops.{AtWork, CutOf, Draws, Fails, Further, GivenUp, Happening, Hearing, HearsMore, IdleWork, IsCut, Opens, Plainly, TargetCut, restart_line, stops_so_far}
use Rattle.world_letters.specs.lives.Adding.{aggregates-append}
use Rattle.world_letters.specs.lives.ClientLines.{AreTries, hears-own, next-own}
use Rattle.world_letters.specs.lives.CutLines.{hearing-cut, idle-cut}
use Rattle.world_letters.specs.lives.Events.{as-added, tries-filled, tries-numbers}
use Rattle.world_letters.specs.lives.Numbers.{counted-on}
use Rattle.world_letters.specs.lives.TurnLines.{AreTurnLines, further-lines, idle-lines, plain-lines}

-- no line of an aggregation is new, or one, of the next number
abbrev pub AddsNext : World → World → Type 0
AddsNext w v = (aggregate_numbers v.lines ≡ aggregate_numbers w.lines) ⊎ (aggregate_numbers v.lines ≡ aggregate_numbers w.lines ++ next_aggregate w.lines ∷ [])

-- so it is of all that an actor does
abbrev pub DoneAddsNext : Type 0
DoneAddsNext = (settling : Bool) (r : Rules) (a : ActorId) (k : ℕ) (w v : World) (e : Happening r w v) → IsDoneBy settling r a k e → AddsNext w v

-- ---- lines

-- lines without numbers were added
none-new : (w v : World) (more : List Line) → v.lines ≡ w.lines ++ more → aggregate_numbers more ≡ [] → AddsNext w v
none-new w v more lines none = inl (ap aggregate_numbers lines ∙ aggregates-append w.lines more ∙ ap (λ ns. aggregate_numbers w.lines ++ ns) none ∙ append-nil (aggregate_numbers w.lines))

same-lines : (w v : World) → v.lines ≡ w.lines → AddsNext w v
same-lines w v lines = inl (ap aggregate_numbers lines)

-- those of attempts, with their epochs
tries-new : (w v : World) (ls : List Line) → v.lines ≡ w.lines ++ map (with_epoch w.issued) ls → AreTries ls → AddsNext w v
tries-new w v ls lines own = none-new w v _ lines (tries-numbers (map (with_epoch w.issued) ls) (tries-filled w.issued ls own)).aggregations

-- those of a turn, before others without numbers
turn-new : (w v : World) (t number : ℕ) (q : Message) (ls rest : List Line) → v.lines ≡ w.lines ++ (ls ++ rest) → aggregate_numbers rest ≡ [] → IsNumberNext w q number → AreTurnLines t number q ls → AddsNext w v
turn-new w v t number q ls rest lines none next k = elim k.numbers [
  | inl nothing ↦ inl (all ∙ ap (λ ns. aggregate_numbers w.lines ++ ns) nothing ∙ append-nil (aggregate_numbers w.lines))
  | inr one ↦ inr (all ∙ ap (λ ns. aggregate_numbers w.lines ++ ns) (one.1 ∙ ap (λ n. n ∷ []) (next one.0)))
]
  where
    all : aggregate_numbers v.lines ≡ aggregate_numbers w.lines ++ aggregate_numbers ls
    all =
        ap aggregate_numbers lines ∙ aggregates-append w.lines (ls ++ rest)
        ∙ ap (λ ns. aggregate_numbers w.lines ++ ns) (aggregates-append ls rest ∙ ap (λ ns. aggregate_numbers ls ++ ns) none ∙ append-nil (aggregate_numbers ls))

-- ---- what is done

plain-new : (r : Rules) (w v : World) → Event r w v → AddsNext w v
plain-new r w v (ByClient g) = tries-new w v g.did.lines (ap (λ x. x.lines) g.after) (next-own (client_plan r g.n) g.c g.d g.did g.turn)
plain-new r w v (ToClient g) = tries-new w v g.did.lines (ap (λ x. x.lines) g.after) (hears-own (client_plan r g.n) g.c g.d g.l.message g.did g.turn)
plain-new r w v (ToTarget g) =
    same-lines w v
    (ap (λ x. x.lines) g.after ∙ ap (λ ls. w.lines ++ map (with_epoch w.issued) ls) (plain-lines (target_plan r g.t) g.s.opening g.s.memory g.reading g.l.from g.l.message (kept g.s) g.new (g.memory, g.did) g.turn) ∙ append-nil w.lines)
plain-new r w v (ByTarget g) =
    same-lines w v
    (ap (λ x. x.lines) g.after ∙ ap (λ ls. w.lines ++ map (with_epoch w.issued) ls) (idle-lines g.settling (target_plan r g.t) g.s.memory g.turn.last g.new (g.memory, g.did) g.turn.ends) ∙ append-nil w.lines)

further-new : (r : Rules) (w v : World) (g : HearsMore r w v) → IsNumberNext w g.hears.l.message g.number → AddsNext w v
further-new r w v g next =
    let h = g.hears in
    let k = further-lines g.number (target_plan r h.t) h.s.opening h.s.memory h.reading h.l.from h.l.message (kept h.s) h.new (h.memory, h.did) h.turn in
    turn-new w v h.t g.number h.l.message h.did.lines []
    (ap (λ x. x.lines) h.after ∙ ap (λ ls. w.lines ++ ls) (as-added h.t w.issued h.did.lines k.own ∙ sym (append-nil h.did.lines))) refl next k

cut-new : (r : Rules) (a : ActorId) (k : ℕ) (w v : World) (g : TargetCut r w v) → IsAtWork w a k g.work → AddsNext w v
cut-new r a k w v g at = by g.work at g.turn
  where
    last : List Line
    last = line.Stop (stops_so_far w.lines) g.t ∷ []

    lines : v.lines ≡ w.lines ++ (g.cut.lines ++ last)
    lines = ap (λ x. x.lines) g.after ∙ append_assoc w.lines g.cut.lines last

    by : (work : AtWork) → IsAtWork w a k work → CutOf (target_plan r g.t) g.s work g.cut → AddsNext w v
    by (Hearing l reading number) at turn =
        turn-new w v g.t number l.message g.cut.lines last lines refl at.2 (hearing-cut is_prepared number (target_plan r g.t) g.s.opening g.s.memory reading l.from l.message (kept g.s) g.cut turn)
    by IdleWork at turn =
        turn-new w v g.t 0 (message.Marked 0 []) g.cut.lines last lines refl (λ is. let no : ⊥ = cc in absurd no) (idle-cut g.t 0 (message.Marked 0 []) g.s.memory (kept g.s) g.cut turn)

pub done-new : DoneAddsNext
done-new settling r a k w v (Plainly e up) by = plain-new r w v e
done-new settling r a k w v (Further g) by = further-new r w v g by.2
done-new settling r a k w v (IsCut g) by = cut-new r a k w v g by.1
done-new settling r a k w v (Opens g) by = none-new w v (restart_line g.number g.t g.s.durable ∷ []) (ap (λ x. x.lines) g.after) refl
done-new settling r a k w v (Fails g) by = same-lines w v (ap (λ x. x.lines) g.after)
done-new settling r a k w v (GivenUp g) by = absurd by
done-new settling r a k w v (Draws g) by = absurd by

-- and where a target is given up
pub given_up-new : (r : Rules) (a : ActorId) (w v : World) (e : Happening r w v) → GivesUp r a e → AddsNext w v
given_up-new r a w v (GivenUp g) up = none-new w v (line.Down g.t ∷ []) (ap (λ x. x.lines) g.after) refl
given_up-new r a w v (Plainly e none) up = absurd up
given_up-new r a w v (Further g) up = absurd up
given_up-new r a w v (IsCut g) up = absurd up
given_up-new r a w v (Opens g) up = absurd up
given_up-new r a w v (Fails g) up = absurd up
given_up-new r a w v (Draws g) up = absurd up

-- ---- numbers

-- aggregations are counted on
pub next-counted : (w v : World) → AddsNext w v → AreCounted 0 (aggregate_numbers w.lines) → AreCounted 0 (aggregate_numbers v.lines)
next-counted w v (inl same) k = subst (AreCounted 0) (sym same) k
next-counted w v (inr one) k = subst (AreCounted 0) (sym one) (counted-on (aggregate_numbers w.lines) (next_aggregate w.lines ∷ []) k (refl, tt))

event-numbers : (r : Rules) (w v : World) → Event r w v → v.numbers ≡ w.numbers
event-numbers r w v (ByClient g) = ap (λ x. x.numbers) g.after
event-numbers r w v (ToClient g) = ap (λ x. x.numbers) g.after
event-numbers r w v (ToTarget g) = ap (λ x. x.numbers) g.after
event-numbers r w v (ByTarget g) = ap (λ x. x.numbers) g.after

-- what an actor does draws none
pub done-numbers : (settling : Bool) (r : Rules) (a : ActorId) (k : ℕ) (w v : World) (e : Happening r w v) → IsDoneBy settling r a k e → v.numbers ≡ w.numbers
done-numbers settling r a k w v (Plainly e up) by = event-numbers r w v e
done-numbers settling r a k w v (Further g) by = ap (λ x. x.numbers) g.hears.after
done-numbers settling r a k w v (IsCut g) by = ap (λ x. x.numbers) g.after
done-numbers settling r a k w v (Opens g) by = ap (λ x. x.numbers) g.after
done-numbers settling r a k w v (Fails g) by = ap (λ x. x.numbers) g.after
done-numbers settling r a k w v (GivenUp g) by = absurd by
done-numbers settling r a k w v (Draws g) by = absurd by

pub given_up-numbers : (r : Rules) (a : ActorId) (w v : World) (e : Happening r w v) → GivesUp r a e → v.numbers ≡ w.numbers
given_up-numbers r a w v (GivenUp g) up = ap (λ x. x.numbers) g.after
given_up-numbers r a w v (Plainly e none) up = absurd up
given_up-numbers r a w v (Further g) up = absurd up
given_up-numbers r a w v (IsCut g) up = absurd up
given_up-numbers r a w v (Opens g) up = absurd up
given_up-numbers r a w v (Fails g) up = absurd up
given_up-numbers r a w v (Draws g) up = absurd up
