-- Which lines of stops, and of targets given up, a turn adds.
use Rattle.std.specs.Prelude.{ℕ, ◌≡◌, ◌+◌, ◌++◌, Bool, List, [], ◌∷◌, map, Option, Some, None, refl}
use Rattle.std.proofs.Common.{append-nil, append_assoc, sym, ◌∙◌, ap, arith}
use Rattle.base_messages.specs.declared.actor.ActorId.{ActorId}
use Rattle.base_messages.specs.declared.message.Message.{Message}
use Rattle.base_messages.specs.declared.message.Message.TheVariants.{Marked}
use Rattle.base_types.specs.declared.epoch.Epoch.{Epoch}
use Rattle.base_types.specs.declared.id.AttemptId.{AttemptId}
use Rattle.base_types.specs.declared.report.Line.{Line}
use Rattle.base_types.specs.declared.report.Line.TheVariants as line
use Rattle.daos_model.specs.Stops.{down_targets, given_up}
use Rattle.model_laws.specs.Members.{Has}
use Rattle.run_laws.specs.turns.Turns.{Doing, GivesUp, GivingUp, IsDoneBy, IsDraw, Opening, OpensBy, TurnOf}
use Rattle.world_base.specs.declared.world.World.{World}
use Rattle.world_base.specs.Events.{ByClient, ByTarget, Event, Rules, ToClient, ToTarget, client_plan, kept, target_plan, with_epoch}
use Rattle.world_base.specs.Letters.{target}
use Rattle.world_base.specs.Roles.{is_prepared}
use Rattle.world_base.specs.Stops.{AtWork, Begins, CutOf, Draws, Fails, Further, GivenUp, Goes, Happening, Hearing, HearsMore, IdleWork, IsCut, Opens, Plainly, TargetCut, WorldEvent, restart_line, stops_so_far}
use Rattle.world_letters.specs.lives.Adding.{stops_of}
use Rattle.world_letters.specs.lives.ClientLines.{AreTries, hears-own, next-own}
use Rattle.world_letters.specs.lives.Counting.{run-counts, stops_told}
use Rattle.world_letters.specs.lives.CutLines.{hearing-cut, idle-cut}
use Rattle.world_letters.specs.lives.Events.{stops_in}
use Rattle.world_letters.specs.lives.Numbers.{gather-append, gather-none}
use Rattle.world_letters.specs.lives.TurnLines.{IsTurnLine, further-lines, idle-lines, plain-lines}

-- the target that stops in a turn, if one does: one whose turn is cut
abbrev pub stops_by : {settling : Bool} {r : Rules} {a : ActorId} {k : ℕ} {w v : World} → TurnOf settling r a k w v → Option ℕ
stops_by (Doing d plain) = stops_in d.event.happens
stops_by (Opening u n draws d by) = None
stops_by (GivingUp u d fault g up) = stops_in d.event.happens

-- the target that is given up in a turn, if one is
abbrev pub given_up_by : {settling : Bool} {r : Rules} {a : ActorId} {k : ℕ} {w v : World} → TurnOf settling r a k w v → Option ℕ
given_up_by (Doing d plain) = None
given_up_by (Opening u n draws d by) = None
given_up_by {a = a} (GivingUp u d fault g up) = Some a.number

-- it is the actor of the turn
abbrev pub IsOwn : ActorId → Option ℕ → Type 0
IsOwn a None = Unit {0}
IsOwn a (Some t) = a ≡ target t

abbrev pub one_or_none : Option ℕ → List ℕ
one_or_none None = []
one_or_none (Some t) = t ∷ []

-- What a turn tells of stops: of a target that stops in it there is one line more that it stopped, and of no other; there is a line more that a
-- target is given up where one is; and each is the actor of the turn.
pub record TellsStops (settling : Bool) (r : Rules) (a : ActorId) (k : ℕ) (w v : World) (turn : TurnOf settling r a k w v) : Type 0 where
  pub stops : (t : ℕ) → stops_told v t ≡ stops_told w t + stops_of (stops_by turn) t
  pub downs : down_targets v.lines ≡ down_targets w.lines ++ one_or_none (given_up_by turn)
  pub stops_own : IsOwn a (stops_by turn)
  pub downs_own : IsOwn a (given_up_by turn)

-- ---- the statement

abbrev pub TurnsTellStops : Type 0
TurnsTellStops = (settling : Bool) (r : Rules) (a : ActorId) (k : ℕ) (w v : World) (turn : TurnOf settling r a k w v) → TellsStops settling r a k w v turn

-- ---- lines of targets that are given up

downs-append : (xs ys : List Line) → down_targets (xs ++ ys) ≡ down_targets xs ++ down_targets ys
downs-append = gather-append given_up down_targets refl (λ l ls. refl)

downs-none : (ls : List Line) → ((l : Line) → Has l ls → given_up l ≡ []) → down_targets ls ≡ []
downs-none = gather-none given_up down_targets refl (λ l ls. refl)

-- a line's epoch tells of none
filled-one : (issued : List (AttemptId × Epoch)) (l : Line) → given_up (with_epoch issued l) ≡ given_up l
filled-one issued (line.Try a) = refl
filled-one issued (line.Stop n t) = refl
filled-one issued (line.Restart n t inc floor) = refl
filled-one issued (line.Freeze t c e) = refl
filled-one issued (line.Snapshot name c e) = refl
filled-one issued (line.Aggregate n t c e) = refl
filled-one issued (line.Down t) = refl

filled-downs : (issued : List (AttemptId × Epoch)) (ls : List Line) → down_targets (map (with_epoch issued) ls) ≡ down_targets ls
filled-downs issued [] = refl
filled-downs issued (l ∷ ls) = ap (λ ns. ns ++ down_targets (map (with_epoch issued) ls)) (filled-one issued l) ∙ ap (λ ns. given_up l ++ ns) (filled-downs issued ls)

tries-downs : (ls : List Line) → AreTries ls → down_targets ls ≡ []
tries-downs ls own = downs-none ls (λ l i. ap given_up (own l i).1)

turn-down : (t : ℕ) (l : Line) → IsTurnLine t l → given_up l ≡ []
turn-down t (line.Freeze u c e) own = refl
turn-down t (line.Aggregate n u c e) own = refl
turn-down t (line.Snapshot name c e) own = refl
turn-down t (line.Try a) own = absurd own
turn-down t (line.Stop n u) own = absurd own
turn-down t (line.Restart n u inc floor) own = absurd own
turn-down t (line.Down u) own = absurd own

turn-downs : (t : ℕ) (ls : List Line) → ((l : Line) → Has l ls → IsTurnLine t l) → down_targets ls ≡ []
turn-downs t ls own = downs-none ls (λ l i. turn-down t l (own l i))

-- ---- what happens

module _ (w v : World) where
  -- lines that tell of none given up were added
  added : (more : List Line) → v.lines ≡ w.lines ++ more → down_targets more ≡ [] → down_targets v.lines ≡ down_targets w.lines ++ []
  added more lines none = ap down_targets lines ∙ downs-append w.lines more ∙ ap (λ ns. down_targets w.lines ++ ns) none

  filled : (told : List Line) → v.lines ≡ w.lines ++ map (with_epoch w.issued) told → down_targets told ≡ [] → down_targets v.lines ≡ down_targets w.lines ++ []
  filled told lines none = added (map (with_epoch w.issued) told) lines (filled-downs w.issued told ∙ none)

  unchanged : v.lines ≡ w.lines → down_targets v.lines ≡ down_targets w.lines ++ []
  unchanged lines = ap down_targets lines ∙ sym (append-nil (down_targets w.lines))

event-downs : (r : Rules) (w v : World) → Event r w v → down_targets v.lines ≡ down_targets w.lines ++ []
event-downs r w v (ByClient g) = filled w v g.did.lines (ap (λ x. x.lines) g.after) (tries-downs g.did.lines (next-own (client_plan r g.n) g.c g.d g.did g.turn))
event-downs r w v (ToClient g) = filled w v g.did.lines (ap (λ x. x.lines) g.after) (tries-downs g.did.lines (hears-own (client_plan r g.n) g.c g.d g.l.message g.did g.turn))
event-downs r w v (ToTarget g) =
    filled w v g.did.lines (ap (λ x. x.lines) g.after) (ap down_targets (plain-lines (target_plan r g.t) g.s.opening g.s.memory g.reading g.l.from g.l.message (kept g.s) g.new (g.memory, g.did) g.turn))
event-downs r w v (ByTarget g) =
    filled w v g.did.lines (ap (λ x. x.lines) g.after) (ap down_targets (idle-lines g.settling (target_plan r g.t) g.s.memory g.turn.last g.new (g.memory, g.did) g.turn.ends))

further-downs : (r : Rules) (w v : World) → HearsMore r w v → down_targets v.lines ≡ down_targets w.lines ++ []
further-downs r w v g =
    let h = g.hears in
    filled w v h.did.lines (ap (λ x. x.lines) h.after) (turn-downs h.t h.did.lines (further-lines g.number (target_plan r h.t) h.s.opening h.s.memory h.reading h.l.from h.l.message (kept h.s) h.new (h.memory, h.did) h.turn).own)

-- a message of no matter
some_message : Message
some_message = Marked 0 []

cut-downs : (r : Rules) (w v : World) → TargetCut r w v → down_targets v.lines ≡ down_targets w.lines ++ []
cut-downs r w v g =
    added w v (g.cut.lines ++ line.Stop (stops_so_far w.lines) g.t ∷ []) (ap (λ x. x.lines) g.after ∙ append_assoc w.lines g.cut.lines (line.Stop (stops_so_far w.lines) g.t ∷ []))
    (downs-append g.cut.lines (line.Stop (stops_so_far w.lines) g.t ∷ []) ∙ append-nil (down_targets g.cut.lines) ∙ turn-downs g.t g.cut.lines (by g.work g.turn))
  where
    by : (work : AtWork) → CutOf (target_plan r g.t) g.s work g.cut → (l : Line) → Has l g.cut.lines → IsTurnLine g.t l
    by (Hearing l reading number) turn = (hearing-cut is_prepared number (target_plan r g.t) g.s.opening g.s.memory reading l.from l.message (kept g.s) g.cut turn).own
    by IdleWork turn = (idle-cut g.t 0 some_message g.s.memory (kept g.s) g.cut turn).own

-- what an actor does tells of none, nor does a number that is drawn
abbrev downs_in : {r : Rules} {w v : World} → Happening r w v → Option ℕ
downs_in (GivenUp g) = Some g.t
downs_in (Plainly e up) = None
downs_in (Further g) = None
downs_in (IsCut g) = None
downs_in (Opens g) = None
downs_in (Fails g) = None
downs_in (Draws g) = None

happening-downs : (r : Rules) (w v : World) (e : Happening r w v) → down_targets v.lines ≡ down_targets w.lines ++ one_or_none (downs_in e)
happening-downs r w v (Plainly e up) = event-downs r w v e
happening-downs r w v (Further g) = further-downs r w v g
happening-downs r w v (IsCut g) = cut-downs r w v g
happening-downs r w v (Opens g) = added w v (restart_line g.number g.t g.s.durable ∷ []) (ap (λ x. x.lines) g.after) refl
happening-downs r w v (Fails g) = unchanged w v (ap (λ x. x.lines) g.after)
happening-downs r w v (GivenUp g) = ap (λ x. down_targets x.lines) g.after ∙ downs-append w.lines (line.Down g.t ∷ [])
happening-downs r w v (Draws g) = unchanged w v (ap (λ x. x.lines) g.after)

world-downs : (r : Rules) (w v : World) (e : WorldEvent r w v) → down_targets v.lines ≡ down_targets w.lines ++ one_or_none (downs_in e.happens)
world-downs r w v e = ap (λ x. down_targets x.lines) e.after ∙ happening-downs r w e.u e.happens

-- a world's event stops as many as it tells
world-stops : (r : Rules) (w v : World) (e : WorldEvent r w v) (t : ℕ) → stops_told v t ≡ stops_told w t + stops_of (stops_in e.happens) t
world-stops r w v e t = let k = run-counts r w v (Goes w v Begins e) t in omega (arith, k)

-- ---- of whom it is told

done-own : (settling : Bool) (r : Rules) (a : ActorId) (k : ℕ) (w v : World) (e : Happening r w v) → IsDoneBy settling r a k e → IsOwn a (stops_in e) × (downs_in e ≡ None)
done-own settling r a k w v (Plainly e up) by = (tt, refl)
done-own settling r a k w v (Further g) by = (tt, refl)
done-own settling r a k w v (IsCut g) by = (by.0, refl)
done-own settling r a k w v (Opens g) by = (tt, refl)
done-own settling r a k w v (Fails g) by = (tt, refl)
done-own settling r a k w v (GivenUp g) by = absurd by
done-own settling r a k w v (Draws g) by = absurd by

draws-none : (r : Rules) (w v : World) (e : Happening r w v) → IsDraw r e → (stops_in e ≡ None) × (downs_in e ≡ None)
draws-none r w v (Draws g) is = (refl, refl)
draws-none r w v (Plainly e up) is = absurd is
draws-none r w v (Further g) is = absurd is
draws-none r w v (IsCut g) is = absurd is
draws-none r w v (Opens g) is = absurd is
draws-none r w v (Fails g) is = absurd is
draws-none r w v (GivenUp g) is = absurd is

opens-none : (r : Rules) (n : ℕ) (w v : World) (e : Happening r w v) → OpensBy r n e → (stops_in e ≡ None) × (downs_in e ≡ None)
opens-none r n w v (Opens g) is = (refl, refl)
opens-none r n w v (Plainly e up) is = absurd is
opens-none r n w v (Further g) is = absurd is
opens-none r n w v (IsCut g) is = absurd is
opens-none r n w v (Draws g) is = absurd is
opens-none r n w v (Fails g) is = absurd is
opens-none r n w v (GivenUp g) is = absurd is

gives-one : (r : Rules) (a : ActorId) (w v : World) (e : Happening r w v) → GivesUp r a e → (stops_in e ≡ None) × (downs_in e ≡ Some a.number) × (a ≡ target a.number)
gives-one r a w v (GivenUp g) is = (refl, ap (λ x. Some x.number) (sym is), is ∙ ap (λ x. target x.number) (sym is))
gives-one r a w v (Plainly e up) is = absurd is
gives-one r a w v (Further g) is = absurd is
gives-one r a w v (IsCut g) is = absurd is
gives-one r a w v (Draws g) is = absurd is
gives-one r a w v (Opens g) is = absurd is
gives-one r a w v (Fails g) is = absurd is

-- ---- the law

-- an event in which none stops, and one in which none is given up
quiet-stops : (r : Rules) (w v : World) (e : WorldEvent r w v) → stops_in e.happens ≡ None → (t : ℕ) → stops_told v t ≡ stops_told w t
quiet-stops r w v e none t = let more = world-stops r w v e t in let zero : stops_of (stops_in e.happens) t ≡ 0 = ap (λ o. stops_of o t) none in omega (arith, more, zero)

quiet-downs : (r : Rules) (w v : World) (e : WorldEvent r w v) → downs_in e.happens ≡ None → down_targets v.lines ≡ down_targets w.lines
quiet-downs r w v e none = world-downs r w v e ∙ ap (λ o. down_targets w.lines ++ one_or_none o) none ∙ append-nil (down_targets w.lines)

pub turns-tell_stops : TurnsTellStops
turns-tell_stops settling r a k w v (Doing d plain) =
    let own = done-own settling r a k w d.event.u d.event.happens d.by in record {
      stops = λ t. world-stops r w v d.event t;
      downs = quiet-downs r w v d.event own.1 ∙ sym (append-nil (down_targets w.lines));
      stops_own = own.0;
      downs_own = tt;
    }
turns-tell_stops settling r a k w v (Opening u n draws d by) =
    let first = draws-none r w n.u n.happens draws in
    let then = opens-none r w.numbers.restarts u d.event.u d.event.happens by in record {
      stops = λ t. let one = quiet-stops r w u n first.0 t in let two = quiet-stops r u v d.event then.0 t in omega (arith, one, two);
      downs = quiet-downs r u v d.event then.1 ∙ quiet-downs r w u n first.1 ∙ sym (append-nil (down_targets w.lines));
      stops_own = tt;
      downs_own = tt;
    }
turns-tell_stops settling r a k w v (GivingUp u d fault g up) =
    let own = done-own settling r a k w d.event.u d.event.happens d.by in
    let one = gives-one r a u g.u g.happens up in record {
      stops = λ t. quiet-stops r u v g one.0 t ∙ world-stops r w u d.event t;
      downs = world-downs r u v g ∙ ap (λ ns. ns ++ one_or_none (downs_in g.happens)) (quiet-downs r w u d.event own.1) ∙ ap (λ o. down_targets w.lines ++ one_or_none o) one.1;
      stops_own = own.0;
      downs_own = one.2;
    }
