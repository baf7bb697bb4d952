-- Which lists of events are runs where targets may stop, and snapshots and aggregates be made.
use Rattle.std.specs.Prelude.{◌≡◌, List, [], ◌∷◌, Option, Some, None}
use Rattle.std.proofs.Common.{subst, sym}
use Rattle.base_messages.specs.declared.actor.ActorId.{ActorId}
use Rattle.world_base.specs.declared.letter.Letter.{Letter}
use Rattle.world_base.specs.declared.world.World.{World}
use Rattle.world_base.specs.Events.{ByClient, ByTarget, Rules, ToClient, ToTarget}
use Rattle.world_base.specs.Stops.{AtWork, Begins, Draws, Fails, Further, GivenUp, Goes, Happening, Hearing, IdleWork, IsCut, Opens, Plainly, WorldEvent, WorldRun, acts}
use Rattle.world_list.specs.Fitting.{StartsWell}
use Rattle.world_list.specs.RunLists.{last_world, rules_of}
use Rattle.world_list.specs.declared.events.Event.{Event}
use Rattle.world_list.specs.declared.events.Events.{Events}
use Rattle.world_list.specs.declared.events.EventKind.{EventKind}
use Rattle.world_list.specs.declared.events.EventKind.TheVariants.{Cut, Down, GoOn, Hear, Idle, Open}

-- ---- an event, as a list tells it

-- its kind; that numbers are drawn isn't told
abbrev pub kind_of : (r : Rules) → {w u : World} → Happening r w u → Option EventKind
kind_of r (Plainly (ByClient g) up) = Some GoOn
kind_of r (Plainly (ToClient g) up) = Some Hear
kind_of r (Plainly (ToTarget g) up) = Some Hear
kind_of r (Plainly (ByTarget g) up) = Some Idle
kind_of r (Further g) = Some Hear
kind_of r (IsCut g) = Some Cut
kind_of r (Opens g) = Some Open
kind_of r (Fails g) = Some Open
kind_of r (GivenUp g) = Some Down
kind_of r (Draws g) = None

abbrev pub letter_at : AtWork → Option Letter
letter_at (Hearing l reading number) = Some l
letter_at IdleWork = None

-- the letter that is heard, also in a turn that is cut, if one is
abbrev pub heard_in : (r : Rules) → {w u : World} → Happening r w u → Option Letter
heard_in r (Plainly (ToClient g) up) = Some g.l
heard_in r (Plainly (ToTarget g) up) = Some g.l
heard_in r (Further g) = Some g.hears.l
heard_in r (IsCut g) = letter_at g.work
heard_in r e = None

-- numbers are drawn, or given back
abbrev pub IsDraw : (r : Rules) → {w u : World} → Happening r w u → Type 0
IsDraw r (Draws g) = Unit {0}
IsDraw r e = ⊥

-- before an event numbers may be drawn, or given back
pub data MayDraw (r : Rules) (w : World) (v : World) : Type 0 where
  DrawsNone : v ≡ w → MayDraw r w v
  DrawsSome : (e : WorldEvent r w v) → IsDraw r e.happens → MayDraw r w v

-- From a world to the one after an event of this kind, by this actor, in which this letter is heard, if one is. A target that opens again may fail
-- to.
pub record LeadsOn (r : Rules) (w : World) (kind : EventKind) (a : ActorId) (heard : Option Letter) (v : World) : Type 0 where
  pub u : World
  pub drawn : MayDraw r w u
  pub event : WorldEvent r u v
  pub of_kind : kind_of r event.happens ≡ Some kind
  pub by : acts r event.happens ≡ Some a
  pub hears : heard_in r event.happens ≡ heard

-- ---- lists of events

-- each event leads on from the world before it to the one after it
abbrev pub GoesOnFrom : Rules → World → List Event → Type 0
GoesOnFrom r w [] = Unit {0}
GoesOnFrom r w (e ∷ es) = LeadsOn r w e.kind e.actor e.heard e.after × GoesOnFrom r e.after es

-- a list of events is a run, whatever its events are
pub record IsWorldList (e : Events) : Type 0 where
  pub starts : StartsWell (rules_of e) e.start
  pub goes : GoesOnFrom (rules_of e) e.start e.list

-- such a list is a run from its start to its last world
abbrev pub WorldListsAreRuns : Type 0
WorldListsAreRuns = (e : Events) → IsWorldList e → WorldRun (rules_of e) e.start (last_world e.start e.list)

-- ---- the law

drawn-goes : (r : Rules) (start w u : World) → WorldRun r start w → MayDraw r w u → WorldRun r start u
drawn-goes r start w u run (DrawsNone same) = subst (WorldRun r start) (sym same) run
drawn-goes r start w u run (DrawsSome e draws) = Goes w u run e

world-goes : (r : Rules) (start w : World) (es : List Event) → WorldRun r start w → GoesOnFrom r w es → WorldRun r start (last_world w es)
world-goes r start w [] run h = run
world-goes r start w (e ∷ es) run h = world-goes r start e.after es (Goes h.0.u e.after (drawn-goes r start w h.0.u run h.0.drawn) h.0.event) h.1

pub world-lists-are_runs : WorldListsAreRuns
world-lists-are_runs e h = world-goes (rules_of e) e.start e.start e.list Begins h.goes
