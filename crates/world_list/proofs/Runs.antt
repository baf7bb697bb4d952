-- A list of events that is a run is one of events, one after another.
use Rattle.std.proofs.Common.{inl, inr, List, [], ◌∷◌, Option, Some, None}
use Rattle.base_messages.specs.declared.actor.ActorId.{ActorId}
use Rattle.world_base.specs.declared.letter.Letter.{Letter}
use Rattle.world_base.specs.declared.world.World.{World}
use Rattle.world_base.specs.Events.{Begins, ByClient, ByTarget, Event as OneEvent, Goes, Rules, Run, ToClient, ToTarget}
use Rattle.world_list.specs.RunLists.{IsRunFrom, LeadsTo, ListsAreRuns, last_world, rules_of}
use Rattle.world_list.specs.declared.events.Event.{Event}
use Rattle.world_list.specs.declared.events.EventKind.{EventKind}
use Rattle.world_list.specs.declared.events.EventKind.TheVariants.{Hear, GoOn, Idle, Cut, Open, Down}

is_event : (r : Rules) (w v : World) (kind : EventKind) (a : ActorId) (heard : Option Letter) → LeadsTo r w kind a heard v → OneEvent r w v
is_event r w v Hear a None h = absurd h
is_event r w v Hear a (Some l) (inl e) = ToClient e.event
is_event r w v Hear a (Some l) (inr e) = ToTarget e.event
is_event r w v GoOn a None e = ByClient e.event
is_event r w v GoOn a (Some l) h = absurd h
is_event r w v Idle a None e = ByTarget e.event
is_event r w v Idle a (Some l) h = absurd h
is_event r w v Cut a heard h = absurd h
is_event r w v Open a heard h = absurd h
is_event r w v Down a heard h = absurd h

-- a run that goes on by a list of events
goes_on : (r : Rules) (start w : World) (es : List Event) → Run r start w → IsRunFrom r w es → Run r start (last_world w es)
goes_on r start w [] so_far _ = so_far
goes_on r start w (e ∷ es) so_far h = goes_on r start e.after es (Goes w e.after so_far (is_event r w e.after e.kind e.actor e.heard h.0)) h.1

pub lists_are_runs : ListsAreRuns
lists_are_runs e h = goes_on (rules_of e) e.start e.start e.list Begins h.goes
