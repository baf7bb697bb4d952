-- Which lists of events are runs.
use Rattle.std.specs.Prelude.{◌≡◌, ◌<◌, ◌⊎◌, List, [], ◌∷◌, Option, Some, None}
use Rattle.base_messages.specs.declared.actor.ActorId.{ActorId}
use Rattle.world_base.specs.declared.letter.Letter.{Letter}
use Rattle.world_base.specs.declared.world.World.{World}
use Rattle.replay_base.specs.Heard.{CanHear}
use Rattle.world_base.specs.Events.{ClientGoes, ClientHears, Rules, Run, TargetHears, TargetIdles, target_plan}
use Rattle.world_base.specs.Letters.{client, target}
use Rattle.world_list.specs.Fitting.{StartsWell}
use Rattle.world_list.specs.declared.events.Event.{Event}
use Rattle.world_list.specs.declared.events.Events.{Events}
use Rattle.world_list.specs.declared.events.EventKind.{EventKind}
use Rattle.world_list.specs.declared.events.EventKind.TheVariants.{Hear, GoOn, Idle, Cut, Open, Down}

-- ---- an event of a kind, by an actor, in which a letter is heard, if one is

-- a client's turn without a message
pub record GoesAs (r : Rules) (w : World) (a : ActorId) (v : World) : Type 0 where
  pub event : ClientGoes r w v
  pub by : a ≡ client event.n

-- a client hears this letter
pub record ClientHearsAs (r : Rules) (w : World) (a : ActorId) (l : Letter) (v : World) : Type 0 where
  pub event : ClientHears r w v
  pub by : a ≡ client event.n
  pub letter : l ≡ event.l

-- One of the script's targets hears this letter, which is one that it can hear: in a run from its beginning every letter is that goes
-- to it.
pub record TargetHearsAs (r : Rules) (w : World) (a : ActorId) (l : Letter) (v : World) : Type 0 where
  pub event : TargetHears r w v
  pub by : a ≡ target event.t
  pub letter : l ≡ event.l
  pub placed : event.t < r.script.targets
  pub form : CanHear (target_plan r event.t) event.s.durable event.s.memory l.message

-- one of them does its idle work
pub record IdlesAs (r : Rules) (w : World) (a : ActorId) (v : World) : Type 0 where
  pub event : TargetIdles r w v
  pub by : a ≡ target event.t
  pub placed : event.t < r.script.targets

-- From a world to the one after an event. A letter is heard exactly in a turn that hears. Turns that are cut, openings and
-- targets given up come with stops, and what makes snapshots and aggregations goes between targets: lists don't have such
-- events yet. Numbers of restarts and aggregations are drawn for these alone, so they stay.
abbrev pub LeadsTo : Rules → World → EventKind → ActorId → Option Letter → World → Type 0
LeadsTo r w Hear a None v = ⊥
LeadsTo r w Hear a (Some l) v = ClientHearsAs r w a l v ⊎ TargetHearsAs r w a l v
LeadsTo r w GoOn a None v = GoesAs r w a v
LeadsTo r w GoOn a (Some l) v = ⊥
LeadsTo r w Idle a None v = IdlesAs r w a v
LeadsTo r w Idle a (Some l) v = ⊥
LeadsTo r w Cut a heard v = ⊥
LeadsTo r w Open a heard v = ⊥
LeadsTo r w Down a heard v = ⊥

-- ---- lists of events

-- each event leads from the world before it to the one after it
abbrev pub IsRunFrom : Rules → World → List Event → Type 0
IsRunFrom r w [] = Unit {0}
IsRunFrom r w (e ∷ es) = LeadsTo r w e.kind e.actor e.heard e.after × IsRunFrom r e.after es

abbrev pub rules_of : Events → Rules
rules_of e = record { script = e.script; attempts = e.attempts; epsilon = e.epsilon }

-- a list of events is a run
pub record IsRunList (e : Events) : Type 0 where
  pub starts : StartsWell (rules_of e) e.start
  pub goes : IsRunFrom (rules_of e) e.start e.list

-- the world after a list of events
abbrev pub last_world : World → List Event → World
last_world w [] = w
last_world w (e ∷ es) = last_world e.after es

-- such a list is a run from its start to its last world
abbrev pub ListsAreRuns : Type 0
ListsAreRuns = (e : Events) → IsRunList e → Run (rules_of e) e.start (last_world e.start e.list)
