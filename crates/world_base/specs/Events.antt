-- The events of a run: what the world is after an actor's turn.
use Rattle.std.specs.Prelude.{ℕ, ◌≡◌, List, [], ◌∷◌, ◌++◌, map, find, slice_get, Option, Some, None, Bool}
use Rattle.std.proofs.Math.ListN.{set}
use Rattle.base_types.specs.declared.epoch.Epoch.{Epoch}
use Rattle.base_types.specs.declared.id.AttemptId.{AttemptId}
use Rattle.base_types.specs.declared.report.Line.{Line}
use Rattle.base_types.specs.declared.report.Line.TheVariants as line
use Rattle.base_types.specs.declared.script.Command.{Command}
use Rattle.base_types.specs.declared.script.Script.{Script}
use Rattle.base_messages.specs.declared.actor.ActorId.{ActorId}
use Rattle.daos_model.specs.Durables.{same_attempt}
use Rattle.world_base.specs.declared.client.ClientPlan.{ClientPlan}
use Rattle.world_base.specs.declared.client.ClientState.{ClientState}
use Rattle.world_base.specs.declared.did.Did.{Did}
use Rattle.world_base.specs.declared.letter.Letter.{Letter}
use Rattle.world_base.specs.declared.target.TargetMemory.{TargetMemory}
use Rattle.world_base.specs.declared.target.TargetPlan.{TargetPlan}
use Rattle.world_base.specs.declared.target.TargetState.{TargetState}
use Rattle.world_base.specs.declared.target.Life.TheVariants.{Running}
use Rattle.world_base.specs.declared.world.World.{World}
use Rattle.world_base.specs.ClientTurns.{HearTurn, NextTurn, plan_of}
use Rattle.world_base.specs.Letters.{Takes, asked_after, client, letters_of, target}
use Rattle.world_base.specs.Changes.{Kept}
use Rattle.world_base.specs.RightTurns.{HearsRightly, TellsOfOthers, hears-rightly}
use Rattle.world_base.specs.TargetTurns.{Hearing, Hears, IdlesWhole}

-- what a run is given: its script, how many attempts a command has, and what its clocks leave uncertain, in ticks
pub record Rules : Type 0 where
  pub script : Script
  pub attempts : ℕ
  pub epsilon : ℕ

abbrev pub commands_or_none : Option (List Command) → List Command
commands_or_none None = []
commands_or_none (Some list) = list

-- what the client of this number has to do
abbrev pub client_plan : Rules → ℕ → ClientPlan
client_plan r n = plan_of r.script n r.attempts (commands_or_none (slice_get r.script.clients n))

abbrev pub target_plan : Rules → ℕ → TargetPlan
target_plan r t = record { me = t; targets = r.script.targets; epsilon = r.epsilon }

-- ---- what follows from a turn

abbrev pub is_issue_of : AttemptId → AttemptId × Epoch → Bool
is_issue_of x i = same_attempt i.0 x

abbrev pub epoch_of_issue : Option (AttemptId × Epoch) → Option Epoch
epoch_of_issue None = None
epoch_of_issue (Some i) = Some i.1

-- the epoch that was issued to an attempt, if one was
abbrev pub epoch_issued : List (AttemptId × Epoch) → AttemptId → Option Epoch
epoch_issued issued x = epoch_of_issue (find (is_issue_of x) issued)

abbrev pub or_issued : List (AttemptId × Epoch) → AttemptId → Option Epoch → Option Epoch
or_issued issued x None = epoch_issued issued x
or_issued issued x (Some e) = Some e

-- a line as it is added: where a client knows no epoch of its attempt, the line has the one that was issued
abbrev pub with_epoch : List (AttemptId × Epoch) → Line → Line
with_epoch issued (line.Try a) = line.Try (record a { epoch = or_issued issued a.id a.epoch })
with_epoch issued (line.Stop n t) = line.Stop n t
with_epoch issued (line.Restart n t incarnation floor) = line.Restart n t incarnation floor
with_epoch issued (line.Freeze t cont e) = line.Freeze t cont e
with_epoch issued (line.Snapshot name cont e) = line.Snapshot name cont e
with_epoch issued (line.Aggregate n t cont upto) = line.Aggregate n t cont upto
with_epoch issued (line.Down t) = line.Down t

abbrev pub listed : Option (AttemptId × Epoch) → List (AttemptId × Epoch)
listed None = []
listed (Some i) = i ∷ []

-- the world once an actor did something, where these letters were left in flight
abbrev pub after_turn : World → ActorId → Did → List Letter → World
after_turn w actor did rest = record w {
  messages = rest ++ letters_of actor did.posts;
  asked = asked_after w.asked (letters_of actor did.posts);
  issued = w.issued ++ listed did.issued;
  lines = w.lines ++ map (with_epoch w.issued) did.lines;
}

abbrev pub with_client : ℕ → ClientState → World → World
with_client n c w = record w { clients = set w.clients n c }

abbrev pub with_target : ℕ → TargetState → World → World
with_target t s w = record w { targets = set w.targets t s }

-- ---- events

-- a client's turn without a message
pub record ClientGoes (r : Rules) (w v : World) : Type 0 where
  pub n : ℕ
  pub c : ClientState
  pub d : ClientState
  pub did : Did
  pub here : slice_get w.clients n ≡ Some c
  pub turn : NextTurn (client_plan r n) c did d
  pub after : v ≡ with_client n d (after_turn w (client n) did w.messages)

-- a client hears a message; one that skips turns hears none
pub record ClientHears (r : Rules) (w v : World) : Type 0 where
  pub n : ℕ
  pub c : ClientState
  pub d : ClientState
  pub did : Did
  pub l : Letter
  pub rest : List Letter
  pub here : slice_get w.clients n ≡ Some c
  pub awake : c.skip ≡ 0
  pub takes : Takes w.messages l rest
  pub to_it : l.to ≡ client n
  pub turn : HearTurn (client_plan r n) c l.message did d
  pub after : v ≡ with_client n d (after_turn w (client n) did rest)

abbrev pub kept : TargetState → Kept
kept s = record { durable = s.durable; free = s.free }

-- a target after a turn
abbrev pub target_after : TargetState → Kept → TargetMemory → TargetState
target_after s k m = record s { durable = k.durable; free = k.free; memory = m }

-- a running target hears a message, by such a turn, at a reading of its clock
pub record TargetHearsBy (Turn : Hearing) (r : Rules) (w v : World) : Type 0 where
  pub t : ℕ
  pub s : TargetState
  pub new : Kept
  pub memory : TargetMemory
  pub did : Did
  pub reading : ℕ
  pub l : Letter
  pub rest : List Letter
  pub here : slice_get w.targets t ≡ Some s
  pub runs : s.life ≡ Running
  pub takes : Takes w.messages l rest
  pub to_it : l.to ≡ target t
  pub turn : Turn (target_plan r t) s.opening s.memory reading l.from l.message (kept s) new (memory, did)
  pub after : v ≡ with_target t (target_after s new memory) (after_turn w (target t) did rest)

-- a running target does its idle work, in the settling phase or before it
pub record TargetIdles (r : Rules) (w v : World) : Type 0 where
  pub settling : Bool
  pub t : ℕ
  pub s : TargetState
  pub new : Kept
  pub memory : TargetMemory
  pub did : Did
  pub here : slice_get w.targets t ≡ Some s
  pub runs : s.life ≡ Running
  pub turn : IdlesWhole settling (target_plan r t) s.memory (kept s) new (memory, did)
  pub after : v ≡ with_target t (target_after s new memory) (after_turn w (target t) did w.messages)

-- one actor's turn, where targets hear messages by such turns
pub data EventBy (Turn : Hearing) (r : Rules) (w v : World) : Type 0 where
  ByClient : ClientGoes r w v → EventBy Turn r w v
  ToClient : ClientHears r w v → EventBy Turn r w v
  ToTarget : TargetHearsBy Turn r w v → EventBy Turn r w v
  ByTarget : TargetIdles r w v → EventBy Turn r w v

abbrev pub TargetHears : Rules → World → World → Type 0
TargetHears r w v = TargetHearsBy Hears r w v

abbrev pub Event : Rules → World → World → Type 0
Event r w v = EventBy Hears r w v

-- ---- right events

-- A right event: of what a Mark or a Verdict names, that is settled which is in doubt where it is heard, and what the hearer knows of the
-- attempts that it leads stays. An event in which no target is told what became of an attempt that it leads is a right one, and so, by
-- the laws of attempts, every event of a run. So the laws of what events keep speak of right events.
abbrev pub TargetHearsRightly : Rules → World → World → Type 0
TargetHearsRightly r w v = TargetHearsBy HearsRightly r w v

abbrev pub RightEvent : Rules → World → World → Type 0
RightEvent r w v = EventBy HearsRightly r w v

-- a turn in which what is heard tells of others' attempts alone, as a right one
abbrev pub rightly : (r : Rules) (w v : World) (g : TargetHears r w v) → TellsOfOthers g.t g.s.memory.leader g.s.durable g.l.message → TargetHearsRightly r w v
rightly r w v g told = record {
  t = g.t;
  s = g.s;
  new = g.new;
  memory = g.memory;
  did = g.did;
  reading = g.reading;
  l = g.l;
  rest = g.rest;
  here = g.here;
  runs = g.runs;
  takes = g.takes;
  to_it = g.to_it;
  turn = hears-rightly (target_plan r g.t) g.s.opening g.s.memory g.reading g.l.from g.l.message (kept g.s) g.new (g.memory, g.did) told g.turn;
  after = g.after;
}

-- an event in which what a target hears tells of others' attempts alone is a right one
pub right-event : (r : Rules) (w v : World) → ((g : TargetHears r w v) → TellsOfOthers g.t g.s.memory.leader g.s.durable g.l.message) → Event r w v → RightEvent r w v
right-event r w v told (ByClient g) = ByClient g
right-event r w v told (ToClient g) = ToClient g
right-event r w v told (ByTarget g) = ByTarget g
right-event r w v told (ToTarget g) = ToTarget (rightly r w v g (told g))

-- ---- runs

-- one event after another
pub data RunBy (Turn : Hearing) (r : Rules) (w : World) : World → Type 0 where
  Begins : RunBy Turn r w w
  Goes : (u v : World) → RunBy Turn r w u → EventBy Turn r u v → RunBy Turn r w v

abbrev pub Run : Rules → World → World → Type 0
Run r w v = RunBy Hears r w v
