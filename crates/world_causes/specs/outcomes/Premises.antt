-- What else holds of the world, of which the facts of outcomes make use. Other crates prove it.
use Rattle.std.specs.Prelude.{◌≡◌, ◌≢◌, Bool, true, false, List, [], slice_get, Contains, Option, Some}
use Rattle.base_types.specs.declared.id.AttemptId.{AttemptId}
use Rattle.base_types.specs.declared.epoch.Epoch.{Epoch}
use Rattle.base_types.specs.declared.outcome.Outcome.{Outcome}
use Rattle.base_types.specs.declared.outcome.Outcome.TheVariants.{Committed}
use Rattle.base_types.specs.declared.report.Attempt.{Attempt}
use Rattle.model_laws.specs.Members.{Has}
use Rattle.base_messages.specs.declared.message.Message.{Message, more_of-Message}
use Rattle.base_messages.specs.declared.message.Message.TheVariants as message
use Rattle.base_messages.specs.declared.message.Reply.{Reply}
use Rattle.base_messages.specs.declared.message.Reply.TheVariants as reply
use Rattle.daos_model.specs.Attempts.{tries}
use Rattle.daos_model.specs.Durables.{same_attempt}
use Rattle.world_contents.specs.world_commit.attempts.Attempts.{leader_of}
use Rattle.world_base.specs.declared.client.ClientPlan.{ClientPlan}
use Rattle.world_base.specs.declared.client.ClientState.{ClientState}
use Rattle.world_base.specs.declared.client.Present.{Present}
use Rattle.world_base.specs.declared.letter.Letter.{Letter}
use Rattle.world_base.specs.declared.world.World.{World}
use Rattle.world_base.specs.ClientTurns.{about, attempt_id, is_about}
use Rattle.world_base.specs.Events.{Rules, client_plan}
use Rattle.world_base.specs.Letters.{Takes, client, talk_of, target}
use Rattle.world_contents.specs.world_letters.clients.Answered.{ops_here}
use Rattle.world_contents.specs.world_letters.epochs.Epochs.{IsPast}
use Rattle.world_causes.specs.outcomes.Outcomes.{IsBehind, WaitsForEnd, commits, HasWrites}

-- ---- conversations

-- a client hands an attempt over, or asks its leader what became of it
abbrev pub hands : AttemptId → Message → Bool
hands x (message.Commit y ep first tracker ws) = same_attempt y x
hands x (message.Ask y) = same_attempt y x
hands x m = false

-- the client of an attempt waits for its end
pub record IsWaitedFor (r : Rules) (clients : List ClientState) (x : AttemptId) : Type 0 where
  pub c : ClientState
  pub here : slice_get clients x.client ≡ Some c
  pub waits : WaitsForEnd (client_plan r x.client) c x

-- A Commit or an Ask in flight comes of the attempt's client, which waits for its end; and nothing else is in flight to or from that. Who is
-- told an attempt's end is its client.
pub record HandsOver (r : Rules) (w : World) : Type 0 where
  pub waits : (l : Letter) (x : AttemptId) → Has l w.messages → hands x l.message ≡ true → IsWaitedFor r w.clients x
  pub sender : (l : Letter) (x : AttemptId) → Has l w.messages → hands x l.message ≡ true → l.from ≡ client x.client
  pub alone : (l : Letter) (rest : List Letter) (x : AttemptId) → Takes w.messages l rest → hands x l.message ≡ true → talk_of x.client rest ≡ []
  pub answered : (l : Letter) (x : AttemptId) (own : Option Epoch) (how : Outcome) → Has l w.messages → l.message ≡ message.Ended x own how → l.to ≡ client x.client

-- ---- lines

-- clients are past the attempts that lines tell of
abbrev pub LinesArePast : World → Type 0
LinesArePast w = (a : Attempt) (c : ClientState) → Contains (tries w.lines) a → slice_get w.clients a.id.client ≡ Some c → IsPast c a.id

-- ---- what a client hears

-- its attempt isn't handed over yet
abbrev pub IsBefore : ClientPlan → ClientState → Present → Type 0
IsBefore p c a = IsBehind (ops_here p c) a → ⊥

-- a read ends an attempt otherwise than as committed
abbrev pub IsReplyFit : Reply → Type 0
IsReplyFit (reply.Answer b) = Unit {0}
IsReplyFit (reply.Outcome how) = how ≢ Committed

-- a request that is lost at a target that stopped: of what was handed over, or of what comes before
abbrev pub IsLossFit : ClientPlan → ClientState → Present → Message → Type 0
IsLossFit p c a (message.Commit x ep first tracker ws) = IsBehind (ops_here p c) a
IsLossFit p c a (message.Ask x) = IsBehind (ops_here p c) a
IsLossFit p c a m = IsBefore p c a

abbrev pub IsResetFit : Bool → ClientPlan → ClientState → Present → Message → Type 0
IsResetFit true p c a m = Unit {0}
IsResetFit false p c a m = IsLossFit p c a m

-- reads are answered before the attempt is handed over, and what is lost is what was asked
abbrev pub IsFit : ClientPlan → ClientState → Present → Message → Type 0
IsFit p c a (message.Fetched x op group e b) = IsBefore p c a × IsReplyFit b
IsFit p c a (message.Reset' target down place (more_of-Message m rest)) = IsResetFit down p c a m
IsFit p c a m = Unit {0}

-- what a client that waits hears of its attempt goes with what it asked
abbrev pub HearsFitly : ClientPlan → ClientState → Message → Type 0
HearsFitly p c m = (a : Present) → c.present ≡ Some a → a.waits ≡ true → is_about (attempt_id p c a) (about m) ≡ true → IsFit p c a m

-- ---- letters

-- what hands an attempt over comes of a client
abbrev pub CommitsAreOfClients : World → Type 0
CommitsAreOfClients w = (l : Letter) (x : AttemptId) → Has l w.messages → commits x l.message ≡ true → l.from.client ≡ true

-- who asks after an attempt asks its leader
abbrev pub AsksGoRight : Rules → World → Type 0
AsksGoRight r w = (l : Letter) (x : AttemptId) → Has l w.messages → l.message ≡ message.Ask x → l.to ≡ target (leader_of r x)

-- a message is about an attempt that makes a snapshot or aggregates
abbrev pub makes : AttemptId → Message → Bool
makes x (message.Snap y cont name tracker) = same_attempt y x
makes x (message.Freeze y cont e) = same_attempt y x
makes x (message.Held y refusal) = same_attempt y x
makes x (message.Prune y cont tracker e) = same_attempt y x
makes x m = false

-- such an attempt has no writes
abbrev pub MakersWriteNothing : Rules → World → Type 0
MakersWriteNothing r w = (l : Letter) (x : AttemptId) → Has l w.messages → makes x l.message ≡ true → HasWrites r x → ⊥
