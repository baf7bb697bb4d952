-- The laws of what follows from conversations, as statements.
use Rattle.std.specs.Prelude.{ℕ, ◌≡◌, ◌<◌, List, slice_get, Some}
use Rattle.base_types.specs.Scripts.{IsInForm}
use Rattle.base_types.specs.declared.id.AttemptId.{AttemptId}
use Rattle.model_laws.specs.Members.{Has}
use Rattle.daos_model.specs.declared.durable.Version.{Version}
use Rattle.daos_model.specs.Opening.{Opening}
use Rattle.world_causes.specs.causes.HearingLaws.{LossesStand}
use Rattle.world_contents.specs.reads.Versions.{Versions}
use Rattle.world_contents.specs.world_commit.attempts.History.{History}
use Rattle.world_base.specs.declared.client.ClientState.{ClientState}
use Rattle.world_base.specs.declared.letter.Letter.{Letter}
use Rattle.world_base.specs.declared.world.World.{World}
use Rattle.world_base.specs.Events.{Rules, client_plan}
use Rattle.world_causes.specs.causes.Causes.{EndsOf}
use Rattle.world_base.specs.Letters.{Takes, client}
use Rattle.world_base.specs.Stops.{WorldEvent}
use Rattle.world_contents.specs.world_letters.epochs.Epochs.{ClientsStand, Epochs}
use Rattle.world_contents.specs.world_commit.fates.Asked.{AskedRight}
use Rattle.world_causes.specs.handing.Dates.{SnapshotsAreRead}
use Rattle.world_causes.specs.handing.Losing.{GivenUpAreTold}
use Rattle.world_causes.specs.handing.Groups.{ClientsAskWithin}
use Rattle.world_causes.specs.handing.Handing.{EpochsOfCommits}
use Rattle.world_contents.specs.world_commit.fates.Facts.{Attempts}
use Rattle.world_causes.specs.handing.Targets.{PlacesAreRight}
use Rattle.world_contents.specs.world_letters.lines.Lines.{Endings}
use Rattle.world_causes.specs.losses.ClientHears.{LossesAreAsked}
use Rattle.world_causes.specs.losses.Clients.{AreBegun}
use Rattle.world_causes.specs.losses.Losses.{AsksItsTargets, LeadersAreTargets, Losses}
use Rattle.world_causes.specs.losses.Readers.{OpenAreHeld, ReadersAreNew}
use Rattle.world_causes.specs.outcomes.Outcomes.{Outcomes}
use Rattle.world_causes.specs.outcomes.Premises.{AsksGoRight, CommitsAreOfClients, HandsOver, HearsFitly}
use Rattle.world_contents.specs.world_letters.waits.Premises.{RequestsAreOfClients}
use Rattle.world_contents.specs.world_letters.waits.Waits.{Conversation}

-- where conversations are in order and requests come from clients, clients hand attempts over one at a time
abbrev pub ConversationsHandOver : Type 0
ConversationsHandOver = (r : Rules) (w : World) → Conversation r w → RequestsAreOfClients w → HandsOver r w

-- what hands an attempt over comes of a client
abbrev pub ClientsCommit : Type 0
ClientsCommit = (w : World) → RequestsAreOfClients w → CommitsAreOfClients w

-- where clients stand where their scripts say, who asks after an attempt asks its leader
abbrev pub LeadersAreAsked : Type 0
LeadersAreAsked = (r : Rules) (w : World) → Conversation r w → RequestsAreOfClients w → ClientsStand r w → AsksGoRight r w

-- and Commits are right and new, where nothing became of what is handed over, and epochs go with their attempts
abbrev pub CommitsAreRight : Type 0
CommitsAreRight = (r : Rules) (h : History) (w : World) → Conversation r w → RequestsAreOfClients w → ClientsStand r w → Outcomes r h w → EpochsOfCommits w → AskedRight r h w

-- as they do where what reads at a snapshot writes nothing
abbrev pub EpochsGoWithCommits : Type 0
EpochsGoWithCommits = (r : Rules) (top : ℕ) (w : World) → Conversation r w → RequestsAreOfClients w → ClientsStand r w → SnapshotsAreRead r → Epochs r top w → EpochsOfCommits w

-- a client hears what goes with what it asked
abbrev pub ConversationsFit : Type 0
ConversationsFit =
    (r : Rules) (w : World) (n : ℕ) (c : ClientState) (l : Letter) (rest : List Letter) → Conversation r w → Endings w → slice_get w.clients n ≡ Some c → Takes w.messages l rest → l.to ≡ client n → HearsFitly (client_plan r n) c l.message

-- a client that has something to ask is at one of the groups of its path, whatever happens
abbrev pub EventsKeepGroups : Type 0
EventsKeepGroups = (r : Rules) (w v : World) → WorldEvent r w v → ClientsAskWithin r w → ClientsAskWithin r v

-- so, where the facts of attempts hold besides, and places are right, what is asked about an attempt is asked of one of its targets
abbrev pub TargetsAreAsked : Type 0
TargetsAreAsked = (r : Rules) (h : History) (w : World) → Conversation r w → RequestsAreOfClients w → ClientsStand r w → ClientsAskWithin r w → Attempts r h w → PlacesAreRight r → AsksItsTargets r w

-- ---- what losses ask

-- what is lost of a client is a question about its attempt
abbrev pub ClientsLoseQuestions : Type 0
ClientsLoseQuestions = (r : Rules) (w : World) → Conversation r w → LossesAreAsked w

-- where the facts of outcomes hold besides, the attempts that read are new
abbrev pub ReadersAreNotBorn : Type 0
ReadersAreNotBorn = (r : Rules) (h : History) (w : World) → Outcomes r h w → Conversation r w → RequestsAreOfClients w → ReadersAreNew r h w

-- and the leader of a present attempt that it holds is one of its targets, where places are right
abbrev pub LeadersAreAmongTargets : Type 0
LeadersAreAmongTargets = (r : Rules) (h : History) (w : World) → Outcomes r h w → ClientsStand r w → PlacesAreRight r → LeadersAreTargets r w

-- Whatever tells of a stop of an attempt, its client has begun it.
abbrev pub TellersAreBegun : Type 0
TellersAreBegun = (r : Rules) (h : History) (w : World) → Attempts r h w → Outcomes r h w → Conversation r w → RequestsAreOfClients w → AreBegun r w

-- what came of an attempt, or of a read of it, is told to its client
abbrev pub ClientsAreTold : Type 0
ClientsAreTold = (r : Rules) (w : World) → Conversation r w → RequestsAreOfClients w → (l : Letter) (x : AttemptId) → Has l w.messages → EndsOf l.message x → l.to ≡ client x.client

-- what isn't settled is of an attempt of which its target keeps an entry, where versions stand
abbrev pub OpenVersionsAreHeld : Type 0
OpenVersionsAreHeld = (r : Rules) (o : Opening) (held : ℕ → List Version) (h : History) (w : World) → Versions r o held h w → OpenAreHeld w

-- ---- what follows from losses

-- A client that waits hears of a loss only behind a stop of its attempt's targets, or where one is given up, if that is told.
abbrev pub LossesShowStops : Type 0
LossesShowStops =
    (r : Rules) (w : World) (n : ℕ) (c : ClientState) (l : Letter) (rest : List Letter) → Losses r w → LossesAreAsked w → GivenUpAreTold r w → slice_get w.clients n ≡ Some c → Takes w.messages l rest → l.to ≡ client n → LossesStand r w.lines n c l.message

-- ---- scripts

-- places are right in a script in form, for some targets
abbrev pub PlacesAreInForm : Type 0
PlacesAreInForm = (r : Rules) (targets : ℕ) → 0 < targets → IsInForm targets r.script → PlacesAreRight r

-- and what reads at a snapshot there writes nothing
abbrev pub SnapshotsAreInForm : Type 0
SnapshotsAreInForm = (r : Rules) (targets : ℕ) → IsInForm targets r.script → SnapshotsAreRead r
