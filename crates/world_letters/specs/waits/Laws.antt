-- The laws of what carries what clients wait for, as statements.
use Rattle.std.specs.Prelude.{ℕ, ◌≡◌, ◌⊎◌, true, false, [], slice_get, Some}
use Rattle.world_base.specs.declared.client.ClientState.{ClientState}
use Rattle.world_base.specs.declared.target.TargetState.{TargetState}
use Rattle.world_base.specs.declared.world.World.{World}
use Rattle.world_base.specs.ClientTurns.{waits}
use Rattle.world_base.specs.Events.{ClientGoes, ClientHears, Rules, TargetHearsRightly, TargetIdles}
use Rattle.world_base.specs.Stops.{Happening, NumbersDrawn, OpeningFails, TargetCut, TargetGivenUp, TargetOpens, WorldEvent, swept}
use Rattle.world_letters.specs.waits.Premises.{LeadersKnow, RequestsAreOfClients}
use Rattle.world_letters.specs.waits.TargetLaws.{is_between}
use Rattle.world_letters.specs.waits.Waits.{Conversation, HoldsNothing}

-- where nothing is in flight and without an answer, no target holds anything, and no client waits
abbrev pub ConversationsBegin : Type 0
ConversationsBegin =
    (r : Rules) (w : World) → w.messages ≡ [] → w.asked ≡ [] → ((t : ℕ) (s : TargetState) → slice_get w.targets t ≡ Some s → HoldsNothing s.memory) → ((n : ℕ) (c : ClientState) → slice_get w.clients n ≡ Some c → waits c ≡ false) → Conversation r w

-- A client goes on without a message, or hears one: an answer, or the news that there is none, upon which its attempt ends, or it asks what
-- became of it.
abbrev pub ClientsKeepConversations : Type 0
ClientsKeepConversations = (r : Rules) (w v : World) → ClientGoes r w v ⊎ ClientHears r w v → Conversation r w → Conversation r v

-- a target does its idle work
abbrev pub IdleWorkKeepsConversations : Type 0
IdleWorkKeepsConversations = (r : Rules) (w v : World) → TargetIdles r w v → Conversation r w → Conversation r v

-- a target hears from another one what has to do with no client
abbrev pub OthersKeepConversations : Type 0
OthersKeepConversations = (r : Rules) (w v : World) → (g : TargetHearsRightly r w v) → is_between g.l.message ≡ true → Conversation r w → Conversation r v

-- a turn of any kind is cut, and its target stops
abbrev pub CutsKeepConversations : Type 0
CutsKeepConversations = (r : Rules) (w v : World) → TargetCut r w v → Conversation r w → Conversation r v

-- a target opens again
abbrev pub OpeningsKeepConversations : Type 0
OpeningsKeepConversations = (r : Rules) (w v : World) → TargetOpens r w v → Conversation r w → Conversation r v

-- its opening fails
abbrev pub FailuresKeepConversations : Type 0
FailuresKeepConversations = (r : Rules) (w v : World) → OpeningFails r w v → Conversation r w → Conversation r v

-- it is given up
abbrev pub GivingUpKeepsConversations : Type 0
GivingUpKeepsConversations = (r : Rules) (w v : World) → TargetGivenUp r w v → Conversation r w → Conversation r v

-- what goes to targets that are given up is lost
abbrev pub SweepsKeepConversations : Type 0
SweepsKeepConversations = (r : Rules) (w : World) → Conversation r w → Conversation r (swept w)

-- numbers are drawn
abbrev pub NumbersKeepConversations : Type 0
NumbersKeepConversations = (r : Rules) (w v : World) → NumbersDrawn w v → Conversation r w → Conversation r v

-- Everything that happens, where requests come from clients, and where leaders know what they lead: so also what a target hears of a client's
-- request, and by what it answers it.
abbrev pub HappeningsKeepConversations : Type 0
HappeningsKeepConversations = (r : Rules) (w v : World) → RequestsAreOfClients w → LeadersKnow r w → Happening r w v → Conversation r w → Conversation r v

-- and what is lost after it
abbrev pub EventsKeepConversations : Type 0
EventsKeepConversations = (r : Rules) (w v : World) → RequestsAreOfClients w → LeadersKnow r w → WorldEvent r w v → Conversation r w → Conversation r v
