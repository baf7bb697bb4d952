-- The laws of what clients ask, as statements.
use Rattle.std.specs.Prelude.{ℕ, ◌≡◌, [], slice_get, Some}
use Rattle.world_commit.specs.attempts.History.{History}
use Rattle.world_base.specs.declared.target.TargetState.{TargetState}
use Rattle.world_base.specs.declared.world.World.{World}
use Rattle.world_base.specs.Events.{Rules}
use Rattle.world_base.specs.Stops.{Happening, WorldEvent}
use Rattle.world_commit.specs.fates.Asked.{AskedRight}
use Rattle.world_commit.specs.fates.Facts.{Attempts}
use Rattle.world_commit.specs.requests.Rows.{CommitsFindNoRow, RowsStandOnce}
use Rattle.world_letters.specs.waits.Premises.{LeadersKnow, RequestsAreOfClients, WaitersAreClients}
use Rattle.world_letters.specs.waits.Waits.{Conversation}

-- ---- requests

-- where nothing is in flight and without an answer, requests come from clients
abbrev pub RequestsBegin : Type 0
RequestsBegin = (w : World) → w.messages ≡ [] → w.asked ≡ [] → ((t : ℕ) (s : TargetState) → slice_get w.targets t ≡ Some s → WaitersAreClients s.memory) → RequestsAreOfClients w

-- everything that happens keeps it so
abbrev pub HappeningsKeepRequests : Type 0
HappeningsKeepRequests = (r : Rules) (w v : World) → RequestsAreOfClients w → Happening r w v → RequestsAreOfClients v

-- and what is lost after it
abbrev pub EventsKeepRequests : Type 0
EventsKeepRequests = (r : Rules) (w v : World) → WorldEvent r w v → RequestsAreOfClients w → RequestsAreOfClients v

-- ---- rows

-- everything that happens keeps the order of rows, where Commits find none
abbrev pub EventsKeepRows : Type 0
EventsKeepRows = (r : Rules) (h : History) (w v : World) → Attempts r h w → CommitsFindNoRow w → WorldEvent r w v → RowsStandOnce w → RowsStandOnce v

-- Commits that are new do
abbrev pub NewCommitsFindNoRow : Type 0
NewCommitsFindNoRow = (r : Rules) (h : History) (w : World) → Attempts r h w → AskedRight r h w → CommitsFindNoRow w

-- ---- conversations

-- where the facts of attempts hold, leaders know what they lead
abbrev pub LeadersKnowAttempts : Type 0
LeadersKnowAttempts = (r : Rules) (h : History) (w : World) → Attempts r h w → RowsStandOnce w → LeadersKnow r w

-- so each event of a run keeps conversations
abbrev pub ConversationsStay : Type 0
ConversationsStay = (r : Rules) (h : History) (w v : World) → Attempts r h w → RowsStandOnce w → RequestsAreOfClients w → WorldEvent r w v → Conversation r w → Conversation r v
