-- What else holds of the world, of which the fact of conversations makes use. Other crates prove it.
use Rattle.std.specs.Prelude.{ℕ, ◌≡◌, Bool, true, false, slice_get, Some}
use Rattle.base_messages.specs.declared.actor.ActorId.{ActorId}
use Rattle.base_messages.specs.declared.message.Message.{Message}
use Rattle.base_messages.specs.declared.message.Message.TheVariants as message
use Rattle.daos_model.specs.Ordered.{is_rising}
use Rattle.world_base.specs.dtx_base.declared.leading.Undecided.{Undecided}
use Rattle.world_base.specs.dtx_base.Leading.{undecided_attempt}
use Rattle.world_base.specs.dtx_base.Rows.{row_key}
use Rattle.world_base.specs.model_laws.Members.{Has}
use Rattle.world_base.specs.declared.letter.Letter.{Letter}
use Rattle.world_base.specs.declared.target.Collection.{Collection}
use Rattle.world_base.specs.declared.target.Life.TheVariants.{Running}
use Rattle.world_base.specs.declared.target.TargetMemory.{TargetMemory}
use Rattle.world_base.specs.declared.target.TargetState.{TargetState}
use Rattle.world_base.specs.declared.world.World.{World}
use Rattle.world_base.specs.Events.{Rules, target_plan}
use Rattle.world_base.specs.Letters.{target}
use Rattle.world_base.specs.RightTurns.{TellsOfOthers}
use Rattle.world_letters.specs.waits.Requests.{is_lost_request, is_request}
use Rattle.world_letters.specs.waits.StopTurns.{OpenHasRow}

-- ---- requests

-- how an attempt ended, or what a read is answered
abbrev pub is_end : Message → Bool
is_end (message.Ended x own how) = true
is_end (message.Fetched x op group own b) = true
is_end m = false

-- a request comes from a client; the news that it got no answer, its answer, and how an attempt ended, go to one
pub record IsSentSo (l : Letter) : Type 0 where
  pub request : is_request l.message ≡ true → l.from.client ≡ true
  pub lost : is_lost_request l.message ≡ true → l.to.client ≡ true
  pub end : is_end l.message ≡ true → l.to.client ≡ true

-- who is to be told is a client
pub record WaitersAreClients (m : TargetMemory) : Type 0 where
  pub rows : (u : Undecided) (c : ActorId) → Has u m.leader.undecided → u.client ≡ Some c → c.client ≡ true
  pub collecting : (c : Collection) → Has c m.collecting → c.client.client ≡ true

-- so it is of all letters, and of what all targets hold
pub record RequestsAreOfClients (w : World) : Type 0 where
  pub letters : (l : Letter) → Has l w.messages → IsSentSo l
  pub asked : (l : Letter) → Has l w.asked → IsSentSo l
  pub waiters : (t : ℕ) (s : TargetState) → slice_get w.targets t ≡ Some s → WaitersAreClients s.memory

-- ---- leaders

-- Rows stand in the order of attempts, so none stands twice; while a target runs, each attempt that it leads, whose entry isn't committed
-- and that it doesn't know as decided, has one; and what goes to it tells what became of others' attempts alone.
pub record LeadersKnow (r : Rules) (w : World) : Type 0 where
  pub rows : (t : ℕ) (s : TargetState) → slice_get w.targets t ≡ Some s → is_rising (row_key undecided_attempt) s.memory.leader.undecided ≡ true
  pub opened : (t : ℕ) (s : TargetState) → slice_get w.targets t ≡ Some s → s.life ≡ Running → OpenHasRow (target_plan r t) s.memory s.durable
  pub others : (l : Letter) (t : ℕ) (s : TargetState) → Has l w.messages → l.to ≡ target t → slice_get w.targets t ≡ Some s → TellsOfOthers t s.memory.leader s.durable l.message
