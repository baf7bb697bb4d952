-- A client that waits has exactly one carrier of what it waits for: what it asked or the answer to that in flight, its Fetch at a
-- target where it waits, or its attempt at a target where it is undecided.
use Rattle.std.specs.Prelude.{◌≡◌, Bool, true, false, Option, Some, None, ℕ, ◌==◌, List, [], slice_get, ◌≤◌}
use Rattle.base_types.specs.declared.epoch.Epoch.{Epoch}
use Rattle.base_types.specs.declared.outcome.Outcome.{Outcome}
use Rattle.base_messages.specs.declared.message.Message.{Message}
use Rattle.base_messages.specs.declared.message.Message.TheVariants as message
use Rattle.base_messages.specs.declared.message.Post.{Post}
use Rattle.base_messages.specs.declared.message.Reply.{Reply}
use Rattle.world_base.specs.declared.client.ClientPlan.{ClientPlan}
use Rattle.world_base.specs.declared.client.ClientState.{ClientState}
use Rattle.world_base.specs.declared.client.Present.{Present}
use Rattle.world_base.specs.ClientTurns.{moved, waits}
use Rattle.base_messages.specs.declared.actor.ActorId.{ActorId}
use Rattle.base_types.specs.declared.id.AttemptId.{AttemptId}
use Rattle.world_base.specs.declared.letter.Letter.{Letter}
use Rattle.world_base.specs.dtx_base.declared.leading.Undecided.{Undecided}
use Rattle.world_letters.specs.talks.Asked.{Asked}
use Rattle.world_base.specs.Events.{Rules, client_plan}
use Rattle.world_base.specs.declared.world.World.{World}
use Rattle.world_base.specs.Letters.{client, letter_of, talk_of}

-- a letter in flight; a Fetch that waits at a target; or an attempt that is undecided at a target, with the client that is told
-- its end, if one is
pub data Carrier : Type 0 where
  InFlight : (l : Letter) → Carrier
  ParkedAt : (t : ℕ) (ask : Message) → Carrier
  OpenAt : (t : ℕ) (x : AttemptId) (waiting : Option ActorId) → Carrier

-- a Fetch of an attempt of a client
abbrev pub is_fetch_of : ℕ → Message → Bool
is_fetch_of n (message.Fetch x op group e first tracker r snapshot) = x.client == n
is_fetch_of n m = false

abbrev pub open_at : ℕ → Undecided → Carrier
open_at t u = OpenAt t u.attempt u.client

abbrev pub before_waiting : Option Present → Option Present
before_waiting None = None
before_waiting (Some a) = Some (record a { waits = false })

-- what a client that waits asked, when its tracker was this one: what it sent when it began to wait
abbrev pub request_sent : ClientPlan → Epoch → ClientState → Option Post
request_sent p k c = (moved p (record c { tracker = k; present = before_waiting c.present })).post

-- a message answers a request
abbrev pub Answers : Message → Message → Type 0
Answers (message.Fetch x op group e first tracker r snapshot) m = (own : Option Epoch) × (b : Reply) × (m ≡ message.Fetched x op group own b)
Answers (message.Commit x e first tracker ws) m = (own : Option Epoch) × (how : Outcome) × (m ≡ message.Ended x own how)
Answers (message.Ask x) m = (own : Option Epoch) × (how : Outcome) × (m ≡ message.Ended x own how)
Answers (message.Snap x cont name tracker) m = (own : Option Epoch) × (how : Outcome) × (m ≡ message.Ended x own how)
Answers (message.Prune x cont tracker e) m = (own : Option Epoch) × (how : Outcome) × (m ≡ message.Ended x own how)
Answers q m = ⊥

-- a request that a client sends a target: a Fetch or a Commit
abbrev pub is_request : Message → Bool
is_request (message.Fetch x op group e first tracker r snapshot) = true
is_request (message.Commit x e first tracker ws) = true
is_request m = false

-- a letter is what a client that waits has asked, when its tracker was at most the present one; none else is in flight
pub record HearsRequest (r : Rules) (w : World) (l : Letter) (rest : List Letter) : Type 0 where
  pub n : ℕ
  pub c : ClientState
  pub a : Present
  pub here : slice_get w.clients n ≡ Some c
  pub present : c.present ≡ Some a
  pub waiting : a.waits ≡ true
  pub k : Epoch
  pub q : Post
  pub low : k.0 ≤ c.tracker.0
  pub sent : request_sent (client_plan r n) k c ≡ Some q
  pub asked : Asked (client_plan r n) k c a q
  pub it : l ≡ letter_of (client n) q
  pub none_else : talk_of n rest ≡ []
