-- What carries what a client waits for, where targets may stop and open again, and where snapshots and aggregates are made.
use Rattle.std.specs.Prelude.{ℕ, ◌≡◌, ◌≤◌, ◌+◌, ◌++◌, Bool, true, false, List, [], ◌∷◌, filter, map, slice_get, Option, Some, None}
use Rattle.base_types.specs.declared.epoch.Epoch.{Epoch}
use Rattle.base_types.specs.declared.id.AttemptId.{AttemptId}
use Rattle.base_messages.specs.declared.actor.ActorId.{ActorId}
use Rattle.base_messages.specs.declared.message.Message.{Message}
use Rattle.base_messages.specs.declared.message.Message.TheVariants as message
use Rattle.base_messages.specs.declared.message.Post.{Post}
use Rattle.world_base.specs.dtx_base.declared.leading.Undecided.{Undecided}
use Rattle.world_base.specs.dtx_base.declared.member.Parked.{Parked}
use Rattle.world_base.specs.declared.client.ClientPlan.{ClientPlan}
use Rattle.world_base.specs.declared.client.ClientState.{ClientState}
use Rattle.world_base.specs.declared.letter.Letter.{Letter}
use Rattle.world_base.specs.declared.request.CommitRequest.{CommitRequest}
use Rattle.world_base.specs.declared.request.FetchRequest.{FetchRequest}
use Rattle.world_base.specs.declared.target.Collection.{Collection}
use Rattle.world_base.specs.declared.target.Life.TheVariants.{Running}
use Rattle.world_base.specs.declared.target.TargetMemory.{TargetMemory}
use Rattle.world_base.specs.declared.target.TargetState.{TargetState}
use Rattle.world_base.specs.declared.world.World.{World}
use Rattle.world_base.specs.ClientTurns.{waits}
use Rattle.world_base.specs.Events.{Rules, client_plan}
use Rattle.world_base.specs.Letters.{client, is_client, letter_of, reset_message, talk_of, target}
use Rattle.world_base.specs.Reads.{fetch_at}
use Rattle.world_base.specs.Requests.{fetch_message}
use Rattle.world_letters.specs.talks.Asked.{commit_of}
use Rattle.world_letters.specs.talks.Conversation.{Answers, request_sent, is_fetch_of}

-- ---- what targets hold for clients

-- a Fetch that waits; an attempt of whose end a client is to be told; or a snapshot or an aggregation that is collected for one
pub data Held : Type 0 where
  ParkedAt : (t : ℕ) (ask : Message) → Held
  OpenAt : (t : ℕ) (x : AttemptId) → Held
  CollectedAt : (t : ℕ) (c : Collection) → Held

abbrev pub holder : Held → ℕ
holder (ParkedAt t ask) = t
holder (OpenAt t x) = t
holder (CollectedAt t c) = t

abbrev pub is_waited_by : ℕ → Option ActorId → Bool
is_waited_by n None = false
is_waited_by n (Some a) = is_client n a

abbrev pub is_parked_of : ℕ → Parked → Bool
is_parked_of n p = is_fetch_of n p.ask

abbrev pub is_open_of : ℕ → Undecided → Bool
is_open_of n u = is_waited_by n u.client

abbrev pub is_collected_of : ℕ → Collection → Bool
is_collected_of n c = is_client n c.client

abbrev pub parked_at : ℕ → Parked → Held
parked_at t p = ParkedAt t p.ask

abbrev pub open_at : ℕ → Undecided → Held
open_at t u = OpenAt t u.attempt

abbrev pub collected_at : ℕ → Collection → Held
collected_at t c = CollectedAt t c

-- what a target holds for a client
abbrev pub held_by : ℕ → ℕ → TargetMemory → List Held
held_by n t m = map (parked_at t) (filter (is_parked_of n) m.member.parked) ++ (map (open_at t) (filter (is_open_of n) m.leader.undecided) ++ map (collected_at t) (filter (is_collected_of n) m.collecting))

-- what these targets hold for it, one after another, which are numbered from this number on
abbrev pub held_from : ℕ → ℕ → List TargetState → List Held
held_from n t [] = []
held_from n t (s ∷ ss) = held_by n t s.memory ++ held_from n (t + 1) ss

abbrev pub held_of : ℕ → World → List Held
held_of n w = held_from n 0 w.targets

-- ---- what a client asked

abbrev pub is_asked_by : ℕ → Letter → Bool
is_asked_by n l = is_client n l.from

-- what it asked that has no answer
abbrev pub asked_of : ℕ → World → List Letter
asked_of n w = filter (is_asked_by n) w.asked

-- what a client that waits asked last: its request; or, where its attempt's writes were lost on their way, what became of the attempt
pub data IsQuestion (p : ClientPlan) (c : ClientState) (q : Post) : Type 0 where
  ItsRequest : (k : Epoch) → k.0 ≤ c.tracker.0 → request_sent p k c ≡ Some q → IsQuestion p c q
  ItsAsk : (k : Epoch) (s : Post) (f : CommitRequest) → k.0 ≤ c.tracker.0 → request_sent p k c ≡ Some s → s.message ≡ commit_of f → q ≡ record { to = s.to; message = message.Ask f.attempt } → IsQuestion p c q

-- the answer to it, or the news that there is none
pub data IsReplyTo (q : Post) (m : Message) : Type 0 where
  IsAnswer : Answers q.message m → IsReplyTo q m
  IsLost : (down : Bool) → m ≡ reset_message q.to.number down q.message → IsReplyTo q m

pub record IsReply (n : ℕ) (q : Post) (l : Letter) : Type 0 where
  pub from : l.from ≡ q.to
  pub to : l.to ≡ client n
  pub says : IsReplyTo q l.message

-- What the target that was asked holds of it: a read that waits, at an epoch, which is the request's own where it has one; the attempt whose
-- writes were handed over, or that was asked after; or the snapshot or the aggregation that is to be made.
pub data HoldsIt (q : Post) : Held → Type 0 where
  ARead : (t : ℕ) (ask : Message) (f : FetchRequest) (e : Epoch) → q.to ≡ target t → q.message ≡ fetch_message f → ((o : Epoch) → f.ep ≡ Some o → o ≡ e) → ask ≡ fetch_at f e → HoldsIt q (ParkedAt t ask)
  ItsWrites : (t : ℕ) (f : CommitRequest) → q.to ≡ target t → q.message ≡ commit_of f → HoldsIt q (OpenAt t f.attempt)
  AnAsk : (t : ℕ) (x : AttemptId) → q.to ≡ target t → q.message ≡ message.Ask x → HoldsIt q (OpenAt t x)
  ASnapshot : (t : ℕ) (c : Collection) (name : List ℕ) (k : Epoch) → q.to ≡ target t → q.message ≡ message.Snap c.attempt c.cont name k → c.name ≡ Some name → HoldsIt q (CollectedAt t c)
  AnAggregation : (t : ℕ) (c : Collection) (k : Epoch) → q.to ≡ target t → q.message ≡ message.Prune c.attempt c.cont (Some k) None → c.name ≡ None → HoldsIt q (CollectedAt t c)

-- ---- one carrier

-- A client that waits: what it asked is in flight; a target holds it; or the answer, or the news that there is none, is in flight. While it
-- is in flight or held, and only then, it is without an answer.
pub data Waits (p : ClientPlan) (n : ℕ) (c : ClientState) (letters : List Letter) (held : List Held) (asked : List Letter) : Type 0 where
  IsAsked : (q : Post) → IsQuestion p c q → letters ≡ letter_of (client n) q ∷ [] → held ≡ [] → asked ≡ letter_of (client n) q ∷ [] → Waits p n c letters held asked
  IsHeld : (q : Post) (x : Held) → IsQuestion p c q → HoldsIt q x → letters ≡ [] → held ≡ x ∷ [] → asked ≡ letter_of (client n) q ∷ [] → Waits p n c letters held asked
  IsReplied : (q : Post) (l : Letter) → IsQuestion p c q → IsReply n q l → letters ≡ l ∷ [] → held ≡ [] → asked ≡ [] → Waits p n c letters held asked

-- nothing goes about
pub record IsQuiet (letters : List Letter) (held : List Held) (asked : List Letter) : Type 0 where
  pub no_letters : letters ≡ []
  pub none_held : held ≡ []
  pub none_asked : asked ≡ []

abbrev pub TalksSo : ClientPlan → ℕ → ClientState → List Letter → List Held → List Letter → Bool → Type 0
TalksSo p n c letters held asked true = Waits p n c letters held asked
TalksSo p n c letters held asked false = IsQuiet letters held asked

-- a target holds nothing for clients
pub record HoldsNothing (m : TargetMemory) : Type 0 where
  pub parked : m.member.parked ≡ []
  pub undecided : m.leader.undecided ≡ []
  pub collecting : m.collecting ≡ []

-- Every client's conversation is in order; nothing goes about for a client that isn't there; and a target that doesn't run holds nothing.
pub record Conversation (r : Rules) (w : World) : Type 0 where
  pub talks : (n : ℕ) (c : ClientState) → slice_get w.clients n ≡ Some c → TalksSo (client_plan r n) n c (talk_of n w.messages) (held_of n w) (asked_of n w) (waits c)
  pub nobody : (n : ℕ) → slice_get w.clients n ≡ None → IsQuiet (talk_of n w.messages) (held_of n w) (asked_of n w)
  pub quiet : (t : ℕ) (s : TargetState) → slice_get w.targets t ≡ Some s → (s.life ≡ Running → ⊥) → HoldsNothing s.memory
