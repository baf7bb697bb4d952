-- What may be said of how attempts end, where their clients have asked to commit these.
use Rattle.std.specs.Prelude.{◌≡◌, ◌⊎◌, Bool, true, IfSome, List, Option, Some}
use Rattle.std.proofs.Common.{subst}
use Rattle.base_types.specs.declared.id.AttemptId.{AttemptId}
use Rattle.base_types.specs.declared.outcome.Outcome.{Outcome}
use Rattle.base_types.specs.declared.outcome.Outcome.TheVariants as outcome
use Rattle.base_messages.specs.declared.actor.ActorId.{ActorId}
use Rattle.base_messages.specs.declared.message.Message.{Message, more_of-Message}
use Rattle.base_messages.specs.declared.message.Message.TheVariants as message
use Rattle.base_messages.specs.declared.message.Post.{Post}
use Rattle.base_messages.specs.declared.message.Reply.{Reply}
use Rattle.base_messages.specs.declared.message.Reply.TheVariants as reply
use Rattle.world_letters.specs.dtx_base.declared.leading.LeaderMemory.{LeaderMemory}
use Rattle.world_letters.specs.dtx_base.declared.leading.Undecided.{Undecided}
use Rattle.world_letters.specs.model_laws.Members.{Has}
use Rattle.world_letters.specs.world_base.declared.target.Collection.{Collection}
use Rattle.world_letters.specs.world_base.declared.target.TargetMemory.{TargetMemory}
use Rattle.world_letters.specs.clients.Answered.{is_refusal}

-- the attempts of which their client has asked that they end as committed
abbrev pub Asked : Type 0
Asked = AttemptId → Bool

-- an attempt ends in a refusal, or as committed where that was asked
abbrev pub IsEnd : Bool → Outcome → Type 0
IsEnd asked how = (is_refusal how ≡ true) ⊎ ((how ≡ outcome.Committed) × (asked ≡ true))

-- a read is answered, or its attempt ends in a refusal
abbrev pub IsReply : Reply → Type 0
IsReply (reply.Answer b) = Unit {0}
IsReply (reply.Outcome how) = is_refusal how ≡ true

abbrev pub AreRefusals : Option Outcome → Type 0
AreRefusals refusal = IfSome refusal (λ how. is_refusal how ≡ true)

-- what asks that an attempt ends as committed, or what became of it
abbrev pub AsksSo : Asked → Message → Type 0
AsksSo asked (message.Commit x e first tracker ws) = asked x ≡ true
AsksSo asked (message.Ask x) = asked x ≡ true
AsksSo asked (message.Snap x cont name tracker) = asked x ≡ true
AsksSo asked (message.Prune x cont tracker e) = asked x ≡ true
AsksSo asked m = Unit {0}

-- A message goes with what was asked: that an attempt is committed is asked and told, and told to be lost, of those alone of which it was
-- asked; any other end is a refusal, and so is what a leader is told of a Prepare that failed,
-- and target 0 of a Freeze.
abbrev pub GoesWith : Asked → Message → Type 0
GoesWith asked (message.Fetched x op group e b) = IsReply b
GoesWith asked (message.Ended x e how) = IsEnd (asked x) how
GoesWith asked (message.Ack x inc refusal) = AreRefusals refusal
GoesWith asked (message.Held x refusal) = AreRefusals refusal
GoesWith asked (message.Reset' by down place (more_of-Message m rest)) = AsksSo asked m
GoesWith asked m = AsksSo asked m

abbrev pub PostsGoWith : Asked → List Post → Type 0
PostsGoWith asked posts = (q : Post) → Has q posts → GoesWith asked q.message

-- a leader keeps clients waiting for the end of those attempts alone of which it was asked
abbrev pub WaitWith : Asked → LeaderMemory → Type 0
WaitWith asked m = (u : Undecided) (c : ActorId) → Has u m.undecided → u.client ≡ Some c → asked u.attempt ≡ true

-- what a leader remembers and what is posted go with what was asked
pub record LeavesWith (asked : Asked) (m : LeaderMemory) (posts : List Post) : Type 0 where
  pub said : PostsGoWith asked posts
  pub waiting : WaitWith asked m

-- A target ends as committed only what it was asked: where its clients waited for attempts of which that was asked, they do so still, and what it
-- posts goes with what was asked.
abbrev pub EndsAsked : Asked → LeaderMemory → LeaderMemory → List Post → Type 0
EndsAsked asked old new posts = WaitWith asked old → LeavesWith asked new posts

-- ---- what is being made besides

-- target 0 makes snapshots and aggregations for those attempts alone of which it was asked
abbrev pub MakesWith : Asked → List Collection → Type 0
MakesWith asked cs = (n : Collection) → Has n cs → asked n.attempt ≡ true

-- all that a target remembers goes with what was asked
pub record RemembersWith (asked : Asked) (m : TargetMemory) : Type 0 where
  pub waiting : WaitWith asked m.leader
  pub making : MakesWith asked m.collecting

-- and so does what is posted
pub record TurnLeavesWith (asked : Asked) (m : TargetMemory) (posts : List Post) : Type 0 where
  pub said : PostsGoWith asked posts
  pub remembers : RemembersWith asked m

-- A target ends as committed only what it was asked, in any turn.
abbrev pub TurnsEndAsked : Asked → TargetMemory → TargetMemory → List Post → Type 0
TurnsEndAsked asked old new posts = RemembersWith asked old → TurnLeavesWith asked new posts

-- so does a turn of a leader, in which nothing is made
pub leaders-end : (asked : Asked) (old new : TargetMemory) (posts : List Post) → new.collecting ≡ old.collecting → EndsAsked asked old.leader new.leader posts → TurnsEndAsked asked old new posts
leaders-end asked old new posts same k before =
    let l = k before.waiting in
    record { said = l.said; remembers = record { waiting = l.waiting; making = λ n i. before.making n (subst (Has n) same i) } }
