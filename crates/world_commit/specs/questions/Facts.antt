-- What is told and asked between targets that may stop: the question is in flight, or its answer, or the news that there is none.
use Rattle.std.specs.Prelude.{ℕ, ◌≡◌, Bool, true, List, Option, None}
use Rattle.base_types.specs.declared.id.AttemptId.{AttemptId}
use Rattle.base_types.specs.declared.report.Line.TheVariants as line
use Rattle.model_laws.specs.Members.{Has}
use Rattle.base_messages.specs.declared.actor.ActorId.{ActorId}
use Rattle.base_messages.specs.declared.message.Message.{Message, more_of-Message}
use Rattle.base_messages.specs.declared.message.Message.TheVariants as message
use Rattle.dtx_base.specs.declared.leading.Naming.{Naming}
use Rattle.dtx_base.specs.Leading.{attempts_of}
use Rattle.world_commit.specs.asks.Asks.{Flies, IsNamingOf, IsQueryOf, IsToBeTold, RowsLack}
use Rattle.world_commit.specs.asks.InquiryKept.{InquiriesSo}
use Rattle.world_commit.specs.asks.NamedLaws.{NamedSo}
use Rattle.world_commit.specs.asks.ParkedLaws.{ParkedSo}
use Rattle.world_commit.specs.attempts.Attempts.{leader_of}
use Rattle.world_commit.specs.attempts.History.{Aborted, History}
use Rattle.world_commit.specs.fates.Facts.{knows_down}
use Rattle.world_base.specs.declared.letter.Letter.{Letter}
use Rattle.world_base.specs.declared.world.World.{World}
use Rattle.world_base.specs.Events.{Rules}
use Rattle.world_base.specs.Letters.{target}

-- a message tells that another one, such a one, got no answer by a target
abbrev pub IsResetBy : ℕ → (Message → Type 0) → Message → Type 0
IsResetBy t Asked (message.Reset' by down place (more_of-Message q rest)) = (by ≡ t) × Asked q
IsResetBy t Asked m = ⊥

-- ---- what Marks name

-- a Mark by which an attempt is named so
pub record IsMarkFor (n : Naming) (q : Message) : Type 0 where
  pub marks : List (AttemptId × Bool)
  pub mark : q ≡ message.Mark n.inc marks
  pub names : Has n.attempt (attempts_of marks)

-- a leader is told that it gets no answer to the Mark by which it named an attempt to a member
pub record IsNamingReset (t : ℕ) (n : Naming) (l : Letter) : Type 0 where
  pub from : l.from ≡ target n.member
  pub to : l.to ≡ target t
  pub tells : IsResetBy n.member (IsMarkFor n) l.message

-- of an attempt that a leader named to a member the Mark is in flight, or its answer, or its Reset
pub data IsOnNaming (w : World) (t : ℕ) (n : Naming) : Type 0 where
  IsNamed : Flies w (IsNamingOf t n) → IsOnNaming w t n
  IsReset : Flies w (IsNamingReset t n) → IsOnNaming w t n

-- so it is with all that leaders named and have no answer on, whether the member is known to be down or not
abbrev pub NamingsFly : World → Type 0
NamingsFly w = NamedSo IsOnNaming w

-- ---- which Fetches wait

-- a member is told that it gets no answer to the question what became of an attempt
pub record IsQueryReset (m : ℕ) (x : AttemptId) (ask : Option AttemptId) (l : Letter) : Type 0 where
  pub leader : ℕ
  pub from : l.from ≡ target leader
  pub to : l.to ≡ target m
  pub tells : IsResetBy leader (λ q. q ≡ message.Query x ask) l.message

-- of such a question the Query is in flight, or the Verdict that answers it, or its Reset
pub data IsOnQuery (w : World) (m : ℕ) (x : AttemptId) (ask : Option AttemptId) : Type 0 where
  IsAsked : Flies w (IsQueryOf m x ask) → IsOnQuery w m x ask
  IsReset : Flies w (IsQueryReset m x ask) → IsOnQuery w m x ask

-- so it is with the question for each Fetch that waits
abbrev pub WaitingAreAsked : World → Type 0
WaitingAreAsked w = ParkedSo IsOnQuery w

-- ---- what idle work inquires

-- a target has stopped in this run
abbrev pub HasStopped : World → ℕ → Type 0
HasStopped w t = (n : ℕ) × Has (line.Stop n t) w.lines

-- A member doesn't need to ask again what became of an attempt: it is to be told, or nothing of the attempt is prepared there. Or the attempt
-- is aborted and its leader stopped, which may have told nobody.
pub data IsToldOrStopped (r : Rules) (h : History) (w : World) (m : ℕ) (x : AttemptId) : Type 0 where
  IsTold : IsToBeTold r w m x → IsToldOrStopped r h w m x
  LeaderStopped : Aborted h x → HasStopped w (leader_of r x) → IsToldOrStopped r h w m x

-- of what idle work asks the question is on its way, or its answer, or its Reset
abbrev pub IsOnInquiry : World → ℕ → AttemptId → Type 0
IsOnInquiry w m x = IsOnQuery w m x None

-- a member knows an attempt's leader to be down
abbrev pub IsKnownDown : Rules → World → ℕ → AttemptId → Type 0
IsKnownDown r w m x = knows_down w m (leader_of r x) ≡ true

-- so it is with each inquiry that is without an answer; one that is down is of an attempt whose leader is known to be down; and one that was
-- answered undecided is to be told, unless the leader stopped
abbrev pub InquiriesHold : Rules → History → World → Type 0
InquiriesHold r h w = InquiriesSo IsOnInquiry (IsKnownDown r) (IsToldOrStopped r) r h w

-- a Reset of a Query tells of the target that it comes from
abbrev pub NamesFor : ActorId → ℕ → Message → Type 0
NamesFor from t (message.Query x ask) = from ≡ target t
NamesFor from t m = Unit {0}

abbrev pub NamesSender : ActorId → Message → Type 0
NamesSender from (message.Reset' t down place (more_of-Message q rest)) = NamesFor from t q
NamesSender from m = Unit {0}

abbrev pub ResetsNameSenders : World → Type 0
ResetsNameSenders w = (l : Letter) → Has l w.messages → NamesSender l.from l.message

-- ---- all together

-- what is told and asked between targets
pub record Questions (r : Rules) (h : History) (w : World) : Type 0 where
  pub named : NamingsFly w
  pub waiting : WaitingAreAsked w
  pub rows : RowsLack r w
  pub inquiries : InquiriesHold r h w
  pub senders : ResetsNameSenders w
