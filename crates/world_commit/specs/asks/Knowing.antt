-- What the laws of questions need to know of attempts: they are stated over this, so that they hold with and without stops.
use Rattle.std.specs.Prelude.{ℕ, ◌≡◌, Bool, true, false, List, slice_get, Option, Some, None}
use Rattle.std.proofs.Common.{inl, inr}
use Rattle.base_types.specs.declared.entry.Verdict.{Verdict}
use Rattle.base_types.specs.declared.epoch.Epoch.{Epoch}
use Rattle.base_types.specs.declared.id.AttemptId.{AttemptId}
use Rattle.base_types.specs.declared.operation.MinorWrite.{MinorWrite}
use Rattle.base_types.specs.declared.outcome.Outcome.{Outcome}
use Rattle.model_laws.specs.Members.{Has}
use Rattle.base_messages.specs.declared.message.Message.{Message}
use Rattle.base_messages.specs.declared.message.Message.TheVariants as message
use Rattle.dtx_base.specs.declared.leading.Undecided.{Undecided}
use Rattle.world_commit.specs.attempts.Asked.{IsCommitNew}
use Rattle.world_commit.specs.attempts.Attempts.{Entries, IsBorn, IsFromLeader, IsOrdered, IsToLeader, entry_at, is_prepare_to, leader_of, row_at}
use Rattle.world_commit.specs.attempts.History.{Aborted, History}
use Rattle.world_base.specs.declared.letter.Letter.{Letter}
use Rattle.world_base.specs.declared.target.TargetState.{TargetState}
use Rattle.world_base.specs.declared.world.World.{World}
use Rattle.world_base.specs.Events.{Rules}

-- a message by which a leader tells a member of an attempt
abbrev pub TellsOf : AttemptId → Message → Type 0
TellsOf x (message.Prepare e first ws inc) = e.attempt ≡ x
TellsOf x (message.Mark inc marks) = (committed : Bool) × Has (x, committed) marks
TellsOf x (message.Verdict y ask inc v) = y ≡ x
TellsOf x m = ⊥

-- a Mark says that an attempt is aborted
abbrev pub SaysAborted : AttemptId → Message → Type 0
SaysAborted x (message.Mark inc marks) = Has (x, false) marks
SaysAborted x m = ⊥

-- of entries and rows, and of letters between targets
pub record KnowsAttempts (r : Rules) (h : History) (w : World) : Type 0 where
  pub entries : (x : AttemptId) → Entries r h w x
  pub ordered : (t : ℕ) (s : TargetState) → slice_get w.targets t ≡ Some s → IsOrdered s
  pub rows : (x : AttemptId) (t : ℕ) (u : Undecided) → row_at w t x ≡ Some u → IsBorn r h w x
  pub before : (x : AttemptId) (m : ℕ) (l : Letter) → Has l w.messages → is_prepare_to x m l ≡ true → entry_at w m x ≡ None
  pub told : (l : Letter) (x : AttemptId) → Has l w.messages → TellsOf x l.message → IsFromLeader r x l.from l.to
  pub aborted : (l : Letter) (x : AttemptId) → Has l w.messages → SaysAborted x l.message → Aborted h x
  pub acks : (l : Letter) (x : AttemptId) (inc : ℕ) (refusal : Option Outcome) → Has l w.messages → l.message ≡ message.Ack x inc refusal → IsToLeader r x l.from l.to
  pub asked : (l : Letter) (x : AttemptId) (ask : Option AttemptId) → Has l w.messages → l.message ≡ message.Query x ask → IsToLeader r x l.from l.to × IsBorn r h w x
  pub answered : (l : Letter) (x : AttemptId) (ask : Option AttemptId) (inc : ℕ) (v : Verdict) → Has l w.messages → l.message ≡ message.Verdict x ask inc v → IsBorn r h w x

-- each Commit in flight brings an attempt of which nothing became yet
abbrev pub CommitsAreNew : Rules → History → World → Type 0
CommitsAreNew r h w = (l : Letter) (x : AttemptId) (ep first : Option Epoch) (tracker : Epoch) (ws : List MinorWrite) → Has l w.messages → l.message ≡ message.Commit x ep first tracker ws → IsCommitNew r h w l.to x ep ws

-- nothing became of such an attempt
pub unborn-still : (r : Rules) (h : History) (w : World) (x : AttemptId) → entry_at w (leader_of r x) x ≡ None → (Aborted h x → ⊥) → IsBorn r h w x → ⊥
unborn-still r h w x unstored unended (inl held) = let found = held.found in (let no : ⊥ = cc (found, unstored) in no)
unborn-still r h w x unstored unended (inr a) = unended a
