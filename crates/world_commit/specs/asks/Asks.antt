-- What is told and asked between targets has a letter in flight until it is answered: what Marks name, which Fetches wait, and what
-- idle work inquires.
use Rattle.std.specs.Prelude.{ℕ, ◌≡◌, Bool, true, false, List, Option, Some, None}
use Rattle.std.specs.List.{list_all}
use Rattle.base_types.specs.declared.entry.Entry.{Entry}
use Rattle.base_types.specs.declared.entry.Verdict.{Verdict}
use Rattle.base_types.specs.declared.entry.Verdict.TheVariants as verdict
use Rattle.base_types.specs.declared.id.AttemptId.{AttemptId}
use Rattle.model_laws.specs.Members.{Has}
use Rattle.base_messages.specs.declared.message.Message.TheVariants.{Mark, Marked, Query, Verdict as Verdict_message}
use Rattle.dtx_base.specs.declared.leading.Naming.{Naming}
use Rattle.dtx_base.specs.declared.leading.Undecided.{Undecided}
use Rattle.dtx_base.specs.Leading.{attempts_of}
use Rattle.dtx_base.specs.Members.{has_target}
use Rattle.world_commit.specs.attempts.Attempts.{entry_at, is_prepare_to, leader_of, others_of, row_at}
use Rattle.world_base.specs.declared.letter.Letter.{Letter}
use Rattle.world_base.specs.declared.world.World.{World}
use Rattle.world_base.specs.Events.{Rules}
use Rattle.world_base.specs.Letters.{target}

-- a letter of this kind is in flight
abbrev pub Flies : World → (Letter → Type 0) → Type 0
Flies w P = (l : Letter) × Has l w.messages × P l

-- ---- what Marks name

-- a letter is the Mark by which a leader names an attempt to a member, or the member's answer to it
pub data IsNamingOf (t : ℕ) (n : Naming) (l : Letter) : Type 0 where
  IsMark : (marks : List (AttemptId × Bool)) → l.message ≡ Mark n.inc marks → l.from ≡ target t → l.to ≡ target n.member → Has n.attempt (attempts_of marks) → IsNamingOf t n l
  IsMarked : (ids : List AttemptId) → l.message ≡ Marked n.inc ids → l.from ≡ target n.member → l.to ≡ target t → Has n.attempt ids → IsNamingOf t n l

-- ---- which Fetches wait

-- a letter is the Query by which a member asks what became of an attempt, for a Fetch or of itself, or the answer to it
pub data IsQueryOf (m : ℕ) (x : AttemptId) (ask : Option AttemptId) (l : Letter) : Type 0 where
  IsQuery : (leader : ℕ) → l.message ≡ Query x ask → l.from ≡ target m → l.to ≡ target leader → IsQueryOf m x ask l
  IsVerdict : (inc : ℕ) (v : Verdict) → l.message ≡ Verdict_message x ask inc v → l.to ≡ target m → IsQueryOf m x ask l

-- ---- what idle work inquires

-- no entry of an attempt is prepared at a target
abbrev pub NonePrepared : World → ℕ → AttemptId → Type 0
NonePrepared w m x = (e : Entry) → entry_at w m x ≡ Some e → e.committed ≡ true

-- a letter is a Mark that names an attempt to a member
pub record IsMarkOf (m : ℕ) (x : AttemptId) (l : Letter) : Type 0 where
  pub inc : ℕ
  pub marks : List (AttemptId × Bool)
  pub mark : l.message ≡ Mark inc marks
  pub to : l.to ≡ target m
  pub names : Has x (attempts_of marks)

-- the attempt's leader keeps an entry of it that this member hasn't confirmed
pub record IsUnconfirmed (r : Rules) (w : World) (m : ℕ) (x : AttemptId) : Type 0 where
  pub entry : Entry
  pub found : entry_at w (leader_of r x) x ≡ Some entry
  pub unconfirmed : has_target entry.confirmed m ≡ false

-- A member doesn't need to ask again what became of an attempt: its leader has still to tell it, or has told it by a Mark in flight; or
-- nothing of it is prepared at the member.
pub data IsToBeTold (r : Rules) (w : World) (m : ℕ) (x : AttemptId) : Type 0 where
  ByLeader : IsUnconfirmed r w m x → IsToBeTold r w m x
  ByMark : Flies w (IsMarkOf m x) → IsToBeTold r w m x
  NoneHere : NonePrepared w m x → IsToBeTold r w m x

-- no Prepare of an attempt is in flight to a member
abbrev pub NonePrepares : World → ℕ → AttemptId → Type 0
NonePrepares w m x = (l : Letter) → Has l w.messages → is_prepare_to x m l ≡ true → ⊥

-- a letter that says that an attempt isn't decided, as idle work asked
pub record IsUndecidedTold (m : ℕ) (x : AttemptId) (l : Letter) : Type 0 where
  pub inc : ℕ
  pub says : l.message ≡ Verdict_message x None inc verdict.Undecided
  pub to : l.to ≡ target m

-- ---- what isn't decided

-- an undecided attempt waits for a member
abbrev pub RowsLack : Rules → World → Type 0
RowsLack r w = (t : ℕ) (x : AttemptId) (u : Undecided) → row_at w t x ≡ Some u → list_all (has_target u.counted) (others_of r x) ≡ false
