-- What a client has asked to commit.
use Rattle.std.specs.Prelude.{ℕ, ◌≡◌, true, false, slice_get, All, List, Option, Some, None}
use Rattle.base_types.specs.declared.id.AttemptId.{AttemptId}
use Rattle.base_types.specs.declared.report.Attempt.{Attempt}
use Rattle.base_types.specs.declared.report.Line.{Line}
use Rattle.base_types.specs.declared.script.Script.{Script}
use Rattle.base_messages.specs.declared.message.Post.{Post}
use Rattle.daos_model.specs.Attempts.{tries}
use Rattle.daos_model.specs.Transactions.{attempt_ops}
use Rattle.world_letters.specs.world_base.declared.client.ClientPlan.{ClientPlan}
use Rattle.world_letters.specs.world_base.declared.client.ClientState.{ClientState}
use Rattle.world_letters.specs.world_base.declared.client.Present.{Present}
use Rattle.world_letters.specs.clients.AnswerLaws.{Tells}
use Rattle.world_letters.specs.clients.Answered.{EndsWell}
use Rattle.world_letters.specs.clients.Standing.{number_of}
use Rattle.world_ended.specs.Asking.{Asked, PostsGoWith}
use Rattle.world_letters.specs.kinds.Fitting.{IsToCome, id_of, ops_at}

-- ---- what is told

-- an attempt ended well, by the command that its id names in the script
abbrev pub HasEndedWell : Script → Attempt → Type 0
HasEndedWell s a = EndsWell (attempt_ops s a.id) a a.outcome

-- so did all attempts that lines tell of: one that is committed has all its answers in order, and its conditions hold; one that failed shows
-- the condition that is false behind those that hold; of any other all conditions told hold
abbrev pub AllEndWell : Script → List Line → Type 0
AllEndWell s lines = All (HasEndedWell s) (tries lines)

-- ---- what was asked

-- the present attempt is asked to be committed behind its last operation alone
abbrev pub IsAskingHere : ClientPlan → ℕ → ℕ → Asked → Option Present → Type 0
IsAskingHere p place command asked None = Unit {0}
IsAskingHere p place command asked (Some a) = asked (id_of p command a) ≡ true → slice_get (ops_at p place) a.op ≡ None

-- of attempts that a client isn't at yet none is
abbrev pub NoneAsked : Asked → ℕ → ℕ → Option ℕ → Type 0
NoneAsked asked client command present = (y : AttemptId) → y.client ≡ client → IsToCome command present y → asked y ≡ false

pub record IsAskingAt (p : ClientPlan) (place command : ℕ) (present : Option Present) (asked : Asked) : Type 0 where
  pub here : IsAskingHere p place command asked present
  pub to_come : NoneAsked asked p.number command (number_of present)

abbrev pub IsAskingClient : ClientPlan → ClientState → Asked → Type 0
IsAskingClient p c asked = IsAskingAt p c.place c.command c.present asked

-- ---- turns

-- what was asked still is
abbrev pub AreMore : Asked → Asked → Type 0
AreMore asked now = (x : AttemptId) → asked x ≡ true → now x ≡ true

-- a client's turn leaves it so, with what it posts: it may have asked for attempts of its own
pub record LeavesAsking (p : ClientPlan) (asked : Asked) (c : ClientState) (posts : List Post) : Type 0 where
  pub now : Asked
  pub more : AreMore asked now
  pub own : (x : AttemptId) → (x.client ≡ p.number → ⊥) → now x ≡ true → asked x ≡ true
  pub client : IsAskingClient p c now
  pub said : PostsGoWith now posts

-- and what it has told goes with what it was answered
pub record LeavesWell (p : ClientPlan) (asked : Asked) (c : ClientState) (posts : List Post) (attempts : List Attempt) : Type 0 where
  pub asking : LeavesAsking p asked c posts
  pub tells : Tells p c attempts
