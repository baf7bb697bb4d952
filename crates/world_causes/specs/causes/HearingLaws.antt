-- A client's hearing of a message keeps that outcomes show their causes.
use Rattle.std.specs.Prelude.{ℕ, ◌≡◌, true, false, List, Contains, Some}
use Rattle.base_types.specs.declared.epoch.Epoch.{Epoch}
use Rattle.base_types.specs.declared.id.AttemptId.{AttemptId}
use Rattle.base_types.specs.declared.report.Line.{Line}
use Rattle.base_types.specs.declared.report.Line.TheVariants as line
use Rattle.base_messages.specs.declared.message.Message.{Message, more_of-Message}
use Rattle.base_messages.specs.declared.message.Message.TheVariants as message
use Rattle.daos_model.specs.Attempts.{up_to_last_of}
use Rattle.daos_model.specs.Opening.{Opening}
use Rattle.world_base.specs.declared.client.ClientState.{ClientState}
use Rattle.world_base.specs.declared.client.Present.{Present}
use Rattle.world_base.specs.ClientTurns.{Move, about, is_about, attempt_id, listed}
use Rattle.world_base.specs.Events.{Rules, client_plan}
use Rattle.world_base.specs.Letters.{client}
use Rattle.world_causes.specs.causes.Causes.{Dated, Stored}
use Rattle.daos_model.specs.Accesses.{attempt_targets}
use Rattle.daos_model.specs.CausesShown.{StopsAfter}
use Rattle.world_causes.specs.causes.ClientLaws.{ArePlain, IsLineOf, LineShows}

-- ---- a client hears

-- a move that a client makes when it hears: it sends at most a question, and its line is of its attempt, and shows its cause
pub record IsHeard (r : Rules) (o : Opening) (stored : Stored) (issued : Dated) (before : List Line) (x : AttemptId) (tracker : Epoch) (m : Move) : Type 0 where
  pub posts : (limit : ℕ) → ArePlain limit (listed m.post)
  pub same : m.state.tracker ≡ tracker
  pub shows : LineShows r o stored issued before m.line
  pub own : IsLineOf x m.line

-- a request of an attempt that is lost: its target stopped since the attempt began, or it was given up
abbrev pub LossStands : Rules → List Line → AttemptId → Message → Type 0
LossStands r lines x (message.Reset' t true place (more_of-Message q rest)) = Contains (attempt_targets r.script x) t × Contains lines (line.Down t)
LossStands r lines x (message.Reset' t false place (more_of-Message q rest)) = StopsAfter (attempt_targets r.script x) (up_to_last_of x.client lines) lines
LossStands r lines x m = Unit {0}

-- where a client waits for what it hears of
abbrev pub LossesStand : Rules → List Line → ℕ → ClientState → Message → Type 0
LossesStand r lines n c m = (a : Present) → c.present ≡ Some a → a.waits ≡ true → is_about (attempt_id (client_plan r n) c a) (about m) ≡ true → LossStands r lines (attempt_id (client_plan r n) c a) m
