-- What lines tell of each client's commands: that its attempts begin those of its commands in turn.
use Rattle.std.specs.Prelude.{ℕ, ◌≡◌, ◌<◌, ◌++◌, List, [], ◌∷◌, length}
use Rattle.base_types.specs.declared.report.Attempt.{Attempt}
use Rattle.base_types.specs.declared.report.Line.{Line}
use Rattle.base_types.specs.declared.script.Command.{Command}
use Rattle.base_types.specs.declared.script.Script.{Script}
use Rattle.daos_model.specs.Attempts.{tries_of}
use Rattle.daos_model.specs.Order.{AreInTurn, client_commands}
use Rattle.world_base.specs.declared.client.ClientPlan.{ClientPlan}
use Rattle.world_base.specs.declared.client.ClientState.{ClientState}
use Rattle.world_ended.specs.world_letters.clients.Standing.{AreTriedAgain, HasTold}
use Rattle.world_ended.specs.world_letters.lines.Lines.{AreTheSame}

-- ---- what a report says

-- attempts of the command after those that are over: from its first one on each was told to restart, and they are fewer than are allowed; where
-- no command is left there are none
abbrev pub AreOfNext : ℕ → ℕ → ℕ → List Command → List Attempt → Type 0
AreOfNext limit client n [] attempts = attempts ≡ []
AreOfNext limit client n (c ∷ cs) attempts = AreTriedAgain client n 0 (length attempts) attempts × (length attempts < limit)

-- These attempts of a client begin those of its commands in turn: the first commands have all of theirs, and the one after them has some, each of
-- which was told to restart.
pub record BeginsInTurn (limit client : ℕ) (commands : List Command) (attempts : List Attempt) : Type 0 where
  pub first : List Command
  pub left : List Command
  pub commands_are : commands ≡ first ++ left
  pub over : List Attempt
  pub again : List Attempt
  pub attempts_are : attempts ≡ over ++ again
  pub in_turn : AreInTurn limit client 0 first over
  pub next : AreOfNext limit client (length first) left again

-- so do each client's attempts, as they stand in the lines
abbrev pub AllBeginInTurn : ℕ → Script → List Line → Type 0
AllBeginInTurn limit s lines = (client : ℕ) → BeginsInTurn limit client (client_commands s client) (tries_of client lines)

-- ---- at a moment

-- the lines tell of a client what it has told, but for epochs
pub record HasItsLines (p : ClientPlan) (n : ℕ) (c : ClientState) (lines : List Line) : Type 0 where
  pub attempts : List Attempt
  pub told : HasTold p c attempts
  pub same : AreTheSame attempts (tries_of n lines)
