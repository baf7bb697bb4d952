-- How far a client's lines have told of its commands.
use Rattle.std.specs.Prelude.{ℕ, ◌≡◌, ◌≤◌, ◌<◌, ◌+◌, ◌++◌, Bool, true, false, List, [], ◌∷◌, length, take, slice_get, Option, Some, None}
use Rattle.base_types.specs.declared.report.Attempt.{Attempt}
use Rattle.base_types.specs.declared.script.Command.{Command}
use Rattle.base_types.specs.Scripts.{is_numbered}
use Rattle.daos_model.specs.Attempts.{is_restart, tries}
use Rattle.daos_model.specs.Order.{AreInTurn, IsNumbered}
use Rattle.daos_model.specs.Transactions.{numbered}
use Rattle.world_base.specs.declared.client.ClientPlan.{ClientPlan}
use Rattle.world_base.specs.declared.client.ClientState.{ClientState}
use Rattle.world_base.specs.declared.client.Present.{Present}
use Rattle.world_base.specs.ClientTurns.{Move, listed}

-- attempts of a command from one number up to another, each told to restart
abbrev pub AreTriedAgain : ℕ → ℕ → ℕ → ℕ → List Attempt → Type 0
AreTriedAgain client command n m [] = n ≡ m
AreTriedAgain client command n m (a ∷ more) = IsNumbered client command n a × (is_restart a.outcome ≡ true) × AreTriedAgain client command (n + 1) m more

abbrev pub has_number : Option Command → Bool
has_number None = false
has_number (Some d) = is_numbered d

-- the attempts of the command that a client is at, by the number of the attempt that it is at: it is at none where there are
-- none; else all before the present one were told to restart, and that one is allowed
abbrev pub AreOfPresent : ClientPlan → ℕ → ℕ → List Attempt → Option ℕ → Type 0
AreOfPresent p place command begun None = begun ≡ []
AreOfPresent p place command begun (Some n) = AreTriedAgain p.number command 0 n begun × (n < p.attempts) × (has_number (slice_get p.commands place) ≡ true)

-- the attempts told of are those of the commands that are over, in turn, and then those of the command that the client is at
pub record Stands (p : ClientPlan) (place command : ℕ) (present : Option ℕ) (attempts : List Attempt) : Type 0 where
  pub within : place ≤ length p.commands
  pub numbers : command ≡ length (numbered (take place p.commands))
  pub over : List Attempt
  pub begun : List Attempt
  pub all : attempts ≡ over ++ begun
  pub in_turn : AreInTurn p.attempts p.number 0 (numbered (take place p.commands)) over
  pub at_present : AreOfPresent p place command begun present

abbrev pub number_of : Option Present → Option ℕ
number_of None = None
number_of (Some a) = Some a.attempt

-- of a client
abbrev pub HasTold : ClientPlan → ClientState → List Attempt → Type 0
HasTold p c attempts = Stands p c.place c.command (number_of c.present) attempts

-- the attempts of which a move's line tells
abbrev pub tells : Move → List Attempt
tells m = tries (listed m.line)

-- a client begins with nothing told
abbrev pub ClientsBegin : Type 0
ClientsBegin = (p : ClientPlan) (c : ClientState) → c.place ≡ 0 → c.command ≡ 0 → c.present ≡ None → HasTold p c []
