-- A client, and what follows from a turn of it.
use Rattle.std.specs.Prelude.{Bool, true, false, ◌≡◌, ◌++◌, Option, Some, None}
use Rattle.base_messages.specs.declared.message.Message.{Message}
use Rattle.base_messages.specs.declared.message.Message.TheVariants as message
use Rattle.world_base.specs.ClientTurns as turns
use Rattle.world_base.specs.declared.client.ClientPlan.{ClientPlan}
use Rattle.world_base.specs.declared.client.ClientState.{ClientState}
use Rattle.world_base.specs.declared.client.Present.{Present}
use Rattle.world_base.specs.declared.did.Did.{Did}
use Rattle.client_core.specs.declared.turns.Turn.{Turn}
-- what is true of every client
pub use Rattle.client_moves.specs.Moves.{CommandFits, IsAt, IsInPlace, ObjFits, OpFits, OpsFit, PlanFits, at_none, has_number, move_of}

-- a client: what it has to do, and how far it came
pub record ClientNow : Type 0 where
  pub plan : ClientPlan
  pub state : ClientState

-- an attempt at its next stage, if there is one
abbrev pub staged_attempt : Option Present → Option Present
staged_attempt None = None
staged_attempt (Some a) = Some (turns.next_stage a.stage a)

-- a client whose attempt is at its next stage
abbrev pub staged : ClientState → ClientState
staged c = record c { present = staged_attempt c.present }

-- what follows from a turn that goes on from here: what followed before, and what follows from there on
pub record GoesOnFrom (p : ClientPlan) (start reached : Turn) : Type 0 where
  pub rest : Did
  pub goes_on : turns.ClientDid p start.state rest reached.state
  pub posts : reached.did.posts ≡ start.did.posts ++ rest.posts
  pub lines : reached.did.lines ≡ start.did.lines ++ rest.lines
  pub issued : reached.did.issued ≡ None

-- what became of a lost request is asked, where that may be a commit
abbrev pub is_asked_again : Message → Bool
is_asked_again (message.Commit x e first tracker ws) = true
is_asked_again (message.Ask x) = true
is_asked_again m = false
