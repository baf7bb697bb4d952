-- What is true of every client, and its move as the definition has it.
use Rattle.std.specs.Prelude.{ℕ, Bool, true, false, ◌≡◌, ◌≤◌, ◌<◌, ◌+◌, drop, length, count_by, is_some, slice_get, ◌^◌, ◌-◌, All, List, [], ◌∷◌, Option, Some, None}
use Rattle.base_types.specs.declared.id.ObjId.{ObjId}
use Rattle.base_types.specs.declared.operation.MinorWrite.{MinorWrite}
use Rattle.base_types.specs.declared.operation.Op.{Op}
use Rattle.base_types.specs.declared.script.Command.{Command}
use Rattle.base_types.specs.Operations.{write_path}
use Rattle.base_types.specs.Placement.{ClassFits}
use Rattle.base_types.specs.Scripts.{is_numbered}
use Rattle.daos_model.specs.Accesses.{op_path}
use Rattle.daos_model.specs.Transactions.{ops_of}
use Rattle.world_base.specs.ClientTurns.{command_at}
use Rattle.world_base.specs.ClientTurns as turns
use Rattle.world_base.specs.declared.client.ClientPlan.{ClientPlan}
use Rattle.world_base.specs.declared.client.ClientState.{ClientState}
use Rattle.client_moves.specs.declared.step.Move.{Move}

-- a move, as the definition of a turn has it
abbrev pub move_of : Move → turns.Move
move_of m = record { post = m.post; line = m.line; over = m.over; state = m.state }

-- a client without the attempt that it is at
abbrev pub at_none : ClientState → ClientState
at_none c = record c { present = None }

-- the class of an object, if there is one, fits the targets
abbrev pub ObjFits : ℕ → Option ObjId → Type 0
ObjFits targets None = Unit {0}
ObjFits targets (Some o) = ClassFits o.class targets

abbrev pub OpFits : ℕ → Op → Type 0
OpFits targets op = ObjFits targets (op_path op).obj

-- at most 64 operations, whose objects fit the targets
pub record OpsFit (targets : ℕ) (ops : List Op) : Type 0 where
  pub few : length ops ≤ 64
  pub objs : All (OpFits targets) ops

abbrev pub CommandFits : ℕ → Command → Type 0
CommandFits targets d = OpsFit targets (ops_of d)

-- the object of the first write, whose leader is asked to commit
abbrev pub FirstFits : ℕ → List MinorWrite → Type 0
FirstFits targets [] = Unit {0}
FirstFits targets (w ∷ ws) = ObjFits targets (write_path w.write).obj

-- what a client has to do can be done
pub record PlanFits (p : ClientPlan) : Type 0 where
  pub commands : All (CommandFits p.targets) p.commands
  pub few : count_by is_numbered p.commands ≤ 100000

abbrev pub has_number : Option Command → Bool
has_number None = false
has_number (Some d) = is_numbered d

-- a client has come as far as its numbers say: commands that are over and have numbers, and those that are left, are at
-- most 100,000; and an attempt is one of a command that has a number
pub record IsInPlace (p : ClientPlan) (c : ClientState) : Type 0 where
  pub few : c.command + count_by is_numbered (drop c.place p.commands) ≤ 100000
  pub numbered : is_some c.present ≡ true → has_number (command_at p c) ≡ true

-- a client is at this command, which has a number; so few have that the next number is one too
pub record IsAt (commands : List Command) (place number : ℕ) (d : Command) : Type 0 where
  pub at_place : slice_get commands place ≡ Some d
  pub before_end : place < 2 ^ 64 - 1
  pub few : number < 100000
