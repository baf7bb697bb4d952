-- The commands of a script, and what their operations ask and write.
use Rattle.std.specs.Prelude.{ℕ, ◌+◌, ◌++◌, List, [], ◌∷◌, Option, Some, None, slice_get, filter}
use Rattle.base_types.specs.declared.id.AttemptId.{AttemptId}
use Rattle.base_types.specs.declared.operation.Act.{Act}
use Rattle.base_types.specs.declared.operation.Act.TheVariants.{Fetch, Change}
use Rattle.base_types.specs.declared.operation.Op.{Op}
use Rattle.base_types.specs.declared.operation.Read.{Read}
use Rattle.base_types.specs.declared.operation.Write.{Write}
use Rattle.base_types.specs.declared.script.Command.{Command}
use Rattle.base_types.specs.declared.script.Command.TheVariants.{Run, Snap, Aggregate, Tell, Skip}
use Rattle.base_types.specs.declared.script.Script.{Script}
use Rattle.base_types.specs.Scripts.{is_numbered}

-- the operations of a command
abbrev pub ops_of : Command → List Op
ops_of (Run ops skips snapshot) = ops
ops_of (Snap name cont) = []
ops_of (Aggregate cont) = []
ops_of (Tell client) = []
ops_of (Skip turns) = []

-- the commands of a client that have attempts, in their order
abbrev pub numbered : List Command → List Command
numbered list = filter is_numbered list

abbrev pub numbered_at : ℕ → Option (List Command) → Option Command
numbered_at n None = None
numbered_at n (Some list) = slice_get (numbered list) n

-- the command that an attempt is one of
unfoldable pub command_of : Script → AttemptId → Option Command
command_of s x = numbered_at x.command (slice_get s.clients x.client)

abbrev pub ops_or_none : Option Command → List Op
ops_or_none None = []
ops_or_none (Some c) = ops_of c

-- the operations of an attempt
abbrev pub attempt_ops : Script → AttemptId → List Op
attempt_ops s x = ops_or_none (command_of s x)

-- what an act writes
abbrev pub written : Act → List Write
written (Fetch r) = []
written (Change w) = w ∷ []

-- the writes among operations, in their order
unfoldable pub writes_of : List Op → List Write
writes_of [] = []
writes_of (op ∷ ops) = written op.act ++ writes_of ops

-- the read that an act is
abbrev pub read_of : Act → Option Read
read_of (Fetch r) = Some r
read_of (Change w) = None

abbrev pub read_of_op : Option Op → Option Read
read_of_op None = None
read_of_op (Some op) = read_of op.act

-- the read that the operation of this number is
abbrev pub read_at : List Op → ℕ → Option Read
read_at ops n = read_of_op (slice_get ops n)

abbrev pub number_of_read : ℕ → Act → List ℕ
number_of_read n (Fetch r) = n ∷ []
number_of_read n (Change w) = []

-- the numbers of the reads among operations, which are numbered from n
unfoldable pub read_numbers : ℕ → List Op → List ℕ
read_numbers n [] = []
read_numbers n (op ∷ ops) = number_of_read n op.act ++ read_numbers (n + 1) ops
