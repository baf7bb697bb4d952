-- Where the operations of a command have their accesses, and at which targets.
use Rattle.std.specs.Prelude.{ℕ, ◌+◌, ◌%◌, Bool, true, false, ◌||◌, List, [], ◌∷◌, ◌++◌, Option, Some, None, map, if◌then◌else◌}
use Rattle.std.specs.List.{range_with_len}
use Rattle.base_types.specs.declared.id.AttemptId.{AttemptId}
use Rattle.base_types.specs.declared.id.ObjId.{ObjId}
use Rattle.base_types.specs.declared.operation.Act.{Act}
use Rattle.base_types.specs.declared.operation.Act.TheVariants.{Fetch, Change}
use Rattle.base_types.specs.declared.operation.Cond.{Cond}
use Rattle.base_types.specs.declared.operation.Cond.TheVariants.{Free, Must, MustNot}
use Rattle.base_types.specs.declared.operation.MinorWrite.{MinorWrite}
use Rattle.base_types.specs.declared.operation.Op.{Op}
use Rattle.base_types.specs.declared.path.Path.{Path}
use Rattle.base_types.specs.declared.script.Command.{Command}
use Rattle.base_types.specs.declared.script.Command.TheVariants.{Run, Snap, Aggregate, Tell, Skip}
use Rattle.base_types.specs.declared.script.Script.{Script}
use Rattle.base_types.specs.Operations.{act_path}
use Rattle.base_types.specs.Placement.{dkey_groups, first_shard, replicas, shard_target, writes_members}
use Rattle.daos_model.specs.Transactions.{command_of}

-- where an operation reads, asks or writes
abbrev pub op_path : Op → Path
op_path op = act_path op.act

-- where each operation of a transaction has its access
abbrev pub access_paths : List Op → List Path
access_paths ops = map op_path ops

abbrev pub is_fetch : Act → Bool
is_fetch (Fetch r) = true
is_fetch (Change w) = false

-- whether there is something to ask before the operation goes on
abbrev pub is_condition : Cond → Bool
is_condition Free = false
is_condition Must = true
is_condition MustNot = true

-- the state is asked for a read's answer, and for whether a condition holds
abbrev pub is_asked : Op → Bool
is_asked op = is_fetch op.act || is_condition op.cond

-- what an act writes, under the number of its operation
abbrev pub minor_write : ℕ → Act → List MinorWrite
minor_write n (Fetch r) = []
minor_write n (Change w) = record { minor = n; write = w } ∷ []

-- the writes among operations, which are numbered from n: the number of its operation is a write's minor
unfoldable pub minor_writes : ℕ → List Op → List MinorWrite
minor_writes n [] = []
minor_writes n (op ∷ ops) = minor_write n op.act ++ minor_writes (n + 1) ops

-- the member of a group that a command of this number asks
abbrev pub asked_member : ObjId → ℕ → ℕ → ℕ → ℕ
asked_member o command targets group = shard_target o.number (first_shard o group + command % replicas o.class) targets

-- the targets that a command of this number asks about an object, or a dkey of it: one member of each group
abbrev pub asked_of_object : Option ObjId → Option (List ℕ) → ℕ → ℕ → List ℕ
asked_of_object None dkey command targets = []
asked_of_object (Some o) dkey command targets = map (asked_member o command targets) (dkey_groups o dkey targets)

-- the targets that a command of this number asks about a path
abbrev pub asked_targets : ℕ → ℕ → Path → List ℕ
asked_targets command targets p = asked_of_object p.obj p.dkey command targets

-- the targets that the reads and conditions of a command of this number ask
unfoldable pub ops_asked : ℕ → ℕ → List Op → List ℕ
ops_asked command targets [] = []
ops_asked command targets (op ∷ ops) =
    (if is_asked op then asked_targets command targets (op_path op) else []) ++ ops_asked command targets ops

-- the targets of a command: those that its reads and conditions ask, and the members of its writes, the leader
-- among them; a snapshot or an aggregation has all targets
abbrev pub command_targets : ℕ → ℕ → Command → List ℕ
command_targets command targets (Run ops skips snapshot) = ops_asked command targets ops ++ writes_members (minor_writes 0 ops) targets
command_targets command targets (Snap name cont) = range_with_len 0 targets
command_targets command targets (Aggregate cont) = range_with_len 0 targets
command_targets command targets (Tell client) = []
command_targets command targets (Skip turns) = []

abbrev pub option_targets : ℕ → ℕ → Option Command → List ℕ
option_targets command targets None = []
option_targets command targets (Some c) = command_targets command targets c

-- the targets of an attempt
abbrev pub attempt_targets : Script → AttemptId → List ℕ
attempt_targets s x = option_targets x.command s.targets (command_of s x)
