-- Where objects are placed: an object's shards go round the targets, and neighbouring shards form a group.
use Rattle.std.specs.Prelude.{ℕ, zero, suc, ◌+◌, ◌*◌, ◌/◌, ◌%◌, ◌≤◌, List, [], ◌∷◌, ◌++◌, Option, Some, None}
use Rattle.std.specs.List.{range_with_len}
use Rattle.base_types.specs.declared.id.Class.{Class}
use Rattle.base_types.specs.declared.id.Class.TheVariants.{S1, S2, S4, SX, RP2G1, RP2GX, RP3G1, RP3GX}
use Rattle.base_types.specs.declared.id.ObjId.{ObjId}
use Rattle.base_types.specs.declared.operation.MinorWrite.{MinorWrite}
use Rattle.base_types.specs.declared.path.Path.{Path}
use Rattle.base_types.specs.Hash.{fnv1a}
use Rattle.base_types.specs.Operations.{write_path}

-- how many replicas a group has
abbrev pub replicas : Class → ℕ
replicas S1 = 1
replicas S2 = 1
replicas S4 = 1
replicas SX = 1
replicas RP2G1 = 2
replicas RP2GX = 2
replicas RP3G1 = 3
replicas RP3GX = 3

-- how many groups an object has on so many targets; X stands for as many as there is room for
abbrev pub groups : Class → ℕ → ℕ
groups S1 targets = 1
groups S2 targets = 2
groups S4 targets = 4
groups SX targets = targets
groups RP2G1 targets = 1
groups RP2GX targets = targets / 2
groups RP3G1 targets = 1
groups RP3GX targets = targets / 3

-- how many targets a class needs: replicas times groups, and for X those of one group
abbrev pub targets_needed : Class → ℕ
targets_needed S1 = 1
targets_needed S2 = 2
targets_needed S4 = 4
targets_needed SX = 1
targets_needed RP2G1 = 2
targets_needed RP2GX = 2
targets_needed RP3G1 = 3
targets_needed RP3GX = 3

-- there are targets enough for the class
abbrev pub ClassFits : Class → ℕ → Type 0
ClassFits class targets = targets_needed class ≤ targets

-- the group of a dkey
unfoldable pub group_of : Class → List ℕ → ℕ → ℕ
group_of class dkey targets = fnv1a dkey % groups class targets

-- the target of a shard of the object of this number
abbrev pub shard_target : ℕ → ℕ → ℕ → ℕ
shard_target number shard targets = (number + shard) % targets

-- the targets of so many shards, from this one on
abbrev pub shard_targets : ℕ → ℕ → ℕ → ℕ → List ℕ
shard_targets number shard zero targets = []
shard_targets number shard (suc count) targets = shard_target number shard targets ∷ shard_targets number (shard + 1) count targets

-- the first shard of a group
abbrev pub first_shard : ObjId → ℕ → ℕ
first_shard o group = group * replicas o.class

-- the members of a group: the targets of its shards, in order
unfoldable pub members : ObjId → ℕ → ℕ → List ℕ
members o group targets = shard_targets o.number (first_shard o group) (replicas o.class) targets

-- the leader of a group: its first member
unfoldable pub leader_of : ObjId → ℕ → ℕ → ℕ
leader_of o group targets = shard_target o.number (first_shard o group) targets

-- the groups of an object that a dkey touches; all of them where there is no dkey
abbrev pub dkey_groups : ObjId → Option (List ℕ) → ℕ → List ℕ
dkey_groups o None targets = range_with_len 0 (groups o.class targets)
dkey_groups o (Some dkey) targets = group_of o.class dkey targets ∷ []

-- the members of some groups of an object, group by group
abbrev pub groups_members : ObjId → List ℕ → ℕ → List ℕ
groups_members o [] targets = []
groups_members o (group ∷ rest) targets = members o group targets ++ groups_members o rest targets

abbrev pub object_members : Option ObjId → Option (List ℕ) → ℕ → List ℕ
object_members None dkey targets = []
object_members (Some o) dkey targets = groups_members o (dkey_groups o dkey targets) targets

-- the members of the groups that a path touches
unfoldable pub path_members : Path → ℕ → List ℕ
path_members p targets = object_members p.obj p.dkey targets

-- the group that leads a path: that of its dkey, or group 0
abbrev pub leading_group : ObjId → Option (List ℕ) → ℕ → ℕ
leading_group o None targets = 0
leading_group o (Some dkey) targets = group_of o.class dkey targets

abbrev pub object_leader : Option ObjId → Option (List ℕ) → ℕ → ℕ
object_leader None dkey targets = 0
object_leader (Some o) dkey targets = leader_of o (leading_group o dkey targets) targets

-- the leader of the group that leads a path
unfoldable pub path_leader : Path → ℕ → ℕ
path_leader p targets = object_leader p.obj p.dkey targets

-- the members of a transaction: those of the groups that its writes touch
unfoldable pub writes_members : List MinorWrite → ℕ → List ℕ
writes_members [] targets = []
writes_members (w ∷ ws) targets = path_members (write_path w.write) targets ++ writes_members ws targets

-- the leader of a transaction: that of its first write
unfoldable pub writes_leader : List MinorWrite → ℕ → ℕ
writes_leader [] targets = 0
writes_leader (w ∷ ws) targets = path_leader (write_path w.write) targets
