-- The members of an attempt, one bit for each target, and what is written at each.
use Rattle.std.specs.Prelude.{ℕ, ◌^◌, Bool, ◌&&◌, ◌==◌, not, bit_or, filter, List}
use Rattle.std.specs.Int.{bit_at}
use Rattle.std.specs.List.{list_all, list_any, range_with_len}
use Rattle.base_types.specs.declared.entry.Entry.{Entry}
use Rattle.base_types.specs.declared.operation.MinorWrite.{MinorWrite}
use Rattle.base_types.specs.Operations.{write_path}
use Rattle.base_types.specs.Placement.{path_members}

-- a target's bit is set
unfoldable pub has_target : ℕ → ℕ → Bool
has_target set t = bit_at set t == 1

-- one target more
abbrev pub with_target : ℕ → ℕ → ℕ
with_target set t = bit_or set (2 ^ t)

-- the targets that there may be, in the order of their numbers
abbrev pub all_targets : List ℕ
all_targets = range_with_len 0 64

-- a member that isn't the leader
unfoldable pub is_other_member : Entry → ℕ → Bool
is_other_member e t = has_target e.members t && not (t == e.leader)

-- the members but the leader, in the order of their numbers
unfoldable pub other_members : Entry → List ℕ
other_members e = filter (is_other_member e) all_targets

-- all other members are counted
unfoldable pub are_all_counted : Entry → ℕ → Bool
are_all_counted e counted = list_all (has_target counted) (other_members e)

abbrev pub is_number : ℕ → ℕ → Bool
is_number t u = u == t

-- a write of a group that a target belongs to, on so many targets
unfoldable pub is_written_at : ℕ → ℕ → MinorWrite → Bool
is_written_at targets t w = list_any (is_number t) (path_members (write_path w.write) targets)

-- the writes of a target's groups
abbrev pub writes_at : ℕ → ℕ → List MinorWrite → List MinorWrite
writes_at targets t ws = filter (is_written_at targets t) ws
