use Rattle.std.proofs.Common.{◌≡◌, ◌-◌, ◌++◌}
use Rattle.std.specs.List.{range_with_len}
use Rattle.base_types.specs.Placement.{groups_members}
use Rattle.target_members.proofs.members.push_object.Given as goal

abbrev pub invariant-loop-group : goal.invariant-loop-group
invariant-loop-group l = l.all.items ++ groups_members l.obj (range_with_len l.group (l.count - l.group)) l.targets ≡ l.initial.all.items ++ groups_members l.obj (range_with_len 0 l.count) l.targets
