use Rattle.std.specs.Prelude.{◌≡◌, ◌-◌}
use Rattle.std.specs.List.{list_any, range_with_len}
use Rattle.base_types.specs.Placement.{groups_members}
use Rattle.dtx_base.specs.Members.{is_number}
use Rattle.dtx_table.proofs.written.is_in_object.Given as goal

abbrev pub invariant-loop-group : goal.invariant-loop-group
invariant-loop-group l = list_any (is_number l.target) (groups_members l.obj (range_with_len l.group (l.count - l.group)) l.targets) ≡ list_any (is_number l.target) (groups_members l.obj (range_with_len 0 l.count) l.targets)
