use Rattle.std.proofs.Common.{◌≡◌, false, sym, ◌∙◌, arith}
use Rattle.std.specs.List.{list_any, range_with_len}
use Rattle.base_types.specs.Placement.{groups_members, members}
use Rattle.dtx_base.specs.Members.{is_number}
use Rattle.dtx_table.proofs.Groups.{next_group}
use Rattle.dtx_table.proofs.written.is_in_object.Goals as goal

pub loop-group-preserved : goal.loop-group-preserved
loop-group-preserved c =
    let none : list_any (is_number c.args.target) (members c.args.obj c.loop-group.group c.args.targets) ≡ false = sym c.in_ok-is_there.ensures ∙ c.if-is_there.false in
    next_group c.args.obj c.loop-group.group c.groups-count.result c.args.targets c.args.target
    (list_any (is_number c.args.target) (groups_members c.args.obj (range_with_len 0 c.groups-count.result) c.args.targets))
    (omega arith) none c.loop-group.invariant
