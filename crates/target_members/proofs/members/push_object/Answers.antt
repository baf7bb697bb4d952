use Rattle.std.proofs.Common.{◌∙◌, ◌-◌, ◌+◌, ◌++◌, ap}
use Rattle.std.specs.List.{range_with_len}
use Rattle.base_types.specs.Placement.{groups_members}
use Rattle.target_members.proofs.Membership.{group_pushed}
use Rattle.target_members.proofs.members.push_object.Goals as goal

pub loop-group-preserved : goal.loop-group-preserved
loop-group-preserved c =
    let i = c.loop-group.group in
    let count = c.groups-count.result in
    ap (λ xs. xs ++ groups_members c.args.obj (range_with_len (i + 1) (count - (i + 1))) c.args.targets) c.in_ok-push_group.ensures
    ∙ group_pushed c.args.obj i count c.args.targets c.loop-group.all.items _ c.loop-group-test.true c.loop-group.invariant
