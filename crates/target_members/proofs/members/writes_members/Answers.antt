use Rattle.std.proofs.Common.{◌∙◌, ◌+◌, ◌++◌, ap, drop}
use Rattle.base_types.specs.Placement.{path_members, writes_members}
use Rattle.target_members.proofs.Membership.{write_pushed, writes_pushed}
use Rattle.target_members.proofs.members.writes_members.Goals as goal

pub loop-write-preserved : goal.loop-write-preserved
loop-write-preserved c =
    let i = c.loop-write.write-index in
    let rest = writes_members (drop (i + 1) c.args.writes.now) c.args.targets in
    ap (λ xs. xs ++ rest) (c.in_ok-push_path.ensures ∙ ap (λ p. c.loop-write.all.items ++ path_members p c.args.targets) c.path.ensures)
    ∙ write_pushed c.args.targets c.args.writes.now i c.write-item.result c.loop-write.all.items _ c.loop-write-test.true c.write-item.is c.loop-write.invariant

pub returns : goal.returns
returns c = writes_pushed c.args.targets c.args.writes.now c.loop-write.write-index c.loop-write.all.items _ c.loop-write-test.false c.loop-write.invariant
