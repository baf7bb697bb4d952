use Rattle.std.proofs.Common.{◌≡◌, ◌∙◌, ap, rules, true}
use Rattle.world_base.specs.Reads.{later_of}
use Rattle.replay_writes.proofs.Writing.{later_found, later_passes, laters_passed}
use Rattle.replay_writes.proofs.checks.first_later.Goals as goal

pub returns-then-is_some : goal.returns-then-is_some
returns-then-is_some c =
    let some : _ ≡ true = c.if-is_some.true in
    later_found c.args.plan c.args.first c.args.epoch c.args.durable.now c.args.writes.now c.loop-write.write-index c.write-item.result c.in_ok-later.later c.loop-write.invariant c.loop-write-test.true c.write-item.is
    (c.in_ok-later.ensures ∙ ap (λ p. later_of c.args.plan c.args.first c.args.epoch p c.args.durable.now) c.path.ensures) (search rules)

pub loop-write-preserved : goal.loop-write-preserved
loop-write-preserved c =
    later_passes c.args.plan c.args.first c.args.epoch c.args.durable.now c.args.writes.now c.loop-write.write-index c.write-item.result c.in_ok-later.later c.loop-write.invariant c.loop-write-test.true c.write-item.is
    (c.in_ok-later.ensures ∙ ap (λ p. later_of c.args.plan c.args.first c.args.epoch p c.args.durable.now) c.path.ensures) (search rules)

pub returns : goal.returns
returns c = laters_passed c.args.plan c.args.first c.args.epoch c.args.durable.now c.args.writes.now c.loop-write.write-index c.loop-write.invariant c.loop-write-test.false
