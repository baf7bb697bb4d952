use Rattle.std.proofs.Common.{Some, ap, ◌∙◌}
use Rattle.vos_store.specs.Answers.{floor_of}
use Rattle.replay_writes.proofs.Writing.{floor_passes, floor_refuses, floors_passed}
use Rattle.replay_writes.proofs.checks.first_floor.Goals as goal

pub returns-then-epoch-at : goal.returns-then-epoch-at
returns-then-epoch-at c =
    ap Some c.floor.ensures ∙ floor_refuses c.args.plan c.args.opening c.args.epoch c.args.durable.now c.args.writes.now c.loop-write.write-index c.write-item.result c.floor_of-why.result c.loop-write.invariant c.loop-write-test.true c.write-item.is
    (c.floor_of-why.ensures ∙ ap (λ p. floor_of c.args.opening c.args.durable.now p.cont) c.path.ensures) c.if-epoch-at.true

pub loop-write-preserved : goal.loop-write-preserved
loop-write-preserved c =
    floor_passes c.args.plan c.args.opening c.args.epoch c.args.durable.now c.args.writes.now c.loop-write.write-index c.write-item.result c.floor_of-why.result c.loop-write.invariant c.loop-write-test.true c.write-item.is
    (c.floor_of-why.ensures ∙ ap (λ p. floor_of c.args.opening c.args.durable.now p.cont) c.path.ensures) c.if-epoch-at.false

pub returns : goal.returns
returns c = floors_passed c.args.plan c.args.opening c.args.epoch c.args.durable.now c.args.writes.now c.loop-write.write-index c.loop-write.invariant c.loop-write-test.false
