use Rattle.std.proofs.Common.{arith}
use Rattle.daos_run.proofs.Disarmed.{all-disarmed, none-disarmed, one-disarmed}
use Rattle.daos_run.proofs.starting.disarm.Goals as goal

pub loop-t-init : goal.loop-t-init
loop-t-init g c = none-disarmed g.S.Store.durable g.S.Store.state g.S.Store.may c.args.targets c.args.parts.now c.requires.set

pub disarm_one-requires : goal.disarm_one-requires
disarm_one-requires g c = record { there = c.loop-t.invariant.set.each c.loop-t.t c.loop-t-test.true }

pub loop-t-preserved : goal.loop-t-preserved
loop-t-preserved g c =
    let x = c.loop-t.invariant.set.each c.loop-t.t c.loop-t-test.true in
    one-disarmed g.S.Store.durable g.S.Store.state g.S.Store.may c.args.targets c.loop-t.t c.args.parts.now c.loop-t.parts c.disarm_one.new.parts x.0 c.loop-t.invariant x.1 (c.disarm_one.ensures.disarmed x.0 x.1)

pub returns-clause-fuses : goal.returns-clause-fuses
returns-clause-fuses g c =
    let low = c.loop-t.auto.t-end in
    let over = c.loop-t-test.false in
    all-disarmed g.S.Store.durable g.S.Store.state g.S.Store.may c.args.targets c.loop-t.t c.args.parts.now c.loop-t.parts c.loop-t.invariant (omega (arith, low, over))
