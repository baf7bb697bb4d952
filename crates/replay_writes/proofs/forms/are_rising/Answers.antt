use Rattle.std.proofs.Common.{◌-◌, ◌<◌, ◌≤◌, ap, arith}
use Rattle.daos_model.specs.Forms.{minor_of}
use Rattle.replay_base.proofs.Starts.{none_so}
use Rattle.replay_writes.proofs.Reading.{rises_more, rises_not}
use Rattle.replay_writes.proofs.forms.are_rising.Goals as goal

pub returns-then-writes-i : goal.returns-then-writes-i
returns-then-writes-i c =
    let one = ap minor_of c.index-writes-i.is in
    let two = ap minor_of c.index-writes-i-in-loop-i.is in
    let le : c.index-writes-i-in-loop-i.result.minor ≤ c.index-writes-i.result.minor = omega (arith, c.if-writes-i.true, one, two) in
    none_so (rises_not c.args.writes.now c.loop-i.i (c.loop-i.i - 1) c.index-writes-i.result c.index-writes-i-in-loop-i.result (omega (arith, c.loop-i.auto.i)) c.loop-i-test.true c.index-writes-i.is c.index-writes-i-in-loop-i.is le)

pub loop-i-preserved : goal.loop-i-preserved
loop-i-preserved c =
    let one = ap minor_of c.index-writes-i.is in
    let two = ap minor_of c.index-writes-i-in-loop-i.is in
    let less : c.index-writes-i.result.minor < c.index-writes-i-in-loop-i.result.minor = omega (arith, c.if-writes-i.false, one, two) in
    rises_more c.args.writes.now c.loop-i.i (c.loop-i.i - 1) c.index-writes-i.result c.index-writes-i-in-loop-i.result c.loop-i.auto.i (omega (arith, c.loop-i.auto.i)) c.loop-i-test.true c.index-writes-i.is c.index-writes-i-in-loop-i.is less c.loop-i.invariant
