use Rattle.model_laws.specs.Lists.{all-more, all-taken}
use Rattle.replay_base.proofs.Starts.{all_so, none_so}
use Rattle.replay_writes.specs.Committed.{IsOne}
use Rattle.replay_writes.proofs.Reading.{not_all}
use Rattle.replay_writes.proofs.forms.are_ones.Goals as goal

pub returns-then-not-is_one : goal.returns-then-not-is_one
returns-then-not-is_one c = none_so (not_all IsOne c.args.writes.now c.loop-write.write-index c.write-item.result c.is_one.result c.is_one.ensures c.if-not-is_one.true c.loop-write-test.true c.write-item.is)

pub loop-write-preserved : goal.loop-write-preserved
loop-write-preserved c = all-more IsOne c.args.writes.now c.loop-write.write-index c.write-item.result c.loop-write-test.true c.write-item.is c.loop-write.invariant (c.is_one.ensures.0 c.if-not-is_one.false)

pub returns : goal.returns
returns c = all_so (all-taken IsOne c.args.writes.now c.loop-write.write-index c.loop-write-test.false c.loop-write.invariant)
