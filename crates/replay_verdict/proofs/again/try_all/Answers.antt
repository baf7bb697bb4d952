use Rattle.replay_verdict.proofs.Trying.{so_far_all, so_far_more, so_far_none, so_far_none_yet, timed_at}
use Rattle.replay_verdict.proofs.again.try_all.Goals as goal

pub loop-ask-init : goal.loop-ask-init
loop-ask-init c = so_far_none_yet c.args.plan c.args.asks.now c.args.trial c.requires.read

pub try_ask-requires-clause-timed : goal.try_ask-requires-clause-timed
try_ask-requires-clause-timed c = timed_at c.args.asks.now c.loop-ask.ask-index c.ask-item.result c.requires.timed c.loop-ask-test.true c.ask-item.is

pub try_ask-requires-clause-read : goal.try_ask-requires-clause-read
try_ask-requires-clause-read c = c.loop-ask.invariant.read

pub loop-ask-preserved : goal.loop-ask-preserved
loop-ask-preserved c =
    so_far_more c.args.plan c.args.asks.now c.args.trial c.loop-ask.trial c.in-Some.next c.loop-ask.ask-index c.ask-item.result c.in_ok-next.field-0 c.loop-ask.invariant c.loop-ask-test.true c.ask-item.is c.in_ok-next.ensures c.in-Some.is

pub returns-in-None : goal.returns-in-None
returns-in-None c =
    so_far_none c.args.plan c.args.asks.now c.args.trial c.loop-ask.trial c.loop-ask.ask-index c.ask-item.result c.in_ok-next.field-0 c.loop-ask.invariant c.loop-ask-test.true c.ask-item.is c.in_ok-next.ensures c.in-None.is

pub returns : goal.returns
returns c = so_far_all c.args.plan c.args.asks.now c.args.trial c.loop-ask.trial c.loop-ask.ask-index c.loop-ask.invariant c.loop-ask-test.false
