use Rattle.replay_verdict.proofs.Trying.{none_found, one_found}
use Rattle.replay_verdict.proofs.again.try_one.Goals as goal

pub returns-in_ok-next-in-Some : goal.returns-in_ok-next-in-Some
returns-in_ok-next-in-Some c = one_found c.args.plan c.fetcher.result c.args.request.now c.args.trial c.in_ok-next-in-Some.next c.in-Some.left c.in_ok-left.field-0 c.fetcher.ensures c.in-Some.is c.in_ok-left.ensures c.in_ok-next-in-Some.ensures

pub returns-in-None : goal.returns-in-None
returns-in-None c = none_found c.args.plan c.fetcher.result c.args.request.now c.args.trial c.in_ok-left.field-0 c.fetcher.ensures c.in-None.is c.in_ok-left.ensures
