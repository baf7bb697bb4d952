use Rattle.replay_base.proofs.Issuing.{asks_issued}
use Rattle.replay_base.proofs.epochs.asks_at.Goals as goal

pub returns-in-None : goal.returns-in-None
returns-in-None c = asks_issued c.args.plan c.args.memory.now c.args.tracker c.args.ep c.args.epoch c.can_issue.result c.in-None.is c.can_issue.ensures
