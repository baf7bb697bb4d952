use Rattle.replay_base.proofs.Starts.{none_so}
use Rattle.replay_fetch.proofs.Asking.{snapshot_none}
use Rattle.replay_fetch.proofs.fetch.unknown_so.Goals as goal

pub returns-then-request : goal.returns-then-request
returns-then-request c = none_so (snapshot_none c.args.plan c.args.before.now.memory c.args.request.now c.args.from _ _ _ c.if-request.true c.requires.unknown)
