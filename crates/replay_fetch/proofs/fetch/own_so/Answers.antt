use Rattle.replay_fetch.proofs.Asking.{own_decides}
use Rattle.replay_fetch.proofs.fetch.own_so.Goals as goal

pub returns : goal.returns
returns c =
    own_decides c.args.plan c.args.from c.args.request.now c.in_ok-work.work c.in_ok-left.left c.args.before.now c.args.after.now c.args.did.now c.is_left_if.result c.in_ok-work.ensures c.in_ok-left.ensures c.is_left_if.ensures
