use Rattle.replay_writes.proofs.Asking.{commit_spent_so}
use Rattle.replay_writes.proofs.commit.spent_so.Goals as goal

pub returns : goal.returns
returns c =
    commit_spent_so c.args.plan c.args.before.now.opening c.args.before.now.memory c.args.request.now c.args.from _ _ c.args.after.now.memory c.args.did.now c.in_ok-told.told c.is_spent_so.result c.requires c.in_ok-told.ensures c.is_spent_so.ensures
