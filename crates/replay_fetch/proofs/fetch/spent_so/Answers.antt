use Rattle.replay_fetch.proofs.Asking.{fetch_spent_so}
use Rattle.replay_fetch.proofs.fetch.spent_so.Goals as goal

pub returns : goal.returns
returns c =
    fetch_spent_so c.args.plan c.args.before.now.memory c.args.request.now c.args.from c.requires.now _ _ c.args.after.now.memory c.args.did.now c.in_ok-told.told c.is_spent_so.result c.requires.told c.in_ok-told.ensures c.is_spent_so.ensures
