use Rattle.replay_base.proofs.Starts.{if_ok}
use Rattle.replay_fetch.proofs.Asking.{own_leaves}
use Rattle.replay_fetch.proofs.fetch.fetch_again.Goals as goal

pub returns-in-Some : goal.returns-in-Some
returns-in-Some c =
    if_ok _ _ c.known_from.result (λ o l. own_leaves c.args.plan c.args.from c.args.request.now c.in-Some.epoch c.args.work.memory c.args.work.durable c.args.work.changed o c.in-Some.is l) c.known_from.ensures
