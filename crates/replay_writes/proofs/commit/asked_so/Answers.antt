use Rattle.std.proofs.lemmas.Bool.Decides.{not_from_Decides}
use Rattle.replay_base.proofs.Starts.{if_ok, none_so}
use Rattle.replay_writes.proofs.Asking.{commit_known, commit_unknown}
use Rattle.replay_writes.proofs.commit.asked_so.Goals as goal

pub returns-then-asks_at : goal.returns-then-asks_at
returns-then-asks_at c =
    if_ok _ _ c.known_so.result
    (λ test same. commit_known c.args.plan c.args.before.now.opening c.args.before.now.memory c.args.request.now c.args.from c.args.epoch _ _ _ test c.requires.told (c.asks_at.ensures.0 c.if-asks_at.true) same) c.known_so.ensures

pub returns-else-asks_at : goal.returns-else-asks_at
returns-else-asks_at c =
    none_so (commit_unknown c.args.plan c.args.before.now.opening c.args.before.now.memory c.args.request.now c.args.from c.args.epoch _ _ _ c.requires.told (not_from_Decides c.asks_at.result c.asks_at.ensures c.if-asks_at.false))
