use Rattle.std.proofs.Common.{refl}
use Rattle.replay_base.proofs.Starts.{none_so}
use Rattle.std.proofs.lemmas.Bool.Decides.{not_from_Decides}
use Rattle.replay_fetch.proofs.Asking.{asked_decides, fetch_unknown}
use Rattle.replay_fetch.proofs.fetch.asked_so.Goals as goal

pub returns-in_ok-left : goal.returns-in_ok-left
returns-in_ok-left c =
    asked_decides c.args.plan c.args.before.now.memory c.args.request.now c.args.from c.requires.now c.args.epoch c.in_ok-work.work c.in_ok-left.left c.args.before.now c.args.after.now c.args.did.now c.is_left_if.result
    refl c.in_ok-work.ensures c.requires.told (c.asks_at.ensures.0 c.if-asks_at.true) c.in_ok-left.ensures c.is_left_if.ensures

pub returns-else-asks_at : goal.returns-else-asks_at
returns-else-asks_at c =
    none_so (fetch_unknown c.args.plan c.args.before.now.memory c.args.request.now c.args.from c.requires.now c.args.epoch _ _ _ c.requires.told (not_from_Decides c.asks_at.result c.asks_at.ensures c.if-asks_at.false))
