use Rattle.std.proofs.Common.{Some, None, false}
use Rattle.replay_base.proofs.Starts.{covered_of, if_ok, none_so}
use Rattle.replay_writes.proofs.Asking.{covered_decides, uncovered_none}
use Rattle.replay_writes.proofs.commit.known_so.Goals as goal

pub returns-in-Some : goal.returns-in-Some
returns-in-Some c =
    if_ok _ _ c.checked_so.result
    (λ test same reading. covered_decides c.args.plan c.args.before.now.opening c.args.before.now.memory reading c.args.request.now c.args.from c.args.epoch c.args.before.now.durable c.args.before.now.free _ _ c.in-Some.start
    (covered_of _ _ _ c.args.before.now.durable false _ (Some c.in-Some.start) c.ticks.ensures c.in_ok-copy_kept.ensures c.cover.ensures c.in-Some.is) test (same reading)) c.checked_so.ensures

pub returns-in-None : goal.returns-in-None
returns-in-None c reading =
    none_so (uncovered_none c.args.plan c.args.before.now.opening c.args.before.now.memory reading c.args.request.now c.args.from c.args.epoch c.args.before.now.durable c.args.before.now.free _ _
    (covered_of _ _ _ c.args.before.now.durable false _ None c.ticks.ensures c.in_ok-copy_kept.ensures c.cover.ensures c.in-None.is))
