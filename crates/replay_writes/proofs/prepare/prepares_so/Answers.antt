use Rattle.std.proofs.Common.{Some, None, false}
use Rattle.replay_base.proofs.Starts.{covered_of, if_ok, none_so}
use Rattle.replay_writes.proofs.Instances.{prepare_decides, prepare_never}
use Rattle.replay_writes.proofs.prepare.prepares_so.Goals as goal

pub returns-in_ok-done-in-Some : goal.returns-in_ok-done-in-Some
returns-in_ok-done-in-Some c =
    if_ok _ _ c.ends_so.result
    (λ test same. prepare_decides c.args.plan c.args.before.now c.args.request.now c.args.after.now c.in-Some.start c.args.did.now c.storing_for-storing.result c.as_slice-writes.result.now c.in_ok-done-in-Some.done test
    (covered_of _ _ _ c.args.before.now.durable false _ (Some c.in-Some.start) c.ticks-ticks.ensures c.in_ok-copy_kept.ensures c.cover.ensures c.in-Some.is) c.storing_for-storing.ensures c.as_slice-writes.ensures c.in_ok-done-in-Some.ensures same) c.ends_so.ensures

pub returns-in-None : goal.returns-in-None
returns-in-None c =
    none_so (prepare_never c.args.plan c.args.before.now c.args.request.now c.args.after.now c.args.did.now
    (covered_of _ _ _ c.args.before.now.durable false _ None c.ticks-ticks.ensures c.in_ok-copy_kept.ensures c.cover.ensures c.in-None.is))
