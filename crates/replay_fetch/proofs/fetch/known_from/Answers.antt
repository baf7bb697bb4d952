use Rattle.std.proofs.Common.{refl, Some}
use Rattle.replay_base.proofs.Starts.{covered_of, if_ok}
use Rattle.replay_fetch.proofs.Asking.{covered_leaves}
use Rattle.replay_fetch.proofs.Meeting.{covered-read}
use Rattle.replay_fetch.proofs.fetch.known_from.Goals as goal

pub read_from-requires-in-Some : goal.read_from-requires-in-Some
read_from-requires-in-Some c =
    covered-read c.args.plan c.args.work.memory.leader.decided _ c.args.work.durable c.args.work.changed c.in-Some.start
    (covered_of _ _ c.args.work.durable c.args.work.durable c.args.work.changed _ (Some c.in-Some.start) c.ticks.ensures refl c.cover.ensures c.in-Some.is) c.requires

pub returns-in-Some : goal.returns-in-Some
returns-in-Some c =
    if_ok _ _ c.read_from-in-Some.result
    (λ o l. covered_leaves c.args.plan c.args.from c.args.request.now c.args.epoch c.args.work.memory c.args.work.durable c.args.work.changed c.in-Some.start o c.if-request.false
    (covered_of _ _ c.args.work.durable c.args.work.durable c.args.work.changed _ (Some c.in-Some.start) c.ticks.ensures refl c.cover.ensures c.in-Some.is) l) c.read_from-in-Some.ensures
