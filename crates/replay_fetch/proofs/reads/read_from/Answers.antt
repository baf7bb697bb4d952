use Rattle.std.proofs.Common.{refl}
use Rattle.replay_fetch.proofs.Reading.{ended_leaves, stuck_leaves}
use Rattle.replay_fetch.proofs.reads.read_from.Goals as goal

pub returns-in_ok-left-in-Some : goal.returns-in_ok-left-in-Some
returns-in_ok-left-in-Some c =
    ended_leaves c.args.plan c.args.request.now c.args.from c.args.epoch c.args.work c.in_ok-work.field-0 c.in_ok-work.field-0.work c.in_ok-work.field-0.ending c.in-Some.ending c.in_ok-left-in-Some.left c.in_ok-work.ensures refl refl c.in-Some.is c.in_ok-left-in-Some.ensures

pub returns-in-None : goal.returns-in-None
returns-in-None c = stuck_leaves c.args.plan c.args.request.now c.args.from c.args.epoch c.args.work c.in_ok-work.field-0 c.in_ok-work.field-0.ending c.in_ok-work.ensures refl c.in-None.is
