use Rattle.std.proofs.Common.{refl}
use Rattle.replay_verdict.proofs.Hearing.{heard_read, heard_timed, verdict_found}
use Rattle.replay_verdict.proofs.verdict.hears_verdict.Goals as goal

pub try_all-requires-clause-timed : goal.try_all-requires-clause-timed
try_all-requires-clause-timed c =
    heard_timed c.args.plan c.args.attempt c.args.ask c.args.verdict c.args.before.now c.in_ok-memory.memory c.told_by-memory.result (c.in_ok-memory-2.memory, c.in_ok-memory-2.freed) c.as_slice.result.now c.requires c.in_ok-memory.ensures c.told_by-memory.ensures c.in_ok-memory-2.ensures c.as_slice.ensures

pub try_all-requires-clause-read : goal.try_all-requires-clause-read
try_all-requires-clause-read c =
    heard_read c.args.plan c.args.attempt c.args.ask c.args.verdict c.args.before.now c.in_ok-memory.memory c.told_by-memory.result (c.in_ok-memory-2.memory, c.in_ok-memory-2.freed) c.in_ok-kept.kept c.settled_by-durable.result c.requires c.in_ok-memory.ensures c.told_by-memory.ensures c.in_ok-memory-2.ensures
    c.in_ok-kept.ensures c.settled_by-durable.ensures

pub returns : goal.returns
returns c =
    verdict_found c.args.plan c.args.from c.args.attempt c.args.ask c.args.inc c.args.verdict c.args.before.now c.in_ok-memory.memory c.told_by-memory.result (c.in_ok-memory-2.memory, c.in_ok-memory-2.freed) c.in_ok-kept.kept c.settled_by-durable.result _
    c.as_slice.result.now c.in_ok-trial.trial c.left_by.result c.in_ok-memory.ensures c.told_by-memory.ensures c.in_ok-memory-2.ensures c.in_ok-kept.ensures c.settled_by-durable.ensures refl refl refl refl c.as_slice.ensures c.in_ok-trial.ensures c.left_by.ensures
