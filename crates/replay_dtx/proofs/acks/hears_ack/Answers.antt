use Rattle.std.proofs.Common.{refl}
use Rattle.replay_dtx.proofs.Turning.{ack_found}
use Rattle.replay_dtx.proofs.acks.hears_ack.Goals as goal

pub returns : goal.returns
returns c =
    ack_found c.args.plan c.args.from c.args.attempt c.args.inc c.args.refusal.now c.args.before.now c.args.from.number (c.in_ok-memory.memory, c.in_ok-memory.posts) c.is_refusing-refused.result c.in_ok-copy_kept.field-0 c.aborted_if.result c.sends.result
    c.in_ok-memory.memory refl c.in_ok-memory.ensures c.is_refusing-refused.ensures c.in_ok-copy_kept.ensures c.aborted_if.ensures c.sends.ensures refl
