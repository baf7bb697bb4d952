use Rattle.replay_dtx.proofs.Turning.{idle_found}
use Rattle.replay_dtx.proofs.idle.idles.Goals as goal

pub returns : goal.returns
returns c =
    idle_found c.args.settling c.args.plan c.args.before.now c.as_slice-decided.result.now c.in_ok-start_of.field-0 c.all_settled-durable.result c.in_ok-memory.memory (c.in_ok-memory-2.memory, c.in_ok-memory-2.marks) (c.in_ok-memory-3.memory, c.in_ok-memory-3.queries) c.in_ok-posts.posts c.sends.result
    c.as_slice-decided.ensures c.in_ok-start_of.ensures c.all_settled-durable.ensures c.in_ok-memory.ensures c.in_ok-memory-2.ensures c.in_ok-memory-3.ensures c.in_ok-posts.ensures c.sends.ensures
