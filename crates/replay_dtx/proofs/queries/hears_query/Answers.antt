use Rattle.replay_dtx.proofs.Turning.{query_found}
use Rattle.replay_dtx.proofs.queries.hears_query.Goals as goal

pub returns : goal.returns
returns c =
    query_found c.args.plan c.args.from c.args.attempt c.args.ask c.args.before.now c.in_ok-durable.field-0 c.in_ok-memory.memory c.in_ok-answer.answer c.in_ok-did.did
    c.in_ok-durable.ensures c.in_ok-memory.ensures c.in_ok-answer.ensures c.in_ok-did.ensures
