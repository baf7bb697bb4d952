use Rattle.std.proofs.Common.{◌∙◌, ap}
use Rattle.base_types.specs.declared.outcome.Outcome.TheVariants as outcome
use Rattle.replay_writes.specs.Ways.{refusal_told}
use Rattle.replay_writes.proofs.Refusing.{refuses_decides}
use Rattle.replay_writes.proofs.ways.refuses_so.Goals as goal

pub returns : goal.returns
returns c =
    refuses_decides c.args.plan c.args.storing c.args.writes.now c.args.start.now c.args.before.now c.args.after.now c.args.did.now c.args.cause.now c.as_slice-stamps.result.now c.in_ok-memory.memory c.in_ok-told.told
    c.in_ok-refused.refused c.is_left_with-left.result c.both.result c.as_slice-stamps.ensures c.in_ok-memory.ensures (c.in_ok-told.ensures ∙ ap (λ x. refusal_told c.args.storing.tells (outcome.Restart x)) c.in_ok-copy.ensures)
    c.in_ok-refused.ensures c.is_left_with-left.ensures c.both.ensures
