use Rattle.replay_writes.proofs.Refusing.{lacks_decides, less_decides}
use Rattle.replay_writes.proofs.ways.lacks_space_so.Goals as goal

pub returns : goal.returns
returns c =
    lacks_decides c.args.plan c.args.storing c.args.writes.now c.args.start.now c.args.before.now c.args.after.now c.args.did.now c.blocks-need.result c.in_ok-memory.memory c.in_ok-told.told c.no_space-outcome.result
    c.in_ok-allowed.allowed _ c.is_left_with-left.result c.both.result c.both-2.result c.blocks-need.ensures c.in_ok-memory.ensures c.in_ok-told.ensures c.no_space-outcome.ensures c.in_ok-allowed.ensures
    (less_decides c.args.after.now.free c.blocks-need.result) c.is_left_with-left.ensures c.both.ensures c.both-2.ensures
