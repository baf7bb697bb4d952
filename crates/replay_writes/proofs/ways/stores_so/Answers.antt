use Rattle.std.proofs.Common.{refl}
use Rattle.replay_writes.proofs.Refusing.{stores_decides}
use Rattle.replay_writes.proofs.ways.stores_so.Goals as goal

pub returns : goal.returns
returns c =
    stores_decides c.args.plan c.args.storing c.args.writes.now c.args.start c.args.before.now c.args.after.now c.args.did.now c.args.done.now c.blocks-need.result c.in_ok-stored.stored _
    c.in_ok-allowed.allowed c.is_stored_with-left.result c.both.result c.blocks-need.ensures c.in_ok-stored.ensures refl c.in_ok-allowed.ensures c.is_stored_with-left.ensures c.both.ensures
