use Rattle.std.proofs.Common.{arith}
use Rattle.client_moves.proofs.Writes.{needs_some}
use Rattle.client_moves.proofs.asks.asked_member.Goals as goal

pub shard_target-requires-clause-some : goal.shard_target-requires-clause-some
shard_target-requires-clause-some c = omega (arith, c.requires, needs_some c.args.obj.class)
