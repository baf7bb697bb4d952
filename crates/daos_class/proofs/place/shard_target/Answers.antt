use Rattle.std.proofs.Math.Nat.{mod-add-mod}
use Rattle.daos_class.proofs.place.shard_target.Goals as goal

pub returns : goal.returns
returns c = rw (c.from-n.ensures, c.from.ensures) (mod-add-mod c.args.number c.args.n c.args.shard)
