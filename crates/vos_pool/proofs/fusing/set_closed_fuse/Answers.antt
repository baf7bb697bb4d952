use Rattle.vos_pool.proofs.Fused.{stays_closed}
use Rattle.vos_pool.proofs.fusing.set_closed_fuse.Goals as goal

pub invariant_of-closed : goal.invariant_of-closed
invariant_of-closed g c = record {
  closed = stays_closed g.R.Region.extent g.R.Region.count g.R.Region.burns g.R.Region.tells g.R.Region.image g.R.Region.may_leave g.R.Region.moment g.R.Region.left_since g.R.Region.broken g.R.Region.did c.args.closed.now.region
      c.set_fuse.new.self c.args.closed.now.free c.args.closed.now.target c.args.closed.now.targets c.set_fuse.ensures c.args.closed.now.closed;
}
