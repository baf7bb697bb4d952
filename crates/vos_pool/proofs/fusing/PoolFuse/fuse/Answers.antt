use Rattle.vos_pool.proofs.Sites.{found_closed, found_open}
use Rattle.vos_pool.proofs.fusing.PoolFuse.fuse.Goals as goal

pub returns-in-Open-clause-left : goal.returns-in-Open-clause-left
returns-in-Open-clause-left g c x may = found_open c.args.self.now.site c.in-Open.held c.in-Open.is x (c.set_fuse.ensures.left x may)

pub returns-in-Closed-clause-left : goal.returns-in-Closed-clause-left
returns-in-Closed-clause-left g c x may = found_closed c.args.self.now.site c.in-Closed.closed c.in-Closed.is x (c.set_closed_fuse.ensures.left x may)
