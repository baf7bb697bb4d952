use Rattle.vos_pool_again.proofs.Opening.{next_later}
use Rattle.vos_pool_again.proofs.again.open_again.Goals as goal

pub open_closed-requires-clause-next : goal.open_closed-requires-clause-next
open_closed-requires-clause-next g c =
    let k = c.reopen_region.ensures in
    next_later g.R.Region.tells c.args.closed.target c.reopen_region.new.closed.target (g.R.Region.extent c.args.closed.region) (g.R.Region.extent c.reopen_region.new.closed.region) (g.R.Region.image c.args.closed.region) (g.R.Region.image c.reopen_region.new.closed.region)
    (g.R.Region.may_leave c.args.closed.region) (g.R.Region.may_leave c.reopen_region.new.closed.region) k.target k.region.size k.region.crash c.args.number c.requires
