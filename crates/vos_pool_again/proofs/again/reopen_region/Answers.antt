use Rattle.vos_pool_again.proofs.Reopening.{closed_on, region_reopened}
use Rattle.vos_pool_again.proofs.again.reopen_region.Goals as goal

pub invariant_of-closed : goal.invariant_of-closed
invariant_of-closed g c = record {
  closed = closed_on g.R.Region.tells g.R.Region.extent g.R.Region.count g.R.Region.burns g.R.Region.image g.R.Region.may_leave c.args.closed.now.region c.reopen.new.self c.args.closed.now.free c.args.closed.now.target c.args.closed.now.targets
      c.reopen.ensures.extent c.reopen.ensures.crash c.args.closed.now.closed;
}

pub returns-clause-region : goal.returns-clause-region
returns-clause-region g c = region_reopened g.R.Region.tells g.R.Region.extent g.R.Region.count g.R.Region.burns g.R.Region.image g.R.Region.may_leave c.args.closed.now.region c.reopen.new.self c.reopen.result
    g.met.R.Region.leaves_some c.reopen.ensures.extent c.reopen.ensures.cause c.reopen.ensures.crash c.reopen.ensures.lasting
