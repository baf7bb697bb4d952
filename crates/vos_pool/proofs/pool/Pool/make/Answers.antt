use Rattle.vos_pool.proofs.Begun.{begun_made}
use Rattle.vos_pool.proofs.pool.Pool.make.Goals as goal

pub returns-in-Ok-clause-made : goal.returns-in-Ok-clause-made
returns-in-Ok-clause-made g c = begun_made g.R.Region.count g.R.Region.burns g.R.Region.can_burn c.args.target c.args.targets c.args.region c.in-Ok.held c.in-Ok.ensures.begun
