use Rattle.std.specs.Option.{ForSome}
use Rattle.vos_pool.proofs.Sites.{where_open}
use Rattle.vos_store.specs.Calls.{IfRunning}
use Rattle.vos_store.specs.Conditions.{CanPrune}
use Rattle.vos_pool.proofs.changing.prune.Goals as goal

pub prune-held-requires : goal.prune-held-requires
prune-held-requires g c = where_open g.R.Region.count g.R.Region.burns g.R.Region.can_burn (λ s d. IfRunning s (ForSome d (CanPrune c.args.asked.0 c.args.asked.1))) c.args.site c.in-Open.held c.in-Open.is c.requires
