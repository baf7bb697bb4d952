use Rattle.std.specs.Option.{ForSome}
use Rattle.vos_pool.proofs.Sites.{where_open}
use Rattle.vos_store.specs.Calls.{IfRunning}
use Rattle.vos_store.specs.Conditions.{CanFreeze}
use Rattle.vos_pool.proofs.storing.PoolStore.freeze.Goals as goal

pub freeze-requires : goal.freeze-requires
freeze-requires g c = where_open g.R.Region.count g.R.Region.burns g.R.Region.can_burn (λ s d. IfRunning s (ForSome d (CanFreeze c.args.cont c.args.s))) c.args.self.now.site c.in-Open.held c.in-Open.is c.requires
