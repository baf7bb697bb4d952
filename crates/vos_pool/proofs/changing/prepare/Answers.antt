use Rattle.std.specs.Option.{ForSome}
use Rattle.vos_pool.proofs.Sites.{where_open}
use Rattle.vos_store.specs.Calls.{IfRunning}
use Rattle.vos_store.specs.Conditions.{CanPrepare}
use Rattle.vos_pool.proofs.changing.prepare.Goals as goal

pub prepare-held-requires-clause-here : goal.prepare-held-requires-clause-here
prepare-held-requires-clause-here g c = where_open g.R.Region.count g.R.Region.burns g.R.Region.can_burn (λ s d. IfRunning s (ForSome d (CanPrepare s c.args.asked.0.now c.args.asked.1.now))) c.args.site c.in-Open.held c.in-Open.is c.requires.here
