use Rattle.std.proofs.Common.{◌≡◌, subst}
use Rattle.vos_pool_held.specs.Laws.{held_told}
use Rattle.vos_store.specs.Answers.{floor_of}
use Rattle.vos_pool_held.proofs.held.Held.floor.Goals as goal

pub returns-clause-floor : goal.returns-clause-floor
returns-clause-floor g c run d is = subst (λ x. c.floor.result ≡ floor_of (c.args.self.now.floor, c.args.self.now.why) x c.args.cont) (held_told g.R.Region.count g.R.Region.burns g.R.Region.can_burn c.args.self.now run d is) c.floor.ensures.floor
