use Rattle.std.proofs.Common.{◌≡◌, subst}
use Rattle.vos_pool_held.specs.Laws.{held_told}
use Rattle.vos_store.specs.Answers.{open_below}
use Rattle.vos_pool_held.proofs.held.Held.open_below.Goals as goal

pub returns : goal.returns
returns g c run d is = subst (λ x. c.open_below.result ≡ open_below c.args.cont c.args.upto x) (held_told g.R.Region.count g.R.Region.burns g.R.Region.can_burn c.args.self.now run d is) c.open_below.ensures
