use Rattle.std.proofs.Common.{◌≡◌, IfOk, subst}
use Rattle.daos_model.specs.declared.durable.Durable.{Durable}
use Rattle.vos_pool_held.specs.Laws.{held_told}
use Rattle.vos_pool_held.proofs.held.Held.snaps.Goals as goal

pub returns : goal.returns
returns g c run d is = subst (λ (x : Durable). IfOk c.snaps.result (λ snaps. snaps ≡ x.snaps)) (held_told g.R.Region.count g.R.Region.burns g.R.Region.can_burn c.args.self.now run d is) c.snaps.ensures
