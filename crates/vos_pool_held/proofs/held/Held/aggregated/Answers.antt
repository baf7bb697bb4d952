use Rattle.std.proofs.Common.{◌≡◌, ap, subst}
use Rattle.daos_model.specs.declared.durable.ContRow.{ContRow}
use Rattle.daos_model.specs.Durables.{row_of}
use Rattle.vos_pool_held.specs.Laws.{held_told}
use Rattle.vos_pool_held.proofs.held.Held.aggregated.Goals as goal

pub returns : goal.returns
returns g c run d is = subst (λ x. c.row.result.aggregated ≡ (row_of x c.args.cont).aggregated) (held_told g.R.Region.count g.R.Region.burns g.R.Region.can_burn c.args.self.now run d is) (ap (λ (r : ContRow). r.aggregated) c.row.ensures)
