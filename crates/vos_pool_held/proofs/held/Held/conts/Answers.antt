use Rattle.std.proofs.Common.{◌≡◌, IfOk, subst}
use Rattle.vos_pool_held.specs.Laws.{held_told}
use Rattle.vos_store.specs.Answers.{enlisted_in}
use Rattle.vos_pool_held.proofs.held.Held.conts.Goals as goal

pub returns : goal.returns
returns g c run d is = subst (λ x. IfOk c.enlisted.result (λ conts. conts ≡ enlisted_in x)) (held_told g.R.Region.count g.R.Region.burns g.R.Region.can_burn c.args.self.now run d is) c.enlisted.ensures
