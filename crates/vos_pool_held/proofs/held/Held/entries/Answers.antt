use Rattle.std.proofs.Common.{◌≡◌, ◌∙◌, subst, sym}
use Rattle.daos_model.specs.declared.durable.Durable.{Durable}
use Rattle.vos_pool_held.specs.Laws.{held_told}
use Rattle.vos_pool_held.proofs.held.Held.entries.Goals as goal

pub returns-in-Ok-clause-answer : goal.returns-in-Ok-clause-answer
returns-in-Ok-clause-answer g c d is = subst (λ (x : Durable). c.in-Ok.entries ≡ x.entries) (held_told g.R.Region.count g.R.Region.burns g.R.Region.can_burn c.args.self.now (sym c.is_stopped.ensures ∙ c.if-is_stopped.false) d is) c.in-Ok.ensures
