use Rattle.std.proofs.Common.{◌≡◌, ◌∙◌, Ok, ap, subst, sym}
use Rattle.vos_pool_held.specs.Laws.{held_told}
use Rattle.vos_store.specs.Answers.{later_write}
use Rattle.vos_pool_held.proofs.held.Held.later_write.Goals as goal

pub returns-in-Ok-clause-answer : goal.returns-in-Ok-clause-answer
returns-in-Ok-clause-answer g c d is free = ap (λ z. Ok z) (subst (λ x. c.in-Ok.shown ≡ later_write c.args.path.now c.args.above c.args.upto x) (held_told g.R.Region.count g.R.Region.burns g.R.Region.can_burn c.args.self.now (sym c.is_stopped.ensures ∙ c.if-is_stopped.false) d is) c.in-Ok.ensures.answer)
