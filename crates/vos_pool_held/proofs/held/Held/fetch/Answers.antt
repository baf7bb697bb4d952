use Rattle.std.proofs.Common.{◌≡◌, ◌∙◌, subst, sym}
use Rattle.vos_pool_held.specs.Laws.{held_told}
use Rattle.vos_store.specs.Answers.{fetched}
use Rattle.vos_pool_held.proofs.held.Held.fetch.Goals as goal

pub returns-clause-answer : goal.returns-clause-answer
returns-clause-answer g c d is free = subst (λ x. c.fetch.result ≡ fetched c.args.read.now c.args.below x) (held_told g.R.Region.count g.R.Region.burns g.R.Region.can_burn c.args.self.now (sym c.is_stopped.ensures ∙ c.if-is_stopped.false) d is) (c.fetch.ensures.answer free)
