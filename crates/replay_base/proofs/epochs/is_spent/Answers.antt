use Rattle.std.proofs.Common.{◌∙◌, refl, sym}
use Rattle.replay_base.proofs.Issuing.{spent_so, unspent}
use Rattle.replay_base.proofs.epochs.is_spent.Goals as goal

pub returns-in-Some : goal.returns-in-Some
returns-in-Some c = (
  λ e. let bad : ⊥ = cc in absurd bad,
  λ spent. absurd (unspent c.args.plan c.args.memory.now c.args.tracker c.in-Some._least (sym c.least_ticks.ensures ∙ c.in-Some.is) spent),
)

pub returns-in-None : goal.returns-in-None
returns-in-None c = (λ e. spent_so c.args.plan c.args.memory.now c.args.tracker (sym c.least_ticks.ensures ∙ c.in-None.is), λ spent. refl)
