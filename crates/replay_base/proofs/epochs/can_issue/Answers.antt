use Rattle.std.proofs.Common.{arith, ◌∙◌, sym}
use Rattle.replay_base.proofs.Issuing.{issue_decides, never_issued}
use Rattle.replay_base.proofs.epochs.can_issue.Goals as goal

pub returns-in-Some : goal.returns-in-Some
returns-in-Some c = issue_decides c.args.me c.args.ticks c.in-Some.least c.args.tracker c.args.epoch c.is_own.result (omega arith) (sym c.least_ticks.ensures ∙ c.in-Some.is) c.is_own.ensures

pub returns-in-None : goal.returns-in-None
returns-in-None c = (
  λ e. let bad : ⊥ = cc in absurd bad,
  λ can. absurd (never_issued c.args.me c.args.ticks c.args.tracker c.args.epoch (omega arith) (sym c.least_ticks.ensures ∙ c.in-None.is) can),
)
