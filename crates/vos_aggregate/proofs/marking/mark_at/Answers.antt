use Rattle.std.proofs.Common.{ap, get_or}
use Rattle.vos_aggregate.proofs.Plans.{last-at}
use Rattle.vos_aggregate.proofs.marking.mark_at.Goals as goal

pub mark_one-requires-clause-last : goal.mark_one-requires-clause-last
mark_one-requires-clause-last c =
    last-at c.args.plan.now.versions.now c.args.at (get_or c.args.plan.now.versions.now c.args.at c.index-plan-at.result) c.requires.at
    (ap (λ v. get_or c.args.plan.now.versions.now c.args.at v) c.index-plan-at.is)
