use Rattle.std.proofs.Common.{Bool, List, sym, subst}
use Rattle.vos_aggregate.specs.Sparing.{ArePlanned}
use Rattle.vos_aggregate.proofs.Plans.{planned-spared}
use Rattle.vos_aggregate.proofs.sparing.spare_level.Goals as goal

pub returns-clause-planned : goal.returns-clause-planned
returns-clause-planned c =
    subst (λ (ms : List Bool). ArePlanned c.args.plan.now.cont c.args.plan.now.upto c.args.later.now.from ms c.args.later.now.versions.now) (sym c.spare_in_chain.ensures)
    (planned-spared c.args.plan.now.cont c.args.plan.now.upto c.args.later.now.from c.args.marks.now c.args.later.now.versions.now c.args.level c.args.path.now c.args.later.now.later.plain c.requires.planned)
