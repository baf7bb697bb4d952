use Rattle.std.proofs.Common.{sym, subst}
use Rattle.std.specs.Option.{option_to_list}
use Rattle.daos_model.specs.Changes.{created}
use Rattle.vos_tables.specs.Changes.{all_changed}
use Rattle.vos_tables.specs.Kept.{Makes}
use Rattle.vos_tables.proofs.Planning.{create_makes, create_none}
use Rattle.vos_tables.proofs.table.Tables.plan_create.Goals as goal

pub returns-in_err-at-clause-created : goal.returns-in_err-at-clause-created
returns-in_err-at-clause-created c =
    subst (λ o. Makes (created c.args.cont c.args.s) c.args.self.now (all_changed (option_to_list o) c.args.self.now)) (sym c.from_residual.ensures)
    (create_none c.args.self.now c.args.cont c.args.s c.in_err-at.ensures.found)

pub returns-clause-created : goal.returns-clause-created
returns-clause-created c = create_makes c.args.self.now c.args.cont c.args.s c.in_ok-at.at c.in_ok-at.snap c.snap_at.ensures.table c.in_ok-at.ensures.found
