use Rattle.std.proofs.Common.{sym, subst}
use Rattle.std.specs.Option.{option_to_list}
use Rattle.daos_model.specs.Changes.{thawed}
use Rattle.vos_tables.specs.Changes.{all_changed}
use Rattle.vos_tables.specs.Kept.{Makes}
use Rattle.vos_tables.proofs.Planning.{thaw_makes, thaw_none}
use Rattle.vos_tables.proofs.table.Tables.plan_thaw.Goals as goal

pub returns-in_err-at-clause-thawed : goal.returns-in_err-at-clause-thawed
returns-in_err-at-clause-thawed c =
    subst (λ o. Makes (thawed c.args.cont c.args.s) c.args.self.now (all_changed (option_to_list o) c.args.self.now)) (sym c.from_residual.ensures)
    (thaw_none c.args.self.now c.args.cont c.args.s c.in_err-at.ensures.found)

pub returns-clause-thawed : goal.returns-clause-thawed
returns-clause-thawed c = thaw_makes c.args.self.now c.args.cont c.args.s c.in_ok-at.at c.in_ok-at.field-0-1 c.snap_at.ensures.table c.in_ok-at.ensures.found
