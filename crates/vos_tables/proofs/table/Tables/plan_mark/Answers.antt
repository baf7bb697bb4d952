use Rattle.std.proofs.Common.{◌≤◌, ◌/◌, ◌∷◌, [], sym, subst, arith}
use Rattle.std.specs.Option.{option_to_list}
use Rattle.daos_model.specs.Changes.{marked}
use Rattle.vos_places.specs.Laws.{with_cont}
use Rattle.vos_store.specs.Conditions.{IsLeased}
use Rattle.vos_tables.specs.declared.change.Change.TheVariants.{Cont}
use Rattle.vos_tables.specs.Changes.{AllFit, all_changed}
use Rattle.vos_tables.specs.Kept.{Makes, MakesWhere}
use Rattle.vos_tables.proofs.Planning.{mark_fits, mark_makes, mark_none}
use Rattle.vos_tables.proofs.table.Tables.plan_mark.Goals as goal

pub returns-in_err-at-clause-marked : goal.returns-in_err-at-clause-marked
returns-in_err-at-clause-marked c =
    subst (λ o. MakesWhere (IsLeased c.args.upto) (marked c.args.cont c.args.upto c.args.number) c.args.self.now (all_changed (option_to_list o) c.args.self.now)) (sym c.from_residual.ensures)
    (λ vs es _. mark_none c.args.self.now c.args.cont c.args.upto c.args.number c.in_err-at.ensures.found vs es)

pub returns-clause-fits : goal.returns-clause-fits
returns-clause-fits c =
    let low : c.args.upto.0 / 256 ≤ c.args.self.now.header.lease = omega (arith, c.lease.ensures) in
    subst (λ r. AllFit c.args.self.now (Cont c.in_ok-at.at r ∷ [])) (sym c.marked.ensures)
    (mark_fits c.tables_stay_apart.ensures.change c.args.self.now c.args.cont c.args.upto c.args.number c.in_ok-at.at c.in_ok-at.row c.in_ok-at.ensures.table c.in_ok-at.ensures.found low c.ranges.number.fits)

pub returns-clause-marked : goal.returns-clause-marked
returns-clause-marked c = λ vs es _.
    subst (λ r. Makes (marked c.args.cont c.args.upto c.args.number) c.args.self.now (with_cont c.in_ok-at.at r c.args.self.now)) (sym c.marked.ensures)
    (mark_makes c.args.self.now c.args.cont c.args.upto c.args.number c.in_ok-at.at c.in_ok-at.row c.in_ok-at.ensures.table c.in_ok-at.ensures.found) vs es
