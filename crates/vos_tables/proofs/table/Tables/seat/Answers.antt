use Rattle.std.proofs.Common.{◌≡◌, ◌∷◌, [], ◌++◌, Some, None, sym, subst, ◌∙◌, arith, slice_set}
use Rattle.daos_model.specs.Changes.{with_cont}
use Rattle.daos_model.specs.Durables.{cont_key, new_row}
use Rattle.daos_model.specs.Ordered.{in_order}
use Rattle.vos_places.specs.Codec.{IsContUnder}
use Rattle.vos_places.specs.Laws.{covered_by}
use Rattle.vos_places.specs.Tables.{those}
use Rattle.vos_tables.specs.declared.change.Change.TheVariants.{Cont}
use Rattle.vos_tables.specs.Seats.{AreSeated, FindsCont, FindsUnused}
use Rattle.vos_tables.proofs.Seating.{seat_absent, seat_more, seat_one, seat_there, seat_within, seated_more, seated_one}
use Rattle.vos_tables.proofs.table.Tables.seat.Goals as goal

pub returns-then-is_some-clause-one : goal.returns-then-is_some-clause-one
returns-then-is_some-clause-one c =
    let found : FindsCont c.args.cont c.args.seating.now.seats.items c.cont_at.result = subst (λ z. FindsCont c.args.cont z c.cont_at.result) c.deref.ensures.value c.cont_at.ensures in
    seat_there c.args.cont c.args.seating.now.seats.items c.cont_at.result (sym c.is_some.ensures ∙ c.if-is_some.true) found

pub overflow_cast-at : goal.overflow_cast-at
overflow_cast-at c =
    let unused : FindsUnused c.args.seating.now.seats.items (Some c.in-Some.at) = subst (λ z. FindsUnused z (Some c.in-Some.at)) c.deref-2.ensures.value c.in-Some.ensures in
    let within = seat_within c.args.self.now c.args.seating.now.seats.items c.args.seating.now.changes.items c.in-Some.at c.requires unused in
    omega (arith, within.1)

pub returns-in_ok-push-in-Some-clause-seated : goal.returns-in_ok-push-in-Some-clause-seated
returns-in_ok-push-in-Some-clause-seated c =
    let os = c.args.seating.now.seats.items in
    let none : FindsCont c.args.cont os None = seat_absent c.args.cont os c.cont_at.result (sym c.is_some.ensures ∙ c.if-is_some.false) (subst (λ z. FindsCont c.args.cont z c.cont_at.result) c.deref.ensures.value c.cont_at.ensures) in
    let unused : FindsUnused os (Some c.in-Some.at) = subst (λ z. FindsUnused z (Some c.in-Some.at)) c.deref-2.ensures.value c.in-Some.ensures in
    let row = c.new_row-row.ensures.row in
    let small : IsContUnder (covered_by c.args.self.now.header) (new_row c.args.cont) = subst (IsContUnder (covered_by c.args.self.now.header)) row (c.new_row-row.ensures.fits (covered_by c.args.self.now.header)) in
    subst (λ z. AreSeated c.args.self.now (slice_set os c.in-Some.at (Some c.new_row-row.result)) z) (sym c.in_ok-push-in-Some.ensures.items)
    (subst (λ r. AreSeated c.args.self.now (slice_set os c.in-Some.at (Some r)) (c.args.seating.now.changes.items ++ Cont c.in-Some.at r ∷ [])) (sym row)
    (seated_one c.tables_stay_apart.ensures.come c.args.self.now c.args.cont os c.args.seating.now.changes.items c.in-Some.at c.requires none unused small))

pub returns-in_ok-push-in-Some-clause-one : goal.returns-in_ok-push-in-Some-clause-one
returns-in_ok-push-in-Some-clause-one c =
    let os = c.args.seating.now.seats.items in
    let none : FindsCont c.args.cont os None = seat_absent c.args.cont os c.cont_at.result (sym c.is_some.ensures ∙ c.if-is_some.false) (subst (λ z. FindsCont c.args.cont z c.cont_at.result) c.deref.ensures.value c.cont_at.ensures) in
    let unused : FindsUnused os (Some c.in-Some.at) = subst (λ z. FindsUnused z (Some c.in-Some.at)) c.deref-2.ensures.value c.in-Some.ensures in
    subst (λ r. in_order cont_key (those (slice_set os c.in-Some.at (Some r))) ≡ with_cont c.args.cont (in_order cont_key (those os))) (sym c.new_row-row.ensures.row)
    (seat_one c.args.cont os c.in-Some.at none unused)

pub returns-in_ok-push-in-None-clause-seated : goal.returns-in_ok-push-in-None-clause-seated
returns-in_ok-push-in-None-clause-seated c =
    let os = c.args.seating.now.seats.items in
    let full : FindsUnused os None = subst (λ z. FindsUnused z None) c.deref-2.ensures.value c.in-None.ensures in
    subst (λ z. AreSeated c.args.self.now z c.args.seating.now.changes.items) (sym c.in_ok-push-in-None.ensures.items)
    (subst (λ r. AreSeated c.args.self.now (os ++ Some r ∷ []) c.args.seating.now.changes.items) (sym c.new_row-row.ensures.row)
    (seated_more c.args.self.now c.args.cont os c.args.seating.now.changes.items c.requires full))

pub returns-in_ok-push-in-None-clause-one : goal.returns-in_ok-push-in-None-clause-one
returns-in_ok-push-in-None-clause-one c =
    let os = c.args.seating.now.seats.items in
    let none : FindsCont c.args.cont os None = seat_absent c.args.cont os c.cont_at.result (sym c.is_some.ensures ∙ c.if-is_some.false) (subst (λ z. FindsCont c.args.cont z c.cont_at.result) c.deref.ensures.value c.cont_at.ensures) in
    subst (λ z. in_order cont_key (those z) ≡ with_cont c.args.cont (in_order cont_key (those os))) (sym c.in_ok-push-in-None.ensures.items)
    (subst (λ r. in_order cont_key (those (os ++ Some r ∷ [])) ≡ with_cont c.args.cont (in_order cont_key (those os))) (sym c.new_row-row.ensures.row)
    (seat_more c.args.cont os none))
