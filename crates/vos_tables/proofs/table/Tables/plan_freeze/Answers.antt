use Rattle.std.proofs.Common.{◌≡◌, ◌≤◌, ◌/◌, ◌∷◌, [], None, Ok, true, sym, subst, ◌∙◌, arith}
use Rattle.std.specs.Prelude.{is_some}
use Rattle.base_types.specs.declared.outcome.FloorWhy.TheVariants.{Snapshot}
use Rattle.daos_model.specs.Changes.{frozen, new_snap, raised}
use Rattle.vos_places.specs.Codec.{IsSnap}
use Rattle.vos_store.specs.Answers.{freezes}
use Rattle.vos_tables.specs.declared.change.Change.TheVariants as change
use Rattle.vos_tables.specs.Changes.{AllFit, all_changed}
use Rattle.vos_tables.specs.Kept.{Makes, OfKept}
use Rattle.vos_tables.specs.Seats.{FindsSnap}
use Rattle.vos_tables.proofs.Planning.{freeze_again, freeze_fits, freeze_free, freeze_full, freeze_low, freeze_makes, freeze_there, not_found, not_there, where_found}
use Rattle.vos_tables.proofs.table.Tables.plan_freeze.Goals as goal

pub returns-in_default-clause-answer : goal.returns-in_default-clause-answer
returns-in_default-clause-answer c = λ vs es can. not_there c.args.self.now c.args.cont c.args.s vs es c.in_default.ensures.found can

pub returns-in_default-clause-frozen : goal.returns-in_default-clause-frozen
returns-in_default-clause-frozen c = λ vs es can. not_there c.args.self.now c.args.cont c.args.s vs es c.in_default.ensures.found can

pub returns-then-s-row-clause-answer : goal.returns-then-s-row-clause-answer
returns-then-s-row-clause-answer c = λ vs es can. sym (freeze_low c.args.self.now c.args.cont c.args.s c.in-Some.at c.in-Some.row c.in-Some.ensures.table c.in-Some.ensures.found c.if-s-row.true vs es)

pub returns-then-is_some-clause-answer : goal.returns-then-is_some-clause-answer
returns-then-is_some-clause-answer c =
    let t = c.args.self.now in
    let some : is_some c.snap_at.result ≡ true = sym c.is_some.ensures ∙ c.if-is_some.true in
    λ vs es can. sym (where_found c.args.cont c.args.s t.snaps (OfKept t (λ d. freezes c.args.cont c.args.s d ≡ Ok tt)) c.snap_at.result some c.snap_at.ensures.found
    (λ i x found. freeze_there t c.args.cont c.args.s c.in-Some.at i c.in-Some.row x c.in-Some.ensures.table c.in-Some.ensures.found c.if-s-row.false found) vs es)

pub returns-then-is_some-clause-frozen : goal.returns-then-is_some-clause-frozen
returns-then-is_some-clause-frozen c =
    let t = c.args.self.now in
    let some : is_some c.snap_at.result ≡ true = sym c.is_some.ensures ∙ c.if-is_some.true in
    λ vs es can. where_found c.args.cont c.args.s t.snaps (Makes (frozen c.args.cont c.args.s) t t) c.snap_at.result some c.snap_at.ensures.found
    (λ i x found. freeze_again t c.args.cont c.args.s i x c.in-Some.ensures.table found) vs es

pub returns-in_default-free_snap-clause-answer : goal.returns-in_default-free_snap-clause-answer
returns-in_default-free_snap-clause-answer c =
    let t = c.args.self.now in
    let none : FindsSnap c.args.cont c.args.s t.snaps None = not_found c.args.cont c.args.s t.snaps c.snap_at.result (sym c.is_some.ensures ∙ c.if-is_some.false) c.snap_at.ensures.found in
    λ vs es can. sym (freeze_full t c.args.cont c.args.s c.in-Some.at c.in-Some.row c.in-Some.ensures.table c.in-Some.ensures.found c.if-s-row.false none c.in_default-free_snap.ensures vs es)

pub returns-clause-fits : goal.returns-clause-fits
returns-clause-fits c =
    let t = c.args.self.now in
    let none : FindsSnap c.args.cont c.args.s t.snaps None = not_found c.args.cont c.args.s t.snaps c.snap_at.result (sym c.is_some.ensures ∙ c.if-is_some.false) c.snap_at.ensures.found in
    let small : IsSnap (new_snap c.args.cont c.args.s) = subst IsSnap c.new_snap-snap.ensures.snap c.new_snap-snap.ensures.fits in
    let low : c.args.s.0 / 256 ≤ t.header.lease = omega (arith, c.lease.ensures) in
    subst (λ r. AllFit t (change.Snapshot c.in-Some-free_snap.free c.new_snap-snap.result ∷ change.Cont c.in-Some.at r ∷ [])) (sym c.raised-row.ensures)
    (subst (λ x. AllFit t (change.Snapshot c.in-Some-free_snap.free x ∷ change.Cont c.in-Some.at (raised c.args.s (Snapshot c.args.s) c.in-Some.row) ∷ [])) (sym c.new_snap-snap.ensures.snap)
    (freeze_fits c.tables_stay_apart.ensures.change c.tables_stay_apart.ensures.snap_come t c.args.cont c.args.s c.in-Some.at c.in-Some-free_snap.free c.in-Some.row c.in-Some.ensures.table c.in-Some.ensures.found none c.in-Some-free_snap.ensures low small))

pub returns-clause-answer : goal.returns-clause-answer
returns-clause-answer c =
    let t = c.args.self.now in
    let none : FindsSnap c.args.cont c.args.s t.snaps None = not_found c.args.cont c.args.s t.snaps c.snap_at.result (sym c.is_some.ensures ∙ c.if-is_some.false) c.snap_at.ensures.found in
    λ vs es can. sym (freeze_free t c.args.cont c.args.s c.in-Some.at c.in-Some-free_snap.free c.in-Some.row c.in-Some.ensures.table c.in-Some.ensures.found c.if-s-row.false none c.in-Some-free_snap.ensures vs es)

pub returns-clause-frozen : goal.returns-clause-frozen
returns-clause-frozen c =
    let t = c.args.self.now in
    let none : FindsSnap c.args.cont c.args.s t.snaps None = not_found c.args.cont c.args.s t.snaps c.snap_at.result (sym c.is_some.ensures ∙ c.if-is_some.false) c.snap_at.ensures.found in
    λ vs es can. subst (λ r. Makes (frozen c.args.cont c.args.s) t (all_changed (change.Snapshot c.in-Some-free_snap.free c.new_snap-snap.result ∷ change.Cont c.in-Some.at r ∷ []) t)) (sym c.raised-row.ensures)
    (subst (λ x. Makes (frozen c.args.cont c.args.s) t (all_changed (change.Snapshot c.in-Some-free_snap.free x ∷ change.Cont c.in-Some.at (raised c.args.s (Snapshot c.args.s) c.in-Some.row) ∷ []) t)) (sym c.new_snap-snap.ensures.snap)
    (freeze_makes t c.args.cont c.args.s c.in-Some.at c.in-Some-free_snap.free c.in-Some.row c.in-Some.ensures.table c.in-Some.ensures.found none c.in-Some-free_snap.ensures)) vs es
