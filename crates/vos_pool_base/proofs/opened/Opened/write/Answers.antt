use Rattle.std.specs.Prelude.{false, true, refl, Ok}
use Rattle.std.proofs.Common.{◌∙◌, ap, sym, subst}
use Rattle.vos_standing.specs.vos_image.Places.{Header}
use Rattle.vos_standing.specs.vos_places.Tables.{Table}
use Rattle.vos_pool_base.specs.Pool.{IsOpened, OpenedState, ranges_of}
use Rattle.vos_pool_base.proofs.Staging.{with_ranges}
use Rattle.vos_pool_base.proofs.Writing.{call_makes, err_is_not_ok, opened_after}
use Rattle.vos_pool_base.proofs.Changing.{changes_stand, headers_stay}
use Rattle.vos_pool_base.proofs.Leaving.{call_leaves, call_tidies, changes_free, changes_same, same_pool}
use Rattle.vos_pool_base.specs.Tidy.{IsSamePool}
use Rattle.vos_tables.specs.Changes.{AllFit, all_changed}
use Rattle.vos_pool_base.proofs.opened.Opened.write.Goals as goal

pub returns-in_err-commit-clause-makes : goal.returns-in_err-commit-clause-makes
returns-in_err-commit-clause-makes g c =
    let old = c.args.self.now in
    let inv = subst (λ (p : OpenedState _). IsOpened (g.R.Region.extent p.blocks.undo.region) g.R.Region.tells (g.R.Region.image p.blocks.undo.region) p.blocks.undo.staged p.blocks.undo.stopped p.blocks.map p.blocks.lasting p.table) c.self.view_is c.self.invariant in
    let k = c.in_err-commit.ensures in
    call_makes g.R.Region.extent g.R.Region.tells g.R.Region.image g.R.Region.may_leave old c.commit.new.blocks (all_changed c.args.changes.now old.table) c.self.inside.tables (ranges_of c.args.changes.now) c.from_residual.result
    c.stage.new.blocks (c.stage.ensures ∙ ap (λ (p : OpenedState _). with_ranges (ranges_of c.args.changes.now) p.blocks) c.self.view_is) false (err_is_not_ok c.from_residual.result c.from_residual.ensures.0)
    (record { committed = k.committed; untouched = k.untouched; running = λ no_ok. absurd (cc); size = k.size })
    (ap (λ (p : OpenedState _). p.table.header.target) c.self.view_is) inv.stands
    (λ x. changes_stand old.table.header.target (g.R.Region.extent old.blocks.undo.region) (g.R.Region.image old.blocks.undo.region) old.table x c.args.changes.now c.requires.fits)

pub returns-clause-makes : goal.returns-clause-makes
returns-clause-makes g c =
    let old = c.args.self.now in
    let inv = subst (λ (p : OpenedState _). IsOpened (g.R.Region.extent p.blocks.undo.region) g.R.Region.tells (g.R.Region.image p.blocks.undo.region) p.blocks.undo.staged p.blocks.undo.stopped p.blocks.map p.blocks.lasting p.table) c.self.view_is c.self.invariant in
    let k = c.in_ok-commit.ensures in
    call_makes g.R.Region.extent g.R.Region.tells g.R.Region.image g.R.Region.may_leave old c.commit.new.blocks (all_changed c.args.changes.now old.table) c.apply_all.new.self (ranges_of c.args.changes.now) (Ok tt)
    c.stage.new.blocks (c.stage.ensures ∙ ap (λ (p : OpenedState _). with_ranges (ranges_of c.args.changes.now) p.blocks) c.self.view_is) true refl
    (record { committed = k.committed; untouched = k.untouched; running = λ well. k.running; size = k.size })
    (ap (λ (t : Table). t.header.target) c.apply_all.ensures ∙ ap (λ (h : Header). h.target) (headers_stay c.args.changes.now c.self.inside.tables) ∙ ap (λ (p : OpenedState _). p.table.header.target) c.self.view_is) inv.stands
    (λ x. changes_stand old.table.header.target (g.R.Region.extent old.blocks.undo.region) (g.R.Region.image old.blocks.undo.region) old.table x c.args.changes.now c.requires.fits)

pub invariant_of-self-2 : goal.invariant_of-self-2
invariant_of-self-2 g c =
    let k = c.in_ok-commit.ensures in
    let fits = subst (λ (p : OpenedState _). AllFit p.table c.args.changes.now) (sym c.self.view_is) c.requires.fits in
    opened_after g.R.Region.extent g.R.Region.tells g.R.Region.image g.R.Region.may_leave c.self.inside.blocks c.self.inside.tables (all_changed c.args.changes.now c.self.inside.tables) c.apply_all.new.self (ranges_of c.args.changes.now) c.stage.new.blocks c.commit.new.blocks (c.stage.ensures)
    (record { committed = k.committed; untouched = k.untouched; running = λ well. k.running; size = k.size }) k.unstaged k.lasting c.apply_all.ensures (ap (λ (h : Header). h.target) (headers_stay c.args.changes.now c.self.inside.tables)) c.self.invariant.stands
    (λ x. changes_stand c.self.inside.tables.header.target (g.R.Region.extent c.self.inside.blocks.undo.region) (g.R.Region.image c.self.inside.blocks.undo.region) c.self.inside.tables x c.args.changes.now fits)

pub returns-in_err-commit-clause-left : goal.returns-in_err-commit-clause-left
returns-in_err-commit-clause-left g c =
    let old = c.args.self.now in
    let inv = subst (λ (p : OpenedState _). IsOpened (g.R.Region.extent p.blocks.undo.region) g.R.Region.tells (g.R.Region.image p.blocks.undo.region) p.blocks.undo.staged p.blocks.undo.stopped p.blocks.map p.blocks.lasting p.table) c.self.view_is c.self.invariant in
    let k = c.in_err-commit.ensures in
    call_leaves g.R.Region.extent g.R.Region.tells g.R.Region.image g.R.Region.may_leave old c.commit.new.blocks (all_changed c.args.changes.now old.table) c.self.inside.tables (ranges_of c.args.changes.now) false
    c.stage.new.blocks (c.stage.ensures ∙ ap (λ (p : OpenedState _). with_ranges (ranges_of c.args.changes.now) p.blocks) c.self.view_is)
    (record { committed = k.committed; untouched = k.untouched; running = λ no_ok. absurd (cc); size = k.size }) (changes_same c.args.changes.now old.table)
    (subst (λ (p : OpenedState _). IsSamePool p.table c.self.inside.tables) c.self.view_is (same_pool c.self.inside.tables)) inv.stands
    (λ x. changes_stand old.table.header.target (g.R.Region.extent old.blocks.undo.region) (g.R.Region.image old.blocks.undo.region) old.table x c.args.changes.now c.requires.fits)
    (changes_free (g.R.Region.extent old.blocks.undo.region) old.table c.args.changes.now (g.R.Region.image old.blocks.undo.region) c.requires.fits)

pub returns-clause-left : goal.returns-clause-left
returns-clause-left g c =
    let old = c.args.self.now in
    let inv = subst (λ (p : OpenedState _). IsOpened (g.R.Region.extent p.blocks.undo.region) g.R.Region.tells (g.R.Region.image p.blocks.undo.region) p.blocks.undo.staged p.blocks.undo.stopped p.blocks.map p.blocks.lasting p.table) c.self.view_is c.self.invariant in
    let k = c.in_ok-commit.ensures in
    call_leaves g.R.Region.extent g.R.Region.tells g.R.Region.image g.R.Region.may_leave old c.commit.new.blocks (all_changed c.args.changes.now old.table) c.apply_all.new.self (ranges_of c.args.changes.now) true
    c.stage.new.blocks (c.stage.ensures ∙ ap (λ (p : OpenedState _). with_ranges (ranges_of c.args.changes.now) p.blocks) c.self.view_is)
    (record { committed = k.committed; untouched = k.untouched; running = λ well. k.running; size = k.size }) (changes_same c.args.changes.now old.table)
    (subst (λ (p : OpenedState _). IsSamePool p.table c.apply_all.new.self) c.self.view_is (subst (λ (t : Table). IsSamePool c.self.inside.tables t) (sym c.apply_all.ensures) (changes_same c.args.changes.now c.self.inside.tables))) inv.stands
    (λ x. changes_stand old.table.header.target (g.R.Region.extent old.blocks.undo.region) (g.R.Region.image old.blocks.undo.region) old.table x c.args.changes.now c.requires.fits)
    (changes_free (g.R.Region.extent old.blocks.undo.region) old.table c.args.changes.now (g.R.Region.image old.blocks.undo.region) c.requires.fits)

pub returns-clause-tidy : goal.returns-clause-tidy
returns-clause-tidy g c =
    let old = c.args.self.now in
    let k = c.in_ok-commit.ensures in
    call_tidies g.R.Region.extent g.R.Region.tells g.R.Region.image g.R.Region.may_leave old c.commit.new.blocks (all_changed c.args.changes.now old.table) c.apply_all.new.self (ranges_of c.args.changes.now)
    c.stage.new.blocks (c.stage.ensures ∙ ap (λ (p : OpenedState _). with_ranges (ranges_of c.args.changes.now) p.blocks) c.self.view_is)
    (record { committed = k.committed; untouched = k.untouched; running = λ well. k.running; size = k.size }) (c.apply_all.ensures ∙ ap (λ (p : OpenedState _). all_changed c.args.changes.now p.table) c.self.view_is) (changes_same c.args.changes.now old.table)
    (λ x. changes_stand old.table.header.target (g.R.Region.extent old.blocks.undo.region) (g.R.Region.image old.blocks.undo.region) old.table x c.args.changes.now c.requires.fits)
