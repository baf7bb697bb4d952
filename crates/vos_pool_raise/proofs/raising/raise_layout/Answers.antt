use Rattle.std.specs.Prelude.{◌≡◌, ◌++◌, ◌∷◌, [], false, true, refl, Ok, OnOk}
use Rattle.std.proofs.Common.{◌∙◌, ap, subst}
use Rattle.vos_pool_base.specs.vos_places.Tables.{Table}
use Rattle.vos_pool_base.specs.Pool.{IsOpened, OpenedState}
use Rattle.vos_pool_base.specs.vos_tables.Tables.{raised}
use Rattle.vos_pool_base.proofs.Staging.{one_staged, with_ranges}
use Rattle.vos_pool_base.proofs.Writing.{err_is_not_ok, opened_after}
use Rattle.vos_pool_raise.proofs.Commits.{raise_is_quiet, raise_leaves, stands_after, stands_then, the_ranges}
use Rattle.vos_pool_raise.proofs.raising.raise_layout.Goals as goal

pub returns-in_err-commit-clause-may : goal.returns-in_err-commit-clause-may
returns-in_err-commit-clause-may g c =
    let old = c.args.opened.now in
    let inv = subst (λ (p : OpenedState _). IsOpened (g.R.Region.extent p.blocks.undo.region) g.R.Region.tells (g.R.Region.image p.blocks.undo.region) p.blocks.undo.staged p.blocks.undo.stopped p.blocks.map p.blocks.lasting p.table) c.opened.view_is c.opened.invariant in
    let was = one_staged c.opened.inside.blocks c.stage.new.self 8 (0 ∷ 0 ∷ 0 ∷ 2 ∷ []) (0 ∷ 0 ∷ 0 ∷ 2 ∷ []) c.opened.invariant.unstaged refl
    (subst (λ r. OnOk r (c.stage.new.self ≡ with_ranges (c.opened.inside.blocks.undo.staged ++ record { place = 8; bytes = 0 ∷ 0 ∷ 0 ∷ 2 ∷ [] } ∷ []) c.opened.inside.blocks)) c.unwrap.ensures c.stage.ensures.staged) in
    let k = c.in_err-commit.ensures in
    (raise_is_quiet g.R.Region.extent g.R.Region.tells g.R.Region.image g.R.Region.may_leave old c.commit.new.blocks c.opened.inside.tables c.from_residual.result false (err_is_not_ok c.from_residual.result c.from_residual.ensures.0) c.stage.new.self
    (was ∙ ap (λ (p : OpenedState _). with_ranges the_ranges p.blocks) c.opened.view_is) (record { committed = k.committed; untouched = k.untouched; running = λ no_ok. absurd (cc); size = k.size })
    (ap (λ (p : OpenedState _). p.table.header.target) c.opened.view_is) (ap (λ (p : OpenedState _). p.table.header.targets) c.opened.view_is) inv.stands).left

pub returns-in_err-commit-clause-left : goal.returns-in_err-commit-clause-left
returns-in_err-commit-clause-left g c =
    let old = c.args.opened.now in
    let inv = subst (λ (p : OpenedState _). IsOpened (g.R.Region.extent p.blocks.undo.region) g.R.Region.tells (g.R.Region.image p.blocks.undo.region) p.blocks.undo.staged p.blocks.undo.stopped p.blocks.map p.blocks.lasting p.table) c.opened.view_is c.opened.invariant in
    let was = one_staged c.opened.inside.blocks c.stage.new.self 8 (0 ∷ 0 ∷ 0 ∷ 2 ∷ []) (0 ∷ 0 ∷ 0 ∷ 2 ∷ []) c.opened.invariant.unstaged refl
    (subst (λ r. OnOk r (c.stage.new.self ≡ with_ranges (c.opened.inside.blocks.undo.staged ++ record { place = 8; bytes = 0 ∷ 0 ∷ 0 ∷ 2 ∷ [] } ∷ []) c.opened.inside.blocks)) c.unwrap.ensures c.stage.ensures.staged) in
    let k = c.in_err-commit.ensures in
    raise_leaves g.R.Region.extent g.R.Region.tells g.R.Region.image g.R.Region.may_leave old c.commit.new.blocks c.opened.inside.tables c.from_residual.result false (err_is_not_ok c.from_residual.result c.from_residual.ensures.0) c.stage.new.self
    (was ∙ ap (λ (p : OpenedState _). with_ranges the_ranges p.blocks) c.opened.view_is) (record { committed = k.committed; untouched = k.untouched; running = λ no_ok. absurd (cc); size = k.size })
    (ap (λ (p : OpenedState _). p.table.header.target) c.opened.view_is) (ap (λ (p : OpenedState _). p.table.header.targets) c.opened.view_is) inv.stands

pub invariant_of-opened-2 : goal.invariant_of-opened-2
invariant_of-opened-2 g c =
    let was = one_staged c.opened.inside.blocks c.stage.new.self 8 (0 ∷ 0 ∷ 0 ∷ 2 ∷ []) (0 ∷ 0 ∷ 0 ∷ 2 ∷ []) c.opened.invariant.unstaged refl
    (subst (λ r. OnOk r (c.stage.new.self ≡ with_ranges (c.opened.inside.blocks.undo.staged ++ record { place = 8; bytes = 0 ∷ 0 ∷ 0 ∷ 2 ∷ [] } ∷ []) c.opened.inside.blocks)) c.unwrap.ensures c.stage.ensures.staged) in
    let k = c.in_ok-commit.ensures in
    opened_after g.R.Region.extent g.R.Region.tells g.R.Region.image g.R.Region.may_leave c.opened.inside.blocks c.opened.inside.tables (raised c.opened.inside.tables) c.raise.new.self the_ranges c.stage.new.self c.commit.new.blocks was
    (record { committed = k.committed; untouched = k.untouched; running = λ well. k.running; size = k.size }) k.unstaged k.lasting c.raise.ensures refl c.opened.invariant.stands
    (stands_then c.opened.inside.tables.header.target (g.R.Region.extent c.opened.inside.blocks.undo.region) (g.R.Region.image c.opened.inside.blocks.undo.region) c.opened.inside.tables)

pub returns-clause-stands : goal.returns-clause-stands
returns-clause-stands g c =
    let old = c.args.opened.now in
    let was = one_staged c.opened.inside.blocks c.stage.new.self 8 (0 ∷ 0 ∷ 0 ∷ 2 ∷ []) (0 ∷ 0 ∷ 0 ∷ 2 ∷ []) c.opened.invariant.unstaged refl
    (subst (λ r. OnOk r (c.stage.new.self ≡ with_ranges (c.opened.inside.blocks.undo.staged ++ record { place = 8; bytes = 0 ∷ 0 ∷ 0 ∷ 2 ∷ [] } ∷ []) c.opened.inside.blocks)) c.unwrap.ensures c.stage.ensures.staged) in
    let k = c.in_ok-commit.ensures in
    stands_after g.R.Region.extent g.R.Region.tells g.R.Region.image g.R.Region.may_leave old c.commit.new.blocks c.raise.new.self c.stage.new.self
    (was ∙ ap (λ (p : OpenedState _). with_ranges the_ranges p.blocks) c.opened.view_is) (record { committed = k.committed; untouched = k.untouched; running = λ well. k.running; size = k.size })
    (c.raise.ensures ∙ ap (λ (p : OpenedState _). raised p.table) c.opened.view_is)

pub returns-clause-kept : goal.returns-clause-kept
returns-clause-kept g c =
    let old = c.args.opened.now in
    let inv = subst (λ (p : OpenedState _). IsOpened (g.R.Region.extent p.blocks.undo.region) g.R.Region.tells (g.R.Region.image p.blocks.undo.region) p.blocks.undo.staged p.blocks.undo.stopped p.blocks.map p.blocks.lasting p.table) c.opened.view_is c.opened.invariant in
    let was = one_staged c.opened.inside.blocks c.stage.new.self 8 (0 ∷ 0 ∷ 0 ∷ 2 ∷ []) (0 ∷ 0 ∷ 0 ∷ 2 ∷ []) c.opened.invariant.unstaged refl
    (subst (λ r. OnOk r (c.stage.new.self ≡ with_ranges (c.opened.inside.blocks.undo.staged ++ record { place = 8; bytes = 0 ∷ 0 ∷ 0 ∷ 2 ∷ [] } ∷ []) c.opened.inside.blocks)) c.unwrap.ensures c.stage.ensures.staged) in
    let k = c.in_ok-commit.ensures in
    let last : c.raise.new.self ≡ raised old.table = c.raise.ensures ∙ ap (λ (p : OpenedState _). raised p.table) c.opened.view_is in
    (raise_is_quiet g.R.Region.extent g.R.Region.tells g.R.Region.image g.R.Region.may_leave old c.commit.new.blocks c.raise.new.self (Ok tt) true refl c.stage.new.self
    (was ∙ ap (λ (p : OpenedState _). with_ranges the_ranges p.blocks) c.opened.view_is) (record { committed = k.committed; untouched = k.untouched; running = λ well. k.running; size = k.size })
    (ap (λ (t : Table). t.header.target) last) (ap (λ (t : Table). t.header.targets) last) inv.stands).done

pub returns-clause-may : goal.returns-clause-may
returns-clause-may g c =
    let old = c.args.opened.now in
    let inv = subst (λ (p : OpenedState _). IsOpened (g.R.Region.extent p.blocks.undo.region) g.R.Region.tells (g.R.Region.image p.blocks.undo.region) p.blocks.undo.staged p.blocks.undo.stopped p.blocks.map p.blocks.lasting p.table) c.opened.view_is c.opened.invariant in
    let was = one_staged c.opened.inside.blocks c.stage.new.self 8 (0 ∷ 0 ∷ 0 ∷ 2 ∷ []) (0 ∷ 0 ∷ 0 ∷ 2 ∷ []) c.opened.invariant.unstaged refl
    (subst (λ r. OnOk r (c.stage.new.self ≡ with_ranges (c.opened.inside.blocks.undo.staged ++ record { place = 8; bytes = 0 ∷ 0 ∷ 0 ∷ 2 ∷ [] } ∷ []) c.opened.inside.blocks)) c.unwrap.ensures c.stage.ensures.staged) in
    let k = c.in_ok-commit.ensures in
    let last : c.raise.new.self ≡ raised old.table = c.raise.ensures ∙ ap (λ (p : OpenedState _). raised p.table) c.opened.view_is in
    (raise_is_quiet g.R.Region.extent g.R.Region.tells g.R.Region.image g.R.Region.may_leave old c.commit.new.blocks c.raise.new.self (Ok tt) true refl c.stage.new.self
    (was ∙ ap (λ (p : OpenedState _). with_ranges the_ranges p.blocks) c.opened.view_is) (record { committed = k.committed; untouched = k.untouched; running = λ well. k.running; size = k.size })
    (ap (λ (t : Table). t.header.target) last) (ap (λ (t : Table). t.header.targets) last) inv.stands).left

pub returns-clause-left : goal.returns-clause-left
returns-clause-left g c =
    let old = c.args.opened.now in
    let inv = subst (λ (p : OpenedState _). IsOpened (g.R.Region.extent p.blocks.undo.region) g.R.Region.tells (g.R.Region.image p.blocks.undo.region) p.blocks.undo.staged p.blocks.undo.stopped p.blocks.map p.blocks.lasting p.table) c.opened.view_is c.opened.invariant in
    let was = one_staged c.opened.inside.blocks c.stage.new.self 8 (0 ∷ 0 ∷ 0 ∷ 2 ∷ []) (0 ∷ 0 ∷ 0 ∷ 2 ∷ []) c.opened.invariant.unstaged refl
    (subst (λ r. OnOk r (c.stage.new.self ≡ with_ranges (c.opened.inside.blocks.undo.staged ++ record { place = 8; bytes = 0 ∷ 0 ∷ 0 ∷ 2 ∷ [] } ∷ []) c.opened.inside.blocks)) c.unwrap.ensures c.stage.ensures.staged) in
    let k = c.in_ok-commit.ensures in
    let last : c.raise.new.self ≡ raised old.table = c.raise.ensures ∙ ap (λ (p : OpenedState _). raised p.table) c.opened.view_is in
    raise_leaves g.R.Region.extent g.R.Region.tells g.R.Region.image g.R.Region.may_leave old c.commit.new.blocks c.raise.new.self (Ok tt) true refl c.stage.new.self
    (was ∙ ap (λ (p : OpenedState _). with_ranges the_ranges p.blocks) c.opened.view_is) (record { committed = k.committed; untouched = k.untouched; running = λ well. k.running; size = k.size })
    (ap (λ (t : Table). t.header.target) last) (ap (λ (t : Table). t.header.targets) last) inv.stands
