use Rattle.std.specs.Prelude.{◌≡◌, ◌≤◌, false, true, refl, Ok, [], ◌∷◌, ◌++◌, OnOk}
use Rattle.std.proofs.Common.{◌∙◌, ap, sym, subst}
use Rattle.vos_standing.specs.vos_places.Tables.{Table}
use Rattle.vos_pool_base.specs.Pool.{HasRoots, IsOpened, OpenedState}
use Rattle.vos_pool_base.proofs.Staging.{one_staged, with_ranges}
use Rattle.vos_pool_base.proofs.Leaving.{call_leaves, call_tidies, counted_same, counters_free, same_pool}
use Rattle.vos_pool_base.proofs.Writing.{call_makes, err_is_not_ok, opened_after}
use Rattle.vos_pool_base.specs.Tidy.{IsSamePool}
use Rattle.vos_standing.specs.vos_places.Codec.{counter_bytes}
use Rattle.vos_standing.specs.vos_places.Laws.{counted, counter_range}
use Rattle.vos_standing.proofs.Standing.{stands_after_counters}
use Rattle.vos_pool_base.proofs.opened.Opened.count.Goals as goal

pub returns-in_err-commit-clause-makes : goal.returns-in_err-commit-clause-makes
returns-in_err-commit-clause-makes g c =
    let old = c.args.self.now in
    let inv = subst (λ (p : OpenedState _). IsOpened (g.R.Region.extent p.blocks.undo.region) g.R.Region.tells (g.R.Region.image p.blocks.undo.region) p.blocks.undo.staged p.blocks.undo.stopped p.blocks.map p.blocks.lasting p.table) c.self.view_is c.self.invariant in
    let was = one_staged c.self.inside.blocks c.stage.new.self 24 _ (counter_bytes c.args.counters) c.self.invariant.unstaged c.counter_bytes-bytes.ensures
    (subst (λ r. OnOk r (c.stage.new.self ≡ with_ranges (c.self.inside.blocks.undo.staged ++ record { place = 24; bytes = c.counter_bytes-bytes.result } ∷ []) c.self.inside.blocks)) c.unwrap.ensures c.stage.ensures.staged) in
    let k = c.in_err-commit.ensures in
    call_makes g.R.Region.extent g.R.Region.tells g.R.Region.image g.R.Region.may_leave old c.commit.new.blocks (counted c.args.counters old.table) c.self.inside.tables (counter_range c.args.counters ∷ []) c.from_residual.result
    c.stage.new.self (was ∙ ap (λ (p : OpenedState _). with_ranges (counter_range c.args.counters ∷ []) p.blocks) c.self.view_is) false (err_is_not_ok c.from_residual.result c.from_residual.ensures.0)
    (record { committed = k.committed; untouched = k.untouched; running = λ no_ok. absurd (cc); size = k.size })
    (ap (λ (p : OpenedState _). p.table.header.target) c.self.view_is) inv.stands
    (λ x s. stands_after_counters old.table.header.target (g.R.Region.extent old.blocks.undo.region) (g.R.Region.image old.blocks.undo.region) old.table x c.args.counters s c.requires.next.numbers c.requires.next.lease c.requires.roots.0 c.requires.roots.1)

pub returns-clause-makes : goal.returns-clause-makes
returns-clause-makes g c =
    let old = c.args.self.now in
    let inv = subst (λ (p : OpenedState _). IsOpened (g.R.Region.extent p.blocks.undo.region) g.R.Region.tells (g.R.Region.image p.blocks.undo.region) p.blocks.undo.staged p.blocks.undo.stopped p.blocks.map p.blocks.lasting p.table) c.self.view_is c.self.invariant in
    let was = one_staged c.self.inside.blocks c.stage.new.self 24 _ (counter_bytes c.args.counters) c.self.invariant.unstaged c.counter_bytes-bytes.ensures
    (subst (λ r. OnOk r (c.stage.new.self ≡ with_ranges (c.self.inside.blocks.undo.staged ++ record { place = 24; bytes = c.counter_bytes-bytes.result } ∷ []) c.self.inside.blocks)) c.unwrap.ensures c.stage.ensures.staged) in
    let k = c.in_ok-commit.ensures in
    call_makes g.R.Region.extent g.R.Region.tells g.R.Region.image g.R.Region.may_leave old c.commit.new.blocks (counted c.args.counters old.table) c.count.new.self (counter_range c.args.counters ∷ []) (Ok tt)
    c.stage.new.self (was ∙ ap (λ (p : OpenedState _). with_ranges (counter_range c.args.counters ∷ []) p.blocks) c.self.view_is) true refl
    (record { committed = k.committed; untouched = k.untouched; running = λ well. k.running; size = k.size })
    (ap (λ (t : Table). t.header.target) c.count.ensures ∙ ap (λ (p : OpenedState _). p.table.header.target) c.self.view_is) inv.stands
    (λ x s. stands_after_counters old.table.header.target (g.R.Region.extent old.blocks.undo.region) (g.R.Region.image old.blocks.undo.region) old.table x c.args.counters s c.requires.next.numbers c.requires.next.lease c.requires.roots.0 c.requires.roots.1)

pub invariant_of-self-2 : goal.invariant_of-self-2
invariant_of-self-2 g c =
    let was = one_staged c.self.inside.blocks c.stage.new.self 24 _ (counter_bytes c.args.counters) c.self.invariant.unstaged c.counter_bytes-bytes.ensures
    (subst (λ r. OnOk r (c.stage.new.self ≡ with_ranges (c.self.inside.blocks.undo.staged ++ record { place = 24; bytes = c.counter_bytes-bytes.result } ∷ []) c.self.inside.blocks)) c.unwrap.ensures c.stage.ensures.staged) in
    let k = c.in_ok-commit.ensures in
    let lease = subst (λ (p : OpenedState _). p.table.header.lease ≤ c.args.counters.lease) (sym c.self.view_is) c.requires.next.lease in
    let roots = subst (λ (p : OpenedState _). HasRoots p.table c.args.counters) (sym c.self.view_is) c.requires.roots in
    opened_after g.R.Region.extent g.R.Region.tells g.R.Region.image g.R.Region.may_leave c.self.inside.blocks c.self.inside.tables (counted c.args.counters c.self.inside.tables) c.count.new.self (counter_range c.args.counters ∷ []) c.stage.new.self c.commit.new.blocks was
    (record { committed = k.committed; untouched = k.untouched; running = λ well. k.running; size = k.size }) k.unstaged k.lasting c.count.ensures (refl) c.self.invariant.stands
    (λ x s. stands_after_counters c.self.inside.tables.header.target (g.R.Region.extent c.self.inside.blocks.undo.region) (g.R.Region.image c.self.inside.blocks.undo.region) c.self.inside.tables x c.args.counters s c.requires.next.numbers lease roots.0 roots.1)

pub returns-in_err-commit-clause-left : goal.returns-in_err-commit-clause-left
returns-in_err-commit-clause-left g c =
    let old = c.args.self.now in
    let inv = subst (λ (p : OpenedState _). IsOpened (g.R.Region.extent p.blocks.undo.region) g.R.Region.tells (g.R.Region.image p.blocks.undo.region) p.blocks.undo.staged p.blocks.undo.stopped p.blocks.map p.blocks.lasting p.table) c.self.view_is c.self.invariant in
    let was = one_staged c.self.inside.blocks c.stage.new.self 24 _ (counter_bytes c.args.counters) c.self.invariant.unstaged c.counter_bytes-bytes.ensures
    (subst (λ r. OnOk r (c.stage.new.self ≡ with_ranges (c.self.inside.blocks.undo.staged ++ record { place = 24; bytes = c.counter_bytes-bytes.result } ∷ []) c.self.inside.blocks)) c.unwrap.ensures c.stage.ensures.staged) in
    let k = c.in_err-commit.ensures in
    call_leaves g.R.Region.extent g.R.Region.tells g.R.Region.image g.R.Region.may_leave old c.commit.new.blocks (counted c.args.counters old.table) c.self.inside.tables (counter_range c.args.counters ∷ []) false
    c.stage.new.self (was ∙ ap (λ (p : OpenedState _). with_ranges (counter_range c.args.counters ∷ []) p.blocks) c.self.view_is)
    (record { committed = k.committed; untouched = k.untouched; running = λ no_ok. absurd (cc); size = k.size }) (counted_same c.args.counters old.table)
    (subst (λ (p : OpenedState _). IsSamePool p.table c.self.inside.tables) c.self.view_is (same_pool c.self.inside.tables)) inv.stands
    (λ x s. stands_after_counters old.table.header.target (g.R.Region.extent old.blocks.undo.region) (g.R.Region.image old.blocks.undo.region) old.table x c.args.counters s c.requires.next.numbers c.requires.next.lease c.requires.roots.0 c.requires.roots.1)
    (counters_free (g.R.Region.extent old.blocks.undo.region) c.args.counters (g.R.Region.image old.blocks.undo.region))

pub returns-clause-left : goal.returns-clause-left
returns-clause-left g c =
    let old = c.args.self.now in
    let inv = subst (λ (p : OpenedState _). IsOpened (g.R.Region.extent p.blocks.undo.region) g.R.Region.tells (g.R.Region.image p.blocks.undo.region) p.blocks.undo.staged p.blocks.undo.stopped p.blocks.map p.blocks.lasting p.table) c.self.view_is c.self.invariant in
    let was = one_staged c.self.inside.blocks c.stage.new.self 24 _ (counter_bytes c.args.counters) c.self.invariant.unstaged c.counter_bytes-bytes.ensures
    (subst (λ r. OnOk r (c.stage.new.self ≡ with_ranges (c.self.inside.blocks.undo.staged ++ record { place = 24; bytes = c.counter_bytes-bytes.result } ∷ []) c.self.inside.blocks)) c.unwrap.ensures c.stage.ensures.staged) in
    let k = c.in_ok-commit.ensures in
    call_leaves g.R.Region.extent g.R.Region.tells g.R.Region.image g.R.Region.may_leave old c.commit.new.blocks (counted c.args.counters old.table) c.count.new.self (counter_range c.args.counters ∷ []) true
    c.stage.new.self (was ∙ ap (λ (p : OpenedState _). with_ranges (counter_range c.args.counters ∷ []) p.blocks) c.self.view_is)
    (record { committed = k.committed; untouched = k.untouched; running = λ well. k.running; size = k.size }) (counted_same c.args.counters old.table)
    (subst (λ (p : OpenedState _). IsSamePool p.table c.count.new.self) c.self.view_is (subst (λ (t : Table). IsSamePool c.self.inside.tables t) (sym c.count.ensures) (counted_same c.args.counters c.self.inside.tables))) inv.stands
    (λ x s. stands_after_counters old.table.header.target (g.R.Region.extent old.blocks.undo.region) (g.R.Region.image old.blocks.undo.region) old.table x c.args.counters s c.requires.next.numbers c.requires.next.lease c.requires.roots.0 c.requires.roots.1)
    (counters_free (g.R.Region.extent old.blocks.undo.region) c.args.counters (g.R.Region.image old.blocks.undo.region))

pub returns-clause-tidy : goal.returns-clause-tidy
returns-clause-tidy g c =
    let old = c.args.self.now in
    let was = one_staged c.self.inside.blocks c.stage.new.self 24 _ (counter_bytes c.args.counters) c.self.invariant.unstaged c.counter_bytes-bytes.ensures
    (subst (λ r. OnOk r (c.stage.new.self ≡ with_ranges (c.self.inside.blocks.undo.staged ++ record { place = 24; bytes = c.counter_bytes-bytes.result } ∷ []) c.self.inside.blocks)) c.unwrap.ensures c.stage.ensures.staged) in
    let k = c.in_ok-commit.ensures in
    call_tidies g.R.Region.extent g.R.Region.tells g.R.Region.image g.R.Region.may_leave old c.commit.new.blocks (counted c.args.counters old.table) c.count.new.self (counter_range c.args.counters ∷ [])
    c.stage.new.self (was ∙ ap (λ (p : OpenedState _). with_ranges (counter_range c.args.counters ∷ []) p.blocks) c.self.view_is)
    (record { committed = k.committed; untouched = k.untouched; running = λ well. k.running; size = k.size }) (c.count.ensures ∙ ap (λ (p : OpenedState _). counted c.args.counters p.table) c.self.view_is) (counted_same c.args.counters old.table)
    (λ x s. stands_after_counters old.table.header.target (g.R.Region.extent old.blocks.undo.region) (g.R.Region.image old.blocks.undo.region) old.table x c.args.counters s c.requires.next.numbers c.requires.next.lease c.requires.roots.0 c.requires.roots.1)
