use Rattle.std.proofs.Common.{◌≡◌, ◌∙◌, ap, subst, sym, true, List, ℕ}
use Rattle.base_outside.specs.Images.{Range}
use Rattle.pmem_undo.specs.Settled.{IsBeforeOrAfter, ComesFrom}
use Rattle.pmem_undo.specs.Undo.{IsUndo, UndoState}
use Rattle.pmem_undo.specs.Spans.{ranges_of}
use Rattle.pmem_undo.proofs.Undoing.{is_undo, buffers_at, attachable_at, either_attachable, comes_from}
use Rattle.pmem_undo.proofs.undo_region.UndoRegion.commit.Goals as goal

pub returns-then-self-clause-holds : goal.returns-then-self-clause-holds
returns-then-self-clause-holds g c =
    subst (λ u. IsUndo (g.R.Region.extent u.region) g.R.Region.tells (g.R.Region.image u.region) (g.R.Region.may_leave u.region) u.staged u.stopped) c.self.view_is
    (is_undo _ _ _ _ _ _ _ _ _ _ c.self.invariant.0 c.self.invariant.1 c.self.invariant.2)

pub returns-in-Err-clause-holds : goal.returns-in-Err-clause-holds
returns-in-Err-clause-holds g c =
    is_undo _ _ _ _ c.self.inside.staged.items c.self.inside.spans.items _ _ _ true
    (buffers_at _ _ _ _ _ _ _ (sym c.commit_ranges.ensures.extent) c.self.invariant.0) (λ t off. absurd (cc))
    (λ t. attachable_at _ _ _ (sym c.commit_ranges.ensures.extent) (λ z here. either_attachable _ (g.R.Region.image c.self.inside.region) (ranges_of c.deref-2.result.now c.deref.result.now) z (c.commit_ranges.ensures.left t z here)))

pub returns-in-Ok-clause-from : goal.returns-in-Ok-clause-from
returns-in-Ok-clause-from g c t =
    let staged = c.self.inside.staged.items in
    let spans = c.self.inside.spans.items in
    let f = g.R.Region.image c.self.inside.region in
    let same : ranges_of c.deref-2.result.now c.deref.result.now ≡ ranges_of staged spans = ap (λ (z : List ℕ). ranges_of z c.deref.result.now) c.deref-2.ensures.value ∙ ap (ranges_of staged) c.deref.ensures.value in
    subst (λ (u : UndoState _). ComesFrom (g.R.Region.extent u.region) u.staged (g.R.Region.may_leave u.region) (g.R.Region.may_leave c.commit_ranges.new.region)) c.self.view_is
    (comes_from _ f (ranges_of staged spans) _ _ (c.self.invariant.1 t c.if-self.false) (g.met.R.Region.leaves_some c.self.inside.region t)
    (λ z here. subst (λ (rs : List Range). IsBeforeOrAfter (g.R.Region.extent c.self.inside.region) f rs z) same (c.commit_ranges.ensures.left t z here)))

pub returns-in-Err-clause-from : goal.returns-in-Err-clause-from
returns-in-Err-clause-from g c t =
    let staged = c.self.inside.staged.items in
    let spans = c.self.inside.spans.items in
    let f = g.R.Region.image c.self.inside.region in
    let same : ranges_of c.deref-2.result.now c.deref.result.now ≡ ranges_of staged spans = ap (λ (z : List ℕ). ranges_of z c.deref.result.now) c.deref-2.ensures.value ∙ ap (ranges_of staged) c.deref.ensures.value in
    subst (λ (u : UndoState _). ComesFrom (g.R.Region.extent u.region) u.staged (g.R.Region.may_leave u.region) (g.R.Region.may_leave c.commit_ranges.new.region)) c.self.view_is
    (comes_from _ f (ranges_of staged spans) _ _ (c.self.invariant.1 t c.if-self.false) (g.met.R.Region.leaves_some c.self.inside.region t)
    (λ z here. subst (λ (rs : List Range). IsBeforeOrAfter (g.R.Region.extent c.self.inside.region) f rs z) same (c.commit_ranges.ensures.left t z here)))
