use Rattle.std.proofs.Common.{subst, sym, true}
use Rattle.pmem_undo.specs.Undo.{IsUndo}
use Rattle.pmem_undo.proofs.Undoing.{is_undo, rest_looks, buffers_at, attachable_at}
use Rattle.pmem_undo.proofs.undo_region.UndoRegion.read.Goals as goal

pub returns-then-self-clause-holds : goal.returns-then-self-clause-holds
returns-then-self-clause-holds g c =
    subst (λ u. IsUndo (g.R.Region.extent u.region) g.R.Region.tells (g.R.Region.image u.region) (g.R.Region.may_leave u.region) u.staged u.stopped) c.self.view_is
    (is_undo _ _ _ _ _ _ _ _ _ _ c.self.invariant.0 c.self.invariant.1 c.self.invariant.2)

pub returns-then-is_err-clause-holds : goal.returns-then-is_err-clause-holds
returns-then-is_err-clause-holds g c =
    is_undo _ _ _ _ c.self.inside.staged.items c.self.inside.spans.items _ _ _ true (buffers_at _ _ _ _ _ _ _ (sym c.read.ensures.extent) c.self.invariant.0) (λ t off. absurd (cc)) (λ t. attachable_at _ _ _ (sym c.read.ensures.extent) (λ z here. c.self.invariant.2 t z (c.read.ensures.crash t z here)))

pub returns-clause-holds : goal.returns-clause-holds
returns-clause-holds g c =
    is_undo _ _ _ _ c.self.inside.staged.items c.self.inside.spans.items _ _ _ c.self.inside.stopped (buffers_at _ _ _ _ _ _ _ (sym c.read.ensures.extent) c.self.invariant.0)
    (λ t going. rest_looks _ _ _ _ (c.self.invariant.1 t going) (c.read.ensures.image t) (c.read.ensures.crash t))
    (λ t. attachable_at _ _ _ (sym c.read.ensures.extent) (λ z here. c.self.invariant.2 t z (c.read.ensures.crash t z here)))
