use Rattle.std.proofs.Common.{subst}
use Rattle.pmem_undo.specs.Undo.{IsUndo}
use Rattle.pmem_undo.proofs.Undoing.{is_undo}
use Rattle.pmem_undo.proofs.undo_region.UndoRegion.size.Goals as goal

pub returns-clause-holds : goal.returns-clause-holds
returns-clause-holds g c =
    subst (λ u. IsUndo (g.R.Region.extent u.region) g.R.Region.tells (g.R.Region.image u.region) (g.R.Region.may_leave u.region) u.staged u.stopped) c.self.view_is
    (is_undo _ _ _ _ _ _ _ _ _ _ c.self.invariant.0 c.self.invariant.1 c.self.invariant.2)
