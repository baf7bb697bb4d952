use Rattle.std.proofs.Common.{sym}
use Rattle.pmem_undo.proofs.Undoing.{is_undo, rest_looks, buffers_at, attachable_at}
use Rattle.pmem_undo.proofs.undo_region.UndoRegion.set_fuse.Goals as goal

pub returns-clause-holds : goal.returns-clause-holds
returns-clause-holds g c =
    let same = c.set_fuse.ensures in
    is_undo _ _ _ _ c.self.inside.staged.items c.self.inside.spans.items _ _ _ c.self.inside.stopped (buffers_at _ _ _ _ _ _ _ (sym same.extent_as) c.self.invariant.0)
    (λ t going. rest_looks _ _ _ _ (c.self.invariant.1 t going) (same.stays t).same_image (same.stays t).no_more)
    (λ t. attachable_at _ _ _ (sym same.extent_as) (λ z here. c.self.invariant.2 t z ((same.stays t).no_more z here)))
