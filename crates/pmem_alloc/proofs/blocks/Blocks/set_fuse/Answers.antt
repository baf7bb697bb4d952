use Rattle.std.proofs.Common.{◌∙◌, ap, sym}
use Rattle.pmem_undo.specs.Undo.{UndoState}
use Rattle.pmem_alloc.proofs.Staging.{is_blocks}
use Rattle.pmem_alloc.proofs.Holding.{holds_looks}
use Rattle.pmem_alloc.proofs.blocks.Blocks.set_fuse.Goals as goal

pub returns-clause-holds : goal.returns-clause-holds
returns-clause-holds g c =
    let same = c.set_fuse.ensures.fuse in
    let rest = c.set_fuse.ensures.rest in
    is_blocks _ _ _ _ _ c.self.inside.map c.self.inside.lasting c.self.inside.many
    (holds_looks _ _ _ _ _ _ _ _ _ _ _ _ _ _ c.self.invariant same.extent_as (λ t. (same.stays t).same_image) (ap (λ (u : UndoState _). u.staged) rest) (λ off. sym (ap (λ (u : UndoState _). u.stopped) rest) ∙ off))
