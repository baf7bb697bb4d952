use Rattle.std.proofs.Common.{subst}
use Rattle.pmem_alloc.specs.Blocks.{IsBlocks, BlocksState}
use Rattle.pmem_alloc.proofs.Staging.{is_blocks}
use Rattle.pmem_alloc.proofs.blocks.Blocks.size.Goals as goal

pub returns-clause-holds : goal.returns-clause-holds
returns-clause-holds g c =
    subst (λ (b : BlocksState _). IsBlocks (g.R.Region.extent b.undo.region) g.R.Region.tells (g.R.Region.image b.undo.region) b.undo.staged b.undo.stopped b.map b.lasting) c.self.view_is
    (is_blocks _ _ _ _ _ c.self.inside.map c.self.inside.lasting c.self.inside.many c.self.invariant)
