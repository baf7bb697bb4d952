use Rattle.std.proofs.Common.{sym, subst}
use Rattle.pmem_undo.specs.Undo.{UndoState}
use Rattle.pmem_alloc.specs.Map.{MapState}
use Rattle.pmem_alloc.specs.Blocks.{IsBlocks}
use Rattle.pmem_alloc.proofs.Staging.{is_blocks}
use Rattle.pmem_alloc.proofs.Holding.{holds_dropped}
use Rattle.pmem_alloc.proofs.blocks.Blocks.drop_stage.Goals as goal

pub returns-clause-holds : goal.returns-clause-holds
returns-clause-holds g c =
    subst (λ (m : MapState). IsBlocks (g.R.Region.extent c.drop_stage.new.self.region) g.R.Region.tells (g.R.Region.image c.drop_stage.new.self.region) c.drop_stage.new.self.staged c.drop_stage.new.self.stopped m c.self.inside.lasting) (sym c.copy-self-inside.ensures)
    (subst (λ (u : UndoState _). IsBlocks (g.R.Region.extent u.region) g.R.Region.tells (g.R.Region.image u.region) u.staged u.stopped c.self.inside.lasting c.self.inside.lasting) (sym c.drop_stage.ensures.dropped)
    (is_blocks _ _ _ _ _ c.self.inside.lasting c.self.inside.lasting c.self.inside.many (holds_dropped _ _ _ _ _ _ _ _ _ _ c.self.invariant)))
