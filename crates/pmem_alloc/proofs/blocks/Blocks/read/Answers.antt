use Rattle.pmem_alloc.proofs.Staging.{is_blocks}
use Rattle.pmem_alloc.proofs.Holding.{holds_looks, on_before}
use Rattle.pmem_alloc.proofs.blocks.Blocks.read.Goals as goal

pub returns-clause-holds : goal.returns-clause-holds
returns-clause-holds g c =
    is_blocks _ _ _ _ _ c.self.inside.map c.self.inside.lasting c.self.inside.many
    (holds_looks _ _ _ _ _ _ _ _ _ _ _ _ _ _ c.self.invariant c.read.ensures.extent (λ t. (c.read.ensures.looks t).image) c.read.ensures.staged (on_before _ _ c.read.ensures.stops.once))
