use Rattle.std.proofs.Common.{◌≡◌, subst}
use Rattle.std.specs.Prelude.{IsTrue}
use Rattle.pmem_alloc.specs.Blocks.{free_count}
use Rattle.pmem_alloc.specs.Map.{blocks_end, free_blocks}
use Rattle.pmem_alloc.specs.Sets.{count_below}
use Rattle.vos_pool_base.specs.Pool.{OpenedState}
use Rattle.vos_pool_base.specs.Tidy.{Leaves}
use Rattle.vos_pool_stage.specs.Staged.{pool_of}
use Rattle.vos_pool_read.proofs.AtRest.{free_is, leaves_at_rest}
use Rattle.vos_pool_read.proofs.resting.rests.Goals as goal

pub returns-clause-left : goal.returns-clause-left
returns-clause-left g c =
    subst (λ (p : OpenedState _). p.blocks.undo.stopped ≡ _ → Leaves g.R.Region.tells g.R.Region.extent g.R.Region.may_leave (free_count p.blocks) p) c.opened.view_is
    (leaves_at_rest g.R.Region.extent g.R.Region.tells g.R.Region.image g.R.Region.may_leave (pool_of c.opened.inside.blocks c.opened.inside.tables) c.opened.invariant c.size-size.ensures.holds (λ told. c.size-size.ensures.undo_holds))

pub returns-clause-free : goal.returns-clause-free
returns-clause-free g c =
    subst (λ (p : OpenedState _). IsTrue g.R.Region.tells → p.blocks.undo.stopped ≡ _ → free_count p.blocks ≡ count_below (free_blocks (g.R.Region.extent p.blocks.undo.region) (g.R.Region.image p.blocks.undo.region)) (blocks_end (g.R.Region.extent p.blocks.undo.region))) c.opened.view_is
    (free_is g.R.Region.extent g.R.Region.tells g.R.Region.image g.R.Region.may_leave (pool_of c.opened.inside.blocks c.opened.inside.tables) c.opened.invariant c.size-size.ensures.holds)
