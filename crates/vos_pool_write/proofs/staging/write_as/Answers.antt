use Rattle.std.specs.Prelude.{OnOk}
use Rattle.std.proofs.Common.{subst, sym}
use Rattle.pmem_alloc.specs.Blocks.{BlocksState}
use Rattle.vos_pool_write.specs.Written.{WriteSpends}
use Rattle.vos_pool_write.proofs.staging.write_as.Goals as goal

pub returns-clause-staged : goal.returns-clause-staged
returns-clause-staged g c =
    subst (λ (n : BlocksState _). OnOk c.write_objects-written.result (WriteSpends g.R.Region.tells g.R.Region.image c.args.objects.root c.args.stamp c.args.write.now c.args.blocks n)) (sym c.into_blocks.ensures.is)
    (subst (λ (b : BlocksState _). OnOk c.write_objects-written.result (WriteSpends g.R.Region.tells g.R.Region.image c.args.objects.root c.args.stamp c.args.write.now b c.write_objects-written.new.pages)) c.new-pages.ensures c.write_objects-written.ensures.staged)
