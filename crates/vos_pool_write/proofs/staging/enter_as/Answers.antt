use Rattle.std.specs.Prelude.{OnOk}
use Rattle.std.proofs.Common.{subst, sym}
use Rattle.pmem_alloc.specs.Blocks.{BlocksState}
use Rattle.vos_pool_write.specs.Written.{EntrySpends}
use Rattle.vos_pool_write.proofs.staging.enter_as.Goals as goal

pub returns-clause-staged : goal.returns-clause-staged
returns-clause-staged g c =
    subst (λ (n : BlocksState _). OnOk c.add-entered.result (EntrySpends g.R.Region.tells g.R.Region.image c.args.entries.tree.root c.args.entry c.args.blocks n)) (sym c.into_blocks.ensures.is)
    (subst (λ (b : BlocksState _). OnOk c.add-entered.result (EntrySpends g.R.Region.tells g.R.Region.image c.args.entries.tree.root c.args.entry b c.add-entered.new.pages)) c.new-pages.ensures c.add-entered.ensures.staged)
