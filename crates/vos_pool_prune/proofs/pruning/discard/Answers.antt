use Rattle.std.proofs.Common.{subst}
use Rattle.pmem_undo.specs.Undo.{IsUndo}
use Rattle.vos_pool_prune.specs.Order.{chosen}
use Rattle.vos_pool_prune.proofs.Pruned.{discards}
use Rattle.vos_pool_prune.proofs.pruning.discard.Goals as goal

pub returns : goal.returns
returns g c =
    discards g.R.Region.extent g.R.Region.tells g.R.Region.image g.R.Region.may_leave g.R.Region.count g.R.Region.burns c.args.opened c.requires.tidy (λ told. subst (λ p. IsUndo (g.R.Region.extent p.blocks.undo.region) g.R.Region.tells (g.R.Region.image p.blocks.undo.region) (g.R.Region.may_leave p.blocks.undo.region) p.blocks.undo.staged p.blocks.undo.stopped) c.opened.view_is c.size-size.ensures.undo_holds)
    (chosen c.args.marks.now c.args.versions.now) c.remove_versions.result.0 c.remove_versions.result.1 c.args.cont c.args.lo c.args.hi c.requires.done c.requires.all c.remove_versions.ensures
