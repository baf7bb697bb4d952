use Rattle.std.proofs.Common.{Result, subst}
use Rattle.daos_model.specs.Changes.{marked}
use Rattle.pmem_undo.specs.Undo.{IsUndo}
use Rattle.vos_pool_prune.specs.Order.{chosen}
use Rattle.vos_pool_prune.proofs.Pruned.{prune_space, prunes, stopped_mark}
use Rattle.vos_pool_settle.proofs.Leaving.{was_err, was_ok}
use Rattle.vos_pool_settle.specs.Changing.{IsTidyChange}
use Rattle.vos_store.specs.declared.refusal.Stopped.{Stopped}
use Rattle.vos_pool_prune.proofs.pruning.prune.Goals as goal

pub mark-marked-requires : goal.mark-marked-requires
mark-marked-requires g c told going d is = (c.requires.here told going d is).leased

pub returns-then-is_err-clause-pruned : goal.returns-then-is_err-clause-pruned
returns-then-is_err-clause-pruned g c =
    let z = was_err c.mark-marked.result c.is_err.result c.is_err.ensures.value c.if-is_err.true in
    stopped_mark g.R.Region.extent g.R.Region.tells g.R.Region.image g.R.Region.may_leave g.R.Region.count g.R.Region.burns c.args.cont c.args.upto c.args.number c.args.opened c.mark-marked.new.opened c.mark-marked.result z.0 z.1 c.mark-marked.ensures.free c.mark-marked.ensures.marked

pub remove_versions-requires-clause-tidy : goal.remove_versions-requires-clause-tidy
remove_versions-requires-clause-tidy g c =
    (subst (λ (r : Result (Unit {0}) Stopped). IsTidyChange g.R.Region.tells g.R.Region.extent g.R.Region.image g.R.Region.may_leave g.R.Region.count g.R.Region.burns (marked c.args.cont c.args.upto c.args.number) c.args.opened c.mark-marked.new.opened r) (was_ok c.mark-marked.result c.is_err.result c.is_err.ensures.value c.if-is_err.false) c.mark-marked.ensures.marked).tidy c.requires.tidy

pub returns-clause-pruned : goal.returns-clause-pruned
returns-clause-pruned g c =
    prunes g.R.Region.extent g.R.Region.tells g.R.Region.image g.R.Region.may_leave g.R.Region.count g.R.Region.burns c.args.opened c.requires.tidy (λ told. subst (λ p. IsUndo (g.R.Region.extent p.blocks.undo.region) g.R.Region.tells (g.R.Region.image p.blocks.undo.region) (g.R.Region.may_leave p.blocks.undo.region) p.blocks.undo.staged p.blocks.undo.stopped) c.opened.view_is c.size-size.ensures.undo_holds)
    (chosen c.args.marks.now c.args.versions.now) c.remove_versions.result.0 c.remove_versions.result.1 c.args.cont c.args.upto c.args.number c.mark-marked.new.opened c.requires.all
    (subst (λ (r : Result (Unit {0}) Stopped). IsTidyChange g.R.Region.tells g.R.Region.extent g.R.Region.image g.R.Region.may_leave g.R.Region.count g.R.Region.burns (marked c.args.cont c.args.upto c.args.number) c.args.opened c.mark-marked.new.opened r) (was_ok c.mark-marked.result c.is_err.result c.is_err.ensures.value c.if-is_err.false) c.mark-marked.ensures.marked) c.mark-marked.ensures.free c.remove_versions.ensures

pub returns-clause-space : goal.returns-clause-space
returns-clause-space g c =
    prune_space g.R.Region.extent g.R.Region.tells g.R.Region.image g.R.Region.may_leave g.R.Region.count g.R.Region.burns c.args.cont c.args.upto c.args.number c.args.opened c.remove_versions.result.0 c.remove_versions.result.1 (returns-clause-pruned g c)
