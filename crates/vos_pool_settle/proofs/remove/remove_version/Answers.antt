use Rattle.std.proofs.Common.{subst}
use Rattle.pmem_undo.specs.Undo.{IsUndo}
use Rattle.vos_pool_settle.proofs.Removed.{can_keep, few_one, gives, named_one, removes}
use Rattle.vos_pool_settle.proofs.remove.remove_version.Goals as goal

pub turn_pool-requires-clause-named : goal.turn_pool-requires-clause-named
turn_pool-requires-clause-named g c = named_one c.args.version.now c.from_ref.result.now c.from_ref.ensures.value c.requires.named

pub turn_pool-requires-clause-few : goal.turn_pool-requires-clause-few
turn_pool-requires-clause-few g c = λ told going. few_one c.args.version.now c.from_ref.result.now c.from_ref.ensures.value

pub turn_pool-requires-clause-here : goal.turn_pool-requires-clause-here
turn_pool-requires-clause-here g c = can_keep g.R.Region.extent g.R.Region.tells g.R.Region.image g.R.Region.may_leave g.R.Region.count g.R.Region.burns c.args.opened c.requires.tidy

pub returns-clause-removed : goal.returns-clause-removed
returns-clause-removed g c = removes g.R.Region.extent g.R.Region.tells g.R.Region.image g.R.Region.may_leave g.R.Region.count g.R.Region.burns c.args.opened c.requires.tidy c.args.version.now c.args.version.now.by c.from_ref.result.now c.turn_pool.result.0 c.turn_pool.result.1 c.from_ref.ensures.value c.turn_pool.ensures

pub returns-clause-gives : goal.returns-clause-gives
returns-clause-gives g c = gives g.R.Region.extent g.R.Region.tells g.R.Region.image g.R.Region.may_leave g.R.Region.count g.R.Region.burns c.args.opened c.requires.tidy (λ told. subst (λ p. IsUndo (g.R.Region.extent p.blocks.undo.region) g.R.Region.tells (g.R.Region.image p.blocks.undo.region) (g.R.Region.may_leave p.blocks.undo.region) p.blocks.undo.staged p.blocks.undo.stopped) c.opened.view_is c.size-size.ensures.undo_holds) c.args.version.now c.turn_pool.result.0 c.args.version.now.by c.from_ref.result.now c.turn_pool.result.1 c.from_ref.ensures.value c.turn_pool.ensures
