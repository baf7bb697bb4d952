use Rattle.std.proofs.Common.{[], subst}
use Rattle.base_types.specs.declared.entry.Settle.TheVariants as settle
use Rattle.pmem_undo.specs.Undo.{IsUndo}
use Rattle.vos_levels.specs.declared.change.Change.TheVariants as change
use Rattle.vos_pool_turns.specs.vos_turns.declared.entries.EntryStep.TheVariants as step
use Rattle.vos_pool_settle.proofs.Made.{can_confirm, confirms, settles}
use Rattle.vos_pool_settle.proofs.steps.confirm.Goals as goal

pub turn_pool-requires-clause-here : goal.turn_pool-requires-clause-here
turn_pool-requires-clause-here g c = can_confirm g.R.Region.extent g.R.Region.tells g.R.Region.image g.R.Region.may_leave c.args.opened c.requires.tidy (λ told. subst (λ p. IsUndo (g.R.Region.extent p.blocks.undo.region) g.R.Region.tells (g.R.Region.image p.blocks.undo.region) (g.R.Region.may_leave p.blocks.undo.region) p.blocks.undo.staged p.blocks.undo.stopped) c.opened.view_is c.size-size.ensures.undo_holds) c.args.attempt c.args.target c.requires.here

pub returns : goal.returns
returns g c = settles g.R.Region.extent g.R.Region.tells g.R.Region.image g.R.Region.may_leave c.args.opened c.requires.tidy g.R.Region.count g.R.Region.burns (change.Commit c.args.attempt) [] (step.Confirm c.args.target) c.args.attempt (settle.Confirm c.args.target) c.turn_pool.result.0 c.turn_pool.result.1 (confirms g.R.Region.extent g.R.Region.tells g.R.Region.image g.R.Region.may_leave c.args.opened c.requires.tidy (λ told. subst (λ p. IsUndo (g.R.Region.extent p.blocks.undo.region) g.R.Region.tells (g.R.Region.image p.blocks.undo.region) (g.R.Region.may_leave p.blocks.undo.region) p.blocks.undo.staged p.blocks.undo.stopped) c.opened.view_is c.size-size.ensures.undo_holds) c.args.attempt c.args.target c.requires.here (change.Commit c.args.attempt)) (can_confirm g.R.Region.extent g.R.Region.tells g.R.Region.image g.R.Region.may_leave c.args.opened c.requires.tidy (λ told. subst (λ p. IsUndo (g.R.Region.extent p.blocks.undo.region) g.R.Region.tells (g.R.Region.image p.blocks.undo.region) (g.R.Region.may_leave p.blocks.undo.region) p.blocks.undo.staged p.blocks.undo.stopped) c.opened.view_is c.size-size.ensures.undo_holds) c.args.attempt c.args.target c.requires.here) c.turn_pool.ensures
