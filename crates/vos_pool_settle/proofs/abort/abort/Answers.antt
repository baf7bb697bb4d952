use Rattle.std.proofs.Common.{[], Result, refl, subst}
use Rattle.pmem_undo.specs.Undo.{IsUndo}
use Rattle.vos_levels.specs.declared.change.Change.TheVariants.{Abort}
use Rattle.vos_pool_turns.specs.Pool.{IsOneTurn}
use Rattle.vos_store.specs.declared.refusal.Stopped.{Stopped}
use Rattle.vos_pool_turns.specs.vos_turns.declared.entries.EntryStep.TheVariants as step
use Rattle.vos_pool_settle.proofs.Leaving.{aborts, can_remove, had_gone, left_over, stopped_first, was_err, was_ok}
use Rattle.vos_pool_settle.proofs.abort.abort.Goals as goal

pub turn_pool-opened-requires-clause-here : goal.turn_pool-opened-requires-clause-here
turn_pool-opened-requires-clause-here g c = can_remove g.R.Region.extent g.R.Region.tells g.R.Region.image g.R.Region.may_leave g.R.Region.count g.R.Region.burns c.args.attempt c.args.opened c.requires.tidy

pub returns-then-is_err : goal.returns-then-is_err
returns-then-is_err g c =
    let z = was_err c.turn_pool-opened.result.1 c.is_err.result c.is_err.ensures.value c.if-is_err.true in
    stopped_first g.R.Region.extent g.R.Region.tells g.R.Region.image g.R.Region.may_leave g.R.Region.count g.R.Region.burns c.args.attempt c.args.opened c.requires.tidy [] c.turn_pool-opened.result.0 c.turn_pool-opened.result.1 z.0 z.1 c.turn_pool-opened.ensures refl

pub take_out-requires-clause-here : goal.take_out-requires-clause-here
take_out-requires-clause-here g c =
    let one = subst (λ (r : Result (Unit {0}) Stopped). IsOneTurn g.R.Region.tells g.R.Region.extent g.R.Region.image g.R.Region.may_leave g.R.Region.count g.R.Region.burns (Abort c.args.attempt) [] c.args.attempt step.Remove c.args.opened c.turn_pool-opened.result.0 r) (was_ok c.turn_pool-opened.result.1 c.is_err.result c.is_err.ensures.value c.if-is_err.false) c.turn_pool-opened.ensures in
    left_over g.R.Region.extent g.R.Region.tells g.R.Region.image g.R.Region.may_leave g.R.Region.count g.R.Region.burns c.args.attempt c.args.opened c.requires.tidy c.turn_pool-opened.result.0 one (had_gone c.args.opened.blocks.undo.stopped one.stops.again)

pub returns : goal.returns
returns g c =
    let one = subst (λ (r : Result (Unit {0}) Stopped). IsOneTurn g.R.Region.tells g.R.Region.extent g.R.Region.image g.R.Region.may_leave g.R.Region.count g.R.Region.burns (Abort c.args.attempt) [] c.args.attempt step.Remove c.args.opened c.turn_pool-opened.result.0 r) (was_ok c.turn_pool-opened.result.1 c.is_err.result c.is_err.ensures.value c.if-is_err.false) c.turn_pool-opened.ensures in
    aborts g.R.Region.extent g.R.Region.tells g.R.Region.image g.R.Region.may_leave g.R.Region.count g.R.Region.burns c.args.attempt c.args.opened c.requires.tidy (λ told. subst (λ p. IsUndo (g.R.Region.extent p.blocks.undo.region) g.R.Region.tells (g.R.Region.image p.blocks.undo.region) (g.R.Region.may_leave p.blocks.undo.region) p.blocks.undo.staged p.blocks.undo.stopped) c.opened.view_is c.size-size.ensures.undo_holds) c.args.versions.now c.requires.all c.turn_pool-opened.result.0 c.take_out.result.0 c.take_out.result.1 one c.take_out.ensures
