use Rattle.std.proofs.Common.{Ok, Result, List, ◌++◌, subst, sym}
use Rattle.std.specs.Prelude.{take}
use Rattle.daos_model.specs.declared.durable.Version.{Version}
use Rattle.vos_store.specs.declared.refusal.Stopped.{Stopped}
use Rattle.vos_pool_settle.specs.Aborting.{IsTakenOut}
use Rattle.vos_pool_settle.proofs.Leaving.{can_keep, here_then, one_more, stopped_any, taken_more, was_err, was_ok}
use Rattle.vos_pool_settle.proofs.abort.take_out.Goals as goal

pub turn_pool-next-requires-clause-here : goal.turn_pool-next-requires-clause-here
turn_pool-next-requires-clause-here g c = can_keep g.R.Region.extent g.R.Region.tells g.R.Region.image g.R.Region.may_leave g.R.Region.count g.R.Region.burns c.args.attempt c.loop-version.opened (λ told going. here_then g.R.Region.extent g.R.Region.tells g.R.Region.image g.R.Region.may_leave g.R.Region.count g.R.Region.burns c.args.attempt (take c.loop-version.version-index c.args.versions.now) c.args.opened c.loop-version.opened c.loop-version.invariant.taken c.requires.here told going)

pub returns-then-is_err : goal.returns-then-is_err
returns-then-is_err g c =
    let us = take c.loop-version.version-index c.args.versions.now in
    let z = was_err c.turn_pool-next.result.1 c.is_err.result c.is_err.ensures.value c.if-is_err.true in
    stopped_any g.R.Region.extent g.R.Region.tells g.R.Region.image g.R.Region.may_leave g.R.Region.count g.R.Region.burns c.args.attempt (us ++ c.from_ref.result.now) c.args.versions.now c.args.opened c.turn_pool-next.result.0 c.turn_pool-next.result.1 z.0 z.1
    (taken_more g.R.Region.extent g.R.Region.tells g.R.Region.image g.R.Region.may_leave g.R.Region.count g.R.Region.burns c.args.attempt us c.from_ref.result.now c.args.opened c.loop-version.opened c.turn_pool-next.result.0 c.turn_pool-next.result.1 c.requires.here c.loop-version.invariant.taken c.turn_pool-next.ensures)

pub loop-version-preserved : goal.loop-version-preserved
loop-version-preserved g c =
    let us = take c.loop-version.version-index c.args.versions.now in
    let k = taken_more g.R.Region.extent g.R.Region.tells g.R.Region.image g.R.Region.may_leave g.R.Region.count g.R.Region.burns c.args.attempt us c.from_ref.result.now c.args.opened c.loop-version.opened c.turn_pool-next.result.0 c.turn_pool-next.result.1 c.requires.here c.loop-version.invariant.taken c.turn_pool-next.ensures in
    record {
      taken = subst (λ (l : List Version). IsTakenOut g.R.Region.tells g.R.Region.extent g.R.Region.image g.R.Region.may_leave g.R.Region.count g.R.Region.burns c.args.attempt l c.args.opened c.turn_pool-next.result.0 (Ok tt)) (sym (one_more c.args.versions.now c.loop-version.version-index c.version-item.result c.from_ref.result.now c.loop-version-test.true c.version-item.is c.from_ref.ensures.value))
          (subst (λ (r : Result (Unit {0}) Stopped). IsTakenOut g.R.Region.tells g.R.Region.extent g.R.Region.image g.R.Region.may_leave g.R.Region.count g.R.Region.burns c.args.attempt (us ++ c.from_ref.result.now) c.args.opened c.turn_pool-next.result.0 r) (was_ok c.turn_pool-next.result.1 c.is_err.result c.is_err.ensures.value c.if-is_err.false) k);
    }
