use Rattle.std.proofs.Common.{◌∙◌, ap}
use Rattle.vos_pool_again.proofs.Held.{begun_finds, begun_floor, begun_free, begun_opens, told_at_all}
use Rattle.vos_pool_again.proofs.Reopening.{closed_still, finds_refused, region_native}
use Rattle.vos_store.specs.Refusals.{reopen_foreign}
use Rattle.vos_pool_again.proofs.again.open_closed.Goals as goal

pub invariant_of-closed-in-Err : goal.invariant_of-closed-in-Err
invariant_of-closed-in-Err g c = record {
  closed = closed_still g.R.Region.tells g.R.Region.extent g.R.Region.count g.R.Region.burns g.R.Region.image g.R.Region.may_leave c.args.closed.region c.args.closed.free c.args.closed.target c.args.closed.targets
      c.requires.here c.args.number c.in-Err.no.region c.in-Err.no.cause c.in-Err.ensures.refused c.args.closed.closed;
}

pub returns-in-Ok-clause-call : goal.returns-in-Ok-clause-call
returns-in-Ok-clause-call g c = begun_opens g.R.Region.count g.R.Region.burns g.R.Region.can_burn c.args.closed c.args.number c.in-Ok.held c.in-Ok.ensures.begun g.met.R.Region.unburnt

pub returns-in-Ok-clause-kept : goal.returns-in-Ok-clause-kept
returns-in-Ok-clause-kept g c = begun_finds g.R.Region.count g.R.Region.burns g.R.Region.can_burn c.args.closed c.args.number c.in-Ok.held c.in-Ok.ensures.begun c.requires.here c.requires.next

pub returns-in-Ok-clause-floor : goal.returns-in-Ok-clause-floor
returns-in-Ok-clause-floor g c = begun_floor g.R.Region.count g.R.Region.burns g.R.Region.can_burn c.args.closed c.args.number c.in-Ok.held c.in-Ok.ensures.begun

pub returns-in-Ok-clause-free : goal.returns-in-Ok-clause-free
returns-in-Ok-clause-free g c = begun_free g.R.Region.count g.R.Region.burns g.R.Region.can_burn c.args.closed c.args.number c.in-Ok.held c.in-Ok.ensures.begun c.requires.here

pub returns-in-Err-clause-kept : goal.returns-in-Err-clause-kept
returns-in-Err-clause-kept g c = finds_refused g.R.Region.tells g.R.Region.extent g.R.Region.count g.R.Region.burns g.R.Region.image g.R.Region.may_leave c.args.closed.region c.args.closed.free c.args.closed.target c.args.closed.targets
    c.requires.here c.args.number c.in-Err.no.region c.in-Err.no.cause c.in-Err.ensures.refused c.reopen_no.result c.args.closed.closed c.requires.next

pub returns-in-Err-clause-native : goal.returns-in-Err-clause-native
returns-in-Err-clause-native g c told = ap reopen_foreign c.reopen_no.ensures
    ∙ region_native g.R.Region.tells g.R.Region.extent g.R.Region.count g.R.Region.burns g.R.Region.image g.R.Region.may_leave c.args.closed.region c.args.closed.free c.args.closed.target c.args.closed.targets
    c.requires.here c.args.number c.in-Err.no.region c.in-Err.no.cause c.in-Err.ensures.refused c.logs_are_judged.ensures c.what_stands_is_found.ensures c.args.closed.closed (told_at_all g.R.Region.tells _ told)
