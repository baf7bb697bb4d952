use Rattle.replay_base.proofs.Starts.{if_ok}
use Rattle.replay_writes.proofs.Refusing.{by_above, by_floor}
use Rattle.replay_writes.proofs.checks.is_refused_by.Goals as goal

pub returns-in-Some : goal.returns-in-Some
returns-in-Some c = by_floor c.args.plan c.args.opening c.args.first c.args.epoch c.args.durable.now c.args.stamps.now c.args.writes.now c.first_floor.result c.in-Some.floor c.args.cause.now c.is_same.result c.first_floor.ensures c.in-Some.is c.is_same.ensures

pub returns-in-None : goal.returns-in-None
returns-in-None c =
    if_ok _ _ c.is_refused_above.result (λ test same. by_above c.args.plan c.args.opening c.args.first c.args.epoch c.args.durable.now c.args.stamps.now c.args.writes.now c.first_floor.result c.args.cause.now test c.first_floor.ensures c.in-None.is same) c.is_refused_above.ensures
