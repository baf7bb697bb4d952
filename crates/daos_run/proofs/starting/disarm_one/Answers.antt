use Rattle.daos_run.proofs.Disarmed.{disarmed-there}
use Rattle.daos_run.proofs.starting.disarm_one.Goals as goal

pub returns : goal.returns
returns g c = record {
  disarmed = λ x at. disarmed-there g.S.Store.durable g.S.Store.state g.S.Store.may 0 c.args.t c.args.parts.now c.take.new.self c.set.new.self x (c.in-Some.store, c.in-Some.clock) c.fuse.new.self at c.in-Some.ensures.taken c.in-Some.ensures.left c.set.ensures
      (record { state_is = c.fuse.ensures.state; kept = c.fuse.ensures.durable; left = c.fuse.ensures.left });
}
