use Rattle.vos_store.specs.Refusals.{always_stop}
use Rattle.run_opening.specs.Steps.{ended, resolved_by}
use Rattle.run_opening.proofs.Walks.{ok-at, stopped-at}
use Rattle.run_opening.specs.Left.{first_ended}
use Rattle.run_opening.proofs.Leaving.{leaves-at}
use Rattle.run_opening.proofs.each.settle_at.Goals as goal

pub returns-in-Ok-clause-goes : goal.returns-in-Ok-clause-goes
returns-in-Ok-clause-goes g c =
    ok-at g.S.Store.durable g.S.Store.state c.args.stores.now c.args.t c.index-stores-t.result c.settle_all.new.store c.requires.within (ended (resolved_by c.args.all.now)) always_stop (tt {0}) (tt {0}) c.in-Ok.ensures.goes

pub returns-in-Err-clause-goes : goal.returns-in-Err-clause-goes
returns-in-Err-clause-goes g c =
    stopped-at g.S.Store.durable g.S.Store.state c.args.stores.now c.args.t c.index-stores-t.result c.settle_all.new.store c.requires.within (ended (resolved_by c.args.all.now)) c.in-Err._stopped c.in-Err.ensures.goes

pub returns-in-Ok-clause-left : goal.returns-in-Ok-clause-left
returns-in-Ok-clause-left g c = leaves-at g.S.Store.durable g.S.Store.state g.S.Store.may g.met.S.Store.steady (first_ended (resolved_by c.args.all.now)) c.args.stores.now c.args.t c.index-stores-t.result c.settle_all.new.store c.requires.within c.in-Ok.ensures.left

pub returns-in-Err-clause-left : goal.returns-in-Err-clause-left
returns-in-Err-clause-left g c = leaves-at g.S.Store.durable g.S.Store.state g.S.Store.may g.met.S.Store.steady (first_ended (resolved_by c.args.all.now)) c.args.stores.now c.args.t c.index-stores-t.result c.settle_all.new.store c.requires.within c.in-Err.ensures.left
