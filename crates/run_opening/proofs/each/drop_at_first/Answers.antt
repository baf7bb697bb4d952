use Rattle.target_parts.specs.Halts.{halt_stop}
use Rattle.run_opening.specs.Steps.{dropped}
use Rattle.run_opening.proofs.Walks.{err-at, ok-at}
use Rattle.run_opening.specs.Left.{first_dropped}
use Rattle.run_opening.proofs.Leaving.{leaves-at}
use Rattle.run_opening.proofs.each.drop_at_first.Goals as goal

pub returns-in-Ok-clause-goes : goal.returns-in-Ok-clause-goes
returns-in-Ok-clause-goes g c =
    ok-at g.S.Store.durable g.S.Store.state c.args.stores.now 0 c.index-stores-0.result c.drop_snaps.new.store c.requires.some (dropped c.args.script.now) halt_stop (tt {0}) (tt {0}) c.in-Ok.ensures.goes

pub returns-in-Err-clause-goes : goal.returns-in-Err-clause-goes
returns-in-Err-clause-goes g c =
    err-at g.S.Store.durable g.S.Store.state c.args.stores.now 0 c.index-stores-0.result c.drop_snaps.new.store c.requires.some (dropped c.args.script.now) c.in-Err.halt c.stop_at.result c.stop_at.ensures c.in-Err.ensures.goes

pub returns-in-Ok-clause-left : goal.returns-in-Ok-clause-left
returns-in-Ok-clause-left g c = leaves-at g.S.Store.durable g.S.Store.state g.S.Store.may g.met.S.Store.steady (first_dropped c.args.script.now) c.args.stores.now 0 c.index-stores-0.result c.drop_snaps.new.store c.requires.some c.in-Ok.ensures.left

pub returns-in-Err-clause-left : goal.returns-in-Err-clause-left
returns-in-Err-clause-left g c = leaves-at g.S.Store.durable g.S.Store.state g.S.Store.may g.met.S.Store.steady (first_dropped c.args.script.now) c.args.stores.now 0 c.index-stores-0.result c.drop_snaps.new.store c.requires.some c.in-Err.ensures.left
