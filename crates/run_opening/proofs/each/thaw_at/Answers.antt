use Rattle.target_parts.specs.Halts.{halt_stop}
use Rattle.run_opening.specs.Steps.{left_with}
use Rattle.run_opening.proofs.Walks.{err-at, ok-at}
use Rattle.run_opening.specs.Left.{first_left_with}
use Rattle.run_opening.proofs.Leaving.{leaves-at}
use Rattle.run_opening.proofs.each.thaw_at.Goals as goal

pub returns-in-Ok-clause-goes : goal.returns-in-Ok-clause-goes
returns-in-Ok-clause-goes g c = ok-at g.S.Store.durable g.S.Store.state c.args.stores.now c.args.t c.index-stores-t.result c.thaw_others.new.store c.requires.within (left_with c.args.some.now) halt_stop (tt {0}) (tt {0}) c.in-Ok.ensures.goes

pub returns-in-Err-clause-goes : goal.returns-in-Err-clause-goes
returns-in-Err-clause-goes g c =
    err-at g.S.Store.durable g.S.Store.state c.args.stores.now c.args.t c.index-stores-t.result c.thaw_others.new.store c.requires.within (left_with c.args.some.now) c.in-Err.halt c.stop_at.result c.stop_at.ensures c.in-Err.ensures.goes

pub returns-in-Ok-clause-left : goal.returns-in-Ok-clause-left
returns-in-Ok-clause-left g c = leaves-at g.S.Store.durable g.S.Store.state g.S.Store.may g.met.S.Store.steady (first_left_with c.args.some.now) c.args.stores.now c.args.t c.index-stores-t.result c.thaw_others.new.store c.requires.within c.in-Ok.ensures.left

pub returns-in-Err-clause-left : goal.returns-in-Err-clause-left
returns-in-Err-clause-left g c = leaves-at g.S.Store.durable g.S.Store.state g.S.Store.may g.met.S.Store.steady (first_left_with c.args.some.now) c.args.stores.now c.args.t c.index-stores-t.result c.thaw_others.new.store c.requires.within c.in-Err.ensures.left
