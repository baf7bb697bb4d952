use Rattle.target_parts.specs.Halts.{halt_stop}
use Rattle.run_opening.specs.Steps.{forgotten}
use Rattle.run_opening.proofs.Ending.{at-read}
use Rattle.run_opening.proofs.Walks.{err-at, ok-at}
use Rattle.run_opening.specs.Left.{first_forgotten}
use Rattle.run_opening.proofs.Leaving.{leaves-at}
use Rattle.run_opening.proofs.each.forget_at.Goals as goal

pub forget_all-requires-clause-committed : goal.forget_all-requires-clause-committed
forget_all-requires-clause-committed g c x told = c.requires.committed _ x (at-read c.args.stores.now c.args.t c.index-stores-t.result c.requires.within) told

pub returns-in-Ok-clause-goes : goal.returns-in-Ok-clause-goes
returns-in-Ok-clause-goes g c = ok-at g.S.Store.durable g.S.Store.state c.args.stores.now c.args.t c.index-stores-t.result c.forget_all.new.store c.requires.within forgotten halt_stop (tt {0}) (tt {0}) c.in-Ok.ensures.goes

pub returns-in-Err-clause-goes : goal.returns-in-Err-clause-goes
returns-in-Err-clause-goes g c =
    err-at g.S.Store.durable g.S.Store.state c.args.stores.now c.args.t c.index-stores-t.result c.forget_all.new.store c.requires.within forgotten c.in-Err.halt c.stop_at.result c.stop_at.ensures c.in-Err.ensures.goes

pub returns-in-Ok-clause-left : goal.returns-in-Ok-clause-left
returns-in-Ok-clause-left g c = leaves-at g.S.Store.durable g.S.Store.state g.S.Store.may g.met.S.Store.steady first_forgotten c.args.stores.now c.args.t c.index-stores-t.result c.forget_all.new.store c.requires.within c.in-Ok.ensures.left

pub returns-in-Err-clause-left : goal.returns-in-Err-clause-left
returns-in-Err-clause-left g c = leaves-at g.S.Store.durable g.S.Store.state g.S.Store.may g.met.S.Store.steady first_forgotten c.args.stores.now c.args.t c.index-stores-t.result c.forget_all.new.store c.requires.within c.in-Err.ensures.left
