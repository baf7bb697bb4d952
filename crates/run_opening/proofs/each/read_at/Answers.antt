use Rattle.std.proofs.Common.{◌≡◌, Some, subst}
use Rattle.target_parts.specs.Halts.{halt_stop}
use Rattle.run_opening.specs.Steps.{same}
use Rattle.run_opening.proofs.Ending.{at-read}
use Rattle.run_opening.proofs.Walks.{err-at, ok-at, same-at}
use Rattle.run_opening.specs.Left.{nothing}
use Rattle.run_opening.proofs.Leaving.{leaves-at}
use Rattle.run_opening.proofs.each.read_at.Goals as goal

pub returns-in-Ok-clause-goes : goal.returns-in-Ok-clause-goes
returns-in-Ok-clause-goes g c =
    ok-at g.S.Store.durable g.S.Store.state c.args.stores.now c.args.t c.index-stores-t.result c.entries_at.new.store c.requires.within same halt_stop c.in-Ok.entries c.in-Ok.entries c.in-Ok.ensures.goes

pub returns-in-Ok-clause-own : goal.returns-in-Ok-clause-own
returns-in-Ok-clause-own g c x d at told =
    c.in-Ok.ensures.own d (subst (λ s. g.S.Store.durable s ≡ Some d) (same-at c.args.stores.now c.args.t x _ at (at-read c.args.stores.now c.args.t c.index-stores-t.result c.requires.within)) told)

pub returns-in-Err-clause-goes : goal.returns-in-Err-clause-goes
returns-in-Err-clause-goes g c =
    err-at g.S.Store.durable g.S.Store.state c.args.stores.now c.args.t c.index-stores-t.result c.entries_at.new.store c.requires.within same c.in-Err.halt c.stop_at.result c.stop_at.ensures c.in-Err.ensures.goes

pub returns-in-Ok-clause-left : goal.returns-in-Ok-clause-left
returns-in-Ok-clause-left g c = leaves-at g.S.Store.durable g.S.Store.state g.S.Store.may g.met.S.Store.steady nothing c.args.stores.now c.args.t c.index-stores-t.result c.entries_at.new.store c.requires.within c.in-Ok.ensures.left

pub returns-in-Err-clause-left : goal.returns-in-Err-clause-left
returns-in-Err-clause-left g c = leaves-at g.S.Store.durable g.S.Store.state g.S.Store.may g.met.S.Store.steady nothing c.args.stores.now c.args.t c.index-stores-t.result c.entries_at.new.store c.requires.within c.in-Err.ensures.left
