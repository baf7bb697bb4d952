use Rattle.std.proofs.Common.{subst, sym}
use Rattle.run_opening.specs.Steps.{AllCommitted, same}
use Rattle.run_opening.proofs.Going.{was}
use Rattle.run_opening.specs.Left.{first_forgotten, nothing}
use Rattle.run_opening.proofs.Leaving.{leaves-as, none-forgotten}
use Rattle.run_opening.proofs.attempts.forget_all.Goals as goal

pub forget-requires-clause-committed : goal.forget-requires-clause-committed
forget-requires-clause-committed g c x at =
    let w = was same (g.S.Store.durable c.args.store.now) (g.S.Store.durable c.entries_at.new.store) x c.in_ok-entries.ensures.goes.made at in
    subst AllCommitted (sym w.2) (c.requires.committed w.0 w.1)

pub returns-in_err-entries-clause-left : goal.returns-in_err-entries-clause-left
returns-in_err-entries-clause-left g c =
    leaves-as g.S.Store.durable g.S.Store.state g.S.Store.may g.met.S.Store.steady nothing first_forgotten c.args.store.now c.entries_at.new.store (λ d n told. (0, none-forgotten d)) c.in_err-entries.ensures.left
