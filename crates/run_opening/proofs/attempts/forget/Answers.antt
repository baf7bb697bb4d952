use Rattle.std.specs.Prelude.{Ok, take}
use Rattle.std.proofs.Common.{ap, arith}
use Rattle.vos_store.specs.Refusals.{always_stop}
use Rattle.run_opening.specs.Steps.{all_forgotten, forgotten}
use Rattle.run_opening.proofs.Ending.{last-forgotten, more-forgotten, read-among, read-kept}
use Rattle.run_opening.proofs.Going.{goes-as, goes-first, goes-on, was}
use Rattle.run_opening.specs.Left.{first_forgotten}
use Rattle.run_opening.proofs.Leaving.{leaves-made, leaves-on, next-forgotten}
use Rattle.run_opening.proofs.attempts.forget.Goals as goal

pub loop-entry-init : goal.loop-entry-init
loop-entry-init g c = goes-first always_stop (tt {0}) (g.S.Store.state c.args.store.now) (g.S.Store.durable c.args.store.now) c.requires.running

pub forget_entry-requires-clause-here : goal.forget_entry-requires-clause-here
forget_entry-requires-clause-here g c x at =
    let w = was (all_forgotten (take c.loop-entry.entry-index c.args.entries.now)) (g.S.Store.durable c.args.store.now) (g.S.Store.durable c.loop-entry.store) x c.loop-entry.invariant.made at in
    read-kept c.args.entries.now c.loop-entry.entry-index _ c.loop-entry-test.true w.0 x (c.requires.own w.0 w.1) (g.met.S.Store.formed c.args.store.now c.requires.running w.0 w.1).entries w.2

pub forget_entry-requires-clause-committed : goal.forget_entry-requires-clause-committed
forget_entry-requires-clause-committed g c x at =
    let w = was (all_forgotten (take c.loop-entry.entry-index c.args.entries.now)) (g.S.Store.durable c.args.store.now) (g.S.Store.durable c.loop-entry.store) x c.loop-entry.invariant.made at in
    c.requires.committed w.0 w.1 _ (read-among c.args.entries.now c.loop-entry.entry-index _ c.loop-entry-test.true w.0 (c.requires.own w.0 w.1))

pub loop-entry-preserved : goal.loop-entry-preserved
loop-entry-preserved g c =
    goes-as always_stop (Ok (tt {0})) _ (all_forgotten (take _ c.args.entries.now)) (g.S.Store.state c.args.store.now) (g.S.Store.state c.forget_entry.new.store) (g.S.Store.durable c.args.store.now) (g.S.Store.durable c.forget_entry.new.store)
    (λ d at. more-forgotten c.args.entries.now c.loop-entry.entry-index _ c.loop-entry-test.true d)
    (goes-on always_stop (tt {0}) (all_forgotten (take c.loop-entry.entry-index c.args.entries.now)) always_stop (Ok (tt {0})) _ (g.S.Store.state c.args.store.now) (g.S.Store.state c.loop-entry.store) (g.S.Store.state c.forget_entry.new.store) (g.S.Store.durable c.args.store.now) (g.S.Store.durable c.loop-entry.store) (g.S.Store.durable c.forget_entry.new.store)
    c.loop-entry.invariant c.in_ok-forget_entry.ensures.goes)

pub returns-clause-goes : goal.returns-clause-goes
returns-clause-goes g c =
    let over = c.loop-entry-test.false in
    goes-as always_stop (Ok (tt {0})) (all_forgotten (take c.loop-entry.entry-index c.args.entries.now)) forgotten (g.S.Store.state c.args.store.now) (g.S.Store.state c.loop-entry.store) (g.S.Store.durable c.args.store.now) (g.S.Store.durable c.loop-entry.store)
    (λ d at. last-forgotten c.args.entries.now c.loop-entry.entry-index d (omega (arith, over)) (c.requires.own d at)) c.loop-entry.invariant

pub returns-in_err-forget_entry-clause-left : goal.returns-in_err-forget_entry-clause-left
returns-in_err-forget_entry-clause-left g c =
    leaves-on g.S.Store.durable g.S.Store.state g.S.Store.may g.met.S.Store.steady (all_forgotten (take c.loop-entry.entry-index c.args.entries.now)) _ first_forgotten c.args.store.now c.loop-entry.store c.forget_entry.new.store c.loop-entry.invariant.made
    (λ d n told. next-forgotten c.args.entries.now c.loop-entry.entry-index _ c.loop-entry-test.true d (c.requires.own d told) n) c.in_err-forget_entry.ensures.left

pub returns-clause-left : goal.returns-clause-left
returns-clause-left g c =
    leaves-made g.S.Store.durable g.S.Store.state g.S.Store.may g.met.S.Store.steady (all_forgotten (take c.loop-entry.entry-index c.args.entries.now)) first_forgotten c.args.store.now c.loop-entry.store c.loop-entry.invariant.runs.stops c.loop-entry.invariant.made
    (λ d told. (c.loop-entry.entry-index, ap (λ es. all_forgotten (take c.loop-entry.entry-index es) d) (c.requires.own d told)))
