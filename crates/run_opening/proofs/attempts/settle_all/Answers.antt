use Rattle.std.specs.Prelude.{Ok, take}
use Rattle.std.proofs.Common.{ap, arith}
use Rattle.vos_store.specs.Refusals.{always_stop}
use Rattle.run_opening.specs.Steps.{all_ended, ended, resolved_by}
use Rattle.run_opening.proofs.Ending.{last-ended, more-ended, read-ended}
use Rattle.run_opening.proofs.Going.{goes-as, goes-first, goes-on, was}
use Rattle.run_opening.specs.Left.{first_ended}
use Rattle.run_opening.proofs.Leaving.{leaves-made, leaves-on, next-ended}
use Rattle.run_opening.proofs.attempts.settle_all.Goals as goal

pub loop-entry-init : goal.loop-entry-init
loop-entry-init g c = goes-first always_stop (tt {0}) (g.S.Store.state c.args.store.now) (g.S.Store.durable c.args.store.now) c.requires.running

pub settle_entry-requires-clause-here : goal.settle_entry-requires-clause-here
settle_entry-requires-clause-here g c x at =
    let r = resolved_by c.args.all.now in
    let w = was (all_ended r (take c.loop-entry.entry-index c.args.entries.now)) (g.S.Store.durable c.args.store.now) (g.S.Store.durable c.loop-entry.store) x c.loop-entry.invariant.made at in
    read-ended r c.args.entries.now c.loop-entry.entry-index _ c.loop-entry-test.true w.0 x (c.requires.own w.0 w.1) (g.met.S.Store.formed c.args.store.now c.requires.running w.0 w.1).entries w.2

pub loop-entry-preserved : goal.loop-entry-preserved
loop-entry-preserved g c =
    let r = resolved_by c.args.all.now in
    goes-as always_stop (Ok (tt {0})) _ (all_ended r (take _ c.args.entries.now)) (g.S.Store.state c.args.store.now) (g.S.Store.state c.settle_entry.new.store) (g.S.Store.durable c.args.store.now) (g.S.Store.durable c.settle_entry.new.store)
    (λ d at. more-ended r c.args.entries.now c.loop-entry.entry-index _ c.loop-entry-test.true d)
    (goes-on always_stop (tt {0}) (all_ended r (take c.loop-entry.entry-index c.args.entries.now)) always_stop (Ok (tt {0})) _ (g.S.Store.state c.args.store.now) (g.S.Store.state c.loop-entry.store) (g.S.Store.state c.settle_entry.new.store) (g.S.Store.durable c.args.store.now) (g.S.Store.durable c.loop-entry.store) (g.S.Store.durable c.settle_entry.new.store)
    c.loop-entry.invariant c.in_ok-settle_entry.ensures.goes)

pub returns-clause-goes : goal.returns-clause-goes
returns-clause-goes g c =
    let over = c.loop-entry-test.false in
    goes-as always_stop (Ok (tt {0})) (all_ended (resolved_by c.args.all.now) (take c.loop-entry.entry-index c.args.entries.now)) (ended (resolved_by c.args.all.now)) (g.S.Store.state c.args.store.now) (g.S.Store.state c.loop-entry.store) (g.S.Store.durable c.args.store.now) (g.S.Store.durable c.loop-entry.store)
    (λ d at. last-ended (resolved_by c.args.all.now) c.args.entries.now c.loop-entry.entry-index d (omega (arith, over)) (c.requires.own d at)) c.loop-entry.invariant

pub returns-in_err-settle_entry-clause-left : goal.returns-in_err-settle_entry-clause-left
returns-in_err-settle_entry-clause-left g c =
    let r = resolved_by c.args.all.now in
    leaves-on g.S.Store.durable g.S.Store.state g.S.Store.may g.met.S.Store.steady (all_ended r (take c.loop-entry.entry-index c.args.entries.now)) _ (first_ended r) c.args.store.now c.loop-entry.store c.settle_entry.new.store c.loop-entry.invariant.made
    (λ d n told. next-ended r c.args.entries.now c.loop-entry.entry-index _ c.loop-entry-test.true d (c.requires.own d told) n) c.in_err-settle_entry.ensures.left

pub returns-clause-left : goal.returns-clause-left
returns-clause-left g c =
    let r = resolved_by c.args.all.now in
    leaves-made g.S.Store.durable g.S.Store.state g.S.Store.may g.met.S.Store.steady (all_ended r (take c.loop-entry.entry-index c.args.entries.now)) (first_ended r) c.args.store.now c.loop-entry.store c.loop-entry.invariant.runs.stops c.loop-entry.invariant.made
    (λ d told. (c.loop-entry.entry-index, ap (λ es. all_ended r (take c.loop-entry.entry-index es) d) (c.requires.own d told)))
