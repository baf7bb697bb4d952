use Rattle.std.specs.Prelude.{ℕ, ◌≡◌, Err, List, Some, refl, slice_get}
use Rattle.std.proofs.Common.{rules, subst, sym}
use Rattle.base_types.specs.declared.epoch.Epoch.{Epoch}
use Rattle.base_types.specs.declared.snapshot.Snap.{Snap}
use Rattle.daos_model.specs.declared.durable.Durable.{Durable}
use Rattle.daos_model.specs.Durables.{IsInForm}
use Rattle.run_starts.specs.Calls.{RunAll}
use Rattle.run_starts.proofs.Whole.{all-run, are-opened, left-again, low, run-err, run-so, run-wanting}
use Rattle.run_starts.specs.Stops.{wanting}
use Rattle.run_starts.proofs.opening.open_stores.Goals as goal

pub returns-in_err-open_together-clause-calls : goal.returns-in_err-open_together-clause-calls
returns-in_err-open_together-clause-calls g c =
    let is : c.from_residual.result ≡ Err c.in_err-open_together.field-0.0 = search rules in
    subst (λ r. RunAll {T = Epoch × List Snap} g.S.Store.durable g.S.Store.state r c.args.stores.now c.open_together.new.stores) (sym is)
    (run-err g.S.Store.durable g.S.Store.state c.in_err-open_together.field-0.0 c.args.stores.now c.open_together.new.stores c.in_err-open_together.ensures.calls)

pub tracker_of-requires : goal.tracker_of-requires
tracker_of-requires g c = record { running = all-run g.S.Store.durable g.S.Store.state (tt {0}) c.args.stores.now c.open_together.new.stores c.in_ok-open_together.ensures.calls }

pub returns-clause-opened : goal.returns-clause-opened
returns-clause-opened g c B kept =
    let can = c.requires.sound B kept in
    let whole = c.in_ok-open_together.ensures.opened B kept can.sound in
    let formed : (t : ℕ) (x : g.row.S.Denot) (d : Durable) → slice_get c.args.stores.now t ≡ Some x → g.S.Store.durable x ≡ Some d → IsInForm d = λ t x d at told. g.met.S.Store.formed x (c.requires.running t x at) d told in
    let few = low g.S.Store.durable g.S.Store.state c.args.script.now B c.args.stores.now c.open_together.new.stores c.requires.some kept formed can whole in
    are-opened g.S.Store.durable g.S.Store.state c.args.script.now B c.args.stores.now c.open_together.new.stores c.requires.some kept formed can whole c.tracker_of.result c.in_ok-held.held
    (c.tracker_of.ensures.lease _ whole.kept few) (c.in_ok-held.ensures _ whole.kept) (c.tracker_of.ensures.covers _ whole.kept few)

pub returns-in_err-open_together-clause-left : goal.returns-in_err-open_together-clause-left
returns-in_err-open_together-clause-left g c B kept = c.in_err-open_together.ensures.left B kept (c.requires.sound B kept).sound

pub returns-clause-left : goal.returns-clause-left
returns-clause-left g c B kept = c.in_ok-open_together.ensures.left B kept (c.requires.sound B kept).sound

pub returns-in_err-open_together-clause-again : goal.returns-in_err-open_together-clause-again
returns-in_err-open_together-clause-again g c B kept lasts found = left-again c.args.script.now B lasts (c.requires.sound B kept) (c.in_err-open_together.ensures.left B kept (c.requires.sound B kept).sound lasts found)

pub returns-clause-again : goal.returns-clause-again
returns-clause-again g c B kept lasts found = left-again c.args.script.now B lasts (c.requires.sound B kept) (c.in_ok-open_together.ensures.left B kept (c.requires.sound B kept).sound lasts found)

pub held_at_first-requires-clause-running : goal.held_at_first-requires-clause-running
held_at_first-requires-clause-running g c = all-run g.S.Store.durable g.S.Store.state (tt {0}) c.args.stores.now c.open_together.new.stores c.in_ok-open_together.ensures.calls

pub returns-in_err-held-clause-calls : goal.returns-in_err-held-clause-calls
returns-in_err-held-clause-calls g c =
    let is : c.from_residual-in_err-held.result ≡ Err wanting = search rules in
    subst (λ r. RunAll {T = Epoch × List Snap} g.S.Store.durable g.S.Store.state r c.args.stores.now c.open_together.new.stores) (sym is)
    (run-wanting g.S.Store.durable g.S.Store.state (tt {0}) wanting c.args.stores.now c.open_together.new.stores refl c.in_ok-open_together.ensures.calls)

pub returns-in_err-held-clause-left : goal.returns-in_err-held-clause-left
returns-in_err-held-clause-left g c B kept = c.in_ok-open_together.ensures.left B kept (c.requires.sound B kept).sound

pub returns-in_err-held-clause-again : goal.returns-in_err-held-clause-again
returns-in_err-held-clause-again g c B kept lasts found =
    left-again c.args.script.now B lasts (c.requires.sound B kept) (c.in_ok-open_together.ensures.left B kept (c.requires.sound B kept).sound lasts found)

pub returns-clause-calls : goal.returns-clause-calls
returns-clause-calls g c = run-so g.S.Store.durable g.S.Store.state (tt {0}) (c.tracker_of.result, c.in_ok-held.held) c.args.stores.now c.open_together.new.stores c.in_ok-open_together.ensures.calls
