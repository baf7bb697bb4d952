use Rattle.std.specs.Prelude.{Ok}
use Rattle.std.proofs.Common.{◌∙◌, ap, refl, subst, sym}
use Rattle.vos_store.specs.Conditions.{CanSettle, IsStep}
use Rattle.vos_store.specs.Refusals.{always_stop}
use Rattle.daos_model.specs.Changes.{settled}
use Rattle.run_opening.specs.Steps.{ended_at, resolved_by, same}
use Rattle.run_opening.proofs.Ending.{at-committed, at-prepared, can-end, is-step, none-here}
use Rattle.run_opening.proofs.Going.{goes-as, goes-call, goes-first}
use Rattle.run_opening.specs.Left.{or_not}
use Rattle.run_opening.proofs.Leaving.{leaves-as, leaves-call, leaves-itself, or_not-as}
use Rattle.run_opening.proofs.attempts.settle_entry.Goals as goal

pub settle-requires-clause-here : goal.settle-requires-clause-here
settle-requires-clause-here g c running x at = subst (λ s. CanSettle c.args.entry.now.attempt s x) (sym c.ending-step.ensures) (can-end c.is_resolved.result c.args.entry.now x (c.requires.here x at) c.if-entry.false)

pub settle-requires-clause-form : goal.settle-requires-clause-form
settle-requires-clause-form g c = subst IsStep (sym c.ending-step.ensures) (is-step c.is_resolved.result)

pub returns-then-entry-clause-goes : goal.returns-then-entry-clause-goes
returns-then-entry-clause-goes g c =
    goes-as always_stop (Ok (tt {0})) same (ended_at (resolved_by c.args.all.now) c.args.entry.now) (g.S.Store.state c.args.store.now) (g.S.Store.state c.args.store.now) (g.S.Store.durable c.args.store.now) (g.S.Store.durable c.args.store.now)
    (λ d at. at-committed (resolved_by c.args.all.now) c.args.entry.now d c.if-entry.true) (goes-first always_stop (tt {0}) (g.S.Store.state c.args.store.now) (g.S.Store.durable c.args.store.now) c.requires.running)

pub returns-clause-goes : goal.returns-clause-goes
returns-clause-goes g c =
    goes-as always_stop c.settle.result (settled c.args.entry.now.attempt c.ending-step.result) (ended_at (resolved_by c.args.all.now) c.args.entry.now) (g.S.Store.state c.args.store.now) (g.S.Store.state c.settle.new.self) (g.S.Store.durable c.args.store.now) (g.S.Store.durable c.settle.new.self)
    (λ d at. ap (λ s. settled c.args.entry.now.attempt s d) c.ending-step.ensures ∙ at-prepared (resolved_by c.args.all.now) c.args.entry.now d c.is_resolved.result c.if-entry.false c.is_resolved.ensures)
    (goes-call always_stop c.settle.result (settled c.args.entry.now.attempt c.ending-step.result) (g.S.Store.state c.args.store.now) (g.S.Store.state c.settle.new.self) (g.S.Store.durable c.args.store.now) (g.S.Store.durable c.settle.new.self) _ _ c.requires.running c.settle.ensures.call c.settle.ensures.kept
    (λ d is none. absurd (none-here d c.args.entry.now.attempt c.args.entry.now none (c.requires.here d is))))

pub returns-then-entry-clause-left : goal.returns-then-entry-clause-left
returns-then-entry-clause-left g c = leaves-itself g.S.Store.durable g.S.Store.state g.S.Store.may g.met.S.Store.steady (or_not (ended_at (resolved_by c.args.all.now) c.args.entry.now)) c.args.store.now c.requires.running (λ d. (0, refl))

pub returns-clause-left : goal.returns-clause-left
returns-clause-left g c =
    let step = settled c.args.entry.now.attempt c.ending-step.result in
    let ends = ended_at (resolved_by c.args.all.now) c.args.entry.now in
    leaves-as g.S.Store.durable g.S.Store.state g.S.Store.may g.met.S.Store.steady (or_not step) (or_not ends) c.args.store.now c.settle.new.self
    (λ d n at. or_not-as step ends d (ap (λ s. settled c.args.entry.now.attempt s d) c.ending-step.ensures ∙ at-prepared (resolved_by c.args.all.now) c.args.entry.now d c.is_resolved.result c.if-entry.false c.is_resolved.ensures) n)
    (leaves-call g.S.Store.durable g.S.Store.state g.S.Store.may g.met.S.Store.steady _ always_stop c.settle.result step c.args.store.now c.settle.new.self c.requires.running c.settle.ensures.kept)
