use Rattle.base_types.specs.declared.entry.Settle.TheVariants.{Forget}
use Rattle.daos_model.specs.Changes.{settled}
use Rattle.vos_store.specs.Refusals.{always_stop}
use Rattle.run_opening.proofs.Ending.{none-here}
use Rattle.run_opening.proofs.Going.{goes-call}
use Rattle.run_opening.proofs.Leaving.{leaves-call}
use Rattle.run_opening.proofs.attempts.forget_entry.Goals as goal

pub settle-requires-clause-here : goal.settle-requires-clause-here
settle-requires-clause-here g c running x at = record { entry = c.args.entry.now; here = c.requires.here x at; fits = c.requires.committed x at }

pub returns-clause-goes : goal.returns-clause-goes
returns-clause-goes g c =
    goes-call always_stop c.settle.result (settled c.args.entry.now.attempt Forget) (g.S.Store.state c.args.store.now) (g.S.Store.state c.settle.new.self) (g.S.Store.durable c.args.store.now) (g.S.Store.durable c.settle.new.self) _ _
    c.requires.running c.settle.ensures.call c.settle.ensures.kept (λ d is none. absurd (none-here d c.args.entry.now.attempt c.args.entry.now none (c.requires.here d is)))

pub returns-clause-left : goal.returns-clause-left
returns-clause-left g c =
    leaves-call g.S.Store.durable g.S.Store.state g.S.Store.may g.met.S.Store.steady _ always_stop c.settle.result (settled c.args.entry.now.attempt Forget) c.args.store.now c.settle.new.self c.requires.running c.settle.ensures.kept
