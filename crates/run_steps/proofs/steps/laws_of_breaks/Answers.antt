use Rattle.run_steps.specs.Laws.{come-between, come-in_turn}
use Rattle.run_steps.proofs.steps.laws_of_breaks.Goals as goal

pub returns-clause-between : goal.returns-clause-between
returns-clause-between g c r o first a k = come-between g.S.Store.durable g.S.Store.state g.S.Store.may r o first a k g.met.S.Store.steady

pub returns-clause-broke : goal.returns-clause-broke
returns-clause-broke g c r o first settling t number a xs can broke k = come-in_turn g.S.Store.durable g.S.Store.state g.S.Store.may g.C.Clock.is_read g.C.Clock.next g.met.S.Store.findable g.met.S.Store.alike a can g.met.S.Store.steady settling t number xs broke r o first k
