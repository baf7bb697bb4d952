use Rattle.run_laws.specs.steps.Steps.{can-turn}
use Rattle.run_steps.specs.Laws.{client-keeps, few-targets, target-keeps}
use Rattle.run_steps.proofs.steps.laws_of_going.Goals as goal

pub returns-clause-ready : goal.returns-clause-ready
returns-clause-ready g c t number a x can at = can-turn g.S.Store.durable g.S.Store.state g.S.Store.may g.met.S.Store.findable g.met.S.Store.alike a can t x at number

pub returns-clause-clients : goal.returns-clause-clients
returns-clause-clients g c n number a b can turned = client-keeps g.S.Store.durable g.S.Store.state g.S.Store.may g.C.Clock.is_read g.C.Clock.next g.met.S.Store.findable g.met.S.Store.alike a can b n number turned

pub returns-clause-targets : goal.returns-clause-targets
returns-clause-targets g c settling t number a b can turned = target-keeps g.S.Store.durable g.S.Store.state g.S.Store.may g.C.Clock.is_read g.C.Clock.next g.met.S.Store.findable g.met.S.Store.alike a can b settling t number turned

pub returns-clause-few : goal.returns-clause-few
returns-clause-few g c a can = few-targets g.S.Store.durable g.S.Store.state g.S.Store.may a can
