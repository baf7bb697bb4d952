use Rattle.run_steps.specs.Laws.{client-from, ends-from, from-first, some-choice, target-from}
use Rattle.run_steps.proofs.steps.laws_of_steps.Goals as goal

pub returns-clause-begin : goal.returns-clause-begin
returns-clause-begin g c r o first a begins drawn shows = from-first g.S.Store.durable g.S.Store.state g.S.Store.may g.met.S.Store.alike r o first a begins drawn shows

pub returns-clause-clients : goal.returns-clause-clients
returns-clause-clients g c r o first n number a b can turned k = client-from g.S.Store.durable g.S.Store.state g.S.Store.may g.C.Clock.is_read g.C.Clock.next g.met.S.Store.findable g.met.S.Store.alike a can b n number turned r o first k

pub returns-clause-targets : goal.returns-clause-targets
returns-clause-targets g c r o first settling t number a b can turned k = target-from g.S.Store.durable g.S.Store.state g.S.Store.may g.C.Clock.is_read g.C.Clock.next g.met.S.Store.findable g.met.S.Store.alike a can b settling t number turned r o first k

pub returns-clause-found : goal.returns-clause-found
returns-clause-found g c r o first a k = some-choice g.S.Store.durable g.S.Store.state g.S.Store.may r o first a k g.met.S.Store.findable

pub returns-clause-ended : goal.returns-clause-ended
returns-clause-ended g c r o first a k = ends-from g.S.Store.durable g.S.Store.state g.S.Store.may r o first a k
