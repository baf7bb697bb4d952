use Rattle.run_determined.specs.Reports.{stores-begin_alike, unrisen-never_fail}
use Rattle.run_determined.proofs.laws_of_repeated_stores.Goals as goal

pub returns-clause-begin : goal.returns-clause-begin
returns-clause-begin g c = stores-begin_alike g.S.Store.durable g.S.Store.state g.S.Store.may g.T.Store.durable g.T.Store.state g.T.Store.may

pub returns-clause-unrisen : goal.returns-clause-unrisen
returns-clause-unrisen g c = unrisen-never_fail g.S.Store.durable g.S.Store.state g.S.Store.may
