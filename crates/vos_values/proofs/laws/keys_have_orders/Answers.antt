use Rattle.vos_values.proofs.KeyLaws.{attempts_order, extents_order, moments_order, names_order}
use Rattle.vos_values.proofs.ObjectLaws.{objects_order}
use Rattle.vos_values.proofs.laws.keys_have_orders.Goals as goal

pub returns-clause-moments : goal.returns-clause-moments
returns-clause-moments c = moments_order

pub returns-clause-extents : goal.returns-clause-extents
returns-clause-extents c = extents_order

pub returns-clause-objects : goal.returns-clause-objects
returns-clause-objects c = objects_order

pub returns-clause-attempts : goal.returns-clause-attempts
returns-clause-attempts c = attempts_order

pub returns-clause-names : goal.returns-clause-names
returns-clause-names c = names_order
