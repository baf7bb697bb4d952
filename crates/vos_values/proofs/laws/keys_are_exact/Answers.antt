use Rattle.vos_values.proofs.KeyLaws.{attempts_exact, extents_exact, moments_exact, names_exact}
use Rattle.vos_values.proofs.ObjectLaws.{objects_exact}
use Rattle.vos_values.proofs.laws.keys_are_exact.Goals as goal

pub returns-clause-moments : goal.returns-clause-moments
returns-clause-moments c = moments_exact

pub returns-clause-extents : goal.returns-clause-extents
returns-clause-extents c = extents_exact

pub returns-clause-objects : goal.returns-clause-objects
returns-clause-objects c = objects_exact

pub returns-clause-attempts : goal.returns-clause-attempts
returns-clause-attempts c = attempts_exact

pub returns-clause-names : goal.returns-clause-names
returns-clause-names c = names_exact
