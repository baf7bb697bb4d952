use Rattle.vos_values.proofs.ValueLaws.{akeys_exact, entries_exact, extents_exact, logs_exact, roots_exact, singles_exact}
use Rattle.vos_values.proofs.laws.values_are_exact.Goals as goal

pub returns-clause-roots : goal.returns-clause-roots
returns-clause-roots c = roots_exact

pub returns-clause-akeys : goal.returns-clause-akeys
returns-clause-akeys c = akeys_exact

pub returns-clause-logs : goal.returns-clause-logs
returns-clause-logs c = logs_exact

pub returns-clause-singles : goal.returns-clause-singles
returns-clause-singles c = singles_exact

pub returns-clause-extents : goal.returns-clause-extents
returns-clause-extents c = extents_exact

pub returns-clause-entries : goal.returns-clause-entries
returns-clause-entries c = entries_exact
