use Rattle.std.proofs.Common.{None}
use Rattle.vos_extent.proofs.Tops.{greatest_is, none_is}
use Rattle.vos_extent.proofs.laws.greatest_is_last.Goals as goal

pub returns-clause-some : goal.returns-clause-some
returns-clause-some c test vs v h = greatest_is test vs v h

pub returns-clause-none : goal.returns-clause-none
returns-clause-none c test vs h = none_is None test vs h
