use Rattle.std.proofs.Common.{refl}
use Rattle.vos_object.proofs.Settled.{nobody_removed, those_removed}
use Rattle.vos_object.proofs.laws.laws_of_removing.Goals as goal

pub returns-clause-one : goal.returns-clause-one
returns-clause-one c n by vs = refl

pub returns-clause-nobody : goal.returns-clause-nobody
returns-clause-nobody c n vs h = nobody_removed n vs h

pub returns-clause-those : goal.returns-clause-those
returns-clause-those c goes ns vs h = those_removed goes ns vs h
