use Rattle.std.proofs.Common.{refl}
use Rattle.vos_values.proofs.values.roots_value.Goals as goal

pub returns-clause-of_object : goal.returns-clause-of_object
returns-clause-of_object c = c.packed_value.ensures.is 1 refl

pub returns-clause-of_dkey : goal.returns-clause-of_dkey
returns-clause-of_dkey c = c.packed_value.ensures.is 2 refl
