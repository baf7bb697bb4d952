use Rattle.std.proofs.Common.{refl}
use Rattle.vos_values.proofs.values.akey_value.Goals as goal

pub returns-clause-is : goal.returns-clause-is
returns-clause-is c = c.packed_value.ensures.is 3 refl
