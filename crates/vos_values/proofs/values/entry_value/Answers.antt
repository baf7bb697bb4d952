use Rattle.std.proofs.Common.{refl}
use Rattle.vos_values.proofs.values.entry_value.Goals as goal

pub returns-clause-is : goal.returns-clause-is
returns-clause-is c = c.packed_value.ensures.is 7 refl
