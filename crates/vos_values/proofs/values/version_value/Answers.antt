use Rattle.std.proofs.Common.{refl}
use Rattle.vos_values.proofs.values.version_value.Goals as goal

pub returns-clause-single : goal.returns-clause-single
returns-clause-single c = c.packed_value.ensures.is 5 refl

pub returns-clause-extent : goal.returns-clause-extent
returns-clause-extent c = c.packed_value.ensures.is 6 refl
