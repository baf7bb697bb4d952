use Rattle.vos_values.specs.Fields.{value_of}
use Rattle.vos_values.proofs.values.packed_value.Goals as goal

pub returns-clause-value : goal.returns-clause-value
unfolding value_of
returns-clause-value c = λ i. record { len = c.write_fields-len.ensures.taken i; bytes = c.write_fields-len.ensures.written i }
