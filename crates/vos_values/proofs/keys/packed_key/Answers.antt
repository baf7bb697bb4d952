use Rattle.vos_values.specs.Fields.{key_of}
use Rattle.vos_values.proofs.keys.packed_key.Goals as goal

pub returns-clause-key : goal.returns-clause-key
unfolding key_of
returns-clause-key c = λ i. record { len = c.write_fields-len.ensures.taken i; bytes = c.write_fields-len.ensures.written i }
