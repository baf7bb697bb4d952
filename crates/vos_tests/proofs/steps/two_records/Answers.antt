use Rattle.vos_tests.proofs.Allowed.{records_here}
use Rattle.vos_tests.proofs.steps.two_records.Goals as goal

pub returns : goal.returns
returns c = records_here c.in_ok-akey.field-0 c.in_ok-bytes_of.field-0 c.in_ok-akey.ensures c.in_ok-bytes_of.ensures
