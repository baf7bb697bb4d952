use Rattle.vos_object.proofs.RecordForms.{extent_form}
use Rattle.std.proofs.Common.{arith}
use Rattle.moment_tests.proofs.store.extent.Goals as goal

pub returns-clause-form : goal.returns-clause-form
returns-clause-form c =
    extent_form c.args.path c.args.low c.in_ok-bytes.bytes c.args.unit 2 c.requires.ends c.requires.size c.in_ok-bytes.ensures c.requires.some c.requires.few (omega arith) (omega arith) c.requires.low
