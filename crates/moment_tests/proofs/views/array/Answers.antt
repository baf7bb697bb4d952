use Rattle.std.proofs.Common.{arith}
use Rattle.vos_object.proofs.RecordForms.{read_form}
use Rattle.moment_tests.proofs.views.array.Goals as goal

pub returns-clause-form : goal.returns-clause-form
returns-clause-form c = read_form c.in_ok-path.path 0 c.args.unit 6 c.in_ok-path.ensures.ends c.in_ok-path.ensures.size c.requires.some c.requires.few (omega arith) (omega arith) (omega arith)
