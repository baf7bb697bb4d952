use Rattle.std.proofs.Common.{arith}
use Rattle.vos_check_entries.specs.Nodes.{is_node}
use Rattle.vos_check_entries.proofs.NumberSteps.{all_there}
use Rattle.vos_check_entries.proofs.numbers.all_numbers.Goals as goal

pub returns : goal.returns
returns c = all_there (is_node c.args.nodes.now c.args.of.now) c.args.last _ c.args.at c.args.bytes.now c.args.seen.now c.numbers.new.seen c.numbers.result (omega arith) c.numbers.ensures
