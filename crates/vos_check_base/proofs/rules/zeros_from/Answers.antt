use Rattle.std.proofs.Common.{◌+◌}
use Rattle.vos_check_base.proofs.Steps.{zeros_there}
use Rattle.vos_check_base.proofs.rules.zeros_from.Goals as goal

pub returns : goal.returns
returns c led = zeros_there c.args.bytes.now c.args.from (c.args.at + c.args.from) led c.zeros.result (c.zeros.ensures led)
