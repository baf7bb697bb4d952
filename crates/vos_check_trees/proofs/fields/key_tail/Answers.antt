use Rattle.std.proofs.Common.{◌+◌, ◌*◌, arith}
use Rattle.vos_check_trees.proofs.NodeFields.{zeros_moved}
use Rattle.vos_check_trees.proofs.fields.key_tail.Goals as goal

pub returns : goal.returns
returns c led =
    zeros_moved c.args.key.now.bytes c.args.key.now.len c.from-2.result (256 * c.args.block + 12 + c.args.key.now.len) (256 * c.from.result + 12 + c.from-2.result) led c.zeros_from.result
    c.from-2.ensures (omega (arith, c.from.ensures, c.from-2.ensures)) (c.zeros_from.ensures led)
