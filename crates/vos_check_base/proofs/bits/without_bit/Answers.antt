use Rattle.std.specs.Int.{w8}
use Rattle.std.proofs.Common.{arith}
use Rattle.std.proofs.lemmas.Nat.Bits.{bit_at_clear_same, bit_at_clear_other}
use Rattle.vos_check_base.proofs.bits.without_bit.Goals as goal

pub returns-clause-same : goal.returns-clause-same
returns-clause-same c = bit_at_clear_same w8 c.args.byte c.args.bit (omega arith)

pub returns-clause-others : goal.returns-clause-others
returns-clause-others c = bit_at_clear_other w8 c.args.byte c.args.bit (omega arith)
