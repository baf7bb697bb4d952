use Rattle.std.proofs.Common.{◌≡◌, ◌+◌, ◌*◌, false, refl, sym, ◌∙◌, arith}
use Rattle.vos_check_places.proofs.Bits.{bit_is, bits_fail}
use Rattle.vos_check_places.proofs.blocks.are_bits_right.Goals as goal

pub returns-then-not-is_bit_right : goal.returns-then-not-is_bit_right
returns-then-not-is_bit_right c d there size =
    let q = 8 * c.args.at + c.loop-bit.bit in
    let wrong : c.is_bit_right.result ≡ false = c.if-not-is_bit_right.true in
    sym (bits_fail d (8 * c.args.at) 8 q (omega arith) (omega arith) (bit_is d c.args.at c.loop-bit.bit q c.args.byte c.args.end refl (omega arith) there size ∙ (sym c.is_bit_right.ensures ∙ wrong)))
