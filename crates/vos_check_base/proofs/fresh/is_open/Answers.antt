use Rattle.std.specs.Prelude.{◌/◌, slice_index, not}
use Rattle.std.proofs.Common.{arith, ap, sym, ◌∙◌}
use Rattle.vos_check_base.specs.Sets.{open_in}
use Rattle.vos_check_base.proofs.Sets.{open_by_bit, not_open_outside}
use Rattle.vos_check_base.proofs.fresh.is_open.Goals as goal

pub returns-then-block-lt-FIRST_BLOCK : goal.returns-then-block-lt-FIRST_BLOCK
unfolding open_in
returns-then-block-lt-FIRST_BLOCK c = sym (not_open_outside c.args.end (slice_index c.args.bytes.now (c.args.block / 8)) c.args.block (λ low high. omega arith))

pub returns-then-end-block : goal.returns-then-end-block
unfolding open_in
returns-then-end-block c = sym (not_open_outside c.args.end (slice_index c.args.bytes.now (c.args.block / 8)) c.args.block (λ low high. omega arith))

pub returns : goal.returns
unfolding open_in
returns c = ap not c.is_clear.ensures ∙ sym (open_by_bit c.args.end (slice_index c.args.bytes.now (c.args.block / 8)) c.args.block (omega arith) (omega arith))
