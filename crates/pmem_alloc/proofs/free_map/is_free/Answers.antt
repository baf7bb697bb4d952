use Rattle.std.specs.Prelude.{◌/◌, slice_index}
use Rattle.std.proofs.Common.{arith, sym, ◌∙◌}
use Rattle.pmem_alloc.specs.Map.{free_in}
use Rattle.pmem_alloc.proofs.Marking.{free_by_clear, not_free_outside}
use Rattle.pmem_alloc.proofs.free_map.is_free.Goals as goal

pub returns-then-block-lt-FIRST_BLOCK : goal.returns-then-block-lt-FIRST_BLOCK
unfolding free_in
returns-then-block-lt-FIRST_BLOCK c = sym (not_free_outside c.args.end (slice_index c.args.bytes.now (c.args.block / 8)) c.args.block (λ low high. omega arith))

pub returns-then-end-block : goal.returns-then-end-block
unfolding free_in
returns-then-end-block c = sym (not_free_outside c.args.end (slice_index c.args.bytes.now (c.args.block / 8)) c.args.block (λ low high. omega arith))

pub returns : goal.returns
unfolding free_in
returns c = c.is_clear.ensures ∙ sym (free_by_clear c.args.end (slice_index c.args.bytes.now (c.args.block / 8)) c.args.block (omega arith) (omega arith))
