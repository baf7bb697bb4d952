use Rattle.std.proofs.Common.{arith, sym, ◌∙◌}
use Rattle.pmem_alloc.specs.Map.{free_in}
use Rattle.pmem_alloc.proofs.Counting.{count_zero, count_yes, count_no, count_most}
use Rattle.pmem_alloc.proofs.free_map.count_free.Goals as goal
use Rattle.pmem_alloc.proofs.free_map.count_free.Goals.{then-is_free, else-is_free}

pub loop-block-init : goal.loop-block-init
loop-block-init c = sym (count_zero (free_in c.args.end c.args.bytes.now))

pub overflow_add-count : goal.overflow_add-count
overflow_add-count c = omega (arith, count_most (free_in c.args.end c.args.bytes.now) c.loop-block.block)

pub loop-block-preserved : goal.loop-block-preserved
loop-block-preserved c =
    let s = free_in c.args.end c.args.bytes.now in
    elim c.if-is_free.branch [
      | then-is_free w ↦ w.count-is ∙ count_yes s c.loop-block.block c.loop-block.count c.loop-block.invariant (sym c.is_free.ensures ∙ w.if-is_free.true)
      | else-is_free w ↦ w.count-is ∙ count_no s c.loop-block.block c.loop-block.count c.loop-block.invariant (sym c.is_free.ensures ∙ w.if-is_free.false)
    ]
