use Rattle.std.proofs.Common.{◌≡◌, true, false, arith}
use Rattle.std.proofs.lemmas.List.Filters.{FiltersInPlace-more_swap, FiltersInPlace-more_no}
use Rattle.daos_model.specs.Changes.{is_out_of_range}
use Rattle.vos_rows.proofs.sweeps.remove_range.Goals as goal
use Rattle.vos_rows.proofs.sweeps.remove_range.Goals.{then-not-is_in_range, else-not-is_in_range}

pub loop-i-preserved : goal.loop-i-preserved
loop-i-preserved c = elim c.if-not-is_in_range.branch [
  | then-not-is_in_range w ↦
      let stays : is_out_of_range c.args.cont c.args.lo c.args.hi c.index.result.now ≡ true = cc in
      rw (w.rows-is, w.kept-is) (FiltersInPlace-more_swap c.loop-i.invariant (omega arith) stays c.index.ensures w.swap.ensures.by_index)
  | else-not-is_in_range w ↦
      let goes : is_out_of_range c.args.cont c.args.lo c.args.hi c.index.result.now ≡ false = cc in
      rw (w.rows-is, w.kept-is) (FiltersInPlace-more_no c.loop-i.invariant (omega arith) goes c.index.ensures)
]
