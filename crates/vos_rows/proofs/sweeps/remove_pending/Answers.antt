use Rattle.std.proofs.Common.{◌≡◌, true, false, arith}
use Rattle.std.proofs.lemmas.List.Filters.{FiltersInPlace-more_swap, FiltersInPlace-more_no}
use Rattle.daos_model.specs.Versions.{is_not_pending}
use Rattle.vos_rows.proofs.sweeps.remove_pending.Goals as goal
use Rattle.vos_rows.proofs.sweeps.remove_pending.Goals.{then-not-is_pending, else-not-is_pending}

pub loop-i-preserved : goal.loop-i-preserved
loop-i-preserved c = elim c.if-not-is_pending.branch [
  | then-not-is_pending w ↦
      let stays : is_not_pending c.args.attempt c.index.result.now ≡ true = cc in
      rw (w.rows-is, w.kept-is) (FiltersInPlace-more_swap c.loop-i.invariant (omega arith) stays c.index.ensures w.swap.ensures.by_index)
  | else-not-is_pending w ↦
      let goes : is_not_pending c.args.attempt c.index.result.now ≡ false = cc in
      rw (w.rows-is, w.kept-is) (FiltersInPlace-more_no c.loop-i.invariant (omega arith) goes c.index.ensures)
]
