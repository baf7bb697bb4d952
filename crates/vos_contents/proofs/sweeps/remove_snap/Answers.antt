use Rattle.std.proofs.Common.{◌≡◌, true, false, arith}
use Rattle.std.proofs.lemmas.List.Filters.{FiltersInPlace-more_swap, FiltersInPlace-more_no}
use Rattle.daos_model.specs.Changes.{is_other_snap}
use Rattle.vos_contents.proofs.sweeps.remove_snap.Goals as goal
use Rattle.vos_contents.proofs.sweeps.remove_snap.Goals.{then-not-is_snap_at, else-not-is_snap_at}

pub loop-i-preserved : goal.loop-i-preserved
loop-i-preserved c = elim c.if-not-is_snap_at.branch [
  | then-not-is_snap_at w ↦
      let stays : is_other_snap c.args.cont c.args.epoch c.index.result.now ≡ true = cc in
      rw (w.rows-is, w.kept-is) (FiltersInPlace-more_swap c.loop-i.invariant (omega arith) stays c.index.ensures w.swap.ensures.by_index)
  | else-not-is_snap_at w ↦
      let goes : is_other_snap c.args.cont c.args.epoch c.index.result.now ≡ false = cc in
      rw (w.rows-is, w.kept-is) (FiltersInPlace-more_no c.loop-i.invariant (omega arith) goes c.index.ensures)
]
