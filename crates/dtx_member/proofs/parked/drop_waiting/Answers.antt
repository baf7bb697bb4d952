use Rattle.std.proofs.Common.{◌≡◌, true, false, arith}
use Rattle.std.proofs.lemmas.List.Filters.{FiltersInPlace-more_swap, FiltersInPlace-more_no}
use Rattle.dtx_base.specs.Joining.{is_not_waiting}
use Rattle.dtx_member.proofs.parked.drop_waiting.Goals as goal
use Rattle.dtx_member.proofs.parked.drop_waiting.Goals.{then-not-is_waiting, else-not-is_waiting}

pub loop-i-preserved : goal.loop-i-preserved
loop-i-preserved c = elim c.if-not-is_waiting.branch [
  | then-not-is_waiting w ↦
      let stays : is_not_waiting c.args.on c.args.attempt c.index.result.now ≡ true = cc in
      rw (w.rows-is, w.kept-is) (FiltersInPlace-more_swap c.loop-i.invariant (omega arith) stays c.index.ensures w.swap.ensures.by_index)
  | else-not-is_waiting w ↦
      let goes : is_not_waiting c.args.on c.args.attempt c.index.result.now ≡ false = cc in
      rw (w.rows-is, w.kept-is) (FiltersInPlace-more_no c.loop-i.invariant (omega arith) goes c.index.ensures)
]
