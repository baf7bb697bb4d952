use Rattle.std.proofs.Common.{◌≡◌, true, false, arith}
use Rattle.std.proofs.lemmas.List.Filters.{FiltersInPlace-more_swap, FiltersInPlace-more_no}
use Rattle.daos_model.specs.Effect.{is_outside}
use Rattle.daos_model.proofs.map.keep_outside.Goals as goal
use Rattle.daos_model.proofs.map.keep_outside.Goals.{then-not-leads_to, else-not-leads_to}

pub loop-i-preserved : goal.loop-i-preserved
loop-i-preserved c = elim c.if-not-leads_to.branch [
  | then-not-leads_to w ↦
      let outside : is_outside c.args.path.now c.index.result.now ≡ true = cc in
      rw (w.values-is, w.kept-is) (FiltersInPlace-more_swap c.loop-i.invariant (omega arith) outside c.index.ensures w.swap.ensures.by_index)
  | else-not-leads_to w ↦
      let inside : is_outside c.args.path.now c.index.result.now ≡ false = cc in
      rw (w.values-is, w.kept-is) (FiltersInPlace-more_no c.loop-i.invariant (omega arith) inside c.index.ensures)
]
