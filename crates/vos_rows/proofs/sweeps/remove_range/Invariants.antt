use Rattle.std.proofs.lemmas.List.Filters.{FiltersInPlace}
use Rattle.daos_model.specs.Changes.{is_out_of_range}
use Rattle.vos_rows.proofs.sweeps.remove_range.Given as goal

abbrev pub invariant-loop-i : goal.invariant-loop-i
invariant-loop-i l = FiltersInPlace (is_out_of_range l.cont l.lo l.hi) l.initial.rows.items l.rows.items l.kept l.i
