use Rattle.std.proofs.lemmas.List.Filters.{FiltersInPlace}
use Rattle.daos_model.specs.Versions.{is_not_pending}
use Rattle.vos_rows.proofs.sweeps.remove_pending.Given as goal

abbrev pub invariant-loop-i : goal.invariant-loop-i
invariant-loop-i l = FiltersInPlace (is_not_pending l.attempt) l.initial.rows.items l.rows.items l.kept l.i
