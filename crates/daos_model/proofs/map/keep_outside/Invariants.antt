use Rattle.std.proofs.lemmas.List.Filters.{FiltersInPlace}
use Rattle.daos_model.specs.Effect.{is_outside}
use Rattle.daos_model.proofs.map.keep_outside.Given as goal

abbrev pub invariant-loop-i : goal.invariant-loop-i
invariant-loop-i l = FiltersInPlace (is_outside l.path) l.initial.values.items l.values.items l.kept l.i
