use Rattle.std.proofs.lemmas.List.Filters.{FiltersInPlace}
use Rattle.daos_model.specs.Changes.{is_other_snap}
use Rattle.vos_contents.proofs.sweeps.remove_snap.Given as goal

abbrev pub invariant-loop-i : goal.invariant-loop-i
invariant-loop-i l = FiltersInPlace (is_other_snap l.cont l.epoch) l.initial.rows.items l.rows.items l.kept l.i
