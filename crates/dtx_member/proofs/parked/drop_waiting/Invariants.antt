use Rattle.std.proofs.lemmas.List.Filters.{FiltersInPlace}
use Rattle.dtx_base.specs.Joining.{is_not_waiting}
use Rattle.dtx_member.proofs.parked.drop_waiting.Given as goal

abbrev pub invariant-loop-i : goal.invariant-loop-i
invariant-loop-i l = FiltersInPlace (is_not_waiting l.on l.attempt) l.initial.rows.items l.rows.items l.kept l.i
