use Rattle.std.specs.Prelude.{◌≡◌, ◌++◌, drop, filter}
use Rattle.dtx_base.specs.Joining.{all_unresolved_told, is_waiting}
use Rattle.dtx_member.proofs.parked.unresolved_told.Given as goal

abbrev pub invariant-loop-row : goal.invariant-loop-row
invariant-loop-row l = l.posts ++ all_unresolved_told l.on (filter (is_waiting l.on l.attempt) (drop l.row-index l.rows)) ≡ all_unresolved_told l.on (filter (is_waiting l.on l.attempt) l.rows)
