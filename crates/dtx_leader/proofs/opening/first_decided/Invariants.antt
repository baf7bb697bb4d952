use Rattle.std.specs.Prelude.{◌≡◌, ◌++◌, drop, filter, map}
use Rattle.dtx_base.specs.Leading.{entry_attempt, is_open_alone}
use Rattle.dtx_leader.proofs.opening.first_decided.Given as goal

abbrev pub invariant-loop-entry : goal.invariant-loop-entry
invariant-loop-entry l = l.rows.items ++ map entry_attempt (filter is_open_alone (drop l.entry-index l.led)) ≡ map entry_attempt (filter is_open_alone l.led)
