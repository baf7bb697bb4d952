use Rattle.std.specs.Prelude.{◌≡◌, ◌++◌, drop, filter, map}
use Rattle.dtx_base.specs.Leading.{is_open, reopened_undecided}
use Rattle.dtx_leader.proofs.opening.first_undecided.Given as goal

abbrev pub invariant-loop-entry : goal.invariant-loop-entry
invariant-loop-entry l = l.rows.items ++ map reopened_undecided (filter is_open (drop l.entry-index l.led)) ≡ map reopened_undecided (filter is_open l.led)
