use Rattle.std.specs.Prelude.{◌≡◌, ◌++◌, drop, filter}
use Rattle.dtx_table.specs.Due.{may_owe}
use Rattle.dtx_table.proofs.batch.owing_of.Given as goal

abbrev pub invariant-loop-entry : goal.invariant-loop-entry
invariant-loop-entry l = l.owing.items ++ filter (may_owe l.me) (drop l.entry-index l.entries) ≡ filter (may_owe l.me) l.entries
