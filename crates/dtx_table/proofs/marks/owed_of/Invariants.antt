use Rattle.std.specs.Prelude.{◌≡◌, ◌++◌, drop, filter, map}
use Rattle.dtx_base.specs.Leading.{entry_attempt, is_owed}
use Rattle.dtx_table.proofs.marks.owed_of.Given as goal

abbrev pub invariant-loop-entry : goal.invariant-loop-entry
invariant-loop-entry l = l.attempts.items ++ map entry_attempt (filter (is_owed l.member l.named) (drop l.entry-index l.entries)) ≡ map entry_attempt (filter (is_owed l.member l.named) l.entries)
