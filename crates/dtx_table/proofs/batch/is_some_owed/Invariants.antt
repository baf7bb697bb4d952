use Rattle.std.specs.Prelude.{◌≡◌, drop, filter}
use Rattle.std.specs.List.{list_any}
use Rattle.dtx_table.specs.Due.{is_owed_somewhere, may_owe}
use Rattle.dtx_table.proofs.batch.is_some_owed.Given as goal

abbrev pub invariant-loop-entry : goal.invariant-loop-entry
invariant-loop-entry l = list_any (is_owed_somewhere l.down l.named) (filter (may_owe l.me) (drop l.entry-index l.entries)) ≡ list_any (is_owed_somewhere l.down l.named) (filter (may_owe l.me) l.entries)
