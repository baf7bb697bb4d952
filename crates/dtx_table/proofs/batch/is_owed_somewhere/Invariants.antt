use Rattle.std.specs.Prelude.{◌≡◌, ◌-◌}
use Rattle.std.specs.List.{list_any, range_with_len}
use Rattle.dtx_table.specs.Due.{is_owed_at, is_owed_somewhere}
use Rattle.dtx_table.proofs.batch.is_owed_somewhere.Given as goal

abbrev pub invariant-loop-target : goal.invariant-loop-target
invariant-loop-target l = list_any (is_owed_at l.down l.named l.entry) (range_with_len l.target (64 - l.target)) ≡ is_owed_somewhere l.down l.named l.entry
