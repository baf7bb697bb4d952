use Rattle.std.proofs.Common.{◌≡◌}
use Rattle.std.specs.Prelude.{take}
use Rattle.vos_counting.specs.Counting.{entries_of}
use Rattle.vos_pool_opening.proofs.contents.entries_of.Given as goal

abbrev pub invariant-loop-row : goal.invariant-loop-row
invariant-loop-row l = l.entries.items ≡ entries_of (take l.row-index l.rows)
