use Rattle.std.proofs.Common.{◌≡◌, take}
use Rattle.vos_contents.proofs.tables.copied.Given as goal

abbrev pub invariant-loop-row : goal.invariant-loop-row
invariant-loop-row g l = l.again.items ≡ take l.row-index l.rows
