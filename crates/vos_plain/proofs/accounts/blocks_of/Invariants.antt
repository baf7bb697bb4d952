use Rattle.std.proofs.Common.{◌≡◌, ◌+◌, drop}
use Rattle.vos_plain.specs.Costs.{versions_blocks}
use Rattle.vos_plain.proofs.accounts.blocks_of.Given as goal

abbrev pub invariant-loop-row : goal.invariant-loop-row
invariant-loop-row l = l.sum + versions_blocks (drop l.row-index l.rows) ≡ versions_blocks l.rows
