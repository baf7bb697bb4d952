use Rattle.std.proofs.Common.{◌≡◌, ◌+◌, ◌*◌, ◌≤◌, drop}
use Rattle.daos_model.specs.Blocks.{blocks, sum_of_blocks}
use Rattle.daos_model.proofs.accounts.blocks.Given as goal

abbrev pub invariant-loop-write : goal.invariant-loop-write
invariant-loop-write l = (l.sum + sum_of_blocks (drop l.write-index l.writes) ≡ blocks l.writes) × (l.sum ≤ 2 + 13 * l.write-index)
