use Rattle.std.proofs.Common.{drop}
use Rattle.std.specs.HashSet.{hash_set_len, contains}
use Rattle.daos_summary.specs.Counts.{commands_of, same_command}
use Rattle.daos_summary.proofs.Seen.{SoFar}
use Rattle.daos_summary.proofs.counts.commands.Given as goal

abbrev pub invariant-loop-line : goal.invariant-loop-line
invariant-loop-line l = SoFar (λ c. contains same_command l.seen c) (hash_set_len l.seen) (drop l.line-index l.lines) (commands_of l.lines)
