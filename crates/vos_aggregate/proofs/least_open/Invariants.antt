use Rattle.std.proofs.Common.{take}
use Rattle.std.specs.Option.{option_copied}
use Rattle.vos_aggregate.specs.Opens.{LeastOpen}
use Rattle.vos_aggregate.proofs.least_open.Given as goal

-- the least of the versions so far
abbrev pub invariant-loop-version : goal.invariant-loop-version
invariant-loop-version l = LeastOpen l.cont l.upto (take l.version-index l.versions) (option_copied l.least)
