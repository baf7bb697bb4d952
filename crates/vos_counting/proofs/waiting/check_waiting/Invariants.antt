use Rattle.std.proofs.Common.{drop}
use Rattle.vos_counting.specs.Prepared.{counts_in}
use Rattle.vos_counting.specs.Waiting.{count_of}
use Rattle.vos_counting.proofs.Counts.{AreFewSoFar, CountsSoFar}
use Rattle.vos_counting.proofs.waiting.check_waiting.Given as goal

abbrev pub invariant-loop-version : goal.invariant-loop-version
invariant-loop-version l = record {
  counted : CountsSoFar (counts_in l.prepared) (count_of l.waiting) (drop l.version-index l.versions) l.versions;
  few : AreFewSoFar (count_of l.waiting);
}
