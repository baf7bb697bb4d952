use Rattle.std.proofs.Common.{◌≡◌, take}
use Rattle.std.specs.Prelude.{filter}
use Rattle.vos_counting.specs.Prepared.{counts_in}
use Rattle.vos_counting.proofs.counted.copy_counted.Given as goal

abbrev pub invariant-loop-version : goal.invariant-loop-version
invariant-loop-version l = l.kept.items ≡ filter (counts_in l.prepared) (take l.version-index l.versions)
