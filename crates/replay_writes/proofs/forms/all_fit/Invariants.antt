use Rattle.std.proofs.Common.{All, take}
use Rattle.replay_writes.specs.Committed.{FitsIn}
use Rattle.replay_writes.proofs.forms.all_fit.Given as goal

abbrev pub invariant-loop-write : goal.invariant-loop-write
invariant-loop-write l = All (FitsIn l.targets) (take l.write-index l.writes)
