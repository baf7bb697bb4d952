use Rattle.std.proofs.Common.{All, take}
use Rattle.replay_writes.specs.Committed.{IsOne}
use Rattle.replay_writes.proofs.forms.are_ones.Given as goal

abbrev pub invariant-loop-write : goal.invariant-loop-write
invariant-loop-write l = All IsOne (take l.write-index l.writes)
