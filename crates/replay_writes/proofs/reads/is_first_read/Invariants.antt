use Rattle.std.proofs.Common.{take}
use Rattle.world_base.specs.Commits.{NoReads}
use Rattle.replay_writes.proofs.Reading.{NoneYet, Shows}
use Rattle.replay_writes.proofs.reads.is_first_read.Given as goal

abbrev pub invariant-loop-write : goal.invariant-loop-write
invariant-loop-write l = record {
  reads : NoReads l.epoch l.stamps (take l.write-index l.writes);
  none : NoneYet (Shows l.epoch l.stamps l.read) l.writes l.write-index;
}
