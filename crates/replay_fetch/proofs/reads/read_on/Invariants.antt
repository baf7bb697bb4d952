use Rattle.std.proofs.Common.{length}
use Rattle.replay_fetch.specs.Met.{HasGone}
use Rattle.replay_fetch.proofs.reads.read_on.Given as goal

-- the read went on from where it began to here
abbrev pub invariant-loop-work : goal.invariant-loop-work
invariant-loop-work l = HasGone l.plan l.request l.epoch l.initial.work l.work

abbrev pub decreases-loop-work : goal.decreases-loop-work
decreases-loop-work l = length l.work.memory.leader.decided
