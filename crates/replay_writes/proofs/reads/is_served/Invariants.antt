use Rattle.std.proofs.Common.{◌≡◌}
use Rattle.replay_writes.proofs.Reading.{NoneYet}
use Rattle.replay_writes.proofs.reads.is_served.Given as goal

abbrev pub invariant-loop-stamp : goal.invariant-loop-stamp
invariant-loop-stamp l = NoneYet (λ x. x ≡ l.read) l.stamps l.stamp-index
