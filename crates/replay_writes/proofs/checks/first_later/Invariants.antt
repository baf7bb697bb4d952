use Rattle.std.proofs.Common.{◌≡◌, drop}
use Rattle.world_base.specs.Commits.{first_later}
use Rattle.replay_writes.proofs.checks.first_later.Given as goal

abbrev pub invariant-loop-write : goal.invariant-loop-write
invariant-loop-write l = first_later l.plan l.first l.epoch l.durable l.writes ≡ first_later l.plan l.first l.epoch l.durable (drop l.write-index l.writes)
