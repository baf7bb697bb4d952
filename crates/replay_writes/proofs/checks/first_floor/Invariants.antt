use Rattle.std.proofs.Common.{◌≡◌, drop}
use Rattle.world_base.specs.Commits.{first_floor}
use Rattle.replay_writes.proofs.checks.first_floor.Given as goal

abbrev pub invariant-loop-write : goal.invariant-loop-write
invariant-loop-write l = first_floor l.plan l.opening l.epoch l.durable l.writes ≡ first_floor l.plan l.opening l.epoch l.durable (drop l.write-index l.writes)
