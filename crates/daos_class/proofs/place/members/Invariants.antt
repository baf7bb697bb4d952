use Rattle.std.proofs.Common.{◌≡◌, ◌++◌, ◌-◌}
use Rattle.base_types.specs.Placement.{first_shard, replicas, shard_targets}
use Rattle.daos_class.proofs.place.members.Given as goal

abbrev pub invariant-loop-shard : goal.invariant-loop-shard
invariant-loop-shard l =
    l.targets.items ++ shard_targets l.obj.number l.shard (l.shard-end - l.shard) l.n
    ≡ shard_targets l.obj.number (first_shard l.obj l.group) (replicas l.obj.class) l.n
